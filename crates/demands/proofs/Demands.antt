-- The three demands of `specs/Demands`, each one theorem. Assumes nothing.
use mathlib.Core.Path.{refl, subst}
use mathlib.Core.Bool.{Bool}
use Rattle.law.specs.Entries.{worth}
use Rattle.law.specs.Writing.{written}
use Rattle.law.specs.Calls.{Cleared}
use Rattle.law.proofs.Accepts.{one_tournament}
use Rattle.law.proofs.ReadsOnce.{reads-once, reads-some}
use Rattle.law.proofs.Marked.{marked}
use Rattle.written.proofs.Lengths.{written-long}
use Rattle.written.proofs.Reached.{longest_reached}
use Rattle.written.proofs.Readings.{one_reading, writes-once, asks_once}
use Rattle.demands.specs.Demands.{Demand1, Demand2, Demand3}
use Rattle.demands.proofs.OwnValues.{default_values, own_pairing, own_unknown}
use Rattle.demands.proofs.Fitting.{results_fit}
use Rattle.demands.proofs.Unknown.{unknown_held, unknown_written}
use Rattle.demands.proofs.ReadBack.{read_back}
use Rattle.demands.proofs.OfReadings.{read_number, read_first, read_short, read_exactly, read_columns, accepts_exactly, read_held, spelled, read_each}
use Rattle.demands.proofs.OfWritings.{write_number, write_first, write_untouched, write_exactly, write_short, write_bytes, write_spells, read_written, ask_number, ask_first, ask_exactly, ask_short, ask_values}
use Rattle.demands.proofs.Answered.{writes-some, asks_some}

pub demand_1 : Demand1
demand_1 =
    record {
      reading_answered = reads-some;
      writing_answered = writes-some;
      question_answered = asks_some;
      reading_once = λ file before a after r b x q. reads-once file before a b after x r q;
      writing_once = λ end a tables before w after r v x q. writes-once end a tables before w v after x r q;
      question_once = λ a tables place round s r v q. asks_once a tables place round s v r q;
      reading_numbers = read_number;
      writing_numbers = write_number;
      question_numbers = ask_number;
      reading_first = λ file before a after r n. let k = read_first file before a after r n in (k.0, k.1, k.2);
      writing_first = write_first;
      question_first = ask_first;
      refused_clears = λ file before a after r n long. subst (λ (b : Bool). Cleared b before after) long (read_first file before a after r n).3;
      refused_untouched = write_untouched;
      reading_short = read_short;
      writing_short = write_short;
      question_short = ask_short;
    }

pub demand_2 : Demand2
unfolding worth written
demand_2 =
    record {
      columns = read_columns;
      worths = λ s. refl;
      default_values = default_values;
      own_pairing = own_pairing;
      own_unknown = own_unknown;
      results_fit = results_fit;
      unknown_held = unknown_held;
      unknown_written = unknown_written;
      reading_refusals = read_exactly;
      writing_refusals = write_exactly;
      question_refusals = ask_exactly;
      bytes = write_bytes;
      line_ends = λ t. (refl, refl);
      values = ask_values;
      marked_rows = marked;
    }

pub demand_3 : Demand3
demand_3 =
    record {
      accepted_exactly = accepts_exactly;
      spells_no_other = one_tournament;
      held = read_held;
      held_no_other = one_reading;
      each_spelled = spelled;
      each_read = read_each;
      writer_spells = write_spells;
      longest_written = written-long;
      longest_reached = longest_reached;
      read_written = read_written;
      read_back = read_back;
    }
