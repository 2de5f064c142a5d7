-- `reader::read_core` meets its contract. Assumes nothing.
use mathlib.Core.Path.{ap, ap₂, ◌∙◌}
use mathlib.Core.Bool.{◌&&◌}
use borrow.Author.Rules.{rules}
use Rattle.types.specs.declared.Refusal.{Refusal}
use Rattle.law.specs.Sizes.{most_accelerations}
use Rattle.verdicts.specs.Verdict.{stated}
use Rattle.tables.specs.Lent.{nine, nine_of}
use Rattle.lines_read.specs.Core.{refused_core}
use Rattle.reader.proofs.Core.{core_as, ended, short_core, big_core, refused_core_lem, accepted_core_lem}
use Rattle.reader.proofs.read_core.Goals as goal

pub returns-then-not-numbered-long : goal.returns-then-not-numbered-long
returns-then-not-numbered-long c =
    let a = c.args in
    let t = nine a.starts.now a.points.now a.ranks.now a.kept.now a.opponents.now a.colours.now a.results.now a.text.now a.lines.now in
    let e = c.enough-long in
    let l = c.enough_lines-numbered in
    core_as (c.refused_by.ensures ∙ ap (λ (r : Refusal). refused_core (stated r) 0) c.from.ensures)
    (short_core a.file.now t a.accelerations (l.result && e.result) (ap₂ ◌&&◌ l.ensures e.ensures) c.if-not-numbered-long.true)

pub returns-then-file-gt-MOST_FILE : goal.returns-then-file-gt-MOST_FILE
returns-then-file-gt-MOST_FILE c =
    let a = c.args in
    let t = nine a.starts.now a.points.now a.ranks.now a.kept.now a.opponents.now a.colours.now a.results.now a.text.now a.lines.now in
    let e = c.enough-long in
    let l = c.enough_lines-numbered in
    ended
    (core_as (c.refused_by-then-file-gt-MOST_FILE.ensures ∙ ap (λ (r : Refusal). refused_core (stated r) most_accelerations) c.from-then-file-gt-MOST_FILE.ensures)
    (big_core a.file.now t a.accelerations (l.result && e.result) (ap₂ ◌&&◌ l.ensures e.ensures) c.if-not-numbered-long.false {x = nine_of c.clear.new.settled c.clear.new.closing c.clear.new.columns c.clear.new.text} c.if-file-gt-MOST_FILE.true c.clear.ensures.zeroed))
    (search rules) (search rules) (search rules) (search rules) (search rules) (search rules) (search rules) (search rules) (search rules)

pub returns-then-is_refused : goal.returns-then-is_refused
returns-then-is_refused c =
    let a = c.args in
    let t = nine a.starts.now a.points.now a.ranks.now a.kept.now a.opponents.now a.colours.now a.results.now a.text.now a.lines.now in
    let e = c.enough-long in
    let l = c.enough_lines-numbered in
    let r = c.read_lines-done in
    ended
    (refused_core_lem a.file.now t a.accelerations (l.result && e.result) (ap₂ ◌&&◌ l.ensures e.ensures) c.if-not-numbered-long.false c.clear.ensures.zeroed r.result r.ensures.read c.if-is_refused.true {w = nine_of c.clear-then-is_refused.new.settled c.clear-then-is_refused.new.closing c.clear-then-is_refused.new.columns c.clear-then-is_refused.new.text} c.clear-then-is_refused.ensures.zeroed)
    (search rules) (search rules) (search rules) (search rules) (search rules) (search rules) (search rules) (search rules) (search rules)

pub returns-else-is_refused : goal.returns-else-is_refused
returns-else-is_refused c =
    let a = c.args in
    let t = nine a.starts.now a.points.now a.ranks.now a.kept.now a.opponents.now a.colours.now a.results.now a.text.now a.lines.now in
    let e = c.enough-long in
    let l = c.enough_lines-numbered in
    let r = c.read_lines-done in
    ended
    (accepted_core_lem a.file.now t a.accelerations (l.result && e.result) (ap₂ ◌&&◌ l.ensures e.ensures) c.if-not-numbered-long.false c.clear.ensures.zeroed r.result r.ensures.read c.if-is_refused.false)
    (search rules) (search rules) (search rules) (search rules) (search rules) (search rules) (search rules) (search rules) (search rules)
