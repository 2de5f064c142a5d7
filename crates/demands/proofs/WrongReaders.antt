-- Five wrong readers, each with a file on which the statement does not permit its answer, whatever tables are lent, if they are long enough. Assumes nothing.
use mathlib.Core.Path.{◌≡◌, refl, sym, ◌∙◌}
use mathlib.Core.Bool.{true}
use mathlib.Core.List.{List, [], ◌∷◌, ◌++◌}
use Prim.Native.Nat.{ℕ}
use Prim.Native.Char.{code}
use native.Mathlib.Omega.{arith}
use lib.ListN.{get_or}
use Rattle.kit.specs.Lists.{all, flat, top}
use Rattle.kit.specs.First.{AllOf}
use Rattle.types.specs.declared.Answer.{Answer}
use Rattle.law.specs.Columns.{cells}
use Rattle.law.specs.Scoring.{scoring_of}
use Rattle.law.specs.Accelerations.{shares}
use Rattle.law.specs.Items.{kind_of}
use Rattle.law.specs.Tournament.{normal, used_rounds, rounds_of, tournament_of}
use Rattle.law.specs.Entries.{is_bye, is_game, fits, keeps, worth, earned}
use Rattle.law.specs.Spelling.{is_past}
use Rattle.law.specs.Tables.{Lent, enough_lent, content_of}
use Rattle.law.specs.Refusals.{is_again, is_too_many, lines_of, is_file_fault, labels}
use Rattle.law.specs.Calls.{Reads}
use Rattle.law.proofs.RecordsRead.{item_of}
use Rattle.law.proofs.Judges.{outcome_of}
use Rattle.law.proofs.Samples.{Row, refuses, accepts, stores, starts, results, RowHolds, test, all_tested}
use Rattle.law.proofs.Marked.{line, cup, roe, poe, sample_t}

-- ---- the files: sample T; T won by forfeit; T with results that do not fit; and three in which round 1 is sample T's and round 2 is wrong
unfoldable pub forfeit_t : List ℕ
forfeit_t = cup ++ (roe " 1.0" "   2 w +" ++ poe " 0.0" "   1 b -")

unfoldable pub misfit_t : List ℕ
misfit_t = cup ++ (roe " 1.0" "   2 w 1" ++ poe " 0.0" "   1 b =")

unfoldable pub second12 : List ℕ
second12 = cup ++ (roe " 2.0" "   2 w 1     1 b 1" ++ poe " 0.0" "   1 b 0     1 w 0")

unfoldable pub second13 : List ℕ
second13 = cup ++ (roe " 2.0" "   2 w 1     2 b 1" ++ poe " 0.0" "   1 b 0     1 b 0")

unfoldable pub second14 : List ℕ
second14 = cup ++ (roe " 2.0" "   2 w 1     2 b 1" ++ poe " 0.5" "   1 b 0     1 w =")

unfoldable rows : List Row
rows =
    accepts sample_t 2 1 0 ∷ stores sample_t ((starts, 0, 1) ∷ (results, 0, code "1") ∷ []) ∷ stores forfeit_t ((results, 0, code "+") ∷ []) ∷
    refuses misfit_t 14 2 1 ∷ refuses second12 12 2 2 ∷ refuses second13 13 2 2 ∷ refuses second14 14 2 2 ∷ []

computed : all test rows ≡ true
unfolding rows forfeit_t misfit_t second12 second13 second14 line cup roe poe sample_t test cells flat top scoring_of shares kind_of normal used_rounds rounds_of tournament_of is_bye is_game fits keeps worth earned is_past is_again is_too_many lines_of is_file_fault labels item_of outcome_of content_of
computed = refl

held : AllOf RowHolds rows
held = all_tested rows computed

module _ (before : Lent) (long : enough_lent before ≡ true) (a : Answer) (after : Lent) where
  -- ---- it refuses all files: sample T is accepted
  pub refuses-all : (a.number ≡ 0 → ⊥) → Reads sample_t before a after → ⊥
  unfolding RowHolds rows
  refuses-all n h = n ((held.0 before long).0 a after h).number

  -- ---- it always returns sample T: what it leaves for T is not permitted for T won by forfeit
  pub always_T : Reads sample_t before a after → Reads forfeit_t before a after → ⊥
  unfolding RowHolds rows
  always_T h k =
      let e : get_or after.tables.results 0 0 ≡ code "1" = ((held.1.0 before long).0 a after h).1.0 in
      let f : get_or after.tables.results 0 0 ≡ code "+" = ((held.1.1.0 before long).0 a after k).0 in
      omega (arith, sym e ∙ f)

  -- ---- it accepts and writes no cell: in cleared tables T's first start number must stand afterwards
  pub writes_nothing : get_or before.tables.starts 0 0 ≡ 0 → after ≡ before → Reads sample_t before a after → ⊥
  unfolding RowHolds rows
  writes_nothing z e h =
      let f : get_or after.tables.starts 0 0 ≡ 1 = ((held.1.0 before long).0 a after h).0 in
      let g : get_or after.tables.starts 0 0 ≡ 0 = rw e z in
      omega (arith, sym g ∙ f)

  -- ---- it checks round 1 and waves the others through: 12, 13 and 14 in round 2 are refused there
  pub round_1_only : a.number ≡ 0 → AllOf (λ file. Reads file before a after → ⊥) (second12 ∷ second13 ∷ second14 ∷ [])
  unfolding RowHolds rows
  round_1_only n = (
    λ h. omega (arith, sym n ∙ ((held.1.1.1.1.0 before long).0 a after h).number_is),
    (λ h. omega (arith, sym n ∙ ((held.1.1.1.1.1.0 before long).0 a after h).number_is), (λ h. omega (arith, sym n ∙ ((held.1.1.1.1.1.1.0 before long).0 a after h).number_is), tt)),
  )

  -- ---- it invents the line, the round or the number of players
  pub invents_line : (a.line.0 ≡ 2 → ⊥) → Reads misfit_t before a after → ⊥
  unfolding RowHolds rows
  invents_line n h = n ((held.1.1.1.0 before long).0 a after h).line_is

  pub invents_round : (a.round ≡ 1 → ⊥) → Reads misfit_t before a after → ⊥
  unfolding RowHolds rows
  invents_round n h = n ((held.1.1.1.0 before long).0 a after h).round_is

  pub invents_players : (a.players ≡ 2 → ⊥) → Reads sample_t before a after → ⊥
  unfolding RowHolds rows
  invents_players n h = n ((held.0 before long).0 a after h).players_are
