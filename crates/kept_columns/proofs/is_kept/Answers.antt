-- `kept_columns::is_kept` meets its contract. Assumes nothing.
use mathlib.Core.Path.{◌≡◌, refl, sym, ◌∙◌}
use mathlib.Core.Bool.{◌&&◌}
use mathlib.Core.List.{[], ◌∷◌}
use lib.ListN.{length, get_or}
use borrow.Author.Rules.{rules}
use Rattle.kit.specs.Lists.{is_one_of}
use Rattle.kit.specs.Decides.{is_some}
use Rattle.law.specs.Columns.{cells, else_blank}
use Rattle.law.specs.Players.{kept_field, kept_fields, in_line, sexes, titles, is_birth}
use Rattle.law.proofs.FieldsRead.{number_or0, number_of}
use Rattle.kept_columns.proofs.KeptColumns.{kept-there, and_then, and_not, ok_is_some}
use Rattle.kept_columns.proofs.is_kept.Goals as goal
use Rattle.kept_columns.proofs.is_kept.Goals.{then-is_sex, else-is_sex, then-is_title, else-is_title, then-is_birth, else-is_birth}

pub returns-then-kept_gaps_blank : goal.returns-then-kept_gaps_blank
returns-then-kept_gaps_blank c =
    let k = c.args.kept in
    let long : length k ≡ 70 = search rules in
    let s = is_one_of (get_or k 0 0 ∷ []) sexes in
    let t = is_one_of (get_or k 1 0 ∷ get_or k 2 0 ∷ get_or k 3 0 ∷ []) titles in
    let b = is_birth (cells k 60 10) in
    let g = else_blank kept_field.0 kept_fields (in_line k) in
    let two : c.if-is_sex.value ≡ s && t =
    elim c.if-is_sex.branch [
      | then-is_sex w ↦ and_then s t c.is_sex.ensures w.if-is_sex.true (w.value-is ∙ w.is_title.ensures)
      | else-is_sex w ↦ and_not s t c.is_sex.ensures w.if-is_sex.false w.value-is
    ] in
    let three : c.if-is_title.value ≡ (s && t) && b =
    elim c.if-is_title.branch [
      | then-is_title w ↦ and_then (s && t) b two w.if-is_title.true (w.value-is ∙ w.is_birth.ensures)
      | else-is_title w ↦ and_not (s && t) b two w.if-is_title.false w.value-is
    ] in
    let four : c.if-is_birth.value ≡ ((s && t) && b) && g =
    elim c.if-is_birth.branch [
      | then-is_birth w ↦ and_then ((s && t) && b) g three w.if-is_birth.true (w.value-is ∙ w.kept_gaps_blank.ensures)
      | else-is_birth w ↦ and_not ((s && t) && b) g three w.if-is_birth.false w.value-is
    ] in
    and_then (((s && t) && b) && g) (is_some (number_or0 (number_of (cells k 39 4)))) four c.if-kept_gaps_blank.true (c.is_ok.ensures.value ∙ ok_is_some _ _ c.number_or_blank.ensures) ∙ sym (kept-there k long)

pub returns-else-kept_gaps_blank : goal.returns-else-kept_gaps_blank
returns-else-kept_gaps_blank c =
    let k = c.args.kept in
    let long : length k ≡ 70 = search rules in
    let s = is_one_of (get_or k 0 0 ∷ []) sexes in
    let t = is_one_of (get_or k 1 0 ∷ get_or k 2 0 ∷ get_or k 3 0 ∷ []) titles in
    let b = is_birth (cells k 60 10) in
    let g = else_blank kept_field.0 kept_fields (in_line k) in
    let two : c.if-is_sex.value ≡ s && t =
    elim c.if-is_sex.branch [
      | then-is_sex w ↦ and_then s t c.is_sex.ensures w.if-is_sex.true (w.value-is ∙ w.is_title.ensures)
      | else-is_sex w ↦ and_not s t c.is_sex.ensures w.if-is_sex.false w.value-is
    ] in
    let three : c.if-is_title.value ≡ (s && t) && b =
    elim c.if-is_title.branch [
      | then-is_title w ↦ and_then (s && t) b two w.if-is_title.true (w.value-is ∙ w.is_birth.ensures)
      | else-is_title w ↦ and_not (s && t) b two w.if-is_title.false w.value-is
    ] in
    let four : c.if-is_birth.value ≡ ((s && t) && b) && g =
    elim c.if-is_birth.branch [
      | then-is_birth w ↦ and_then ((s && t) && b) g three w.if-is_birth.true (w.value-is ∙ w.kept_gaps_blank.ensures)
      | else-is_birth w ↦ and_not ((s && t) && b) g three w.if-is_birth.false w.value-is
    ] in
    and_not (((s && t) && b) && g) (is_some (number_or0 (number_of (cells k 39 4)))) four c.if-kept_gaps_blank.false refl ∙ sym (kept-there k long)
