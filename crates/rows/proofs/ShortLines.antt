-- A 001 line and the same with blanks at its end: the same player. Assumes nothing.
use mathlib.Core.Path.{◌≡◌, refl, sym, ap, ap₂, ◌∙◌}
use mathlib.Core.Bool.{Bool, ◌&&◌, not}
use mathlib.Core.List.{List, [], ◌∷◌, ◌++◌}
use Prim.Native.Nat.{ℕ, suc, ◌-◌}
use lib.ListN.{replicate}
use Rattle.kit.specs.Lists.{all, among, between}
use Rattle.kit.specs.Decides.{pair, to, when, keep, each}
use Rattle.law.specs.Sizes.{most_start, most_rank}
use Rattle.law.specs.Columns.{Field, blank, is_blank, col, part, width, column, else_blank, after_code}
use Rattle.law.specs.Players.{Slot, id_field, entry_colour_column, result_column, slot_colours, slot_results, capital, kept_field, start_field, points_field, rank_field, player_fields, every_round}
use Rattle.law.proofs.ColumnLaws.{drop-blank-same, cells-blanks, get_or_blanks}
use Rattle.law.proofs.FieldsRead.{number_of, the_number, number_or0, points_of}
use Rattle.law.proofs.RecordsRead.{is_kept, is_used, slot_of, player_of}

module _ (l : List ℕ) (k : ℕ) where
  else_same : (c : ℕ) (fs : List Field) → else_blank c fs (l ++ replicate k blank) ≡ else_blank c fs l
  else_same c [] = drop-blank-same (c - 1) l k
  else_same c (f ∷ fs) = ap₂ (λ (x y : Bool). x && y) (ap (all is_blank) (cells-blanks l k (c - 1) (f.0 - c))) (else_same (suc f.1) fs)

  part_same : (f : Field) → part f (l ++ replicate k blank) ≡ part f l
  part_same f = cells-blanks l k (f.0 - 1) (width f)

  col-same : (c : ℕ) → col (l ++ replicate k blank) c ≡ col l c
  col-same c = get_or_blanks l k (c - 1)

  used_same : (r : ℕ) → is_used (l ++ replicate k blank) r ≡ is_used l r
  used_same r =
      ap not (ap₂ (λ (x y : Bool). x && y) (ap (all is_blank) (part_same (id_field r)))
      (ap₂ (λ (x y : Bool). x && y) (ap (all is_blank) (part_same (column (entry_colour_column r)))) (ap₂ (λ (x y : Bool). x && y) (ap (all is_blank) (part_same (column (result_column r)))) refl)))

  slot_same : (r : ℕ) → slot_of (l ++ replicate k blank) r ≡ slot_of l r
  slot_same r = λ i.
      when (among (col-same (entry_colour_column r) i) slot_colours && among (capital (col-same (result_column r) i)) slot_results)
      (to (λ (n : ℕ). record { id = n; colour = col-same (entry_colour_column r) i; result = capital (col-same (result_column r) i); used = used_same r i }) (number_or0 (number_of (part_same (id_field r) i))))

  player-same : player_of (l ++ replicate k blank) ≡ player_of l
  player-same = λ i.
      when (else_same after_code player_fields i && is_kept (part_same kept_field i))
      (to (λ (f : (ℕ × ℕ) × (ℕ × List Slot)). record { start = f.0.0; kept = part_same kept_field i; points = f.0.1; rank = f.1.0; slots = f.1.1 })
      (pair
      (pair (keep (between 1 most_start) (the_number (number_of (part_same start_field i)))) (points_of (part_same points_field i)))
      (pair (keep (between 1 most_rank) (the_number (number_of (part_same rank_field i)))) (each (λ (r : ℕ). slot_same r i) every_round))))

module _ (line wide : List ℕ) (k : ℕ) (e : wide ≡ line ++ replicate k blank) where
  pub kept_wide : part kept_field line ≡ part kept_field wide
  kept_wide = sym (part_same line k kept_field) ∙ ap (part kept_field) (sym e)

  pub player_wide : player_of wide ≡ player_of line
  player_wide = ap player_of e ∙ player-same line k
