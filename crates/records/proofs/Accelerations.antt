-- 250: the line by its fields and by its other columns. Assumes nothing.
use mathlib.Core.Path.{◌≡◌, refl, ap, ◌∙◌}
use mathlib.Core.Bool.{Bool, true}
use mathlib.Core.Option.{Option, some}
use mathlib.Core.List.{List}
use Prim.Native.Nat.{ℕ}
use Rattle.kit.specs.Decides.{pair, to, when, keep}
use Rattle.law.specs.Columns.{else_blank, after_code}
use Rattle.law.specs.Accelerations.{is_acceleration, added_field, acceleration_fields}
use Rattle.law.proofs.RecordsRead.{points_in, make_acceleration, acceleration_of}
use Rattle.records.specs.Records.{span_in}

pub acceleration_by : (row : List ℕ) (else : Bool) (points : Option ℕ) (rounds starts : Option (ℕ × ℕ)) → else_blank after_code acceleration_fields row ≡ else
    → points_in added_field row ≡ points → span_in row 14 3 ≡ rounds → span_in row 22 4 ≡ starts
    → acceleration_of row ≡ when else (keep is_acceleration (to make_acceleration (pair points (pair rounds starts))))
acceleration_by row v p r s v-is p-is r-is s-is = rw (v-is, p-is, r-is, s-is) refl

pub acceleration_in_lem : (row : List ℕ) (points : ℕ) (rounds starts : ℕ × ℕ) (v : Bool) → else_blank after_code acceleration_fields row ≡ true
    → points_in added_field row ≡ some points → span_in row 14 3 ≡ some rounds → span_in row 22 4 ≡ some starts → is_acceleration (make_acceleration (points, (rounds, starts))) ≡ v
    → acceleration_of row ≡ when v (some (make_acceleration (points, (rounds, starts))))
acceleration_in_lem row p r s v v-is p-is r-is s-is e =
    acceleration_by row true (some p) (some r) (some s) v-is p-is r-is s-is ∙ ap (λ (b : Bool). when b (some (make_acceleration (p, (r, s))))) e
