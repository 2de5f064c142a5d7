-- The tables with a player more: what is stored of a row is what join stores of its player. Assumes nothing.
use mathlib.Core.Path.{◌≡◌, refl, ap, ◌∙◌}
use mathlib.Core.List.{List}
use Prim.Native.Nat.{ℕ, ◌*◌}
use lib.ListN.{set}
use lib.Seq.{paste}
use Rattle.law.specs.Sizes.{most_rounds}
use Rattle.law.specs.Columns.{width}
use Rattle.law.specs.Players.{PlayerLine, kept_field}
use Rattle.law.specs.Tables.{cell_of}
use Rattle.join.specs.Grid.{put_row}
use Rattle.join.specs.Store.{Nine, store_player}
use Rattle.rows.specs.Rows.{the_row, ids_of, colours_of, results_of}
use Rattle.rows.specs.declared.Row.{Row}
use Rattle.tables.specs.Lent.{nine}

nine-≡ : {a0 a1 a2 a3 a4 a5 a6 a7 a8 b0 b1 b2 b3 b4 b5 b6 b7 b8 : List ℕ} → a0 ≡ b0 → a1 ≡ b1 → a2 ≡ b2 → a3 ≡ b3 → a4 ≡ b4 → a5 ≡ b5 → a6 ≡ b6 → a7 ≡ b7 → a8 ≡ b8
    → nine a0 a1 a2 a3 a4 a5 a6 a7 a8 ≡ nine b0 b1 b2 b3 b4 b5 b6 b7 b8
nine-≡ e0 e1 e2 e3 e4 e5 e6 e7 e8 = cc

module _ (p : PlayerLine) (n ln : ℕ) (row : Row) (e : row ≡ the_row p) (t : Nine) where
  pub player_stored : {x0 x1 x2 x3 x4 x5 x6 x8 : List ℕ}
      → x0 ≡ set t.starts n row.start.0 → x1 ≡ set t.points n row.points → x2 ≡ set t.ranks n row.rank.0
      → x3 ≡ paste t.kept (n * width kept_field) row.kept (width kept_field)
      → x4 ≡ put_row 0 cell_of t.opponents n row.ids most_rounds → x5 ≡ put_row 0 cell_of t.colours n row.colours most_rounds → x6 ≡ put_row 0 cell_of t.results n row.results most_rounds
      → x8 ≡ set t.lines n ln → nine x0 x1 x2 x3 x4 x5 x6 t.text x8 ≡ store_player p n ln t
  unfolding store_player the_row ids_of colours_of results_of
  player_stored e0 e1 e2 e3 e4 e5 e6 e8 =
      let u0 = e0 ∙ ap (λ (r : Row). set t.starts n r.start.0) e in
      let u1 = e1 ∙ ap (λ (r : Row). set t.points n r.points) e in
      let u2 = e2 ∙ ap (λ (r : Row). set t.ranks n r.rank.0) e in
      let u3 = e3 ∙ ap (λ (r : Row). paste t.kept (n * width kept_field) r.kept (width kept_field)) e in
      let u4 = e4 ∙ ap (λ (r : Row). put_row 0 cell_of t.opponents n r.ids most_rounds) e in
      let u5 = e5 ∙ ap (λ (r : Row). put_row 0 cell_of t.colours n r.colours most_rounds) e in
      let u6 = e6 ∙ ap (λ (r : Row). put_row 0 cell_of t.results n r.results most_rounds) e in
      nine-≡ u0 u1 u2 u3 u4 u5 u6 refl e8
