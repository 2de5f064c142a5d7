-- Every file is made of lines in one way, which `cut` finds. Assumes nothing.
use mathlib.Core.Path.{◌≡◌, refl, sym, ap, ◌∙◌, subst}
use mathlib.Core.Bool.{Bool, true, false, cond, ◌&&◌, not}
use mathlib.Core.Option.{Option, none, some}
use mathlib.Core.List.{List, [], ◌∷◌, ◌++◌, append-nil}
use Prim.Native.Nat.{ℕ}
use lib.Dec.{eqb}
use borrow.Author.Tests.{eqb-true, not-true}
use Rattle.kit.proofs.Bools.{clash, and}
use Rattle.law.specs.Lines.{CR, LF, End, cr, crlf, Line, end_bytes, joined, has_no_cr, starts_with_lf, Follows, AreLines, Lines}

-- ---- from the right; after: the byte before was a CR
abbrev pub push : ℕ → List Line → List Line
push c [] = record { text = c ∷ []; end = none } ∷ []
push c (l ∷ ls) = record { text = c ∷ l.text; end = l.end } ∷ ls

abbrev pub end_for : Bool → Option End
end_for true = some crlf
end_for false = some cr

abbrev pub step : Bool → Bool → ℕ → Option End → List Line → List Line
step true is_cr c e rest = rest
step false true c e rest = record { text = []; end = e } ∷ rest
step false false c e rest = push c rest

abbrev pub cut : Bool → List ℕ → List Line
cut after [] = []
cut after (c ∷ cs) = step (after && eqb c LF) (eqb c CR) c (end_for (starts_with_lf cs)) (cut (eqb c CR) cs)

-- ---- complete: the lines of joined lines are those lines
first-not : (c : ℕ) (t : List ℕ) → has_no_cr (c ∷ t) ≡ true → (eqb c CR ≡ false) × (has_no_cr t ≡ true)
first-not c t h = let k = and (not (eqb c CR)) (has_no_cr t) h in (not-true (eqb c CR) k.0, k.1)

pub cut_text : (t : List ℕ) (l : Line) (ls : List Line) (rest : List ℕ) → has_no_cr t ≡ true → cut false rest ≡ l ∷ ls → cut false (t ++ rest) ≡ record { text = t ++ l.text; end = l.end } ∷ ls
cut_text [] l ls rest h e = e
cut_text (c ∷ t) l ls rest h e = let k = first-not c t h in rw (k.0, cut_text t l ls rest k.1 e) refl

pub cut_last : (c : ℕ) (t : List ℕ) → has_no_cr (c ∷ t) ≡ true → cut false (c ∷ t) ≡ record { text = c ∷ t; end = none } ∷ []
cut_last c [] h = let k = first-not c [] h in rw k.0 refl
cut_last c (d ∷ t) h = let k = first-not c (d ∷ t) h in rw (k.0, cut_last d t k.1) refl

-- after a CR, what does not begin with LF
pub cut_after : (bs : List ℕ) → starts_with_lf bs ≡ false → cut true bs ≡ cut false bs
cut_after [] h = refl
cut_after (c ∷ cs) h = rw h refl

cut_line : (t : List ℕ) (e : Option End) (ls : List Line) → has_no_cr t ≡ true → Follows e t ls → cut false (joined ls) ≡ ls → cut false (t ++ (end_bytes e ++ joined ls)) ≡ record { text = t; end = e } ∷ ls
cut_line t (some cr) ls h f ih =
    let u : cut false (CR ∷ joined ls) ≡ record { text = []; end = some cr } ∷ ls = rw (f, cut_after (joined ls) f, ih) refl in
    cut_text t (record { text = []; end = some cr }) ls (CR ∷ joined ls) h u ∙ ap (λ (s : List ℕ). record { text = s; end = some cr } ∷ ls) (append-nil t)
cut_line t (some crlf) ls h f ih =
    let u : cut false (CR ∷ LF ∷ joined ls) ≡ record { text = []; end = some crlf } ∷ ls = rw ih refl in
    cut_text t (record { text = []; end = some crlf }) ls (CR ∷ LF ∷ joined ls) h u ∙ ap (λ (s : List ℕ). record { text = s; end = some crlf } ∷ ls) (append-nil t)
cut_line [] none ls h f ih = clash (sym f.0)
cut_line (c ∷ t) none [] h f ih = rw (append-nil t) (cut_last c t h)
cut_line (c ∷ t) none (l ∷ ls) h f ih = clash f.1

pub cut_complete : (ls : List Line) → AreLines ls → cut false (joined ls) ≡ ls
cut_complete [] h = refl
cut_complete (l ∷ ls) h = cut_line l.text l.end ls h.0 h.1 (cut_complete ls h.2)

-- ---- sound: joined again they are the bytes, and they are lines
abbrev strip : Bool → List ℕ → List ℕ
strip after [] = []
strip after (c ∷ cs) = cond (after && eqb c LF) cs (c ∷ cs)

join_push : (c : ℕ) (ls : List Line) → joined (push c ls) ≡ c ∷ joined ls
join_push c [] = refl
join_push c (l ∷ ls) = refl

strip_true : (cs : List ℕ) → end_bytes (end_for (starts_with_lf cs)) ++ strip true cs ≡ CR ∷ cs
strip_true [] = refl
strip_true (c ∷ cs) = go (eqb c LF) refl
  where
    go : (b : Bool) → eqb c LF ≡ b → end_bytes (end_for b) ++ cond b cs (c ∷ cs) ≡ CR ∷ c ∷ cs
    go true e = ap (λ (x : ℕ). CR ∷ x ∷ cs) (sym (eqb-true c LF e))
    go false e = refl

strip_false : (cs : List ℕ) → strip false cs ≡ cs
strip_false [] = refl
strip_false (c ∷ cs) = refl

cut_joined : (p : Bool) (bs : List ℕ) → joined (cut p bs) ≡ strip p bs
cut_joined p [] = refl
cut_joined p (c ∷ cs) = go (p && eqb c LF) (eqb c CR) refl refl (cut_joined (eqb c CR) cs)
  where
    go : (q r : Bool) → p && eqb c LF ≡ q → eqb c CR ≡ r → joined (cut (eqb c CR) cs) ≡ strip (eqb c CR) cs
        → joined (step q r c (end_for (starts_with_lf cs)) (cut (eqb c CR) cs)) ≡ cond q cs (c ∷ cs)
    go true r e f ih =
        let n : eqb c CR ≡ false = ap (λ (x : ℕ). eqb x CR) (eqb-true c LF (and p (eqb c LF) e).1) in
        ih ∙ rw n (strip_false cs)
    go false true e f ih = rw (ih, f) (strip_true cs ∙ ap (λ (x : ℕ). x ∷ cs) (sym (eqb-true c CR f)))
    go false false e f ih = join_push c (cut (eqb c CR) cs) ∙ ap (λ (l : List ℕ). c ∷ l) (ih ∙ rw f (strip_false cs))

strip_lf : (cs : List ℕ) → starts_with_lf cs ≡ false → starts_with_lf (strip true cs) ≡ false
strip_lf [] h = refl
strip_lf (c ∷ cs) h = rw h h

follows_cr : (cs : List ℕ) → Follows (end_for (starts_with_lf cs)) [] (cut true cs)
follows_cr cs = go (starts_with_lf cs) refl
  where
    go : (b : Bool) → starts_with_lf cs ≡ b → Follows (end_for b) [] (cut true cs)
    go true e = tt
    go false e = ap starts_with_lf (cut_joined true cs) ∙ strip_lf cs e

follows_push : (e : Option End) (c : ℕ) (t : List ℕ) (ls : List Line) → Follows e t ls → Follows e (c ∷ t) ls
follows_push (some cr) c t ls h = h
follows_push (some crlf) c t ls h = tt
follows_push none c t ls h = (refl, h.1)

push_lines : (c : ℕ) (ls : List Line) → eqb c CR ≡ false → AreLines ls → AreLines (push c ls)
push_lines c [] f h = (rw f refl, (refl, refl), tt)
push_lines c (l ∷ ls) f h = (rw f h.0, follows_push l.end c l.text ls h.1, h.2)

cut_lines : (p : Bool) (bs : List ℕ) → AreLines (cut p bs)
cut_lines p [] = tt
cut_lines p (c ∷ cs) = go (p && eqb c LF) (eqb c CR) refl (cut_lines (eqb c CR) cs)
  where
    go : (q r : Bool) → eqb c CR ≡ r → AreLines (cut (eqb c CR) cs) → AreLines (step q r c (end_for (starts_with_lf cs)) (cut (eqb c CR) cs))
    go true r f ih = ih
    go false true f ih = (refl, subst (λ (b : Bool). Follows (end_for (starts_with_lf cs)) [] (cut b cs)) (sym f) (follows_cr cs), ih)
    go false false f ih = push_lines c (cut (eqb c CR) cs) f ih

-- every file is made of lines, in one way
pub lines_are : (file : List ℕ) → Lines file (cut false file)
lines_are file = record { bytes = sym (cut_joined false file ∙ strip_false file); are = cut_lines false file }

pub lines_unique : (file : List ℕ) (ls : List Line) → Lines file ls → cut false file ≡ ls
lines_unique file ls h = ap (cut false) h.bytes ∙ cut_complete ls h.are

pub one_lines : (file : List ℕ) (ls ms : List Line) → Lines file ls → Lines file ms → ls ≡ ms
one_lines file ls ms h k = sym (lines_unique file ls h) ∙ lines_unique file ms k
