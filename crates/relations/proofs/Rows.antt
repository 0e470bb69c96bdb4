-- What stands in a table of rows after a write, in an empty table, and outside the table.
use Rattle.std.proofs.Common.{◌≡◌, ℕ, zero, suc, ◌<◌, ◌≤◌, Bool, false, cond, ◌&&◌, eqb, ltb, ◌⊎◌, List, [], length, get_or, set, replicate, refl, ap, ◌∙◌, ⊎_elim, arith}
use Rattle.std.proofs.lemmas.List.{get_or-replicate, get_or-set_same, get_or-set_other, get_or_past}
use Rattle.std.proofs.lemmas.Bool.{cases_eq, cases_lt}
use Rattle.std.proofs.lemmas.Bool.Decides.{nat_tests}
use Rattle.relations.specs.Related.{at, is_pair, Square}

at_row : (rows : List (List Bool)) (p : ℕ) (row : List Bool) → p < length rows → (a b : ℕ)
    → at (set rows p row) a b ≡ cond (eqb a p) (get_or row b false) (at rows a b)
unfolding at
at_row rows p row l a b = ⊎_elim
    (λ e. let g = get_or-set_same rows p row [] l in grind (arith, nat_tests))
    (λ e. let g = get_or-set_other rows p a row [] e in grind (arith, nat_tests))
    (cases_eq a p)

pub at_written : (rows : List (List Bool)) (p q : ℕ) (v : Bool) → p < 16 → q < 16 → p < length rows → q < length (get_or rows p []) → (a b : ℕ)
    → at (set rows p (set (get_or rows p []) q v)) a b ≡ cond (is_pair p q a b) v (at rows a b)
unfolding at
at_written rows p q v i j l m a b = at_row rows p _ l a b ∙ ⊎_elim
    (λ e. let g = get_or-set_same (get_or rows p []) q v false m in grind (arith, nat_tests))
    (λ e. let g = get_or-set_other (get_or rows p []) q b v false e in grind (arith, nat_tests))
    (cases_eq b q)

-- No pair is related outside the table.
pub at_outside : (rows : List (List Bool)) (p q : ℕ) → length rows ≡ 16 → ((a : ℕ) → a < 16 → length (get_or rows a []) ≡ 16)
    → (16 ≤ p) ⊎ (16 ≤ q) → at rows p q ≡ false
unfolding at
at_outside rows p q high wide = ⊎_elim no_row short_row
  where
    no_row : 16 ≤ p → at rows p q ≡ false
    no_row l = ap (λ row. get_or row q false) (get_or_past rows p [] (omega arith))

    short_row : 16 ≤ q → at rows p q ≡ false
    short_row l = ⊎_elim
        (λ s. let w = wide p s in get_or_past (get_or rows p []) q false (omega arith))
        no_row
        (cases_lt p 16)

-- The same at every place.
pub at_all : (v : Bool) (m n p q : ℕ) → at (replicate m (replicate n v)) p q ≡ (v && (ltb p m && ltb q n))
unfolding at
at_all v zero n p q = outside v p
  where
    outside : (v : Bool) (p : ℕ) → false ≡ (v && (ltb p 0 && ltb q n))
    outside v p = grind (arith, nat_tests)
at_all v (suc m) n zero q = row n q ∙ go v (ltb q n)
  where
    row : (n q : ℕ) → get_or (replicate n v) q false ≡ (v && ltb q n)
    row zero q = grind (arith, nat_tests)
    row (suc n) zero = grind (arith, nat_tests)
    row (suc n) (suc q) = row n q ∙ grind (arith, nat_tests)

    go : (v t : Bool) → (v && t) ≡ (v && (ltb 0 (suc m) && t))
    go v t = grind (arith, nat_tests)
at_all v (suc m) n (suc p) q = at_all v m n p q ∙ grind (arith, nat_tests)

pub square_all : (v : Bool) → Square (replicate 16 (replicate 16 v))
square_all v = (refl, λ p l. ap length (get_or-replicate 16 p (replicate 16 v) [] l))
