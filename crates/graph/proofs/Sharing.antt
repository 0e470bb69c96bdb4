-- Who is a neighbour by a list of ends: the relation is symmetric, irreflexive and of drinkers alone.
use Rattle.std.proofs.Common.{◌≡◌, ℕ, suc, ◌<◌, true, List, [], ◌∷◌, arith}
use Rattle.std.proofs.lemmas.Bool.Decides.{nat_tests}
use Rattle.graph.specs.declared.ends.Ends.{Ends}
use Rattle.graph.specs.Ends.{neighbours, EndsOrdered}

pub neighbours_symmetric : (es : List Ends) (p q : ℕ) → neighbours es p q ≡ true → neighbours es q p ≡ true
neighbours_symmetric [] p q e = e
neighbours_symmetric (x ∷ es) p q e = let rest = neighbours_symmetric es p q in grind (arith, nat_tests, rest)

rest_ordered : (n : ℕ) (x : Ends) (es : List Ends) → EndsOrdered n (x ∷ es) → EndsOrdered n es
rest_ordered n x es h b l = h (suc b) (omega arith)

pub neighbours_irreflexive : (n : ℕ) (es : List Ends) → EndsOrdered n es → (p : ℕ) → neighbours es p p ≡ true → ⊥
neighbours_irreflexive n [] h p e = cc
neighbours_irreflexive n (x ∷ es) h p e =
    let rest = neighbours_irreflexive n es (rest_ordered n x es h) p in
    let first = h 0 (omega arith) in
    grind (arith, nat_tests, rest, first)

pub neighbours_below : (n : ℕ) (es : List Ends) → EndsOrdered n es → (p q : ℕ) → neighbours es p q ≡ true → q < n
neighbours_below n [] h p q e = cc
neighbours_below n (x ∷ es) h p q e =
    let rest = neighbours_below n es (rest_ordered n x es h) p q in
    let first = h 0 (omega arith) in
    grind (arith, nat_tests, rest, first)
