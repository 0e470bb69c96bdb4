-- The start: of each two neighbours the lower number precedes, and all think.
use Rattle.std.proofs.Common.{◌≡◌, ℕ, zero, suc, ◌+◌, ◌<◌, Bool, true, false, cond, ◌&&◌, ◌||◌, ltb, List, length, take, replicate, sym, ap, ◌∙◌, arith}
use Rattle.std.proofs.lemmas.List.Folds.{list_any_more}
use Rattle.std.proofs.lemmas.Bool.{and_parts}
use Rattle.std.proofs.lemmas.Bool.Decides.{nat_tests}
use Rattle.dining.specs.declared.phase.Phase.{Phase}
use Rattle.dining.specs.declared.phase.Phase.TheVariants.{Eating}
use Rattle.dining.specs.Phases.{is_eating}
use Rattle.dining.proofs.Phases.{test_from_eating}
use Rattle.graph.specs.declared.ends.Ends.{Ends}
use Rattle.graph.specs.Ends.{between, end_at, joins, neighbours}
use Rattle.graph.specs.declared.neighbourhood.Neighbourhood.{Neighbourhood}
use Rattle.graph.specs.Neighbourhoods.{near}
use Rattle.relations.specs.declared.relation.Relation.{Relation}
use Rattle.relations.specs.Related.{related, is_pair}
use Rattle.forks.specs.Forks.{phase_at}
use Rattle.forks.specs.Orderly.{OnlyNeighboursPrecede, OneOfTwoPrecedes, Ranked}

-- One bottle more: its lower end precedes its higher.
pair_more : (u v p q : ℕ) → u < v → v < 16 → (x y k : Bool) → x ≡ (k && ltb p q) → y ≡ cond (is_pair u v p q) true x
    → y ≡ ((k || joins (between u v) p q) && ltb p q)
pair_more u v p q l m x y k a b = grind (arith, nat_tests)

module _ (es : List Ends) (i : ℕ) (l : i < length es) (ordered : (end_at es i).lower < (end_at es i).higher) (small : (end_at es i).higher < 16) where
  pub lower_more : (old new : ℕ → ℕ → Bool) → ((p q : ℕ) → old p q ≡ (neighbours (take i es) p q && ltb p q))
      → ((p q : ℕ) → new p q ≡ cond (is_pair (end_at es i).lower (end_at es i).higher p q) true (old p q))
      → (p q : ℕ) → new p q ≡ (neighbours (take (i + 1) es) p q && ltb p q)
  lower_more old new h w p q =
      pair_more (end_at es i).lower (end_at es i).higher p q ordered small (old p q) (new p q) (neighbours (take i es) p q) (h p q) (w p q)
      ∙ ap (λ t. t && ltb p q) (sym (list_any_more (λ e. joins e p q) es i (between 0 0) l))

-- Where the lower of two neighbours precedes, the relation is as a fork diner keeps it.
module _ (s : Neighbourhood) (r : Relation) (lower : (p q : ℕ) → related r p q ≡ (near s p q && ltb p q)) where
  pub only_start : OnlyNeighboursPrecede (near s) (related r)
  only_start p q t = (and_parts (near s p q) _ (sym (lower p q) ∙ t)).0

  pub either_start : OneOfTwoPrecedes (near s) (related r)
  either_start p q e =
      let back = s.symmetric p q e in
      let apart : p ≡ q → ⊥ = λ x. s.irreflexive p (rw (← x) at e) in
      rw (lower p q, lower q p) (grind (arith, nat_tests))

  pub ranked_start : ∥ Ranked s.drinkers (related r) ∥₁
  ranked_start = ∣ record {
    rank = λ p. p;
    below = λ p l. l;
    rises = λ p q t. (let less = (and_parts (near s p q) _ (sym (lower p q) ∙ t)).1 in grind (arith, nat_tests));
    differs = λ p q _ _ e. e;
  } ∣₁

-- Nobody eats in a table where all are in one other phase.
pub none_eat : (x : Phase) (n p : ℕ) → phase_at (replicate n x) p ≡ Eating → is_eating x ≡ false → ⊥
none_eat x zero p e h = cc
none_eat x (suc n) zero e h = cc (test_from_eating x e)
none_eat x (suc n) (suc p) e h = none_eat x n p e h
