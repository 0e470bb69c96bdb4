-- What the table of precedence holds while a drinker that was done yields to the others, one by one. A user of the diner need not read this.
use Rattle.std.specs.Prelude.{◌≡◌, ℕ, false, cond, ◌&&◌, ◌==◌, nat_lt}
use Rattle.graph.specs.declared.neighbourhood.Neighbourhood.{Neighbourhood}
use Rattle.graph.specs.Neighbourhoods.{near}
use Rattle.relations.specs.declared.relation.Relation.{Relation}
use Rattle.relations.specs.Related.{related}

-- p has yielded to its neighbours below n: it precedes none of them, they precede it, and the other pairs are as they were
abbrev pub Yields : Neighbourhood → Relation → ℕ → ℕ → Relation → Type 0
Yields s old p n new = (a b : ℕ)
    → related new a b ≡ cond (a == p && nat_lt b n) false (cond (b == p && nat_lt a n) (near s a p) (related old a b))
