-- A neighbourhood: the drinkers and bottles of a graph counted, and its neighbours as a table.
use Rattle.std.specs.Prelude.{◌≡◌, ℕ, Bool, length}
use Rattle.graph.specs.declared.graph.Graph.{Graph}
use Rattle.graph.specs.declared.neighbourhood.Neighbourhood.{Neighbourhood}
use Rattle.graph.specs.Ends.{neighbours}
use Rattle.graph.specs.Graphs.{ends_of}
use Rattle.relations.specs.Related.{related}

-- p and q are neighbours
abbrev pub near : Neighbourhood → ℕ → ℕ → Bool
near s = related s.table

-- s is the neighbourhood of the graph g
pub record OfGraph (g : Graph) (s : Neighbourhood) : Type 0 where
  pub same_drinkers : s.drinkers ≡ g.drinkers
  pub same_bottles : s.bottles ≡ length (ends_of g)
  pub same_neighbours : (p q : ℕ) → near s p q ≡ neighbours (ends_of g) p q
