use Rattle.std.proofs.Common.{◌≡◌, ℕ, take}
use Rattle.relations.specs.Related.{related}
use Rattle.graph.specs.Ends.{neighbours}
use Rattle.graph.proofs.neighbourhood.asking.neighbour_table.Given as goal

abbrev pub invariant-loop-ends : goal.invariant-loop-ends
invariant-loop-ends l = (p q : ℕ) → related l.table p q ≡ neighbours (take l.ends-index l.ends-items) p q
