use Rattle.std.proofs.Common.{◌≡◌, ℕ, ◌&&◌, ltb, take}
use Rattle.relations.specs.Related.{related}
use Rattle.graph.specs.Ends.{neighbours}
use Rattle.forks.proofs.fork_diner.making.lower_precedes.Given as goal

abbrev pub invariant-loop-ends : goal.invariant-loop-ends
invariant-loop-ends l = (p q : ℕ) → related l.precedes p q ≡ (neighbours (take l.ends-index l.ends-items) p q && ltb p q)
