use Rattle.graph.proofs.Joins.{SharedBelow}
use Rattle.sets.specs.Members.{has}
use Rattle.graph.proofs.graph.asking.with_end.Given as goal

abbrev pub invariant-loop-bottle : goal.invariant-loop-bottle
invariant-loop-bottle l = SharedBelow l.ends l.p l.bottle (has l.shared)
