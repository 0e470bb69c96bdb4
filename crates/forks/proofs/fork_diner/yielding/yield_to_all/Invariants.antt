use Rattle.forks.specs.Yielding.{Yields}
use Rattle.forks.proofs.fork_diner.yielding.yield_to_all.Given as goal

abbrev pub invariant-loop-q : goal.invariant-loop-q
invariant-loop-q l = Yields l.neighbourhood l.initial.precedes l.p l.q l.precedes
