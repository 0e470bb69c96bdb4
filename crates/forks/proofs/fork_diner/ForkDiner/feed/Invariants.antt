use Rattle.std.proofs.Common.{◌≡◌}
use Rattle.forks.specs.Forks.{with_phases, visited}
use Rattle.forks.specs.ForkDiners.{forks}
use Rattle.forks.proofs.fork_diner.ForkDiner.feed.Given as goal

-- those below p have been visited
abbrev pub invariant-loop-p : goal.invariant-loop-p
invariant-loop-p l = forks l.self ≡ with_phases (forks l.initial.self) (visited (forks l.initial.self) l.p)
