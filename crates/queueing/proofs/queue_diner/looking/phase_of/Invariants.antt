use Rattle.std.proofs.Common.{◌≡◌, drop}
use Rattle.queueing.specs.Queue.{phase_in}
use Rattle.queueing.proofs.queue_diner.looking.phase_of.Given as goal

-- none of the entries passed is p's
abbrev pub invariant-loop-place : goal.invariant-loop-place
invariant-loop-place l = phase_in (drop l.place l.entries) l.p ≡ phase_in l.entries l.p
