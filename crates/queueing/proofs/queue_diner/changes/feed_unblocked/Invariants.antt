use Rattle.std.proofs.Common.{◌≡◌, [], ◌++◌, take, drop}
use Rattle.graph.specs.Neighbourhoods.{near}
use Rattle.queueing.specs.Queue.{fed}
use Rattle.queueing.proofs.queue_diner.changes.feed_unblocked.Given as goal

-- those passed are fed, and those to come are as they were
abbrev pub invariant-loop-place : goal.invariant-loop-place
invariant-loop-place l = l.entries ≡ fed (near l.neighbourhood) [] (take l.place l.initial.entries) ++ drop l.place l.initial.entries
