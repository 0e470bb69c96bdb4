use Rattle.alternating.specs.Visits.{VisitedBelow}
use Rattle.alternating.proofs.alternating_post.calls.AlternatingPostPost.tick.Given as goal

-- the channels passed have been visited
abbrev pub invariant-loop-channel : goal.invariant-loop-channel
invariant-loop-channel g l = VisitedBelow g.W.Wire.carries l.initial.self.wire l.initial.self.channels l.channel l.self.wire l.self.channels
