use Rattle.alternating.specs.Visits.{none_yet, one_more}
use Rattle.alternating.proofs.alternating_post.calls.AlternatingPostPost.tick.Goals as goal

pub loop-channel-init : goal.loop-channel-init
loop-channel-init g c = none_yet

pub loop-channel-preserved : goal.loop-channel-preserved
loop-channel-preserved g c = one_more c.loop-channel.invariant c.visit.ensures
