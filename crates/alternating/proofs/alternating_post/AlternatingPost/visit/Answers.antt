use Rattle.std.proofs.Common.{arith}
use Rattle.std.proofs.lemmas.List.Elements.{All-get_or, All-set}
use Rattle.alternating_bit.specs.Channels.{unused}
use Rattle.alternating.specs.AlternatingPosts.{channel_at}
use Rattle.alternating.specs.Soundness.{Sound}
use Rattle.alternating.specs.VisitsKeep.{visit_keeps}
use Rattle.alternating.proofs.alternating_post.AlternatingPost.visit.Goals as goal

pub invariant_of-self-clause-sound : goal.invariant_of-self-clause-sound
invariant_of-self-clause-sound g c =
    let s = c.args.self.now in
    let k = c.args.lines.channel in
    let few = c.args.lines.few in
    let sound = All-get_or Sound s.channels k unused (omega (arith, s.all)) s.sound in
    let kept = visit_keeps g.met.W.Wire.laws k few s.wire (channel_at s.channels k) c.send.new.wire c.send.result sound c.send.ensures in
    All-set Sound s.channels k c.send.result kept.sound s.sound
