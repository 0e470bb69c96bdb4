use Rattle.std.proofs.Common.{◌<◌, length, arith}
use Rattle.std.proofs.lemmas.Bool.Decides.{nat_tests}
use Rattle.std.proofs.lemmas.List.Elements.{All-get_or, All-set}
use Rattle.alternating_bit.specs.Channels.{unused, waiting_in}
use Rattle.alternating.specs.ChannelSteps.{put_sound}
use Rattle.alternating.specs.Soundness.{Sound}
use Rattle.alternating.proofs.alternating_post.calls.AlternatingPostPost.put.Goals as goal

pub invariant_of-self-clause-sound : goal.invariant_of-self-clause-sound
invariant_of-self-clause-sound g c =
    let s = c.args.self.now in
    let found = c.in_ok-found.found in
    let was : Sound found = rw c.in_ok-found.ensures.1 (All-get_or Sound s.channels c.args.channel unused (omega (arith, s.all, c.in_ok-found.ensures.0)) s.sound) in
    let room : length (waiting_in found) < 2 = grind (arith, nat_tests) in
    All-set Sound s.channels c.args.channel c.put.result (rw c.put.ensures (put_sound c.args.message found was room)) s.sound
