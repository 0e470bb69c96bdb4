use Rattle.std.proofs.Common.{arith}
use Rattle.std.proofs.lemmas.List.Elements.{All-replicate}
use Rattle.alternating.specs.Soundness.{Sound}
use Rattle.alternating.proofs.alternating_post.AlternatingPost.new.Goals as goal

pub invariant_of-result-clause-sound : goal.invariant_of-result-clause-sound
invariant_of-result-clause-sound g c = All-replicate Sound 64 c.new.result (rw c.new.ensures (omega arith, omega arith))
