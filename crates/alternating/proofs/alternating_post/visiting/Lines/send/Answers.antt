use Rattle.std.proofs.Common.{refl, rules}
use Rattle.alternating.specs.Visits.{message_lost, message_through}
use Rattle.alternating.proofs.alternating_post.visiting.Lines.send.Goals as goal

pub returns-then-comes_through : goal.returns-then-comes_through
returns-then-comes_through g c = message_through (search rules) (rw c.out.ensures at c.if-comes_through.ensures) c.acknowledge.ensures

pub returns-else-comes_through : goal.returns-else-comes_through
returns-else-comes_through g c = message_lost (search rules) (rw c.out.ensures at c.if-comes_through.ensures) refl
