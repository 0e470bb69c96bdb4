use Rattle.std.proofs.Common.{ap, ◌∙◌}
use Rattle.forks.specs.ForkDiners.{forks}
use Rattle.forks.specs.Tables.{after_visit}
use Rattle.forks.proofs.Feeding.{visited_none, visited_more}
use Rattle.forks.proofs.fork_diner.ForkDiner.feed.Goals as goal

pub loop-p-init : goal.loop-p-init
loop-p-init c = visited_none (forks c.args.self.now)

pub loop-p-preserved : goal.loop-p-preserved
loop-p-preserved c =
    c.visit.ensures ∙ ap (λ f. after_visit f c.loop-p.p) c.loop-p.invariant ∙ visited_more (forks c.args.self.now) c.loop-p.p
