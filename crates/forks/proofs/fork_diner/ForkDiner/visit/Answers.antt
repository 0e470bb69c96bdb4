use Rattle.std.proofs.Common.{sym, subst, ◌∙◌, arith}
use Rattle.graph.specs.Neighbourhoods.{near}
use Rattle.forks.specs.ForkDiners.{forks}
use Rattle.forks.specs.Orderly.{EatersApart}
use Rattle.forks.specs.Diners.{orderly}
use Rattle.forks.specs.OnePhase.{orderly_fed}
use Rattle.forks.specs.Tables.{phase_written}
use Rattle.forks.proofs.fork_diner.ForkDiner.visit.Goals as goal

pub invariant_of-self-clause-apart : goal.invariant_of-self-clause-apart
invariant_of-self-clause-apart c =
    let d = c.args.self.now in
    subst (EatersApart (near d.neighbourhood)) (sym (phase_written d.phases c.args.p _ (omega arith)))
    (orderly_fed (forks d) (orderly d) c.args.p (sym c.is_free_to_eat.ensures ∙ c.if-is_free_to_eat.true)).apart
