use Rattle.std.proofs.Common.{ap, ◌∙◌}
use Rattle.wires.specs.Patterns.{longest}
use Rattle.wires.proofs.Rounds.{longest_run}
use Rattle.wires.proofs.pattern.check_pattern.Goals as goal

pub returns-clause-read_round : goal.returns-clause-read_round
returns-clause-read_round c =
    let usable = c.in_ok-try_from.ensures in
    longest_run c.args.pattern.now _ usable.0 (c.longest_run.ensures ∙ ap longest usable.1)
