use Rattle.std.proofs.Common.{rules, not, ◌==◌}
use Rattle.arrayvec.proofs.ArrayVecLemmas.{filter-from_retain}
use Rattle.queueing.proofs.queue_diner.changes.remove.Goals as goal

pub returns : goal.returns
returns c = filter-from_retain _ (λ e. not (e.drinker == c.args.p)) _ (λ x b f y k. search rules) _ _ c.retain.ensures.filtered
