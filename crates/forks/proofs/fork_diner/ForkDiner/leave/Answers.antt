use Rattle.std.proofs.Common.{◌<◌, length, sym, ◌∙◌, subst, arith, length-set}
use Rattle.dining.specs.declared.phase.Phase.TheVariants.{Thinking}
use Rattle.forks.specs.ForkDiners.{forks}
use Rattle.forks.specs.Orderly.{Orderly}
use Rattle.forks.specs.Diners.{orderly, done_written}
use Rattle.forks.specs.Done.{orderly_done}
use Rattle.forks.proofs.fork_diner.ForkDiner.leave.Goals as goal

pub invariant_of-self : goal.invariant_of-self
invariant_of-self c =
    let d = c.args.self.now in
    let p = c.args.p in
    let room : p < length d.phases = omega arith in
    let kept = subst Orderly (sym (done_written d p c.requires.0 c.yield_to_all.new.precedes c.yield_to_all.ensures room))
    (orderly_done (forks d) (orderly d) p c.requires.0) in
    record {
      places = length-set d.phases p Thinking ∙ d.places;
      only = kept.only;
      either = kept.either;
      ranked = kept.ranked;
      apart = kept.apart;
    }
