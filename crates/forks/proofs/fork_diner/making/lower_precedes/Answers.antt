use Rattle.std.proofs.Common.{◌<◌, length, sym, subst, arith}
use Rattle.relations.specs.Related.{related}
use Rattle.graph.specs.Ends.{EndsOrdered}
use Rattle.forks.proofs.Starting.{lower_more}
use Rattle.forks.proofs.fork_diner.making.lower_precedes.Goals as goal

pub loop-ends-preserved : goal.loop-ends-preserved
loop-ends-preserved c =
    let g = c.args.graph.now in
    let es = c.all_ends-ends-items.result.now in
    let i = c.loop-ends.ends-index in
    let inside : i < length es = omega arith in
    let ordered = subst (EndsOrdered g.drinkers) (sym c.all_ends-ends-items.ensures) g.ordered i inside in
    lower_more es i inside ordered.0 (omega (arith, ordered.1)) (related c.loop-ends.precedes) (related c.let_lower_precede.new.precedes) c.loop-ends.invariant c.let_lower_precede.ensures
