use Rattle.std.proofs.Common.{take, sym, subst, arith}
use Rattle.std.proofs.lemmas.List.{take_more_set}
use Rattle.graph.specs.Ends.{between, EndsOrdered, PairsOnce}
use Rattle.graph.proofs.Joins.{ordered_push, once_push}
use Rattle.graph.proofs.graph.Graph.append.Goals as goal

pub invariant_of-self-clause-ordered : goal.invariant_of-self-clause-ordered
invariant_of-self-clause-ordered c =
    let g = c.args.self.now in
    subst (EndsOrdered g.drinkers) (sym (take_more_set g.ends g.bottles (between c.args.ends.lower c.args.ends.higher) (omega arith)))
    (ordered_push (take g.bottles g.ends) c.args.ends.lower c.args.ends.higher g.drinkers g.ordered c.requires.ordered.0 c.requires.ordered.1)

pub invariant_of-self-clause-once : goal.invariant_of-self-clause-once
invariant_of-self-clause-once c =
    let g = c.args.self.now in
    subst PairsOnce (sym (take_more_set g.ends g.bottles (between c.args.ends.lower c.args.ends.higher) (omega arith)))
    (once_push (take g.bottles g.ends) c.args.ends.lower c.args.ends.higher g.once (λ joined. cc (c.requires.fresh)))
