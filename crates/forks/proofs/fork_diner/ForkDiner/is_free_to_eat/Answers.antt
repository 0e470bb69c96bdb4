use Rattle.std.proofs.Common.{◌≡◌, rules, ◌∙◌, arith}
use Rattle.std.proofs.lemmas.Iterator.{YieldsList-from_range}
use Rattle.std.proofs.lemmas.Iterator.Search.{any_from_yields_List}
use Rattle.graph.specs.Counting.{any}
use Rattle.forks.specs.Forks.{blocks}
use Rattle.forks.specs.ForkDiners.{forks}
use Rattle.forks.proofs.Feeding.{range_any}
use Rattle.forks.proofs.fork_diner.ForkDiner.is_free_to_eat.Goals as goal

pub returns-then-eq : goal.returns-then-eq
returns-then-eq c =
    let f = forks c.args.self.now in
    let blocked = blocks f c.args.p in
    let told : c.any.result ≡ any blocked f.drinkers =
    any_from_yields_List blocked _ _ c.any.result c.any.ensures.ran (YieldsList-from_range 0 f.drinkers f.drinkers (search rules) (omega arith)) (λ x b q k. search rules)
    ∙ range_any blocked f.drinkers in
    rw told (search rules)
