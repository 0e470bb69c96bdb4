use Rattle.std.proofs.Common.{rules, ℕ, ◌&&◌, ltb, refl, sym, ap, ◌∙◌}
use Rattle.forks.proofs.Starting.{only_start, either_start, ranked_start, none_eat}
use Rattle.forks.proofs.fork_diner.ForkDiner.new.Goals as goal

pub invariant_of-result : goal.invariant_of-result
invariant_of-result c =
    let s = c.new.result in
    let r = c.lower_precedes.result in
    let lower = λ (p q : ℕ). c.lower_precedes.ensures p q ∙ ap (λ t. t && ltb p q) (sym (c.new.ensures.same_neighbours p q)) in
    record {
      places = search rules;
      only = only_start s r lower;
      either = either_start s r lower;
      ranked = ranked_start s r lower;
      apart = λ p q e. none_eat _ 16 p e.1 refl;
    }
