-- From a fork diner's tables to its model and back: every diner is orderly, and what a call writes is what the model has.
use Rattle.std.specs.Prelude.{◌≡◌, ℕ, ◌<◌, Bool, true, false, cond, ◌&&◌, List, length, ◌==◌, nat_lt, slice_set}
use Rattle.std.proofs.Common.{ap, ◌∙◌, arith}
use Rattle.std.proofs.Math.Path.{fun_ext}
use Rattle.std.proofs.lemmas.Bool.Decides.{nat_tests}
use Rattle.dining.specs.declared.phase.Phase.{Phase}
use Rattle.dining.specs.declared.phase.Phase.TheVariants.{Thinking, Hungry}
use Rattle.graph.specs.declared.neighbourhood.Neighbourhood.{Neighbourhood}
use Rattle.graph.specs.Neighbourhoods.{near}
use Rattle.relations.specs.declared.relation.Relation.{Relation}
use Rattle.relations.specs.Related.{related}
use Rattle.forks.specs.declared.fork_diner.ForkDiner.{ForkDiner}
use Rattle.forks.specs.Forks.{forks_of, with_phases, after_hungry, behind, after_done}
use Rattle.forks.specs.ForkDiners.{forks}
use Rattle.forks.specs.Yielding.{Yields}
use Rattle.forks.specs.Orderly.{Orderly}
use Rattle.forks.specs.Waiting.{degree}
use Rattle.forks.specs.Tables.{phase_written}

pub orderly : (d : ForkDiner) → Orderly (forks d)
unfolding degree
orderly d = record {
  few = d.neighbourhood.few;
  room = d.neighbourhood.room;
  known = d.neighbourhood.known;
  symmetric = d.neighbourhood.symmetric;
  irreflexive = d.neighbourhood.irreflexive;
  sparse = d.neighbourhood.sparse;
  only = d.only;
  either = d.either;
  ranked = d.ranked;
  apart = d.apart;
}

-- `hungry` writes one phase.
pub hungry_written : (s : Neighbourhood) (xs : List Phase) (r : Relation) (p : ℕ) → p < length xs
    → forks_of s (slice_set xs p Hungry) r ≡ after_hungry (forks_of s xs r) p
hungry_written s xs r p l = ap (with_phases (forks_of s xs r)) (phase_written xs p Hungry l)

-- `done` writes the pairs of p, and p's phase.
module _ (d : ForkDiner) (p : ℕ) (l : p < d.neighbourhood.drinkers) (new : Relation)
    (Y : Yields d.neighbourhood d.precedes p d.neighbourhood.drinkers new) where
  all_yielded : (a b : ℕ) → related new a b ≡ behind (forks d) p a b
  unfolding behind
  all_yielded a b = Y a b ∙ go (near d.neighbourhood a p) (related d.precedes a b)
      (λ h. (d.neighbourhood.known a p h).0) (λ h. d.neighbourhood.known a b (d.only a b h))
    where
      go : (x y : Bool) → (x ≡ true → a < d.neighbourhood.drinkers) → (y ≡ true → (a < d.neighbourhood.drinkers) × (b < d.neighbourhood.drinkers))
          → cond (a == p && nat_lt b d.neighbourhood.drinkers) false (cond (b == p && nat_lt a d.neighbourhood.drinkers) x y) ≡ cond (a == p) false (cond (b == p) x y)
      go x y h i = grind (arith, nat_tests)

  pub done_written : p < length d.phases → forks_of d.neighbourhood (slice_set d.phases p Thinking) new ≡ after_done (forks d) p
  done_written room = λ i. record {
    drinkers = d.neighbourhood.drinkers;
    bottles = d.neighbourhood.bottles;
    neighbours = near d.neighbourhood;
    phase = phase_written d.phases p Thinking room i;
    precedes = fun_ext (λ a. fun_ext (all_yielded a)) i;
  }
