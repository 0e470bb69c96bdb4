-- A turn: what `any` over the drinkers answers, and what one visit leaves.
use Rattle.std.proofs.Common.{◌≡◌, ℕ, zero, suc, ◌+◌, ◌<◌, Bool, true, List, [], ◌∷◌, length, set, refl, ap, add-one, arith}
use Rattle.std.specs.List.{list_any, range_with_len}
use Rattle.std.proofs.Math.Bool.{or-false, or_comm}
use Rattle.std.proofs.lemmas.List.{map-id}
use Rattle.std.proofs.lemmas.List.Folds.{list_any-append}
use Rattle.std.proofs.lemmas.List.FromFn.{map-range_with_len_more}
use Rattle.dining.specs.declared.phase.Phase.{Phase}
use Rattle.dining.specs.declared.phase.Phase.TheVariants.{Eating}
use Rattle.graph.specs.Counting.{any}
use Rattle.graph.specs.declared.neighbourhood.Neighbourhood.{Neighbourhood}
use Rattle.relations.specs.declared.relation.Relation.{Relation}
use Rattle.forks.specs.Forks.{Forks, forks_of, with_phases, may_eat, visited}
use Rattle.forks.specs.Tables.{after_visit, phase_written}

pub range_any : (t : ℕ → Bool) (n : ℕ) → list_any t (range_with_len 0 n) ≡ any t n
unfolding any
range_any t zero = refl
range_any t (suc n) =
    let more = map-range_with_len_more (λ k. k) 0 n n (omega arith) in
    let last = list_any-append t (range_with_len 0 n) (n ∷ []) in
    cc (add-one n, map-id (range_with_len 0 (n + 1)), map-id (range_with_len 0 n), more, last, range_any t n, or-false (t n), or_comm (any t n) (t n))

-- Who may eat is fed by one write.
pub visit_written : (s : Neighbourhood) (xs : List Phase) (r : Relation) (p : ℕ) → may_eat (forks_of s xs r) p ≡ true → p < length xs
    → forks_of s (set xs p Eating) r ≡ after_visit (forks_of s xs r) p
visit_written s xs r p t l = rw t (ap (with_phases (forks_of s xs r)) (phase_written xs p Eating l))

-- The visits one after the other.
pub visited_none : (f : Forks) → f ≡ with_phases f (visited f 0)
unfolding visited
visited_none f = refl

pub visited_more : (f : Forks) (p : ℕ) → after_visit (with_phases f (visited f p)) p ≡ with_phases f (visited f (p + 1))
unfolding visited
visited_more f p = rw add-one refl
