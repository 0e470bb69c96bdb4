-- Lists of entries: what an entry says of its drinker's phase, and that there are never more entries than drinkers.
use Rattle.std.specs.Prelude.{◌≡◌, ℕ, ◌<◌, ◌≤◌, Bool, true, false, cond, not, ◌&&◌, ◌||◌, List, [], ◌∷◌, length, ◌==◌, ◌≢◌, nat_eq, nat_lt, refl}
use Rattle.std.proofs.Common.{⊎_elim, arith}
use Rattle.std.proofs.lemmas.Bool.{and_parts, cases_Bool, or_parts, ltb-true, not-true, true_from_ne_false}
use Rattle.std.proofs.lemmas.Bool.Decides.{nat_tests}
use Rattle.dining.specs.declared.phase.Phase.TheVariants.{Thinking, Hungry, Eating}
use Rattle.graph.specs.Counting.{number}
use Rattle.graph.proofs.Counting.{number_le, number_most, number_more}
use Rattle.queueing.specs.declared.entry.Entry.{Entry}
use Rattle.queueing.specs.Queue.{phase_in}
use Rattle.queueing.specs.Orderly.{has_entry, eating_neighbour, orderly}

-- The parts of a queue that is orderly.
pub record Parts (near : ℕ → ℕ → Bool) (n : ℕ) (e : Entry) (es : List Entry) : Type 0 where
  pub known : e.drinker < n
  pub once : has_entry es e.drinker ≡ false
  pub first : eating_neighbour near e.drinker es ≡ false
  pub rest : orderly near n es ≡ true

pub parts : (near : ℕ → ℕ → Bool) (n : ℕ) (e : Entry) (es : List Entry) → orderly near n (e ∷ es) ≡ true → Parts near n e es
parts near n e es o =
    let a = and_parts (nat_lt e.drinker n && not (has_entry es e.drinker)) _ o in
    let b = and_parts (nat_lt e.drinker n) _ a.0 in
    let c = and_parts (not (eating_neighbour near e.drinker es)) _ a.1 in
    record { known = ltb-true e.drinker n b.0; once = not-true _ b.1; first = not-true _ c.0; rest = c.1 }

pub whole : (near : ℕ → ℕ → Bool) (n : ℕ) (e : Entry) (es : List Entry) → Parts near n e es → orderly near n (e ∷ es) ≡ true
whole near n e es P = let a = P.known in let b = P.once in let c = P.first in let d = P.rest in grind (arith, nat_tests)

-- Who is in the queue does not think, and who is not thinks.
pub thinks_without_entry : (es : List Entry) (p : ℕ) → has_entry es p ≡ false → phase_in es p ≡ Thinking
thinks_without_entry [] p h = refl
thinks_without_entry (e ∷ es) p h =
    let a = or_parts (e.drinker == p) _ h in
    let rest = thinks_without_entry es p a.1 in
    rw a.0 rest

pub no_entry_where_thinking : (es : List Entry) (p : ℕ) → phase_in es p ≡ Thinking → has_entry es p ≡ false
no_entry_where_thinking [] p h = refl
no_entry_where_thinking (e ∷ es) p h = ⊎_elim
    (λ (t : nat_eq e.drinker p ≡ true). absurd (busy e.eating (rw t at h)))
    (λ (t : nat_eq e.drinker p ≡ false). rw t (no_entry_where_thinking es p (rw t at h)))
    (cases_Bool (e.drinker == p))
  where
    busy : (b : Bool) → cond b Eating Hungry ≢ Thinking
    busy true x = cc
    busy false x = cc

pub entry_where_not_thinking : (es : List Entry) (p : ℕ) → (phase_in es p ≢ Thinking) → has_entry es p ≡ true
entry_where_not_thinking es p h = true_from_ne_false _ (λ t. h (thinks_without_entry es p t))

pub known_entry : (near : ℕ → ℕ → Bool) (n : ℕ) (es : List Entry) → orderly near n es ≡ true → (p : ℕ) → has_entry es p ≡ true → p < n
known_entry near n [] o p h = cc
known_entry near n (e ∷ es) o p h =
    let P = parts near n e es o in
    let rest = known_entry near n es P.rest p in
    let first = P.known in
    grind (arith, nat_tests, rest, first)

-- As many entries as drinkers in the queue, so at most as many as drinkers.
entries_counted : (near : ℕ → ℕ → Bool) (n : ℕ) (es : List Entry) → orderly near n es ≡ true → length es ≤ number (has_entry es) n
entries_counted near n [] o = omega arith
entries_counted near n (e ∷ es) o =
    let P = parts near n e es o in
    let more = number_more (has_entry es) n e.drinker P.known P.once in
    let same = number_le (λ i. (i == e.drinker) || has_entry es i) (has_entry (e ∷ es)) n (λ i _ h. swapped i h) in
    omega (arith, entries_counted near n es P.rest, more, same)
  where
    swapped : (i : ℕ) → (i == e.drinker || has_entry es i) ≡ true → (e.drinker == i || has_entry es i) ≡ true
    swapped i h = grind (arith, nat_tests)

-- one more has room, if it is a drinker and not in the queue
pub room_for_one : (near : ℕ → ℕ → Bool) (n : ℕ) (es : List Entry) → orderly near n es ≡ true → (p : ℕ) → p < n → has_entry es p ≡ false → length es < n
room_for_one near n es o p l h =
    let more = number_more (has_entry es) n p l h in
    omega (arith, entries_counted near n es o, more, number_most (λ i. (i == p) || has_entry es i) n)
