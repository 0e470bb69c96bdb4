-- What holds of an orderly queue between calls.
use Rattle.std.specs.Prelude.{◌≡◌, ℕ, ◌<◌, ◌≤◌, Bool, true, false, cond, ◌&&◌, List, [], ◌∷◌, ◌==◌, ◌≢◌, nat_eq, refl}
use Rattle.std.proofs.Common.{sym, ap, ◌∙◌, ⊎_elim, arith}
use Rattle.std.proofs.lemmas.Bool.{cases_Bool, cases_eq, and_from, and_parts, or_left, or_right, or_cases, eq-eqb, ne_eqb}
use Rattle.std.proofs.lemmas.Bool.Decides.{nat_tests}
use Rattle.dining.specs.declared.phase.Phase.TheVariants.{Hungry, Eating}
use Rattle.dining.specs.Dining.{Lawful}
use Rattle.queueing.specs.declared.entry.Entry.{Entry}
use Rattle.queueing.specs.Queue.{dining, phase_in, ahead_in, holder_in}
use Rattle.queueing.specs.Orderly.{eating_neighbour, orderly}
use Rattle.queueing.specs.Entries.{parts, known_entry, entry_where_not_thinking}

-- an entry that eats beside p
pub eating_neighbour_from : (near : ℕ → ℕ → Bool) (p q : ℕ) (es : List Entry) → near p q ≡ true → phase_in es q ≡ Eating → eating_neighbour near p es ≡ true
eating_neighbour_from near p q [] n e = cc
eating_neighbour_from near p q (x ∷ es) n e = ⊎_elim
    (λ (t : x.drinker ≡ q). or_left (near p x.drinker && x.eating) _
    (and_from (near p x.drinker) _ (rw t n) (eats x.eating (rw (eq-eqb x.drinker q t) at e))))
    (λ (t : x.drinker ≡ q → ⊥). or_right (near p x.drinker && x.eating) _
    (eating_neighbour_from near p q es n (rw (ne_eqb x.drinker q t) at e)))
    (cases_eq x.drinker q)
  where
    eats : (b : Bool) → cond b Eating Hungry ≡ Eating → b ≡ true
    eats true h = refl
    eats false h = cc

module _ (near : ℕ → ℕ → Bool) (symmetric : (p q : ℕ) → near p q ≡ true → near q p ≡ true) (irreflexive : (p : ℕ) → near p p ≢ true) (n : ℕ) where
  apart : (es : List Entry) → orderly near n es ≡ true → (p q : ℕ) → near p q ≡ true → phase_in es p ≡ Eating → phase_in es q ≢ Eating
  apart [] o p q h a b = cc
  apart (e ∷ es) o p q h a b =
      let P = parts near n e es o in
      ⊎_elim
      (λ (s : e.drinker ≡ p).
      let other : e.drinker ≡ q → ⊥ = λ t. irreflexive p (ap (near p) (sym s ∙ t) ∙ h) in
      cc (P.first, eating_neighbour_from near e.drinker q es (rw s h) (rw (ne_eqb e.drinker q other) at b)))
      (λ (s : e.drinker ≡ p → ⊥). ⊎_elim
      (λ (t : e.drinker ≡ q).
      cc (P.first, eating_neighbour_from near e.drinker p es (rw t (symmetric p q h)) (rw (ne_eqb e.drinker p s) at a)))
      (λ (t : e.drinker ≡ q → ⊥). apart es P.rest p q h (rw (ne_eqb e.drinker p s) at a) (rw (ne_eqb e.drinker q t) at b))
      (cases_eq e.drinker q))
      (cases_eq e.drinker p)

  pub holder_eats : (es : List Entry) → orderly near n es ≡ true → (p h : ℕ) → holder_in es p h ≡ true → phase_in es h ≡ Eating
  holder_eats [] o p h t = cc
  holder_eats (e ∷ es) o p h t =
      let P = parts near n e es o in
      ⊎_elim
      (λ (s : nat_eq e.drinker p ≡ true). cc (rw s at t))
      (λ (s : nat_eq e.drinker p ≡ false). ⊎_elim
      (λ u. let v = and_parts (e.drinker == h) _ u in rw (v.0, v.1))
      (λ u.
      let ate = holder_eats es P.rest p h u in
      let here = entry_where_not_thinking es h (λ x. cc) in
      let other : e.drinker ≡ h → ⊥ = λ x. cc P.once in
      rw (ne_eqb e.drinker h other) ate)
      (or_cases (e.drinker == h && e.eating) _ (rw s at t)))
      (cases_Bool (e.drinker == p))

  held_ahead : (es : List Entry) (p h : ℕ) → holder_in es p h ≡ true → 1 ≤ ahead_in es p
  held_ahead [] p h t = cc
  held_ahead (e ∷ es) p h t = grind (arith, nat_tests)

  pub lawful : (es : List Entry) → orderly near n es ≡ true → n ≤ 16 → ((p q : ℕ) → near p q ≡ true → (p < n) × (q < n))
      → Lawful (dining (record { drinkers = n; neighbours = near; entries = es }))
  lawful es o few known = record {
    at_most_sixteen_drinkers = few;
    cap_at_most_thousand = omega arith;
    neighbours_are_drinkers = known;
    neighbours_are_mutual = symmetric;
    nobody_is_its_own_neighbour = irreflexive;
    neighbours_never_eat_together = λ p q h a b. apart es o p q h a.1 b.1;
    holders_eat = λ p h s t. (let ate = holder_eats es o p h t in (known_entry near n es o h (entry_where_not_thinking es h (λ x. cc)), ate));
    held_has_some_ahead = λ p h s t. held_ahead es p h t;
  }
