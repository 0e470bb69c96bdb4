-- A turn: entries are fed in their places, so nobody's ahead changes, and the first in the queue always eats.
use Rattle.std.specs.Prelude.{◌≡◌, ℕ, ◌+◌, Bool, true, false, cond, not, ◌&&◌, ◌||◌, ◌⊎◌, List, [], ◌∷◌, ◌++◌, ◌==◌, ◌≢◌, nat_eq}
use Rattle.std.proofs.Math.Path.{refl}
use Rattle.std.proofs.Common.{ap, ◌∙◌, inl, inr, ⊎_elim, arith}
use Rattle.std.proofs.Math.Bool.{or-false}
use Rattle.std.proofs.lemmas.List.Folds.{list_any-append}
use Rattle.std.proofs.lemmas.Bool.{cases_Bool, or_cases, or_parts, or_left, or_right, or_from, and_parts, and_from, eq-eqb}
use Rattle.std.proofs.lemmas.Bool.Decides.{nat_tests}
use Rattle.dining.specs.declared.phase.Phase.TheVariants.{Hungry, Eating}
use Rattle.dining.specs.Laws.{LawfulTurn}
use Rattle.queueing.specs.declared.entry.Entry.{Entry}
use Rattle.queueing.specs.Queue.{Queue, dining, after_turn, has_neighbour, feed, fed, phase_in, ahead_in, holder_in}
use Rattle.queueing.specs.Orderly.{has_entry, eating_neighbour, orderly}
use Rattle.queueing.specs.Entries.{parts, whole}

module _ (near : ℕ → ℕ → Bool) where
  -- Places stay.
  ahead_fed : (earlier es : List Entry) (q : ℕ) → ahead_in (fed near earlier es) q ≡ ahead_in es q
  ahead_fed earlier [] q = refl
  ahead_fed earlier (e ∷ es) q = ap (λ x. cond (e.drinker == q) 0 (1 + x)) (ahead_fed (earlier ++ e ∷ []) es q)

  entry_fed : (earlier es : List Entry) (q : ℕ) → has_entry (fed near earlier es) q ≡ has_entry es q
  entry_fed earlier [] q = refl
  entry_fed earlier (e ∷ es) q = ap (λ x. (e.drinker == q) || x) (entry_fed (earlier ++ e ∷ []) es q)

  -- Some of the hungry eat, and whoever ate goes on eating.
  phase_fed : (earlier es : List Entry) (q : ℕ)
      → (phase_in (fed near earlier es) q ≡ phase_in es q) ⊎ ((phase_in es q ≡ Hungry) × (phase_in (fed near earlier es) q ≡ Eating))
  phase_fed earlier [] q = inl refl
  phase_fed earlier (e ∷ es) q = ⊎_elim
      (λ (t : nat_eq e.drinker q ≡ true). rw t (go e.eating (not (has_neighbour near earlier e.drinker))))
      (λ (t : nat_eq e.drinker q ≡ false). rw t (phase_fed (earlier ++ e ∷ []) es q))
      (cases_Bool (e.drinker == q))
    where
      go : (a b : Bool) → (cond (a || b) Eating Hungry ≡ cond a Eating Hungry) ⊎ ((cond a Eating Hungry ≡ Hungry) × (cond (a || b) Eating Hungry ≡ Eating))
      go true b = inl refl
      go false true = inr (refl, refl)
      go false false = inl refl

  holder_fed : (earlier es : List Entry) (q h : ℕ) → holder_in es q h ≡ true → holder_in (fed near earlier es) q h ≡ true
  holder_fed earlier [] q h k = k
  holder_fed earlier (e ∷ es) q h k = ⊎_elim
      (λ (u : nat_eq e.drinker q ≡ true). cc (rw u at k))
      (λ (u : nat_eq e.drinker q ≡ false). rw u (⊎_elim
      (λ a. let b = and_parts (e.drinker == h) _ a in
      or_left (e.drinker == h && (e.eating || not (has_neighbour near earlier e.drinker))) _
      (and_from (e.drinker == h) _ b.0 (or_left e.eating _ b.1)))
      (λ a. or_right (e.drinker == h && (e.eating || not (has_neighbour near earlier e.drinker))) _
      (holder_fed (earlier ++ e ∷ []) es q h a))
      (or_cases (e.drinker == h && e.eating) _ (rw u at k))))
      (cases_Bool (e.drinker == q))

  -- The first in the queue eats, so whoever is still hungry has a holder.
  first_holds : (es : List Entry) (q : ℕ) → phase_in (fed near [] es) q ≡ Hungry → (h : ℕ) × (holder_in (fed near [] es) q h ≡ true)
  first_holds [] q w = cc
  first_holds (e ∷ es) q w = ⊎_elim
      (λ (u : nat_eq e.drinker q ≡ true). absurd (eats e.eating (rw u at w)))
      (λ (u : nat_eq e.drinker q ≡ false). (
        e.drinker,
        rw u (or_left (e.drinker == e.drinker && (e.eating || true)) _
            (and_from (e.drinker == e.drinker) _ (eq-eqb e.drinker e.drinker refl) (or_right e.eating true refl))),
      ))
      (cases_Bool (e.drinker == q))
    where
      eats : (b : Bool) → cond (b || true) Eating Hungry ≢ Hungry
      eats true x = cc
      eats false x = cc

  -- Whose neighbours are all blocked by an earlier entry has no neighbour that is fed later.
  neighbour_push : (earlier : List Entry) (e : Entry) (q : ℕ) → has_neighbour near (earlier ++ e ∷ []) q ≡ (has_neighbour near earlier q || near e.drinker q)
  neighbour_push earlier e q = list_any-append (λ x. near x.drinker q) earlier (e ∷ []) ∙ ap (λ t. has_neighbour near earlier q || t) (or-false (near e.drinker q))

  Blocks : ℕ → List Entry → Type 0
  Blocks p earlier = (q : ℕ) → near p q ≡ true → has_neighbour near earlier q ≡ true

  no_eater_fed : (p : ℕ) (earlier es : List Entry) → Blocks p earlier → eating_neighbour near p es ≡ false → eating_neighbour near p (fed near earlier es) ≡ false
  unfolding Blocks
  no_eater_fed p earlier [] B h = h
  no_eater_fed p earlier (e ∷ es) B h =
      let a = or_parts (near p e.drinker && e.eating) _ h in
      let rest = no_eater_fed p (earlier ++ e ∷ []) es (λ q n. neighbour_push earlier e q ∙ or_left (has_neighbour near earlier q) _ (B q n)) a.1 in
      or_from (near p e.drinker && (e.eating || not (has_neighbour near earlier e.drinker))) _
      (go (near p e.drinker) e.eating (has_neighbour near earlier e.drinker) a.0 (B e.drinker)) rest
    where
      go : (x y z : Bool) → (x && y) ≡ false → (x ≡ true → z ≡ true) → (x && (y || not z)) ≡ false
      go true y z h k = let l = k refl in grind (arith, nat_tests)
      go false y z h k = refl

  pub orderly_fed : (n : ℕ) (earlier es : List Entry) → orderly near n es ≡ true → orderly near n (fed near earlier es) ≡ true
  unfolding Blocks
  orderly_fed n earlier [] o = o
  orderly_fed n earlier (e ∷ es) o =
      let P = parts near n e es o in
      whole near n (feed near earlier e) (fed near (earlier ++ e ∷ []) es) (record {
        known = P.known;
        once = entry_fed (earlier ++ e ∷ []) es e.drinker ∙ P.once;
        first = no_eater_fed e.drinker (earlier ++ e ∷ []) es (λ q k. neighbour_push earlier e q ∙ or_right (has_neighbour near earlier q) _ k) P.first;
        rest = orderly_fed n (earlier ++ e ∷ []) es P.rest;
      })

pub turn_lawful : (q : Queue) → LawfulTurn (dining q) (dining (after_turn q))
turn_lawful q = record {
  phases = λ r _. phase_fed q.neighbours [] q.entries r;
  hungry_have_holders = λ p s. first_holds q.neighbours q.entries p s.1;
  goes_on = record {
    same_drinkers = refl;
    same_cap = refl;
    same_neighbours = λ _ _. refl;
    ahead_never_rises = λ p _. omega (arith, ahead_fed q.neighbours [] q.entries p);
    ahead_falls_or_holders_stay = λ p _. inr (λ h k _. holder_fed q.neighbours [] q.entries p h k);
  };
}
