-- A thinking drinker becomes hungry: it joins the queue at its end, and nobody else's place changes.
use Rattle.std.specs.Prelude.{◌≡◌, ℕ, ◌<◌, Bool, true, false, cond, ◌&&◌, ◌||◌, List, [], ◌∷◌, ◌++◌, length, ◌==◌, ◌≢◌, nat_eq}
use Rattle.std.proofs.Math.Path.{refl, sym, ap}
use Rattle.std.proofs.Common.{◌∙◌, arith}
use Rattle.std.proofs.Math.Bool.{or-false}
use Rattle.std.proofs.lemmas.List.Folds.{list_any-append}
use Rattle.std.proofs.Math.Logic.{inr, ⊎_elim}
use Rattle.std.proofs.lemmas.Bool.{and_right, cases_Bool, or_parts, eq-eqb, ne_eqb}
use Rattle.std.proofs.lemmas.Bool.Decides.{nat_tests}
use Rattle.dining.specs.declared.phase.Phase.TheVariants.{Thinking, Hungry, Eating}
use Rattle.dining.specs.Laws.{LawfulHungry}
use Rattle.queueing.specs.declared.entry.Entry.{Entry}
use Rattle.queueing.specs.Queue.{Queue, dining, after_hungry, hungry_entry, phase_in, ahead_in, holder_in}
use Rattle.queueing.specs.Orderly.{has_entry, eating_neighbour, orderly}
use Rattle.queueing.specs.Entries.{parts, whole, no_entry_where_thinking, entry_where_not_thinking, room_for_one}

module _ (p : ℕ) where
  joined : List Entry → List Entry
  joined es = es ++ hungry_entry p ∷ []

  phase_of_other : (es : List Entry) (q : ℕ) → (q ≢ p) → phase_in (joined es) q ≡ phase_in es q
  unfolding joined
  phase_of_other [] q d = rw (ne_eqb p q (λ e. d (sym e)))
  phase_of_other (e ∷ es) q d = ap (λ x. cond (e.drinker == q) (cond e.eating Eating Hungry) x) (phase_of_other es q d)

  phase_of_new : (es : List Entry) → has_entry es p ≡ false → phase_in (joined es) p ≡ Hungry
  unfolding joined
  phase_of_new [] h = rw (eq-eqb p p refl)
  phase_of_new (e ∷ es) h = let a = or_parts (e.drinker == p) _ h in rw a.0 (phase_of_new es a.1)

  ahead_of_new : (es : List Entry) → has_entry es p ≡ false → ahead_in (joined es) p ≡ length es
  unfolding joined
  ahead_of_new [] h = rw (eq-eqb p p refl)
  ahead_of_new (e ∷ es) h = let a = or_parts (e.drinker == p) _ h in let rest = ahead_of_new es a.1 in rw a.0 (omega arith)

  -- Whoever is in the queue keeps its ahead and its holders.
  ahead_of_old : (es : List Entry) (q : ℕ) → has_entry es q ≡ true → ahead_in (joined es) q ≡ ahead_in es q
  unfolding joined
  ahead_of_old [] q h = cc
  ahead_of_old (e ∷ es) q h = ⊎_elim
      (λ (t : nat_eq e.drinker q ≡ true). rw t)
      (λ (t : nat_eq e.drinker q ≡ false). let rest = ahead_of_old es q (rw t at h) in rw t (omega arith))
      (cases_Bool (e.drinker == q))

  holder_of_old : (es : List Entry) (q h : ℕ) → has_entry es q ≡ true → holder_in (joined es) q h ≡ holder_in es q h
  unfolding joined
  holder_of_old [] q h k = cc
  holder_of_old (e ∷ es) q h k = ⊎_elim
      (λ (t : nat_eq e.drinker q ≡ true). rw t)
      (λ (t : nat_eq e.drinker q ≡ false). let rest = holder_of_old es q h (rw t at k) in rw (t, rest))
      (cases_Bool (e.drinker == q))

  -- The queue stays orderly.
  entry_joined : (es : List Entry) (q : ℕ) → has_entry (joined es) q ≡ (has_entry es q || p == q)
  unfolding joined
  entry_joined es q = list_any-append (λ e. e.drinker == q) es (hungry_entry p ∷ []) ∙ ap (λ t. has_entry es q || t) (or-false (p == q))

  eaters_joined : (near : ℕ → ℕ → Bool) (q : ℕ) (es : List Entry) → eating_neighbour near q (joined es) ≡ eating_neighbour near q es
  unfolding joined
  eaters_joined near q [] = or-false (near q p && false) ∙ and_right (near q p) false refl
  eaters_joined near q (e ∷ es) = ap (λ t. (near q e.drinker && e.eating) || t) (eaters_joined near q es)

  pub orderly_joined : (near : ℕ → ℕ → Bool) (n : ℕ) → p < n → (es : List Entry) → orderly near n es ≡ true → has_entry es p ≡ false → orderly near n (es ++ hungry_entry p ∷ []) ≡ true
  unfolding joined
  orderly_joined near n l [] o h = let k = l in grind (arith, nat_tests)
  orderly_joined near n l (e ∷ es) o h =
      let P = parts near n e es o in
      let a = or_parts (e.drinker == p) _ h in
      let other : nat_eq p e.drinker ≡ false = (let b = a.0 in grind (arith, nat_tests)) in
      whole near n e (joined es) (record {
        known = P.known;
        once = entry_joined es e.drinker ∙ (let b = P.once in grind (arith, nat_tests));
        first = eaters_joined near e.drinker es ∙ P.first;
        rest = orderly_joined near n l es P.rest a.1;
      })

module _ (q : Queue) (o : orderly q.neighbours q.drinkers q.entries ≡ true) (p : ℕ) (l : p < q.drinkers) (t : phase_in q.entries p ≡ Thinking) where
  absent : has_entry q.entries p ≡ false
  absent = no_entry_where_thinking q.entries p t

  in_queue : (r : ℕ) → phase_in q.entries r ≡ Hungry → has_entry q.entries r ≡ true
  in_queue r h = entry_where_not_thinking q.entries r (λ x. cc)

  pub hungry_lawful : LawfulHungry (dining q) p (dining (after_hungry q p))
  unfolding joined
  hungry_lawful = record {
    phases = record { its_own = phase_of_new p q.entries absent; no_other = λ r _ d. phase_of_other p q.entries r d };
    ahead_within_cap = omega (arith, ahead_of_new p q.entries absent, room_for_one q.neighbours q.drinkers q.entries o p l absent);
    goes_on = record {
      same_drinkers = refl;
      same_cap = refl;
      same_neighbours = λ _ _. refl;
      ahead_never_rises = λ r s. omega (arith, ahead_of_old p q.entries r (in_queue r s.0.1));
      ahead_falls_or_holders_stay = λ r s. inr (λ h k _. holder_of_old p q.entries r h (in_queue r s.0.1) ∙ k);
    };
  }
