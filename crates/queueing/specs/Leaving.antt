-- A drinker that ate is done: its entry is taken out, and those behind it have one less ahead.
use Rattle.std.specs.Prelude.{◌≡◌, ℕ, ◌+◌, ◌<◌, ◌≤◌, Bool, true, false, cond, ◌&&◌, List, [], ◌∷◌, ◌==◌, ◌≢◌, nat_eq, refl}
use Rattle.std.specs.List.{list_any}
use Rattle.std.proofs.Common.{sym, ap, ◌∙◌, inr, ⊎_elim, arith}
use Rattle.std.proofs.lemmas.Bool.{cases_Bool, or_cases, or_parts, or_left, or_right, or_from, eqb-true, ne_eqb}
use Rattle.dining.specs.declared.phase.Phase.TheVariants.{Thinking, Hungry, Eating}
use Rattle.dining.specs.Laws.{LawfulDone}
use Rattle.queueing.specs.declared.entry.Entry.{Entry}
use Rattle.queueing.specs.Queue.{Queue, dining, after_done, without, phase_in, ahead_in, holder_in}
use Rattle.queueing.specs.Orderly.{orderly}
use Rattle.queueing.specs.Entries.{parts, whole}

module _ (p : ℕ) where
  phase_of_gone : (es : List Entry) → phase_in (without es p) p ≡ Thinking
  phase_of_gone [] = refl
  phase_of_gone (e ∷ es) = ⊎_elim
      (λ (t : nat_eq e.drinker p ≡ true). rw t (phase_of_gone es))
      (λ (t : nat_eq e.drinker p ≡ false). rw (t, t) (phase_of_gone es))
      (cases_Bool (e.drinker == p))

  phase_of_left : (es : List Entry) (q : ℕ) → (q ≢ p) → phase_in (without es p) q ≡ phase_in es q
  phase_of_left [] q d = refl
  phase_of_left (e ∷ es) q d = ⊎_elim
      (λ (t : nat_eq e.drinker p ≡ true).
      let other : nat_eq e.drinker q ≡ false = ne_eqb e.drinker q (λ x. d (sym x ∙ eqb-true e.drinker p t)) in
      rw (t, other) (phase_of_left es q d))
      (λ (t : nat_eq e.drinker p ≡ false). rw t (ap (λ x. cond (e.drinker == q) (cond e.eating Eating Hungry) x) (phase_of_left es q d)))
      (cases_Bool (e.drinker == p))

  ahead_of_left : (es : List Entry) (q : ℕ) → (q ≢ p) → ahead_in (without es p) q ≤ ahead_in es q
  ahead_of_left [] q d = omega arith
  ahead_of_left (e ∷ es) q d = ⊎_elim
      (λ (t : nat_eq e.drinker p ≡ true).
      let other : nat_eq e.drinker q ≡ false = ne_eqb e.drinker q (λ x. d (sym x ∙ eqb-true e.drinker p t)) in
      let rest = ahead_of_left es q d in rw (t, other) (omega arith))
      (λ (t : nat_eq e.drinker p ≡ false). let rest = ahead_of_left es q d in rw t (go (e.drinker == q) _ _ rest))
      (cases_Bool (e.drinker == p))
    where
      go : (b : Bool) (x y : ℕ) → x ≤ y → cond b 0 (1 + x) ≤ cond b 0 (1 + y)
      go true x y h = omega arith
      go false x y h = omega arith

  ahead_behind : (es : List Entry) (q : ℕ) → (q ≢ p) → holder_in es q p ≡ true → ahead_in (without es p) q < ahead_in es q
  ahead_behind [] q d h = cc
  ahead_behind (e ∷ es) q d h = ⊎_elim
      (λ (t : nat_eq e.drinker p ≡ true).
      let other : nat_eq e.drinker q ≡ false = ne_eqb e.drinker q (λ x. d (sym x ∙ eqb-true e.drinker p t)) in
      let rest = ahead_of_left es q d in rw (t, other) (omega arith))
      (λ (t : nat_eq e.drinker p ≡ false). ⊎_elim
      (λ (u : nat_eq e.drinker q ≡ true). cc (rw u at h))
      (λ (u : nat_eq e.drinker q ≡ false).
      let k : holder_in es q p ≡ true = rw (u, t) at h in
      let rest = ahead_behind es q d k in rw (t, u) (omega arith))
      (cases_Bool (e.drinker == q)))
      (cases_Bool (e.drinker == p))

  holder_of_left : (es : List Entry) (q h : ℕ) → (q ≢ p) → (h ≢ p) → holder_in es q h ≡ true → holder_in (without es p) q h ≡ true
  holder_of_left [] q h d c k = k
  holder_of_left (e ∷ es) q h d c k = ⊎_elim
      (λ (t : nat_eq e.drinker p ≡ true).
      let other : nat_eq e.drinker q ≡ false = ne_eqb e.drinker q (λ x. d (sym x ∙ eqb-true e.drinker p t)) in
      let not_h : nat_eq e.drinker h ≡ false = ne_eqb e.drinker h (λ x. c (sym x ∙ eqb-true e.drinker p t)) in
      rw t (holder_of_left es q h d c (rw (other, not_h) at k)))
      (λ (t : nat_eq e.drinker p ≡ false). ⊎_elim
      (λ (u : nat_eq e.drinker q ≡ true). cc (rw u at k))
      (λ (u : nat_eq e.drinker q ≡ false). rw (t, u) (⊎_elim
      (or_left (e.drinker == h && e.eating) _)
      (λ r. or_right (e.drinker == h && e.eating) _ (holder_of_left es q h d c r))
      (or_cases (e.drinker == h && e.eating) _ (rw u at k))))
      (cases_Bool (e.drinker == q)))
      (cases_Bool (e.drinker == p))

  -- The queue stays orderly.
  none_left : (test : Entry → Bool) (es : List Entry) → list_any test es ≡ false → list_any test (without es p) ≡ false
  none_left test [] h = h
  none_left test (e ∷ es) h =
      let a = or_parts (test e) _ h in
      ⊎_elim
      (λ (t : nat_eq e.drinker p ≡ true). rw t (none_left test es a.1))
      (λ (t : nat_eq e.drinker p ≡ false). rw t (or_from (test e) _ a.0 (none_left test es a.1)))
      (cases_Bool (e.drinker == p))

  pub orderly_left : (near : ℕ → ℕ → Bool) (n : ℕ) (es : List Entry) → orderly near n es ≡ true → orderly near n (without es p) ≡ true
  orderly_left near n [] o = o
  orderly_left near n (e ∷ es) o =
      let P = parts near n e es o in
      ⊎_elim
      (λ (t : nat_eq e.drinker p ≡ true). rw t (orderly_left near n es P.rest))
      (λ (t : nat_eq e.drinker p ≡ false). rw t (whole near n e (without es p) (record {
        known = P.known;
        once = none_left (λ x. x.drinker == e.drinker) es P.once;
        first = none_left (λ x. near e.drinker x.drinker && x.eating) es P.first;
        rest = orderly_left near n es P.rest;
      })))
      (cases_Bool (e.drinker == p))

module _ (q : Queue) (p : ℕ) (t : phase_in q.entries p ≡ Eating) where
  differ : (r : ℕ) → phase_in q.entries r ≡ Hungry → r ≢ p
  differ r h e = cc

  still_eats : (h : ℕ) → phase_in (without q.entries p) h ≡ Eating → h ≢ p
  still_eats h a e = cc (phase_of_gone p q.entries)

  pub done_lawful : LawfulDone (dining q) p (dining (after_done q p))
  done_lawful = record {
    phases = record { its_own = phase_of_gone p q.entries; no_other = λ r _ d. phase_of_left p q.entries r d };
    done_of_a_holder_lowers_ahead = λ r s k. ahead_behind p q.entries r (differ r s.1) k;
    goes_on = record {
      same_drinkers = refl;
      same_cap = refl;
      same_neighbours = λ _ _. refl;
      ahead_never_rises = λ r s. ahead_of_left p q.entries r (differ r s.0.1);
      ahead_falls_or_holders_stay = λ r s. inr (λ h k a. holder_of_left p q.entries r h (differ r s.0.1) (still_eats h a.1) k);
    };
  }
