-- One drinker changes its phase: to hungry from thinking, or to eating when nobody keeps it from that. No share rises.
use Rattle.std.specs.Prelude.{◌≡◌, ℕ, ◌<◌, ◌≤◌, true, ◌&&◌, ◌≢◌, refl}
use Rattle.std.proofs.Math.Logic.{inl, inr}
use Rattle.std.proofs.Common.{⊎_elim}
use native.Mathlib.Omega.{arith}
use Rattle.std.proofs.lemmas.Bool.{cases_eq, and_parts, and_from, or_left, or_right, not-true}
use Rattle.std.proofs.lemmas.Bool.Decides.{nat_tests}
use Rattle.dining.specs.declared.phase.Phase.{Phase}
use Rattle.dining.specs.declared.phase.Phase.TheVariants.{Thinking, Hungry, Eating}
use Rattle.dining.specs.Laws.{GoesOn, LawfulHungry}
use Rattle.dining.specs.Phases.{is_hungry, is_eating, with_phase}
use Rattle.dining.proofs.Phases.{phase_here, phase_elsewhere, eating_from_test, test_from_eating, hungry_from_test, test_from_hungry}
use Rattle.graph.proofs.Counting.{number_le, sum_le, any_none}
use Rattle.forks.specs.Forks.{Forks, with_phases, after_hungry, blocks, may_eat}
use Rattle.forks.specs.Orderly.{Orderly}
use Rattle.forks.specs.Upstream.{upstream}
use Rattle.forks.specs.Waiting.{degree, eaters_behind, share, ahead, holder, dining}
use Rattle.forks.specs.WaitingLemmas.{Counted, holder_gives, holder_from, share_some, share_le, eaters_behind_most, ahead_most}

abbrev changed : Forks → ℕ → Phase → Forks
changed f q x = with_phases f (with_phase f.phase q x)

module _ (f : Forks) (q : ℕ) (x : Phase) where
  orderly_changed : Orderly f → (x ≡ Eating → (r : ℕ) → f.neighbours q r ≡ true → f.phase r ≢ Eating) → Orderly (changed f q x)
  unfolding degree with_phase
  orderly_changed F alone = record {
    few = F.few;
    room = F.room;
    known = F.known;
    symmetric = F.symmetric;
    irreflexive = F.irreflexive;
    sparse = F.sparse;
    only = F.only;
    either = F.either;
    ranked = F.ranked;
    apart = λ a b s. apart a b s.0 s.1 s.2;
  }
    where
      apart : (a b : ℕ) → f.neighbours a b ≡ true → with_phase f.phase q x a ≡ Eating → with_phase f.phase q x b ≢ Eating
      apart a b n d e = grind (
        arith,
        nat_tests,
        λ (s : f.phase a ≡ Eating) (t : f.phase b ≡ Eating). F.apart a b (n, s, t),
        F.irreflexive q,
        F.symmetric a b,
        λ (s : x ≡ Eating). alone s a,
        λ (s : x ≡ Eating). alone s b,
      )

  -- Where no share rises and no hungry drinker that counts an eater changes, every wait goes on.
  module _ (less : (r : ℕ) → share (changed f q x) r ≤ share f r)
      (lasts : (r g : ℕ) → f.phase r ≡ Hungry → f.precedes r g ≡ true → f.phase g ≡ Eating → r ≢ q) where
    falls : (p : ℕ) → ahead (changed f q x) p ≤ ahead f p
    unfolding ahead upstream
    falls p = sum_le f.drinkers (upstream f p) (upstream f p) (share f) (share (changed f q x)) (λ _ _ u. u) (λ r _ _. less r)

    stays : (p g : ℕ) → holder f p g ≡ true → with_phase f.phase q x g ≡ Eating → holder (changed f q x) p g ≡ true
    unfolding upstream
    stays p g t e =
        let h = holder_gives f p g t in
        holder_from (changed f q x) p g e (⊎_elim
        inl
        (λ (c : Counted f p g). inr (c.0, c.1, c.2, rw (phase_elsewhere f.phase q x c.0 (lasts c.0 g c.3 c.4 h.0)) c.3, c.4))
        h.1)

    goes_on_changed : GoesOn (dining f) (dining (changed f q x))
    goes_on_changed = record {
      same_drinkers = refl;
      same_cap = refl;
      same_neighbours = λ _ _. refl;
      ahead_never_rises = λ p _. falls p;
      ahead_falls_or_holders_stay = λ p _. inr (λ g t e. stays p g t e.1);
    }

  -- the share of another: only what it counts could change
  share_other : (r : ℕ) → (r ≢ q) → (f.phase r ≡ Hungry → f.precedes r q ≡ true → x ≡ Eating → f.phase q ≡ Eating)
      → share (changed f q x) r ≤ share f r
  unfolding share degree eaters_behind with_phase
  share_other r d h = rw (phase_elsewhere f.phase q x r d)
      (share_le (f.phase r) _ _ _ (λ w. number_le _ _ f.drinkers (λ i _. each w i)))
    where
      each : f.phase r ≡ Hungry → (i : ℕ) → (f.precedes r i && is_eating (with_phase f.phase q x i)) ≡ true → (f.precedes r i && is_eating (f.phase i)) ≡ true
      each w i t = grind (arith, nat_tests, eating_from_test x, test_from_eating (f.phase q), h w)

-- A thinking drinker becomes hungry.
module _ (f : Forks) (F : Orderly f) (q : ℕ) (e : f.phase q ≡ Thinking) where
  pub orderly_hungry : Orderly (after_hungry f q)
  orderly_hungry = orderly_changed f q Hungry F (λ s. cc)

  own_share : share (after_hungry f q) q ≤ share f q
  unfolding share degree
  own_share = rw (phase_here f.phase q Hungry, e) (omega (arith, eaters_behind_most (after_hungry f q) orderly_hungry q))

  no_share_rises : (r : ℕ) → share (after_hungry f q) r ≤ share f r
  no_share_rises r = ⊎_elim
      (λ s. rw s own_share)
      (λ s. share_other f q Hungry r s (λ _ _ n. cc))
      (cases_eq r q)

  pub hungry_lawful : LawfulHungry (dining f) q (dining (after_hungry f q))
  hungry_lawful = record {
    phases = record { its_own = phase_here f.phase q Hungry; no_other = λ r _. phase_elsewhere f.phase q Hungry r };
    ahead_within_cap = ahead_most (after_hungry f q) orderly_hungry q;
    goes_on = goes_on_changed f q Hungry no_share_rises (λ r g w _ _ s. cc);
  }

-- A hungry drinker is fed: none of its neighbours eats, and no hungry one precedes it.
module _ (f : Forks) (F : Orderly f) (q : ℕ) (t : may_eat f q ≡ true) where
  pub fed_was_hungry : f.phase q ≡ Hungry
  fed_was_hungry = hungry_from_test _ (and_parts (is_hungry (f.phase q)) _ t).0

  nobody_blocks : (r : ℕ) → r < f.drinkers → blocks f q r ≢ true
  nobody_blocks r = any_none (blocks f q) f.drinkers r (not-true _ (and_parts (is_hungry (f.phase q)) _ t).1)

  no_neighbour_eats : (r : ℕ) → f.neighbours q r ≡ true → f.phase r ≢ Eating
  no_neighbour_eats r n e = nobody_blocks r (F.known q r n).1
      (or_left (f.neighbours q r && is_eating (f.phase r)) _ (and_from (f.neighbours q r) _ n (test_from_eating _ e)))

  no_hungry_precedes : (r : ℕ) → f.precedes r q ≡ true → f.phase r ≢ Hungry
  no_hungry_precedes r b w = nobody_blocks r (F.known r q (F.only r q b)).0
      (or_right (f.neighbours q r && is_eating (f.phase r)) _ (and_from (f.precedes r q) _ b (test_from_hungry _ w)))

  pub orderly_fed : Orderly (changed f q Eating)
  orderly_fed = orderly_changed f q Eating F (λ _. no_neighbour_eats)

  fed_own_share : share (changed f q Eating) q ≤ share f q
  unfolding share
  fed_own_share = rw (phase_here f.phase q Eating) (share_some f q)

  fed_no_share_rises : (r : ℕ) → share (changed f q Eating) r ≤ share f r
  fed_no_share_rises r = ⊎_elim
      (λ s. rw s fed_own_share)
      (λ s. share_other f q Eating r s (λ w b _. absurd (no_hungry_precedes r b w)))
      (cases_eq r q)

  pub fed_goes_on : GoesOn (dining f) (dining (changed f q Eating))
  fed_goes_on = goes_on_changed f q Eating fed_no_share_rises (λ r g _ b e s. no_neighbour_eats g (F.only q g (rw s at b)) e)
