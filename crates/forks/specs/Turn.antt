-- A turn: drinkers are visited one after the other, and in the end each that is still hungry has a holder.
use Rattle.std.specs.Prelude.{◌≡◌, ℕ, zero, suc, ◌<◌, Bool, true, false, ◌&&◌, ◌⊎◌, refl}
use Rattle.std.proofs.Common.{◌∙◌, inl, inr, ⊎_elim, arith}
use Rattle.std.proofs.Math.Bool.{Bool-set}
use Rattle.std.proofs.Math.Logic.{∥∥₁_elim}
use Rattle.std.proofs.lemmas.Bool.{cases_eq, and_parts, and_cases, or_cases, not-false}
use Rattle.dining.specs.declared.phase.Phase.{Phase}
use Rattle.dining.specs.declared.phase.Phase.TheVariants.{Hungry, Eating}
use Rattle.dining.specs.Dining.{Dining, IsIn, Holds, Lawful}
use Rattle.dining.specs.Laws.{GoesOn, LawfulTurn}
use Rattle.dining.specs.Phases.{is_hungry, is_eating, with_phase}
use Rattle.dining.proofs.Phases.{phase_here, phase_elsewhere, eating_from_test, hungry_from_test, test_from_hungry}
use Rattle.graph.specs.Counting.{any}
use Rattle.graph.proofs.Counting.{any_from, any_gives}
use Rattle.forks.specs.Forks.{Forks, with_phases, blocks, may_eat, feed_if, visited, after_turn}
use Rattle.forks.specs.Orderly.{Orderly, Ranked}
use Rattle.forks.specs.Upstream.{upstream}
use Rattle.forks.specs.Waiting.{holder, dining}
use Rattle.forks.specs.OnePhase.{fed_was_hungry, orderly_fed, fed_goes_on}
use Rattle.forks.specs.UpstreamLemmas.{upstream_self, upstream_step, upstream_inside}
use Rattle.forks.specs.WaitingLemmas.{holder_from, holder_inside, lawful}

-- Feeding, step by step: some of the hungry eat, and every wait goes on.
record Feeds (d e : Dining) : Type 0 where
  each : (q : ℕ) → (e.phase q ≡ d.phase q) ⊎ ((d.phase q ≡ Hungry) × (e.phase q ≡ Eating))
  goes_on : GoesOn d e

feeds_nobody : (d : Dining) → Feeds d d
feeds_nobody d = record {
  each = λ _. inl refl;
  goes_on = record {
    same_drinkers = refl;
    same_cap = refl;
    same_neighbours = λ _ _. refl;
    ahead_never_rises = λ _ _. omega arith;
    ahead_falls_or_holders_stay = λ _ _. inr (λ _ t _. t);
  };
}

feeds_one : (f : Forks) → Orderly f → (q : ℕ) → may_eat f q ≡ true → Feeds (dining f) (dining (with_phases f (with_phase f.phase q Eating)))
feeds_one f F q t = record { each = each; goes_on = fed_goes_on f F q t }
  where
    each : (r : ℕ) → (with_phase f.phase q Eating r ≡ f.phase r) ⊎ ((f.phase r ≡ Hungry) × (with_phase f.phase q Eating r ≡ Eating))
    each r = ⊎_elim
        (λ s. inr (rw s (fed_was_hungry f F q t), rw s (phase_here f.phase q Eating)))
        (λ s. inl (phase_elsewhere f.phase q Eating r s))
        (cases_eq r q)

-- who is hungry after was so before, and who ate before eats after
still_hungry : (d e : Dining) → Feeds d e → (p : ℕ) → e.phase p ≡ Hungry → d.phase p ≡ Hungry
still_hungry d e g p w = ⊎_elim (λ s. cc) (λ s. s.0) (g.each p)

still_eating : (d e : Dining) → Feeds d e → (p : ℕ) → d.phase p ≡ Eating → e.phase p ≡ Eating
still_eating d e g p w = ⊎_elim (λ s. cc) (λ s. s.1) (g.each p)

module _ (a b c : Dining) (A : Lawful a) (g : Feeds a b) (k : Feeds b c) where
  between : (p : ℕ) → IsIn a Hungry p → IsIn c Hungry p → IsIn b Hungry p
  between p h i = (omega (arith, h.0, g.goes_on.same_drinkers), still_hungry b c k p i.1)

  holders : (p : ℕ) → IsIn a Hungry p → IsIn c Hungry p
      → (c.ahead p < a.ahead p) ⊎ ((h : ℕ) → Holds a h p → IsIn c Eating h → Holds c h p)
  holders p h i =
      let m = between p h i in
      let first = g.goes_on.ahead_never_rises p (h, m) in
      let second = k.goes_on.ahead_never_rises p (m, i) in
      ⊎_elim
      (λ s. inl (omega (arith, s, second)))
      (λ s. ⊎_elim
      (λ t. inl (omega (arith, t, first)))
      (λ t. inr (λ x o e.
      let ate = A.holders_eat p x h o in
      t x (s x o (omega (arith, ate.0, g.goes_on.same_drinkers), still_eating a b g x ate.1)) e))
      (k.goes_on.ahead_falls_or_holders_stay p (m, i)))
      (g.goes_on.ahead_falls_or_holders_stay p (h, m))

  feeds_then : Feeds a c
  feeds_then = record {
    each = λ q. ⊎_elim
        (λ s. ⊎_elim (λ t. inl (s ∙ t)) (λ t. inr (t.0, s ∙ t.1)) (g.each q))
        (λ s. inr (still_hungry a b g q s.0, s.1))
        (k.each q);
    goes_on = record {
      same_drinkers = k.goes_on.same_drinkers ∙ g.goes_on.same_drinkers;
      same_cap = k.goes_on.same_cap ∙ g.goes_on.same_cap;
      same_neighbours = λ p q. k.goes_on.same_neighbours p q ∙ g.goes_on.same_neighbours p q;
      ahead_never_rises = λ p s. (let m = between p s.0 s.1 in
          omega (arith, g.goes_on.ahead_never_rises p (s.0, m), k.goes_on.ahead_never_rises p (m, s.1)));
      ahead_falls_or_holders_stay = λ p s. holders p s.0 s.1;
    };
  }

-- Somebody keeps q from eating: a neighbour that eats, or a hungry drinker that precedes it.
abbrev Blocked : Forks → ℕ → Type 0
Blocked f q = (r : ℕ) × (((f.neighbours q r ≡ true) × (f.phase r ≡ Eating)) ⊎ ((f.precedes r q ≡ true) × (f.phase r ≡ Hungry)))

blocked : (f : Forks) (q : ℕ) → f.phase q ≡ Hungry → may_eat f q ≡ false → Blocked f q
blocked f q w t =
    let a : any (blocks f q) f.drinkers ≡ true = ⊎_elim
    (λ s. cc (test_from_hungry _ w))
    (λ s. not-false _ s)
    (and_cases (is_hungry (f.phase q)) _ t) in
    let r = any_gives (blocks f q) f.drinkers a in (
      r.0,
      ⊎_elim
          (λ s. let x = and_parts (f.neighbours q r.0) _ s in inl (x.0, eating_from_test _ x.1))
          (λ s. let x = and_parts (f.precedes r.0 q) _ s in inr (x.0, hungry_from_test _ x.1))
          (or_cases (f.neighbours q r.0 && is_eating (f.phase r.0)) _ r.2),
    )

-- who is blocked stays so while others are fed
blocked_on : (f : Forks) (phases : ℕ → Phase) → Orderly f → Feeds (dining f) (dining (with_phases f phases)) → (q : ℕ) → Blocked f q → Blocked (with_phases f phases) q
blocked_on f phases F g q (r, s) = (
  r,
  ⊎_elim
      (λ x. inl (x.0, still_eating (dining f) (dining (with_phases f phases)) g r x.1))
      (λ x. ⊎_elim
      (λ y. inr (x.0, y ∙ x.1))
      (λ y. inl (F.symmetric r q (F.only r q x.0), y.1))
      (g.each r))
      s,
)

-- One visit.
visit_orderly : (f : Forks) → Orderly f → (q : ℕ) (b : Bool) → may_eat f q ≡ b → Orderly (with_phases f (feed_if b f.phase q))
visit_orderly f F q true t = orderly_fed f F q t
visit_orderly f F q false t = F

visit_feeds : (f : Forks) → Orderly f → (q : ℕ) (b : Bool) → may_eat f q ≡ b → Feeds (dining f) (dining (with_phases f (feed_if b f.phase q)))
visit_feeds f F q true t = feeds_one f F q t
visit_feeds f F q false t = feeds_nobody (dining f)

visit_blocked : (f : Forks) → Orderly f → (q : ℕ) (b : Bool) → may_eat f q ≡ b → feed_if b f.phase q q ≡ Hungry → Blocked (with_phases f (feed_if b f.phase q)) q
visit_blocked f F q true t w = cc (phase_here f.phase q Eating)
visit_blocked f F q false t w = blocked f q w t

-- What stands after the visits of the first n.
record Visits (f : Forks) (n : ℕ) (g : Forks) : Type 0 where
  orderly : Orderly g
  feeds : Feeds (dining f) (dining g)
  hungry_blocked : (q : ℕ) → q < n → g.phase q ≡ Hungry → Blocked g q

visits : (f : Forks) → Orderly f → (n : ℕ) → Visits f n (with_phases f (visited f n))
unfolding visited
visits f F zero = record { orderly = F; feeds = feeds_nobody (dining f); hungry_blocked = λ q l. absurd (omega arith) }
visits f F (suc n) =
    let v = visits f F n in
    let g = with_phases f (visited f n) in
    let s = visit_feeds g v.orderly n (may_eat g n) refl in
    record {
      orderly = visit_orderly g v.orderly n (may_eat g n) refl;
      feeds = feeds_then (dining f) (dining g) _ (lawful f F) v.feeds s;
      hungry_blocked = λ q l w. ⊎_elim
          (λ e. rw e (visit_blocked g v.orderly n (may_eat g n) refl (rw e at w)))
          (λ e. blocked_on g _ v.orderly s q (v.hungry_blocked q (omega arith) (still_hungry (dining g) _ s q w)))
          (cases_eq q n);
    }

-- Where each hungry drinker is blocked, each has a holder: go back along "precedes" until one eats.
module _ (f : Forks) (F : Orderly f) (hold : (q : ℕ) → q < f.drinkers → f.phase q ≡ Hungry → Blocked f q) (p : ℕ) (l : p < f.drinkers) where
  held_by : (h : ℕ) → holder f p h ≡ true → any (holder f p) f.drinkers ≡ true
  held_by h t = any_from (holder f p) f.drinkers h (holder_inside f F p h l t) t

  go_back : (R : Ranked f.drinkers f.precedes) (k q : ℕ) → R.rank q < k → upstream f p q ≡ true → f.phase q ≡ Hungry
      → any (holder f p) f.drinkers ≡ true
  go_back R zero q m u w = absurd (omega arith)
  go_back R (suc k) q m u w =
      let i = upstream_inside f F p l q u in
      let b = hold q i w in
      let r = b.0 in
      let above : f.precedes r q ≡ true → upstream f p r ≡ true = λ s. upstream_step f F p l r q s u in
      ⊎_elim
      (λ (s : (f.neighbours q r ≡ true) × (f.phase r ≡ Eating)). held_by r
      (holder_from f p r s.1 (⊎_elim
      (λ t. inr (q, i, u, w, t))
      (λ t. inl (above t))
      (or_cases (f.precedes q r) _ (F.either q r s.0)))))
      (λ s. go_back R k r (omega (arith, R.rises r q s.0)) (above s.0) s.1)
      b.1

  held : f.phase p ≡ Hungry → (h : ℕ) × (holder f p h ≡ true)
  held w =
      let some = ∥∥₁_elim F.ranked (Bool-set _ _) (λ R. go_back R (suc (R.rank p)) p (omega arith) (upstream_self f p) w) in
      let h = any_gives (holder f p) f.drinkers some in
      (h.0, h.2)

module _ (f : Forks) (F : Orderly f) where
  pub orderly_visited : (n : ℕ) → Orderly (with_phases f (visited f n))
  orderly_visited n = (visits f F n).orderly

  pub turn_lawful : LawfulTurn (dining f) (dining (after_turn f))
  turn_lawful = let v = visits f F f.drinkers in record {
    phases = λ q _. v.feeds.each q;
    hungry_have_holders = λ p s. held (after_turn f) v.orderly v.hungry_blocked p s.0 s.1;
    goes_on = v.feeds.goes_on;
  }
