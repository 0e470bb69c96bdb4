-- A drinker that ate is done: it comes behind all its neighbours, the diner stays orderly, and whoever it held has less ahead.
use Rattle.std.specs.Prelude.{◌≡◌, ℕ, ◌-◌, ◌<◌, ◌≤◌, Bool, true, false, cond, ◌&&◌, ◌||◌, ◌==◌, ◌≢◌, nat_lt, refl}
use Rattle.std.proofs.Common.{inl, inr, ⊎_elim, arith}
use Rattle.std.proofs.Math.Logic.{∥∥₁_map}
use Rattle.std.proofs.lemmas.Bool.{cases_lt, and_from, and_right, false_from_ne_true, true_from_ne_false}
use Rattle.std.proofs.lemmas.Bool.Decides.{nat_tests}
use Rattle.dining.specs.declared.phase.Phase.TheVariants.{Thinking, Hungry, Eating}
use Rattle.dining.specs.Laws.{LawfulDone}
use Rattle.dining.specs.Phases.{is_eating, with_phase}
use Rattle.dining.proofs.Phases.{phase_here, phase_elsewhere, test_from_eating}
use Rattle.graph.proofs.Counting.{number_le, number_lt, sum_le, sum_lt}
use Rattle.forks.specs.Forks.{Forks, behind, after_done}
use Rattle.forks.specs.Orderly.{Orderly, Ranked}
use Rattle.forks.specs.Upstream.{upstream}
use Rattle.forks.specs.Waiting.{degree, eaters_behind, share, ahead, holder, dining}
use Rattle.forks.specs.UpstreamLemmas.{upstream_self, upstream_step, upstream_fold, upstream_inside}
use Rattle.forks.specs.WaitingLemmas.{Counted, holder_gives, holder_from, share_some, share_le}

module _ (f : Forks) (h : ℕ) where
  behind_out : (q : ℕ) → behind f h h q ≢ true
  unfolding behind
  behind_out q t = grind (arith, nat_tests)

  behind_other : (p q : ℕ) → (p ≢ h) → (q ≢ h) → behind f h p q ≡ f.precedes p q
  unfolding behind
  behind_other p q d e = grind (arith, nat_tests)

-- The ranks above h's come down by one, and h goes to the top.
lowered : ℕ → ℕ → (ℕ → ℕ) → ℕ → ℕ
lowered n h rank q = cond (q == h) (n - 1) (cond (nat_lt (rank h) (rank q)) (rank q - 1) (rank q))

module _ (f : Forks) (F : Orderly f) (h : ℕ) (l : h < f.drinkers) where
  behind_only : (p q : ℕ) → behind f h p q ≡ true → f.neighbours p q ≡ true
  unfolding behind
  behind_only p q t = grind (arith, nat_tests, F.only p q)

  behind_either : (p q : ℕ) → f.neighbours p q ≡ true → (behind f h p q || behind f h q p) ≡ true
  unfolding behind
  behind_either p q n = grind (arith, nat_tests, F.either p q n, F.symmetric p q n, F.irreflexive p)

  module _ (R : Ranked f.drinkers f.precedes) where
    rank : ℕ → ℕ
    rank = lowered f.drinkers h R.rank

    rank_rises : (p q : ℕ) → behind f h p q ≡ true → rank p < rank q
    unfolding rank lowered behind
    rank_rises p q t =
        let near = behind_only p q t in
        let both = F.known p q near in
        let above_p = R.below p both.0 in
        let above_q = R.below q both.1 in
        let above_h = R.below h l in
        grind (arith, nat_tests, R.rises p q, R.differs p h both.0 l, R.differs q h both.1 l)

    rank_differs : (p q : ℕ) → p < f.drinkers → q < f.drinkers → rank p ≡ rank q → p ≡ q
    unfolding rank lowered
    rank_differs p q i j e = grind (arith, nat_tests, R.differs p q, R.differs p h, R.differs q h, R.below p, R.below q, R.below h)

    rank_below : (p : ℕ) → p < f.drinkers → rank p < f.drinkers
    unfolding rank lowered
    rank_below p i = grind (arith, nat_tests, R.below p)

    ranked_behind : Ranked f.drinkers (behind f h)
    ranked_behind = record { rank = rank; below = rank_below; rises = rank_rises; differs = rank_differs }

  pub orderly_done : Orderly (after_done f h)
  unfolding degree with_phase
  orderly_done = record {
    few = F.few;
    room = F.room;
    known = F.known;
    symmetric = F.symmetric;
    irreflexive = F.irreflexive;
    sparse = F.sparse;
    only = behind_only;
    either = behind_either;
    ranked = ∥∥₁_map F.ranked ranked_behind;
    apart = λ p q s. F.apart p q (s.0, still p s.1, still q s.2);
  }
    where
      still : (p : ℕ) → with_phase f.phase h Thinking p ≡ Eating → f.phase p ≡ Eating
      still p e = grind (arith, nat_tests)

  -- No upstream set grows, and h drops out of every other.
  upstream_done : (p : ℕ) → p < f.drinkers → (p ≢ h) → (q : ℕ) → upstream (after_done f h) p q ≡ true → (upstream f p q ≡ true) × (q ≢ h)
  upstream_done p i d = upstream_fold (after_done f h) p (λ q. (upstream f p q ≡ true) × (q ≢ h)) (upstream_self f p, d) back
    where
      back : (q r : ℕ) → behind f h q r ≡ true → (upstream f p r ≡ true) × (r ≢ h) → (upstream f p q ≡ true) × (q ≢ h)
      back q r t u =
          let d : q ≡ h → ⊥ = λ e. behind_out f h r (rw e at t) in
          (upstream_step f F p i q r (rw (behind_other f h q r d u.1) at t) u.0, d)

  eater_done : (q i : ℕ) → (q ≢ h) → (behind f h q i && is_eating (with_phase f.phase h Thinking i)) ≡ true → (f.precedes q i && is_eating (f.phase i)) ≡ true
  unfolding behind with_phase
  eater_done q i d t = grind (arith, nat_tests)

  eaters_done : (q : ℕ) → (q ≢ h) → eaters_behind (after_done f h) q ≤ eaters_behind f q
  unfolding eaters_behind
  eaters_done q d = number_le _ _ f.drinkers (λ i _. eater_done q i d)

  share_done : (q : ℕ) → (q ≢ h) → share (after_done f h) q ≤ share f q
  unfolding share degree
  share_done q d = rw (phase_elsewhere f.phase h Thinking q d) (share_le (f.phase q) _ _ _ (λ _. eaters_done q d))

  module _ (p : ℕ) (i : p < f.drinkers) (d : p ≡ h → ⊥) where
    ahead_done : ahead (after_done f h) p ≤ ahead f p
    unfolding ahead
    ahead_done = sum_le f.drinkers (upstream f p) (upstream (after_done f h) p) (share f) (share (after_done f h))
        (λ q _ u. (upstream_done p i d q u).0) (λ q _ u. share_done q (upstream_done p i d q u).1)

    ahead_less : (j : ℕ) → j < f.drinkers → cond (upstream (after_done f h) p j) (share (after_done f h) j) 0 < cond (upstream f p j) (share f j) 0
        → ahead (after_done f h) p < ahead f p
    unfolding ahead
    ahead_less = sum_lt f.drinkers (upstream f p) (upstream (after_done f h) p) (share f) (share (after_done f h))
        (λ q _ u. (upstream_done p i d q u).0) (λ q _ u. share_done q (upstream_done p i d q u).1)

    -- who is upstream no more was counted
    ahead_gone : (j : ℕ) → j < f.drinkers → upstream f p j ≡ true → upstream (after_done f h) p j ≡ false → ahead (after_done f h) p < ahead f p
    ahead_gone j l u v = ahead_less j l (rw (u, v) (share_some f j))

    ahead_short : (j : ℕ) → j < f.drinkers → upstream f p j ≡ true → share (after_done f h) j < share f j → ahead (after_done f h) p < ahead f p
    ahead_short j l u s = ahead_less j l (rw u (go (upstream (after_done f h) p j)))
      where
        go : (b : Bool) → cond b (share (after_done f h) j) 0 < share f j
        go true = s
        go false = omega arith

  module _ (e : f.phase h ≡ Eating) where
    differ : (q : ℕ) → f.phase q ≡ Hungry → q ≢ h
    differ q w s = cc

    eaters_short : (q : ℕ) → f.phase q ≡ Hungry → f.precedes q h ≡ true → eaters_behind (after_done f h) q < eaters_behind f q
    unfolding eaters_behind
    eaters_short q w b = number_lt _ _ f.drinkers h (λ i _. eater_done q i (differ q w)) l
        (and_right (behind f h q h) _ (rw phase_here refl)) (and_from (f.precedes q h) _ b (test_from_eating _ e))

    share_short : (q : ℕ) → f.phase q ≡ Hungry → f.precedes q h ≡ true → share (after_done f h) q < share f q
    unfolding share degree
    share_short q w b = rw (phase_elsewhere f.phase h Thinking q (differ q w), w) (omega (arith, eaters_short q w b))

    frees : (q : ℕ) → q < f.drinkers → f.phase q ≡ Hungry → holder f q h ≡ true → ahead (after_done f h) q < ahead f q
    frees q i w t = ⊎_elim
        (λ u. ahead_gone q i (differ q w) h l u (false_from_ne_true _ (λ v. (upstream_done q i (differ q w) h v).1 refl)))
        (λ c. ahead_short q i (differ q w) c.0 c.1 c.2 (share_short c.0 c.3 c.4))
        (holder_gives f q h t).1

    kept : (p : ℕ) → p < f.drinkers → (p ≢ h) → ahead f p ≤ ahead (after_done f h) p
        → (j : ℕ) → j < f.drinkers → upstream f p j ≡ true → upstream (after_done f h) p j ≡ true
    kept p i d s j l u = true_from_ne_false _ (λ v. omega (arith, ahead_gone p i d j l u v))

    stays : (p : ℕ) → p < f.drinkers → f.phase p ≡ Hungry → ahead f p ≤ ahead (after_done f h) p
        → (g : ℕ) → holder f p g ≡ true → with_phase f.phase h Thinking g ≡ Eating → holder (after_done f h) p g ≡ true
    stays p i w s g t a = holder_from (after_done f h) p g a (⊎_elim
        (λ u. inl (kept p i d s g (upstream_inside f F p i g u) u))
        (λ (c : Counted f p g). inr (c.0, c.1, kept p i d s c.0 c.1 c.2, still c.0 c.3, rw (behind_other f h c.0 g (differ c.0 c.3) other) c.4))
        (holder_gives f p g t).1)
      where
        d : p ≡ h → ⊥
        d = differ p w

        other : g ≡ h → ⊥
        other e = cc (phase_here f.phase h Thinking)

        still : (q : ℕ) → f.phase q ≡ Hungry → with_phase f.phase h Thinking q ≡ Hungry
        still q w = rw (phase_elsewhere f.phase h Thinking q (differ q w)) w

    pub done_lawful : LawfulDone (dining f) h (dining (after_done f h))
    done_lawful = record {
      phases = record { its_own = phase_here f.phase h Thinking; no_other = λ q _. phase_elsewhere f.phase h Thinking q };
      done_of_a_holder_lowers_ahead = λ q s t. frees q s.0 s.1 t;
      goes_on = record {
        same_drinkers = refl;
        same_cap = refl;
        same_neighbours = λ _ _. refl;
        ahead_never_rises = λ p s. ahead_done p s.0.0 (differ p s.0.1);
        ahead_falls_or_holders_stay = λ p s. ⊎_elim
            inl
            (λ m. inr (λ g t a. stays p s.0.0 s.0.1 m g t a.1))
            (cases_lt (ahead (after_done f h) p) (ahead f p));
      };
    }
