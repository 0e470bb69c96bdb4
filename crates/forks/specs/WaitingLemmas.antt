-- What holds of an orderly fork diner between calls: shares, aheads and holders.
use Rattle.std.specs.Prelude.{◌≡◌, ℕ, ◌+◌, ◌<◌, ◌≤◌, Bool, true, false, cond, ◌&&◌, ◌⊎◌, refl}
use Rattle.std.proofs.Common.{inl, inr, ⊎_elim}
use native.Mathlib.Omega.{arith}
use Rattle.std.proofs.lemmas.Bool.{or_left, or_right, or_cases, and_from, and_parts}
use Rattle.dining.specs.declared.phase.Phase.{Phase}
use Rattle.dining.specs.declared.phase.Phase.TheVariants.{Thinking, Hungry, Eating}
use Rattle.dining.specs.Dining.{Lawful}
use Rattle.dining.specs.Phases.{is_hungry, is_eating}
use Rattle.dining.proofs.Phases.{eating_from_test, test_from_eating, hungry_from_test, test_from_hungry}
use Rattle.graph.proofs.Counting.{total_at, total_one_more, number_le, any_from, any_gives}
use Rattle.forks.specs.Forks.{Forks}
use Rattle.forks.specs.Orderly.{Orderly}
use Rattle.forks.specs.Upstream.{upstream}
use Rattle.forks.specs.Waiting.{degree, eaters_behind, share_in, share, ahead, counted, holder, most_ahead, dining}
use Rattle.forks.specs.UpstreamLemmas.{upstream_self, upstream_inside}

-- a hungry drinker upstream of p that precedes h
abbrev pub Counted : Forks → ℕ → ℕ → Type 0
Counted f p h = (q : ℕ) × (q < f.drinkers) × (upstream f p q ≡ true) × (f.phase q ≡ Hungry) × (f.precedes q h ≡ true)

pub holder_gives : (f : Forks) (p h : ℕ) → holder f p h ≡ true → (f.phase h ≡ Eating) × ((upstream f p h ≡ true) ⊎ Counted f p h)
unfolding holder counted
holder_gives f p h e =
    let s = and_parts (is_eating (f.phase h)) _ e in
    (eating_from_test _ s.0, ⊎_elim inl (λ c. inr (go (any_gives _ f.drinkers c))) (or_cases (upstream f p h) _ s.1))
  where
    go : (q : ℕ) × (q < f.drinkers) × ((upstream f p q && (is_hungry (f.phase q) && f.precedes q h)) ≡ true) → Counted f p h
    go (q, l, t) =
        let a = and_parts (upstream f p q) _ t in
        let b = and_parts (is_hungry (f.phase q)) _ a.1 in
        (q, l, a.0, hungry_from_test _ b.0, b.1)

pub holder_from : (f : Forks) (p h : ℕ) → f.phase h ≡ Eating → (upstream f p h ≡ true) ⊎ Counted f p h → holder f p h ≡ true
unfolding holder counted
holder_from f p h e c = and_from (is_eating (f.phase h)) _ (test_from_eating _ e) (⊎_elim
    (or_left (upstream f p h) _)
    (λ t. or_right (upstream f p h) _ (any_from _ f.drinkers t.0 t.1
    (and_from (upstream f p t.0) _ t.2 (and_from (is_hungry (f.phase t.0)) _ (test_from_hungry _ t.3) t.4))))
    c)

-- Shares.
pub share_some : (f : Forks) (q : ℕ) → 1 ≤ share f q
unfolding share
share_some f q = go (f.phase q) (degree f q) (eaters_behind f q)
  where
    go : (x : Phase) (n m : ℕ) → 1 ≤ share_in x n m
    go Thinking n m = omega arith
    go Hungry n m = omega arith
    go Eating n m = omega arith

share_most : (x : Phase) (n m : ℕ) → m ≤ n → share_in x n m ≤ 1 + n
share_most Thinking n m h = omega arith
share_most Hungry n m h = omega arith
share_most Eating n m h = omega arith

pub share_le : (x : Phase) (n m m' : ℕ) → (x ≡ Hungry → m' ≤ m) → share_in x n m' ≤ share_in x n m
share_le Thinking n m m' h = omega arith
share_le Hungry n m m' h = omega (arith, h refl)
share_le Eating n m m' h = omega arith

module _ (f : Forks) (F : Orderly f) where
  pub eaters_behind_most : (q : ℕ) → eaters_behind f q ≤ degree f q
  unfolding eaters_behind degree
  eaters_behind_most q = number_le _ _ f.drinkers (λ i l t. F.only q i (and_parts (f.precedes q i) _ t).0)

  pub ahead_most : (p : ℕ) → ahead f p ≤ most_ahead f
  unfolding ahead share
  ahead_most p = omega (
    arith,
    F.sparse,
    total_one_more (λ q. cond (upstream f p q) (share f q) 0) (degree f) f.drinkers
        (λ i l. each i (upstream f p i)),
  )
    where
      each : (q : ℕ) (b : Bool) → cond b (share f q) 0 ≤ 1 + degree f q
      each q true = share_most (f.phase q) (degree f q) (eaters_behind f q) (eaters_behind_most q)
      each q false = omega arith

  ahead_some : (p : ℕ) → p < f.drinkers → 1 ≤ ahead f p
  unfolding ahead
  ahead_some p l =
      let own = total_at (λ q. cond (upstream f p q) (share f q) 0) f.drinkers p l in
      omega (arith, share_some f p, rw (upstream_self f p) at own)

  pub holder_inside : (p h : ℕ) → p < f.drinkers → holder f p h ≡ true → h < f.drinkers
  holder_inside p h l e = ⊎_elim (upstream_inside f F p l h) (λ c. (F.known c.0 h (F.only c.0 h c.4)).1) (holder_gives f p h e).1

  pub lawful : Lawful (dining f)
  lawful = record {
    at_most_sixteen_drinkers = F.few;
    cap_at_most_thousand = (let few = F.few in let room = F.room in omega arith);
    neighbours_are_drinkers = F.known;
    neighbours_are_mutual = F.symmetric;
    nobody_is_its_own_neighbour = F.irreflexive;
    neighbours_never_eat_together = λ p q n d e. F.apart p q (n, d.1, e.1);
    holders_eat = λ p h s e. (holder_inside p h s.0 e, (holder_gives f p h e).0);
    held_has_some_ahead = λ p h s e. ahead_some p s.0;
  }
