-- Who is upstream of a drinker: the test goes on along "precedes", stays among the drinkers, and is the words' own closure.
use Rattle.std.specs.Prelude.{◌≡◌, ℕ, zero, suc, ◌+◌, ◌<◌, ◌≤◌, Bool, true, ◌==◌}
use Rattle.std.proofs.Math.Path.{refl}
use Rattle.std.proofs.Math.Bool.{Bool-set}
use Rattle.std.proofs.Math.Logic.{⊎_elim, ∥∥₁_elim}
use native.Mathlib.Omega.{arith}
use Rattle.std.proofs.lemmas.Bool.{or_left, or_right, or_cases, and_from, and_parts, eq-eqb, eqb-true}
use Rattle.forks.specs.Forks.{Forks}
use Rattle.forks.specs.Orderly.{Orderly, Ranked}
use Rattle.forks.specs.Upstream.{leads, upstream, Chain, here, step, UpstreamIsByChains}
use Rattle.graph.proofs.Counting.{any_from, any_gives}

module _ (n : ℕ) (b : ℕ → ℕ → Bool) (p : ℕ) where
  leads_self : (k : ℕ) → leads n b k p p ≡ true
  unfolding leads
  leads_self zero = eq-eqb p p refl
  leads_self (suc k) = or_left (p == p) _ (eq-eqb p p refl)

  leads_step : (k q r : ℕ) → r < n → b q r ≡ true → leads n b k r p ≡ true → leads n b (suc k) q p ≡ true
  unfolding leads
  leads_step k q r l e c = or_right (q == p) _ (any_from _ n r l (and_from (b q r) _ e c))

  -- what holds of p, and comes back along a step, holds of all from which a chain leads to p
  leads_fold : (P : ℕ → Type 0) → P p → ((q r : ℕ) → r < n → b q r ≡ true → P r → P q) → (k q : ℕ) → leads n b k q p ≡ true → P q
  unfolding leads
  leads_fold P own back zero q c = rw (eqb-true q p c) own
  leads_fold P own back (suc k) q c = ⊎_elim
      (λ e. rw (eqb-true q p e) own)
      (λ e. let r = any_gives _ n e in
      let s = and_parts (b q r.0) _ r.2 in
      back q r.0 r.1 s.0 (leads_fold P own back k r.0 s.1))
      (or_cases (q == p) _ c)

module _ (f : Forks) (p : ℕ) where
  pub upstream_self : upstream f p p ≡ true
  unfolding upstream
  upstream_self = leads_self f.drinkers f.precedes p f.drinkers

  pub upstream_fold : (P : ℕ → Type 0) → P p → ((q r : ℕ) → f.precedes q r ≡ true → P r → P q) → (q : ℕ) → upstream f p q ≡ true → P q
  unfolding upstream
  upstream_fold P own back q u = leads_fold f.drinkers f.precedes p P own (λ q r _. back q r) f.drinkers q u

-- By a rank that rises along "precedes", a chain is no longer than the ranks between its ends.
module _ (f : Forks) (F : Orderly f) (R : Ranked f.drinkers f.precedes) (p : ℕ) (l : p < f.drinkers) where
  SoonLed : ℕ → Type 0
  SoonLed q = (R.rank q ≤ R.rank p) × ((k : ℕ) → R.rank p ≤ R.rank q + k → leads f.drinkers f.precedes k q p ≡ true)

  soon_back : (q r : ℕ) → f.precedes q r ≡ true → SoonLed r → SoonLed q
  unfolding SoonLed
  soon_back q r b h = let rise = R.rises q r b in (omega (arith, h.0), go)
    where
      go : (k : ℕ) → R.rank p ≤ R.rank q + k → leads f.drinkers f.precedes k q p ≡ true
      go zero e = absurd (omega (arith, R.rises q r b, h.0))
      go (suc k) e = leads_step f.drinkers f.precedes p k q r (F.known q r (F.only q r b)).1 b (h.1 k (omega (arith, R.rises q r b)))

  soon_from : (q : ℕ) → upstream f p q ≡ true → SoonLed q
  unfolding SoonLed
  soon_from = upstream_fold f p SoonLed (omega arith, λ k _. leads_self f.drinkers f.precedes p k) soon_back

  step_by_rank : (q r : ℕ) → f.precedes q r ≡ true → upstream f p r ≡ true → upstream f p q ≡ true
  unfolding upstream SoonLed
  step_by_rank q r b u = (soon_back q r b (soon_from r u)).1 f.drinkers (omega (arith, R.below p l))

module _ (f : Forks) (F : Orderly f) (p : ℕ) (l : p < f.drinkers) where
  pub upstream_step : (q r : ℕ) → f.precedes q r ≡ true → upstream f p r ≡ true → upstream f p q ≡ true
  upstream_step q r b u = ∥∥₁_elim F.ranked (Bool-set _ _) (λ R. step_by_rank f F R p l q r b u)

  pub upstream_inside : (q : ℕ) → upstream f p q ≡ true → q < f.drinkers
  upstream_inside = upstream_fold f p (λ q. q < f.drinkers) l (λ q r b _. (F.known q r (F.only q r b)).0)

  chain_upstream : {q : ℕ} → Chain f.precedes p q → upstream f p q ≡ true
  chain_upstream here = upstream_self f p
  chain_upstream (step {q} {r} b c) = upstream_step q r b (chain_upstream c)

pub upstream_is_by_chains : (f : Forks) → Orderly f → UpstreamIsByChains f
upstream_is_by_chains f F = record {
  has_chain = λ p q _. upstream_fold f p (Chain f.precedes p) here (λ q r b c. step b c) q;
  by_chain = λ p q l. chain_upstream f F p l;
}
