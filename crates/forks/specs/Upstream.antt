-- Who is upstream of a drinker: itself, and all from which a chain of "precedes" leads to it.
use Rattle.std.specs.Prelude.{◌≡◌, ℕ, zero, suc, ◌<◌, Bool, true, ◌&&◌, ◌||◌, ◌==◌}
use Rattle.graph.specs.Counting.{any}
use Rattle.forks.specs.Forks.{Forks}

-- a chain, of any length, that leads to p
pub data Chain (precedes : ℕ → ℕ → Bool) (p : ℕ) : ℕ → Type 0 where
  here : Chain precedes p p
  step : {q r : ℕ} → precedes q r ≡ true → Chain precedes p r → Chain precedes p q

-- does a chain of at most k steps, through drinkers below n, lead from q to p?
unfoldable pub leads : ℕ → (ℕ → ℕ → Bool) → ℕ → ℕ → ℕ → Bool
leads n precedes zero q p = q == p
leads n precedes (suc k) q p = q == p || any (λ r. precedes q r && leads n precedes k r p) n

-- is q upstream of p? No chain without a return has more steps than there are drinkers.
unfoldable pub upstream : Forks → ℕ → ℕ → Bool
upstream f p q = leads f.drinkers f.precedes f.drinkers q p

-- the test is what the words say
pub record UpstreamIsByChains (f : Forks) : Type 0 where
  pub has_chain : (p q : ℕ) → p < f.drinkers → upstream f p q ≡ true → Chain f.precedes p q
  pub by_chain : (p q : ℕ) → p < f.drinkers → Chain f.precedes p q → upstream f p q ≡ true
