-- What a fork diner means to those who wait: what each hungry drinker has ahead, and who holds it.
use Rattle.std.specs.Prelude.{ℕ, ◌+◌, ◌*◌, Bool, cond, ◌&&◌, ◌||◌}
use Rattle.dining.specs.declared.phase.Phase.{Phase}
use Rattle.dining.specs.declared.phase.Phase.TheVariants.{Thinking, Hungry, Eating}
use Rattle.dining.specs.Dining.{Dining}
use Rattle.dining.specs.Phases.{is_hungry, is_eating}
use Rattle.graph.specs.Counting.{total, number, any}
use Rattle.forks.specs.Forks.{Forks}
use Rattle.forks.specs.Upstream.{upstream}

-- how many neighbours q has
unfoldable pub degree : Forks → ℕ → ℕ
degree f q = number (f.neighbours q) f.drinkers

-- how many eating neighbours q precedes
unfoldable pub eaters_behind : Forks → ℕ → ℕ
eaters_behind f q = number (λ r. f.precedes q r && is_eating (f.phase r)) f.drinkers

-- 1, and for a thinking drinker its neighbours, for a hungry one the eating neighbours that it precedes
abbrev pub share_in : Phase → ℕ → ℕ → ℕ
share_in Thinking n m = 1 + n
share_in Hungry n m = 1 + m
share_in Eating n m = 1

-- what q adds to the ahead of those that it is upstream of
unfoldable pub share : Forks → ℕ → ℕ
share f q = share_in (f.phase q) (degree f q) (eaters_behind f q)

-- the shares of all upstream of p
unfoldable pub ahead : Forks → ℕ → ℕ
ahead f p = total (λ q. cond (upstream f p q) (share f q) 0) f.drinkers

-- a hungry drinker upstream of p precedes h
unfoldable pub counted : Forks → ℕ → ℕ → Bool
counted f p h = any (λ q. upstream f p q && (is_hungry (f.phase q) && f.precedes q h)) f.drinkers

-- h eats, and is upstream of p or counted for a hungry one that is
unfoldable pub holder : Forks → ℕ → ℕ → Bool
holder f p h = is_eating (f.phase h) && (upstream f p h || counted f p h)

abbrev pub most_ahead : Forks → ℕ
most_ahead f = f.drinkers + 2 * f.bottles

abbrev pub dining : Forks → Dining
dining f = record {
  drinkers = f.drinkers;
  cap = most_ahead f;
  neighbours = f.neighbours;
  phase = f.phase;
  ahead = ahead f;
  holder = holder f;
}
