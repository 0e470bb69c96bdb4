-- Phases as tests, and the phases of all drinkers when one of them changes.
use Rattle.std.specs.Prelude.{ℕ, Bool, true, false, cond, ◌==◌}
use Rattle.dining.specs.declared.phase.Phase.{Phase}
use Rattle.dining.specs.declared.phase.Phase.TheVariants.{Thinking, Hungry, Eating}

abbrev pub is_hungry : Phase → Bool
is_hungry Thinking = false
is_hungry Hungry = true
is_hungry Eating = false

abbrev pub is_eating : Phase → Bool
is_eating Thinking = false
is_eating Hungry = false
is_eating Eating = true

-- the same phases, but that p is now in phase x
unfoldable pub with_phase : (ℕ → Phase) → ℕ → Phase → ℕ → Phase
with_phase phases p x q = cond (q == p) x (phases q)
