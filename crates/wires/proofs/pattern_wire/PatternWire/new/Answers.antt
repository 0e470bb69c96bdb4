use Rattle.std.proofs.Common.{ℕ, ◌<◌, List, length, get_or, replicate, arith, rules}
use Rattle.std.proofs.lemmas.List.{get_or-replicate}
use Rattle.wires.specs.Patterns.{Usable}
use Rattle.wires.specs.Runs.{zero_stops_if_usable}
use Rattle.wires.proofs.pattern_wire.PatternWire.new.Goals as goal

-- at the start every line is at the first digit, and there is one
starts_within : (ds : List ℕ) → ∥ Usable ds ∥₁ → (l : ℕ) → l < 128 → get_or (replicate 128 0) l 0 < length ds
starts_within ds usable l h = omega (arith, get_or-replicate {A = ℕ} 128 l 0 0 h, zero_stops_if_usable ds usable)

pub invariant_of-result : goal.invariant_of-result
invariant_of-result c = search (rules, starts_within)
