-- The pattern wire as a model: a pattern, and for each line the place of the digit that it reads next.
-- How it starts, what it does with a frame, and what it means.
use Rattle.std.specs.Prelude.{◌≡◌, ℕ, ◌<◌, ◌≤◌, Bool, cond, List, [], ◌∷◌, replicate, Some, None, Ok, Err, Option, Result, ◌==◌, slice_index, slice_set}
use Rattle.refusals.specs.declared.Refusal.{Refusal}
use Rattle.refusals.specs.Numbers.{number_of}
use Rattle.wires.specs.declared.frame.Frame.{Frame}
use Rattle.wires.specs.declared.pattern_wire.PatternWire.{PatternWire}
use Rattle.wires.specs.Patterns.{run, longest, following, Usable}
use Rattle.wires.specs.Wiring.{Wiring, lines}

pub record Reading : Type 0 where
  pub digits : List ℕ
  pub places : List ℕ

-- the code's wire, by its model
abbrev pub reading : PatternWire → Reading
reading w = record { digits = w.pattern.digits.items; places = w.places }

-- the start: every line is at the first digit
abbrev pub started : List ℕ → Reading
started ds = record { digits = ds; places = replicate lines 0 }

abbrev pub place_of : Reading → ℕ → ℕ
place_of r l = slice_index r.places l

-- the digit that line l reads next is 1
abbrev pub loses : Reading → ℕ → Bool
loses r l = slice_index r.digits (place_of r l) == 49

-- the place of line l moves on
abbrev pub after_carry : Reading → ℕ → Reading
after_carry r l = record { digits = r.digits; places = slice_set r.places l (following r.digits (place_of r l)) }

-- What it means: the grace of a line is the run of 1 that it has before it.
abbrev pub pattern_meaning : PatternWire → Wiring
pattern_meaning w = record { bound = longest (reading w).digits; grace = λ l. run (reading w).digits (place_of (reading w) l) }

-- Exactly what it does.
abbrev pub PatternCarry : PatternWire → ℕ → Frame → Option Frame → PatternWire → Type 0
PatternCarry w l f came v = (came ≡ cond (loses (reading w) l) None (Some f)) × (reading v ≡ after_carry (reading w) l)

-- what `loses_next` answers
abbrev pub LosesAnswer : Reading → ℕ → Result Bool Refusal → Type 0
LosesAnswer r l (Ok lost) = (l < lines) × (lost ≡ loses r l)
LosesAnswer r l (Err e) = (lines ≤ l) × (number_of e ≡ 18)

-- The wire made from a pattern. From one that cannot be used: that of the pattern 0, whose bound is 0, so that it loses nothing.
pub record Made (ds : List ℕ) (w : PatternWire) : Type 0 where
  pub usable : Usable ds → reading w ≡ started ds
  pub unusable : (Usable ds → ⊥) → (reading w ≡ started (48 ∷ [])) × ((pattern_meaning w).bound ≡ 0)
