-- The wire that loses nothing: what it means, and exactly what it does.
use Rattle.std.specs.Prelude.{◌≡◌, ℕ, Some, Option}
use Rattle.wires.specs.declared.faultless.FaultlessWire.{FaultlessWire}
use Rattle.wires.specs.declared.frame.Frame.{Frame}
use Rattle.wires.specs.Wiring.{Wiring}

abbrev pub faultless_meaning : FaultlessWire → Wiring
faultless_meaning w = record { bound = 0; grace = λ l. 0 }

abbrev pub FaultlessCarry : FaultlessWire → ℕ → Frame → Option Frame → FaultlessWire → Type 0
FaultlessCarry w l f came v = (came ≡ Some f) × (v ≡ w)
