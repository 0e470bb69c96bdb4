-- The laws of the pattern wire: what it loses lowers the grace of that line alone, and every grace is within the bound.
use Rattle.std.specs.Prelude.{◌≡◌, ℕ, ◌<◌, ◌≤◌, Bool, true, false, cond, ◌≢◌, ◌⊎◌, Some, None, Option, refl}
use Rattle.std.proofs.Common.{ap, ◌∙◌, inl, inr, arith}
use Rattle.std.proofs.lemmas.List.{get_or-set_same, get_or-set_other}
use Rattle.std.proofs.Math.Logic.{∥∥₁_elim}
use Rattle.std.proofs.Props.{props}
use Rattle.wires.specs.declared.frame.Frame.{Frame}
use Rattle.wires.specs.declared.pattern_wire.PatternWire.{PatternWire}
use Rattle.wires.specs.Patterns.{run, longest, following}
use Rattle.wires.specs.PatternWires.{reading, place_of, loses, after_carry, pattern_meaning, PatternCarry}
use Rattle.wires.specs.Wiring.{lines, WireLaws}
use Rattle.wires.specs.Runs.{run_at_most_longest, run_falls, zero_stops_if_usable}

bound_within_seven : (w : PatternWire) → (pattern_meaning w).bound ≤ 7
bound_within_seven w = ∥∥₁_elim w.pattern.usable (Prim.hlevel props) (λ usable. usable.at_most_seven_in_a_row)

-- A frame is lost, and the run of 1 before the line is one shorter.
grace_falls : (w v : PatternWire) (l : ℕ) → l < lines → loses (reading w) l ≡ true → reading v ≡ after_carry (reading w) l → (pattern_meaning v).grace l < (pattern_meaning w).grace l
grace_falls w v l h lost moved =
    let ds = (reading w).digits in
    let p = place_of (reading w) l in
    let next : place_of (reading v) l ≡ following ds p = ap (λ r. place_of r l) moved ∙ get_or-set_same w.places l _ 0 (omega (arith, w.one_for_each_line)) in
    let now : (pattern_meaning v).grace l ≡ run ds (following ds p) = ap (λ r. run r.digits (place_of (reading v) l)) moved ∙ ap (run ds) next in
    omega (arith, now, run_falls ds p (w.within l h) (zero_stops_if_usable ds w.pattern.usable) lost)

grace_kept : (w v : PatternWire) (l k : ℕ) → k ≢ l → reading v ≡ after_carry (reading w) l → (pattern_meaning v).grace k ≡ (pattern_meaning w).grace k
grace_kept w v l k other moved =
    ap (λ r. run r.digits (place_of r k)) moved ∙ ap (run (reading w).digits) (get_or-set_other w.places l k _ 0 other)

through_or_lost : (w v : PatternWire) (l : ℕ) (f : Frame) (came : Option Frame) (lost : Bool) → loses (reading w) l ≡ lost → l < lines → came ≡ cond lost None (Some f) → reading v ≡ after_carry (reading w) l
    → (came ≡ Some f) ⊎ ((came ≡ None) × ((pattern_meaning v).grace l < (pattern_meaning w).grace l))
through_or_lost w v l f came true e h out moved = inr (out, grace_falls w v l h e moved)
through_or_lost w v l f came false e h out moved = inl out

pub pattern_laws : WireLaws pattern_meaning PatternCarry
pattern_laws = record {
  always_lawful = λ w. record {
    bound_at_most_seven = bound_within_seven w;
    grace_within_bound = λ l h. run_at_most_longest (reading w).digits (place_of (reading w) l) (w.within l h);
  };
  carry_is_lawful = λ w l f came v h did. record {
    same_bound = ap (λ r. longest r.digits) did.1;
    same_frame_or_grace_falls = through_or_lost w v l f came (loses (reading w) l) refl h did.0 did.1;
    other_lines_keep_their_grace = λ k within other. grace_kept w v l k other did.1;
  };
}
