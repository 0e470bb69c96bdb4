-- What a wire means: on each of its 128 lines frames may be lost, but never more than a bound in a row.
-- How many more may be lost on a line before one comes through is the line's grace.
use Rattle.std.specs.Prelude.{◌≡◌, ℕ, ◌<◌, ◌≤◌, ◌≢◌, ◌⊎◌, Some, None, Ok, Err, Option, Result}
use Rattle.wires.specs.declared.frame.Frame.{Frame}
use Rattle.refusals.specs.declared.Refusal.{Refusal}
use Rattle.refusals.specs.Numbers.{number_of}

pub record Wiring : Type 0 where
  pub bound : ℕ
  pub grace : ℕ → ℕ

-- how many lines every wire has
abbrev pub lines : ℕ
lines = 128

-- What holds of every wire at every moment.
pub record Lawful (w : Wiring) : Type 0 where
  pub bound_at_most_seven : w.bound ≤ 7
  pub grace_within_bound : (l : ℕ) → l < lines → w.grace l ≤ w.bound

-- A frame is carried on line l: `came` comes out, with w before and v after.
pub record LawfulCarry (w : Wiring) (l : ℕ) (f : Frame) (came : Option Frame) (v : Wiring) : Type 0 where
  pub same_bound : v.bound ≡ w.bound
  -- nothing is lower than 0, so at grace 0 nothing is lost
  pub same_frame_or_grace_falls : (came ≡ Some f) ⊎ ((came ≡ None) × (v.grace l < w.grace l))
  pub other_lines_keep_their_grace : (k : ℕ) → k < lines → k ≢ l → v.grace k ≡ w.grace k

-- A kind of wire keeps the meaning: each one that exists is lawful, and so is whatever it does with a frame.
pub record WireLaws {S : Type 0} (means : S → Wiring) (carries : S → ℕ → Frame → Option Frame → S → Type 0) : Type 0 where
  pub always_lawful : (s : S) → Lawful (means s)
  pub carry_is_lawful : (s : S) (l : ℕ) (f : Frame) (came : Option Frame) (t : S) → l < lines → carries s l f came t → LawfulCarry (means s) l f came (means t)

-- What `carry` answers: on a line that there is, what comes out, and `carried` holds of it; beyond the lines 18, and `unchanged` holds.
abbrev pub CarryAnswer : ℕ → (Option Frame → Type 0) → Type 0 → Result (Option Frame) Refusal → Type 0
CarryAnswer l carried unchanged (Ok came) = (l < lines) × carried came
CarryAnswer l carried unchanged (Err e) = (lines ≤ l) × (number_of e ≡ 18) × unchanged
