-- What a diner's calls answer, and which refusal comes first: 1 beyond the drinkers, then 3 in another phase.
use Rattle.std.specs.Prelude.{◌≡◌, ℕ, ◌<◌, ◌≤◌, ◌≢◌, ◌⊎◌, Ok, Err, Result}
use Rattle.dining.specs.declared.phase.Phase.{Phase}
use Rattle.dining.specs.Dining.{Dining, IsIn}
use Rattle.refusals.specs.declared.Refusal.{Refusal}
use Rattle.refusals.specs.Numbers.{number_of}

-- the answer to the question for p's phase
abbrev pub PhaseAnswer : Dining → ℕ → Result Phase Refusal → Type 0
PhaseAnswer d p (Ok x) = IsIn d x p
PhaseAnswer d p (Err e) = (d.drinkers ≤ p) × (number_of e ≡ 1)

-- why a call for drinkers in phase x is refused to p
abbrev pub Unfit : Dining → Phase → ℕ → Refusal → Type 0
Unfit d x p e = ((d.drinkers ≤ p) × (number_of e ≡ 1)) ⊎ ((p < d.drinkers) × (d.phase p ≢ x) × (number_of e ≡ 3))

-- A call for drinkers in phase x: either it is granted and `changed` holds, or it is refused and `unchanged` does.
abbrev pub ChangeAnswer : Dining → Phase → ℕ → Type 0 → Type 0 → Result Unit Refusal → Type 0
ChangeAnswer d x p changed unchanged (Ok _) = IsIn d x p × changed
ChangeAnswer d x p changed unchanged (Err e) = Unfit d x p e × unchanged
