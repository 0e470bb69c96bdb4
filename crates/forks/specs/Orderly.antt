-- What a fork diner's tables keep, so that its laws hold. A user of the diner need not read this.
use Rattle.std.specs.Prelude.{◌≡◌, ℕ, ◌*◌, ◌<◌, ◌≤◌, Bool, true, ◌||◌, ◌≢◌}
use Rattle.dining.specs.declared.phase.Phase.{Phase}
use Rattle.dining.specs.declared.phase.Phase.TheVariants.{Eating}
use Rattle.graph.specs.Counting.{total}
use Rattle.forks.specs.Forks.{Forks}
use Rattle.forks.specs.Waiting.{degree}

abbrev pub OnlyNeighboursPrecede : (ℕ → ℕ → Bool) → (ℕ → ℕ → Bool) → Type 0
OnlyNeighboursPrecede neighbours precedes = (p q : ℕ) → precedes p q ≡ true → neighbours p q ≡ true

abbrev pub OneOfTwoPrecedes : (ℕ → ℕ → Bool) → (ℕ → ℕ → Bool) → Type 0
OneOfTwoPrecedes neighbours precedes = (p q : ℕ) → neighbours p q ≡ true → (precedes p q || precedes q p) ≡ true

abbrev pub EatersApart : (ℕ → ℕ → Bool) → (ℕ → Phase) → Type 0
EatersApart neighbours phase = (p q : ℕ) → (neighbours p q ≡ true) × (phase p ≡ Eating) × (phase q ≡ Eating) → ⊥

-- A rank that rises along "precedes", so that no chain comes back.
pub record Ranked (n : ℕ) (precedes : ℕ → ℕ → Bool) : Type 0 where
  pub rank : ℕ → ℕ
  pub below : (p : ℕ) → p < n → rank p < n
  pub rises : (p q : ℕ) → precedes p q ≡ true → rank p < rank q
  pub differs : (p q : ℕ) → p < n → q < n → rank p ≡ rank q → p ≡ q

pub record Orderly (f : Forks) : Type 0 where
  pub few : f.drinkers ≤ 16
  pub room : f.bottles ≤ 32
  pub known : (p q : ℕ) → f.neighbours p q ≡ true → (p < f.drinkers) × (q < f.drinkers)
  pub symmetric : (p q : ℕ) → f.neighbours p q ≡ true → f.neighbours q p ≡ true
  pub irreflexive : (p : ℕ) → f.neighbours p p ≢ true
  pub sparse : total (degree f) f.drinkers ≤ 2 * f.bottles
  pub only : OnlyNeighboursPrecede f.neighbours f.precedes
  pub either : OneOfTwoPrecedes f.neighbours f.precedes
  pub ranked : ∥ Ranked f.drinkers f.precedes ∥₁
  pub apart : EatersApart f.neighbours f.phase
