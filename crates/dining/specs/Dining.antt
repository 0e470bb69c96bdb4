-- What a diner means, at one moment: its drinkers, who is whose neighbour, each one's phase,
-- and for each hungry drinker a number, ahead, and its holders, the eating drinkers that it waits for.
use Rattle.std.specs.Prelude.{◌≡◌, ℕ, ◌<◌, ◌≤◌, Bool, true}
use Rattle.dining.specs.declared.phase.Phase.{Phase}
use Rattle.dining.specs.declared.phase.Phase.TheVariants.{Hungry, Eating}

pub record Dining : Type 0 where
  -- how many drinkers there are; they are numbered from 0
  pub drinkers : ℕ
  -- no drinker has more than this ahead when it becomes hungry
  pub cap : ℕ
  pub neighbours : ℕ → ℕ → Bool
  pub phase : ℕ → Phase
  -- of a hungry drinker: a number that never rises while it stays hungry, and falls whenever a holder is done
  pub ahead : ℕ → ℕ
  -- holder p h: the hungry p waits for h, which eats
  pub holder : ℕ → ℕ → Bool

-- p is a drinker in this phase
abbrev pub IsIn : Dining → Phase → ℕ → Type 0
IsIn d x p = (p < d.drinkers) × (d.phase p ≡ x)

abbrev pub Neighbours : Dining → ℕ → ℕ → Type 0
Neighbours d p q = d.neighbours p q ≡ true

abbrev pub Holds : Dining → ℕ → ℕ → Type 0
Holds d h p = d.holder p h ≡ true

-- What holds of every diner at every moment.
pub record Lawful (d : Dining) : Type 0 where
  pub at_most_sixteen_drinkers : d.drinkers ≤ 16
  pub cap_at_most_thousand : d.cap ≤ 1000
  pub neighbours_are_drinkers : (p q : ℕ) → Neighbours d p q → (p < d.drinkers) × (q < d.drinkers)
  pub neighbours_are_mutual : (p q : ℕ) → Neighbours d p q → Neighbours d q p
  pub nobody_is_its_own_neighbour : (p : ℕ) → Neighbours d p p → ⊥
  pub neighbours_never_eat_together : (p q : ℕ) → Neighbours d p q → IsIn d Eating p → IsIn d Eating q → ⊥
  pub holders_eat : (p h : ℕ) → IsIn d Hungry p → Holds d h p → IsIn d Eating h
  pub held_has_some_ahead : (p h : ℕ) → IsIn d Hungry p → Holds d h p → 1 ≤ d.ahead p
