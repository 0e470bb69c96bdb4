-- What each call of a diner may do to its meaning: which phases change, and how the wait of those that stay hungry goes on.
use Rattle.std.specs.Prelude.{◌≡◌, ℕ, ◌<◌, ◌≤◌, ◌≢◌, ◌⊎◌}
use Rattle.dining.specs.declared.phase.Phase.{Phase}
use Rattle.dining.specs.declared.phase.Phase.TheVariants.{Thinking, Hungry, Eating}
use Rattle.dining.specs.Dining.{Dining, IsIn, Holds, Lawful}

-- p is hungry before and after
abbrev pub StaysHungry : Dining → Dining → ℕ → Type 0
StaysHungry d e p = IsIn d Hungry p × IsIn e Hungry p

-- What every call keeps, with d before it and e after.
pub record GoesOn (d e : Dining) : Type 0 where
  pub same_drinkers : e.drinkers ≡ d.drinkers
  pub same_cap : e.cap ≡ d.cap
  pub same_neighbours : (p q : ℕ) → e.neighbours p q ≡ d.neighbours p q
  pub ahead_never_rises : (p : ℕ) → StaysHungry d e p → e.ahead p ≤ d.ahead p
  pub ahead_falls_or_holders_stay : (p : ℕ) → StaysHungry d e p
      → (e.ahead p < d.ahead p) ⊎ ((h : ℕ) → Holds d h p → IsIn e Eating h → Holds e h p)

-- p alone changes its phase, to x
pub record ChangesPhase (d : Dining) (p : ℕ) (x : Phase) (e : Dining) : Type 0 where
  pub its_own : e.phase p ≡ x
  pub no_other : (q : ℕ) → q < d.drinkers → q ≢ p → e.phase q ≡ d.phase q

-- `hungry`: the thinking p becomes hungry, with at most the cap ahead.
pub record LawfulHungry (d : Dining) (p : ℕ) (e : Dining) : Type 0 where
  pub phases : ChangesPhase d p Hungry e
  pub ahead_within_cap : e.ahead p ≤ e.cap
  pub goes_on : GoesOn d e

-- `done`: the eating p thinks again, and whoever it held has less ahead.
pub record LawfulDone (d : Dining) (p : ℕ) (e : Dining) : Type 0 where
  pub phases : ChangesPhase d p Thinking e
  pub done_of_a_holder_lowers_ahead : (q : ℕ) → IsIn d Hungry q → Holds d p q → e.ahead q < d.ahead q
  pub goes_on : GoesOn d e

-- `turn`: none or some of the hungry eat, and whoever is still hungry has a holder.
pub record LawfulTurn (d e : Dining) : Type 0 where
  pub phases : (q : ℕ) → q < d.drinkers → (e.phase q ≡ d.phase q) ⊎ ((d.phase q ≡ Hungry) × (e.phase q ≡ Eating))
  pub hungry_have_holders : (p : ℕ) → IsIn e Hungry p → (h : ℕ) × Holds e h p
  pub goes_on : GoesOn d e

-- A kind of diner keeps the meaning: each one that exists is lawful, and so is each change that its calls make.
pub record DinerLaws {S : Type 0} (means : S → Dining) (hungers leaves : S → ℕ → S → Type 0) (turns : S → S → Type 0) : Type 0 where
  pub always_lawful : (s : S) → Lawful (means s)
  pub hungry_is_lawful : (s : S) (p : ℕ) (t : S) → IsIn (means s) Thinking p → hungers s p t → LawfulHungry (means s) p (means t)
  pub done_is_lawful : (s : S) (p : ℕ) (t : S) → IsIn (means s) Eating p → leaves s p t → LawfulDone (means s) p (means t)
  pub turn_is_lawful : (s t : S) → turns s t → LawfulTurn (means s) (means t)
