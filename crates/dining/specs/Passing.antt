-- What `pass_on` does at any diner, exactly, and what its user sees of that: an eating drinker is done, and one turn follows.
use Rattle.std.specs.Prelude.{ℕ, ◌<◌, ◌≢◌}
use Rattle.dining.specs.declared.phase.Phase.TheVariants.{Thinking, Hungry, Eating}
use Rattle.dining.specs.Dining.{Dining, IsIn, Holds}
use Rattle.dining.specs.Laws.{StaysHungry}

-- from s, p is done, and then there is one turn, which leaves t
abbrev pub DoneThenTurn : {S : Type 0} → (S → ℕ → S → Type 0) → (S → S → Type 0) → S → ℕ → S → Type 0
DoneThenTurn {S} leaves turns s p t = (between : S) × leaves s p between × turns between t

pub record PassesOn (d : Dining) (p : ℕ) (e : Dining) : Type 0 where
  pub thinks_again : IsIn e Thinking p
  pub eaters_go_on : (q : ℕ) → (q ≢ p) → IsIn d Eating q → IsIn e Eating q
  pub who_waited_for_it_has_less_ahead : (q : ℕ) → StaysHungry d e q → Holds d p q → e.ahead q < d.ahead q
  pub hungry_have_eating_holders : (q : ℕ) → IsIn e Hungry q → (h : ℕ) × Holds e h q × IsIn e Eating h
