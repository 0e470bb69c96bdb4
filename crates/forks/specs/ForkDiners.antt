-- The fork diner that the code has, by its model: what it means, and exactly what each of its calls does.
use Rattle.std.specs.Prelude.{◌≡◌, ℕ}
use Rattle.dining.specs.Dining.{Dining}
use Rattle.forks.specs.declared.fork_diner.ForkDiner.{ForkDiner}
use Rattle.forks.specs.Forks.{Forks, forks_of, after_hungry, after_done, after_turn}
use Rattle.forks.specs.Waiting.{dining}

abbrev pub forks : ForkDiner → Forks
forks d = forks_of d.neighbourhood d.phases d.precedes

abbrev pub meaning : ForkDiner → Dining
meaning d = dining (forks d)

abbrev pub HungerOf : ForkDiner → ℕ → ForkDiner → Type 0
HungerOf d p e = forks e ≡ after_hungry (forks d) p

abbrev pub LeaveOf : ForkDiner → ℕ → ForkDiner → Type 0
LeaveOf d p e = forks e ≡ after_done (forks d) p

abbrev pub TurnOf : ForkDiner → ForkDiner → Type 0
TurnOf d e = forks e ≡ after_turn (forks d)
