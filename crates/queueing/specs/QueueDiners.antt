-- The queue diner that the code has, by its model: what it means, and exactly what each of its calls does.
use Rattle.std.specs.Prelude.{◌≡◌, ℕ}
use Rattle.dining.specs.Dining.{Dining}
use Rattle.graph.specs.Neighbourhoods.{near}
use Rattle.queueing.specs.declared.queue_diner.QueueDiner.{QueueDiner}
use Rattle.queueing.specs.Queue.{Queue, dining, after_hungry, after_done, after_turn}

abbrev pub queue : QueueDiner → Queue
queue d = record { drinkers = d.neighbourhood.drinkers; neighbours = near d.neighbourhood; entries = d.entries.items }

abbrev pub meaning : QueueDiner → Dining
meaning d = dining (queue d)

abbrev pub HungerOf : QueueDiner → ℕ → QueueDiner → Type 0
HungerOf d p e = queue e ≡ after_hungry (queue d) p

abbrev pub LeaveOf : QueueDiner → ℕ → QueueDiner → Type 0
LeaveOf d p e = queue e ≡ after_done (queue d) p

abbrev pub TurnOf : QueueDiner → QueueDiner → Type 0
TurnOf d e = queue e ≡ after_turn (queue d)
