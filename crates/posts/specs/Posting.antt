-- What a post means, at one moment: for each channel the messages that wait in it, and how many ticks the oldest of them still needs at the most.
use Rattle.std.specs.Prelude.{◌≡◌, ℕ, ◌<◌, ◌≤◌, ◌≢◌, List, [], length}
use Rattle.wires.specs.declared.message.Message.{Message}

pub record Posting : Type 0 where
  -- how many channels there are; they are numbered from 0
  pub channels : ℕ
  -- no due is more than this
  pub lag : ℕ
  -- the oldest first
  pub waiting : ℕ → List Message
  -- of a channel in which a message waits: 0 exactly when the oldest can be taken
  pub due : ℕ → ℕ

-- a message waits in channel c
abbrev pub Busy : Posting → ℕ → Type 0
Busy a c = (c < a.channels) × (a.waiting c ≢ [])

-- the oldest message of channel c can be taken
abbrev pub Ready : Posting → ℕ → Type 0
Ready a c = Busy a c × (a.due c ≡ 0)

-- What holds of every post at every moment.
pub record Lawful (a : Posting) : Type 0 where
  pub lag_at_least_one : 1 ≤ a.lag
  pub lag_at_most_thousand : a.lag ≤ 1000
  pub at_most_two_wait : (c : ℕ) → c < a.channels → length (a.waiting c) ≤ 2
  pub due_within_lag : (c : ℕ) → Busy a c → a.due c ≤ a.lag
