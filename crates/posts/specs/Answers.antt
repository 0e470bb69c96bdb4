-- What a post's calls answer, and which refusal comes first: 18 beyond the channels, then 19 where two wait.
use Rattle.std.specs.Prelude.{◌≡◌, ℕ, ◌<◌, ◌≤◌, ◌⊎◌, length, Ok, Err, Option, Result}
use Rattle.posts.specs.Posting.{Posting}
use Rattle.wires.specs.declared.message.Message.{Message}
use Rattle.refusals.specs.declared.Refusal.{Refusal}
use Rattle.refusals.specs.Numbers.{number_of}

-- the refusal of a channel beyond the count
abbrev pub NoSuchChannel : ℕ → ℕ → Refusal → Type 0
NoSuchChannel count c e = (count ≤ c) × (number_of e ≡ 18)

-- the answer to the question how many wait
abbrev pub CountAnswer : Posting → ℕ → Result ℕ Refusal → Type 0
CountAnswer a c (Ok n) = (c < a.channels) × (n ≡ length (a.waiting c))
CountAnswer a c (Err e) = NoSuchChannel a.channels c e

-- A put: either it is granted and `changed` holds, or it is refused and `unchanged` does.
abbrev pub PutAnswer : Posting → ℕ → Type 0 → Type 0 → Result Unit Refusal → Type 0
PutAnswer a c changed unchanged (Ok _) = (c < a.channels) × (length (a.waiting c) < 2) × changed
PutAnswer a c changed unchanged (Err e) =
    (NoSuchChannel a.channels c e ⊎ ((c < a.channels) × (length (a.waiting c) ≡ 2) × (number_of e ≡ 19))) × unchanged

-- A take: either `took` holds of what it answers, or it is refused and `unchanged` holds.
abbrev pub TakeAnswer : Posting → ℕ → (Option Message → Type 0) → Type 0 → Result (Option Message) Refusal → Type 0
TakeAnswer a c took unchanged (Ok came) = (c < a.channels) × took came
TakeAnswer a c took unchanged (Err e) = NoSuchChannel a.channels c e × unchanged
