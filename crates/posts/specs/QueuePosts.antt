-- The queue post that the code has: what it means, and exactly what each of its calls does.
use Rattle.std.specs.Prelude.{◌≡◌, ℕ, List, [], ◌∷◌, ◌++◌, drop, Option, slice_get, slice_index_or, slice_set}
use Rattle.posts.specs.Posting.{Posting}
use Rattle.posts.specs.declared.queue_post.QueuePost.{QueuePost}
use Rattle.wires.specs.declared.message.Message.{Message}

-- what waits in a channel, the oldest first
abbrev pub queue_at : QueuePost → ℕ → List Message
queue_at s c = (slice_index_or s.queues c (record { items = [] })).items

-- The messages of channel c are now ms, and nothing else changes.
abbrev pub QueueChanged : QueuePost → ℕ → List Message → QueuePost → Type 0
QueueChanged s c ms t = t.queues ≡ slice_set s.queues c (record { items = ms })

abbrev pub queue_meaning : QueuePost → Posting
queue_meaning s = record { channels = 64; lag = 1; waiting = queue_at s; due = λ c. 0 }

abbrev pub QueuePut : QueuePost → ℕ → Message → QueuePost → Type 0
QueuePut s c m t = QueueChanged s c (queue_at s c ++ m ∷ []) t

-- an empty channel answers none, and stays empty
abbrev pub QueueTake : QueuePost → ℕ → Option Message → QueuePost → Type 0
QueueTake s c came t = (came ≡ slice_get (queue_at s c) 0) × QueueChanged s c (drop 1 (queue_at s c)) t

abbrev pub QueueTick : QueuePost → QueuePost → Type 0
QueueTick s t = t.queues ≡ s.queues
