-- The alternating post that the code has: what it means, over what its wire means, and exactly what its calls do.
use Rattle.std.specs.Prelude.{◌≡◌, ℕ, ◌+◌, ◌*◌, ◌<◌, cond, List, [], ◌∷◌, Ok, Err, Option, Result, slice_index_or, slice_set}
use Rattle.alternating_bit.specs.declared.channel.Channel.{Channel}
use Rattle.alternating_bit.specs.Channels.{unused, first_has_arrived, waiting_in, frame_of, after_put, after_take}
use Rattle.posts.specs.Answers.{NoSuchChannel}
use Rattle.posts.specs.MessageLists.{items, oldest_of}
use Rattle.posts.specs.Posting.{Posting}
use Rattle.refusals.specs.declared.Refusal.{Refusal}
use Rattle.wires.specs.declared.frame.Frame.{Frame}
use Rattle.wires.specs.declared.message.Message.{Message}
use Rattle.wires.specs.Wiring.{Wiring}

abbrev pub channel_at : List Channel → ℕ → Channel
channel_at cs c = slice_index_or cs c unused

-- 0 where something has arrived, else n
abbrev pub unless_arrived : List Message → ℕ → ℕ
unless_arrived [] n = n
unless_arrived (m ∷ ms) n = 0

-- How many ticks the oldest message still needs at the most, where k is the bound of the wire, and `there` and `back` are the graces of the channel's two lines.
-- A message that is sent arrives within there + 1 ticks. One behind a message that has arrived waits for the acknowledgement first:
-- the old message comes through again within there + 1 ticks, and within k + 1 more after each of `back` lost acknowledgements; then the next one arrives within k + 1.
abbrev pub due_in : ℕ → ℕ → ℕ → Channel → ℕ
due_in k there back ch = unless_arrived (items ch.arrived) (cond (first_has_arrived ch) (back * (k + 1) + (there + 1) + (k + 1)) (there + 1))

abbrev pub alternating_meaning : Wiring → List Channel → Posting
alternating_meaning w cs = record {
  channels = 64;
  lag = (w.bound + 1) * (w.bound + 2);
  waiting = λ c. waiting_in (channel_at cs c);
  due = λ c. due_in w.bound (w.grace (2 * c)) (w.grace (2 * c + 1)) (channel_at cs c);
}

-- `put` and `take`, from the wire w and the channels cs to the wire v and the channels ds: the wire stays, and so does every other channel.
abbrev pub AlternatingPut : {W : Type 0} → W → List Channel → ℕ → Message → W → List Channel → Type 0
AlternatingPut w cs c m v ds = (v ≡ w) × (ds ≡ slice_set cs c (after_put m (channel_at cs c)))

abbrev pub AlternatingTake : {W : Type 0} → W → List Channel → ℕ → Option Message → W → List Channel → Type 0
AlternatingTake w cs c came v ds = (v ≡ w) × (ds ≡ slice_set cs c (after_take (channel_at cs c))) × (came ≡ oldest_of (channel_at cs c).arrived)

-- the state of a channel that there is
abbrev pub ChannelAnswer : List Channel → ℕ → Result Channel Refusal → Type 0
ChannelAnswer cs c (Ok ch) = (c < 64) × (ch ≡ channel_at cs c)
ChannelAnswer cs c (Err e) = NoSuchChannel 64 c e

-- what `next_frame` answers
abbrev pub FrameAnswer : List Channel → ℕ → Result (Option Frame) Refusal → Type 0
FrameAnswer cs c (Ok f) = (c < 64) × (f ≡ frame_of (channel_at cs c))
FrameAnswer cs c (Err e) = NoSuchChannel 64 c e
