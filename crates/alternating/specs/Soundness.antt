-- What each channel keeps, so that the laws hold: at most two messages wait, and a message that has arrived unacknowledged is still there to be sent.
-- A user of the post need not read this.
use Rattle.std.specs.Prelude.{◌≤◌, cond, length}
use Rattle.alternating_bit.specs.declared.channel.Channel.{Channel}
use Rattle.alternating_bit.specs.Channels.{first_has_arrived, waiting_in}
use Rattle.posts.specs.MessageLists.{items}

abbrev pub Sound : Channel → Type 0
Sound ch = (length (waiting_in ch) ≤ 2) × (cond (first_has_arrived ch) 1 0 ≤ length (items ch.outgoing))
