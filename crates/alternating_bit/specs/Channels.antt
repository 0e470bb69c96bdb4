-- One channel of an alternating post: what it holds, what waits in it, what it sends, and what each step of the protocol makes of it.
use Rattle.std.specs.Prelude.{Bool, true, false, cond, not, List, ◌++◌, Option}
use Rattle.std.specs.Option.{option_map}
use Rattle.alternating_bit.specs.declared.channel.Channel.{Channel}
use Rattle.posts.specs.MessageLists.{items, oldest_of, rest_of, with_last}
use Rattle.posts.specs.declared.message_list.MessageList.{MessageList}
use Rattle.posts.specs.declared.message_list.MessageList.TheVariants.{Empty}
use Rattle.wires.specs.declared.frame.Frame.{Frame}
use Rattle.wires.specs.declared.frame.Payload.{Payload}
use Rattle.wires.specs.declared.frame.Payload.TheVariants.{Acknowledgement, Data}
use Rattle.wires.specs.declared.message.Message.{Message}

-- The start: nothing is to be sent and nothing has arrived, and both bits are 0.
abbrev pub unused : Channel
unused = record { outgoing = Empty; bit = false; expected = false; arrived = Empty }

-- of two bits; not std's `xor`, which does not open in the proofs of the code
abbrev pub differ : Bool → Bool → Bool
differ true b = not b
differ false b = b

-- the first outgoing message has arrived already: the other side expects the next bit
abbrev pub first_has_arrived : Channel → Bool
first_has_arrived ch = differ ch.bit ch.expected

-- of the outgoing messages, those that have not arrived
abbrev pub to_arrive : Channel → MessageList
to_arrive ch = cond (first_has_arrived ch) (rest_of ch.outgoing) ch.outgoing

-- What waits in it, the oldest first.
abbrev pub waiting_in : Channel → List Message
waiting_in ch = items ch.arrived ++ items (to_arrive ch)

-- What it sends: the bit with the first outgoing message.
abbrev pub framed : Bool → Message → Frame
framed bit m = record { bit = bit; payload = Data m }

abbrev pub frame_of : Channel → Option Frame
frame_of ch = option_map (framed ch.bit) (oldest_of ch.outgoing)

-- What acknowledges a frame: its bit with message 0.
abbrev pub acknowledgement : Bool → Frame
acknowledgement bit = record { bit = bit; payload = Acknowledgement }

-- `put`: the message is last of the outgoing.
abbrev pub after_put : Message → Channel → Channel
after_put m ch = record ch { outgoing = with_last ch.outgoing m }

-- `take`: the oldest that has arrived is gone.
abbrev pub after_take : Channel → Channel
after_take ch = record ch { arrived = rest_of ch.arrived }

-- A frame comes through: if its bit is the expected one, its message joins those that have arrived, and the expected bit flips.
abbrev pub after_arrival : Message → Channel → Channel
after_arrival m ch = record ch { expected = not ch.expected; arrived = with_last ch.arrived m }

abbrev pub after_payload : Payload → Bool → Channel → Channel
after_payload (Data m) bit ch = cond (differ bit ch.expected) ch (after_arrival m ch)
after_payload Acknowledgement bit ch = ch

abbrev pub after_frame : Frame → Channel → Channel
after_frame f ch = after_payload f.payload f.bit ch

-- The acknowledgement comes through: the first outgoing message goes, and the bit flips.
abbrev pub after_acknowledgement : Channel → Channel
after_acknowledgement ch = record ch { outgoing = rest_of ch.outgoing; bit = not ch.bit }
