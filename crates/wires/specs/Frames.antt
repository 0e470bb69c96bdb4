-- The numbers of messages and frames: a message is 1 (a bottle) or 2 (a token); a frame is a bit with a message, or with 0, an acknowledgement.
use Rattle.std.specs.Prelude.{◌≡◌, ℕ, ◌<◌, Bool, cond, ◌⊎◌, Ok, Err, Result}
use Rattle.wires.specs.declared.message.Message.{Message}
use Rattle.wires.specs.declared.message.Message.TheVariants.{Bottle, Token}
use Rattle.wires.specs.declared.frame.Payload.{Payload}
use Rattle.wires.specs.declared.frame.Payload.TheVariants.{Acknowledgement, Data}
use Rattle.wires.specs.declared.frame.Frame.{Frame}
use Rattle.refusals.specs.declared.Refusal.{Refusal}
use Rattle.refusals.specs.Numbers.{number_of}

abbrev pub message_number : Message → ℕ
message_number Bottle = 1
message_number Token = 2

abbrev pub payload_number : Payload → ℕ
payload_number Acknowledgement = 0
payload_number (Data m) = message_number m

abbrev pub bit_number : Bool → ℕ
bit_number b = cond b 1 0

-- the message of a number, or 18 where it is neither 1 nor 2
abbrev pub MessageRead : ℕ → Result Message Refusal → Type 0
MessageRead n (Ok m) = message_number m ≡ n
MessageRead n (Err e) = ((n < 1) ⊎ (2 < n)) × (number_of e ≡ 18)

-- the frame of a bit and a message from 0 to 2, or 18 for other numbers
abbrev pub FrameRead : ℕ → ℕ → Result Frame Refusal → Type 0
FrameRead bit n (Ok f) = (bit_number f.bit ≡ bit) × (payload_number f.payload ≡ n)
FrameRead bit n (Err e) = ((1 < bit) ⊎ (2 < n)) × (number_of e ≡ 18)
