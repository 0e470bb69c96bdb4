-- What a tick of an alternating post does, exactly: it visits its channels in number order.
-- At a visit the first outgoing message is sent, and whatever comes through is acknowledged. `carries` is what the wire does with a frame on a line.
use Rattle.std.specs.Prelude.{◌≡◌, ℕ, ◌+◌, ◌*◌, Bool, List, Some, None, MatchBool, Option, slice_index_or, slice_set}
use Rattle.alternating_bit.specs.declared.channel.Channel.{Channel}
use Rattle.alternating_bit.specs.Channels.{unused, frame_of, acknowledgement, after_frame, after_acknowledgement}
use Rattle.wires.specs.declared.frame.Frame.{Frame}

-- The frame f is carried on line l, from the wire w to the wire v: it comes through or is lost.
abbrev pub Carried : {W : Type 0} → (W → ℕ → Frame → Option Frame → W → Type 0) → ℕ → W → Frame → Bool → W → Type 0
Carried carries l w f through v = MatchBool through (carries w l f (Some f) v) (carries w l f None v)

module _ {W : Type 0} (carries : W → ℕ → Frame → Option Frame → W → Type 0) (c : ℕ) where
  -- The acknowledgement goes back on line 2 * c + 1: from the wire w and the channel ch to the wire v and the channel d.
  pub data Acknowledging (bit : Bool) (w : W) (ch : Channel) (v : W) (d : Channel) : Type 0 where
    acknowledgement_lost : carries w (2 * c + 1) (acknowledgement bit) None v → d ≡ ch → Acknowledging bit w ch v d
    acknowledgement_through : carries w (2 * c + 1) (acknowledgement bit) (Some (acknowledgement bit)) v → d ≡ after_acknowledgement ch → Acknowledging bit w ch v d

  -- A visit of channel c.
  pub data Visit (w : W) (ch : Channel) (v : W) (d : Channel) : Type 0 where
    nothing_to_send : frame_of ch ≡ None → v ≡ w → d ≡ ch → Visit w ch v d
    message_lost : {f : Frame} → frame_of ch ≡ Some f → carries w (2 * c) f None v → d ≡ ch → Visit w ch v d
    message_through : {f : Frame} {u : W} → frame_of ch ≡ Some f → carries w (2 * c) f (Some f) u → Acknowledging f.bit u (after_frame f ch) v d → Visit w ch v d

module _ {W : Type 0} (carries : W → ℕ → Frame → Option Frame → W → Type 0) where
  -- channel c of all the channels cs is visited, and no other
  abbrev pub Visited : W → List Channel → ℕ → W → List Channel → Type 0
  Visited w cs c v ds = (d : Channel) × Visit carries c w (slice_index_or cs c unused) v d × (ds ≡ slice_set cs c d)

  -- the channels below n are visited, in number order
  pub data VisitedBelow (w : W) (cs : List Channel) : ℕ → W → List Channel → Type 0 where
    none_yet : VisitedBelow w cs 0 w cs
    one_more : {n : ℕ} {v u : W} {ds es : List Channel} → VisitedBelow w cs n v ds → Visited v ds n u es → VisitedBelow w cs (n + 1) u es
