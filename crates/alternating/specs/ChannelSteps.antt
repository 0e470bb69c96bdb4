-- What the steps of the protocol do to what waits in a channel: only a put and a take change it.
use Rattle.std.specs.Prelude.{◌≡◌, ℕ, ◌+◌, ◌<◌, ◌≤◌, Bool, true, false, cond, not, ◌⊎◌, [], ◌∷◌, ◌++◌, length, Some, None, Option, refl}
use Rattle.std.specs.Option.{option_map}
use Rattle.std.proofs.Common.{sym, ap, subst, ◌∙◌, append_assoc, inl, inr, arith, length-append}
use Rattle.alternating_bit.specs.declared.channel.Channel.{Channel}
use Rattle.alternating.specs.AlternatingPosts.{unless_arrived}
use Rattle.alternating_bit.specs.Channels.{differ, first_has_arrived, to_arrive, waiting_in, framed, frame_of, after_put, after_take, after_arrival, after_frame, after_acknowledgement}
use Rattle.alternating.specs.Soundness.{Sound}
use Rattle.posts.specs.MessageLists.{items, oldest_of, rest_of, with_last}
use Rattle.posts.specs.declared.message_list.MessageList.{MessageList}
use Rattle.posts.specs.declared.message_list.MessageList.TheVariants.{Empty, One, Two, Three}
use Rattle.posts.proofs.MessageLists.{last_is_behind, last_is_behind_the_rest, first_and_rest, rest_is_one_less}
use Rattle.wires.specs.declared.frame.Frame.{Frame}
use Rattle.wires.specs.declared.message.Message.{Message}

-- Flipping either bit turns "they differ" round.
flip_right : (b e : Bool) → differ b (not e) ≡ not (differ b e)
flip_right true true = refl
flip_right true false = refl
flip_right false true = refl
flip_right false false = refl

flip_left : (b e : Bool) → differ (not b) e ≡ not (differ b e)
flip_left true true = refl
flip_left true false = refl
flip_left false true = refl
flip_left false false = refl

-- the outgoing messages that have not arrived, if the first has arrived or not
abbrev remaining : Bool → MessageList → MessageList
remaining arrived o = cond arrived (rest_of o) o

-- The frame of a channel has its bit and its first outgoing message.
framed_shows : (bit : Bool) (o : Option Message) (f : Frame) → option_map (framed bit) o ≡ Some f → (m : Message) × (o ≡ Some m) × (f ≡ framed bit m)
framed_shows bit (Some m) f e = (m, refl, cc)
framed_shows bit None f e = cc

pub frame_shows : (ch : Channel) (f : Frame) → frame_of ch ≡ Some f → (m : Message) × (oldest_of ch.outgoing ≡ Some m) × (f ≡ framed ch.bit m)
frame_shows ch f e = framed_shows ch.bit (oldest_of ch.outgoing) f e

framed_none : (bit : Bool) (o : Option Message) → option_map (framed bit) o ≡ None → o ≡ None
framed_none bit None e = refl
framed_none bit (Some m) e = cc

pub no_frame_shows : (ch : Channel) → frame_of ch ≡ None → oldest_of ch.outgoing ≡ None
no_frame_shows ch e = framed_none ch.bit (oldest_of ch.outgoing) e

-- A channel once its frame has come through, perhaps again: the first outgoing message has arrived, and what waits is the same.
-- Either it had arrived before, or now something has arrived.
pub record Heard (ch d : Channel) : Type 0 where
  pub has_arrived : first_has_arrived d ≡ true
  pub same_outgoing : d.outgoing ≡ ch.outgoing
  pub same_list : waiting_in d ≡ waiting_in ch
  pub again_or_new : ((first_has_arrived ch ≡ true) × (d ≡ ch)) ⊎ ((n : ℕ) → unless_arrived (items d.arrived) n ≡ 0)

new_is_there : (a : MessageList) (m : Message) (n : ℕ) → unless_arrived (items (with_last a m)) n ≡ 0
new_is_there Empty m n = refl
new_is_there (One x) m n = refl
new_is_there (Two x y) m n = refl
new_is_there (Three x y z) m n = refl

arrived_few : (ch : Channel) → Sound ch → length (items ch.arrived) < 3
arrived_few ch sound = omega (arith, sound.0, length-append (items ch.arrived) (items (to_arrive ch)))

heard_by_bit : (ch : Channel) (m : Message) (before : Bool) → first_has_arrived ch ≡ before → Sound ch → oldest_of ch.outgoing ≡ Some m → Heard ch (cond before ch (after_arrival m ch))
heard_by_bit ch m true e sound first = record { has_arrived = e; same_outgoing = refl; same_list = refl; again_or_new = inl (e, refl) }
heard_by_bit ch m false e sound first =
    let a = ch.arrived in
    let o = ch.outgoing in
    let now : first_has_arrived (after_arrival m ch) ≡ true = flip_right ch.bit ch.expected ∙ ap not e in
    let joined : items (with_last a m) ++ items (rest_of o) ≡ items a ++ items o =
    ap (λ xs. xs ++ items (rest_of o)) (last_is_behind a m (arrived_few ch sound))
    ∙ append_assoc (items a) (m ∷ []) (items (rest_of o))
    ∙ ap (λ xs. items a ++ xs) (sym (first_and_rest o m first)) in
    record {
      has_arrived = now;
      same_outgoing = refl;
      same_list = ap (λ b. items (with_last a m) ++ items (remaining b o)) now ∙ joined ∙ ap (λ b. items a ++ items (remaining b o)) (sym e);
      again_or_new = inr (new_is_there a m);
    }

pub heard : (ch : Channel) (f : Frame) → Sound ch → frame_of ch ≡ Some f → Heard ch (after_frame f ch)
heard ch f sound its =
    let shows = frame_shows ch f its in
    subst (λ x. Heard ch (after_frame x ch)) (sym shows.2) (heard_by_bit ch shows.0 (first_has_arrived ch) refl sound shows.1)

-- The acknowledgement takes the first outgoing message away, which had arrived.
pub acknowledged_bit : (ch : Channel) → first_has_arrived ch ≡ true → first_has_arrived (after_acknowledgement ch) ≡ false
acknowledged_bit ch e = flip_left ch.bit ch.expected ∙ ap not e

pub acknowledged_list : (ch : Channel) → first_has_arrived ch ≡ true → waiting_in (after_acknowledgement ch) ≡ waiting_in ch
acknowledged_list ch e =
    ap (λ b. items ch.arrived ++ items (remaining b (rest_of ch.outgoing))) (acknowledged_bit ch e)
    ∙ ap (λ b. items ch.arrived ++ items (remaining b ch.outgoing)) (sym e)

-- A put adds one message at the end.
remaining_put : (arrived : Bool) (o : MessageList) (m : Message) → cond arrived 1 0 ≤ length (items o) → length (items o) < 3 → items (remaining arrived (with_last o m)) ≡ items (remaining arrived o) ++ m ∷ []
remaining_put true o m some few = last_is_behind_the_rest o m some few
remaining_put false o m some few = last_is_behind o m few

one_has_arrived : (arrived : Bool) (o : MessageList) → length (items o) ≤ length (items (remaining arrived o)) + 1
one_has_arrived true o = rest_is_one_less o
one_has_arrived false o = omega arith

outgoing_few : (ch : Channel) → length (waiting_in ch) < 2 → length (items ch.outgoing) < 3
outgoing_few ch h = omega (arith, one_has_arrived (first_has_arrived ch) ch.outgoing, length-append (items ch.arrived) (items (to_arrive ch)))

pub put_list : (m : Message) (ch : Channel) → Sound ch → length (waiting_in ch) < 2 → waiting_in (after_put m ch) ≡ waiting_in ch ++ m ∷ []
put_list m ch sound room =
    ap (λ xs. items ch.arrived ++ xs) (remaining_put (first_has_arrived ch) ch.outgoing m sound.1 (outgoing_few ch room))
    ∙ sym (append_assoc (items ch.arrived) (items (to_arrive ch)) (m ∷ []))

pub put_sound : (m : Message) (ch : Channel) → Sound ch → length (waiting_in ch) < 2 → Sound (after_put m ch)
put_sound m ch sound room = (
  omega (arith, ap length (put_list m ch sound room), length-append (waiting_in ch) (m ∷ [])),
  omega (arith, sound.1, ap length (last_is_behind ch.outgoing m (outgoing_few ch room)), length-append (items ch.outgoing) (m ∷ [])),
)

-- A take takes the oldest message away.
pub take_list : (m : Message) (ch : Channel) → oldest_of ch.arrived ≡ Some m → waiting_in ch ≡ m ∷ waiting_in (after_take ch)
take_list m ch first = ap (λ xs. xs ++ items (to_arrive ch)) (first_and_rest ch.arrived m first)

-- Few wait, and either the first outgoing message has not arrived or it is there: that is sound.
pub sound_before_arrival : (ch : Channel) → length (waiting_in ch) ≤ 2 → first_has_arrived ch ≡ false → Sound ch
sound_before_arrival ch few e = (few, omega (arith, ap (λ b. cond {A = ℕ} b 1 0) e))

at_most_one : (b : Bool) → cond b 1 0 ≤ 1
at_most_one true = omega arith
at_most_one false = omega arith

pub sound_with_first : (ch : Channel) (m : Message) → length (waiting_in ch) ≤ 2 → oldest_of ch.outgoing ≡ Some m → Sound ch
sound_with_first ch m few first = (few, omega (arith, at_most_one (first_has_arrived ch), ap length (first_and_rest ch.outgoing m first)))
