-- The laws of an alternating post, from those of its wire.
use Rattle.std.specs.Prelude.{◌≡◌, ℕ, ◌+◌, ◌*◌, ◌<◌, ◌∷◌, length, Some, None, Option, slice_set, refl}
use Rattle.std.proofs.Common.{sym, ap, subst, ◌∙◌, inl, inr, arith}
use Rattle.std.proofs.lemmas.Bool.{cases_eq}
use Rattle.std.proofs.lemmas.List.Elements.{All-get_or}
use Rattle.alternating.specs.declared.alternating_post.AlternatingPost.{AlternatingPost}
use Rattle.alternating_bit.specs.declared.channel.Channel.{Channel}
use Rattle.alternating.specs.AlternatingPosts.{channel_at, alternating_meaning, AlternatingPut, AlternatingTake}
use Rattle.alternating_bit.specs.Channels.{unused, waiting_in, after_put, after_take}
use Rattle.alternating.specs.Visits.{VisitedBelow}
use Rattle.alternating.specs.ChannelSteps.{put_list, take_list}
use Rattle.alternating.specs.Dues.{lag_at_least_one, lag_at_most_thousand, due_within_lag, due_over, due_not_over}
use Rattle.alternating.specs.Soundness.{Sound}
use Rattle.alternating.specs.Ticks.{changed_here, kept_elsewhere, ticked}
use Rattle.alternating.specs.VisitsKeep.{due_over_wire}
use Rattle.posts.specs.Laws.{ChannelKept, SamePost, OthersKept, LawfulPut, LawfulTakeAnswer, LawfulTick}
use Rattle.posts.specs.MessageLists.{oldest_of, rest_of}
use Rattle.posts.specs.Posting.{Posting, Lawful}
use Rattle.posts.proofs.MessageLists.{empty_without_first}
use Rattle.wires.specs.declared.frame.Frame.{Frame}
use Rattle.wires.specs.declared.message.Message.{Message}
use Rattle.wires.specs.Wiring.{Wiring, WireLaws}

module _ {W : Type 0} {means : W → Wiring} {carries : W → ℕ → Frame → Option Frame → W → Type 0} (laws : WireLaws means carries) where
  abbrev meaning : AlternatingPost W → Posting
  meaning s = alternating_meaning (means s.wire) s.channels

  sound_at : (s : AlternatingPost W) (c : ℕ) → c < 64 → Sound (channel_at s.channels c)
  sound_at s c h = All-get_or Sound s.channels c unused (omega (arith, s.all)) s.sound

  pub lawful : (s : AlternatingPost W) → Lawful (meaning s)
  lawful s =
      let w = means s.wire in
      let law = laws.always_lawful s.wire in
      record {
        lag_at_least_one = lag_at_least_one w.bound;
        lag_at_most_thousand = lag_at_most_thousand w.bound law.bound_at_most_seven;
        at_most_two_wait = λ c h. (sound_at s c h).0;
        due_within_lag = λ c busy. due_within_lag w.bound (w.grace (2 * c)) (w.grace (2 * c + 1)) (channel_at s.channels c)
            (law.grace_within_bound (2 * c) (omega (arith, busy.0))) (law.grace_within_bound (2 * c + 1) (omega (arith, busy.0)));
      }

  -- Where the wire stays, so do the lag, and the dues of the channels that stay.
  same_post : (s t : AlternatingPost W) → t.wire ≡ s.wire → SamePost (meaning s) (meaning t)
  same_post s t wire = record { same_channels = refl; same_lag = ap (λ x. ((means x).bound + 1) * ((means x).bound + 2)) wire }

  channel_kept : (s t : AlternatingPost W) (k : ℕ) → t.wire ≡ s.wire → channel_at t.channels k ≡ channel_at s.channels k → ChannelKept (meaning s) k (meaning t)
  channel_kept s t k wire same = record {
    same_list = ap waiting_in same;
    same_due = λ busy. ap (λ x. due_over_wire k (means x) (channel_at t.channels k)) wire ∙ ap (due_over_wire k (means s.wire)) same;
  }

  others_kept : (s t : AlternatingPost W) (c : ℕ) (d : Channel) → t.wire ≡ s.wire → t.channels ≡ slice_set s.channels c d → OthersKept (meaning s) c (meaning t)
  others_kept s t c d wire stored k h other = channel_kept s t k wire (ap (λ xs. channel_at xs k) stored ∙ kept_elsewhere s.channels c k d other)

  stored_here : (s t : AlternatingPost W) (c : ℕ) (d : Channel) → c < 64 → t.channels ≡ slice_set s.channels c d → channel_at t.channels c ≡ d
  stored_here s t c d h stored = ap (λ xs. channel_at xs c) stored ∙ changed_here s.channels c d s.all h

  pub put_lawful : (s : AlternatingPost W) (c : ℕ) (m : Message) (t : AlternatingPost W) → c < 64 → length (waiting_in (channel_at s.channels c)) < 2
      → AlternatingPut s.wire s.channels c m t.wire t.channels → LawfulPut (meaning s) c m (meaning t)
  put_lawful s c m t h room (wire, stored) =
      let ch = channel_at s.channels c in
      let here = stored_here s t c (after_put m ch) h stored in
      record {
        same_post = same_post s t wire;
        joins_the_end = ap waiting_in here ∙ put_list m ch (sound_at s c h) room;
        due_stays = λ busy. ap (λ x. due_over_wire c (means x) (channel_at t.channels c)) wire ∙ ap (due_over_wire c (means s.wire)) here;
        others = others_kept s t c (after_put m ch) wire stored;
      }

  -- A take from a channel where nothing has arrived changes nothing.
  take_of_nothing : (ch : Channel) → oldest_of ch.arrived ≡ None → after_take ch ≡ ch
  take_of_nothing ch none =
      let empty = empty_without_first ch.arrived none in
      let same : rest_of ch.arrived ≡ ch.arrived = ap rest_of empty ∙ sym empty in
      λ i. record { outgoing = ch.outgoing; bit = ch.bit; expected = ch.expected; arrived = same i }

  pub take_lawful : (s : AlternatingPost W) (c : ℕ) (came : Option Message) (t : AlternatingPost W) → c < 64
      → AlternatingTake s.wire s.channels c came t.wire t.channels → LawfulTakeAnswer (meaning s) c came (meaning t)
  take_lawful s c (Some m) t h (wire, stored, answer) =
      let ch = channel_at s.channels c in
      let w = means s.wire in
      let here = stored_here s t c (after_take ch) h stored in
      record {
        same_post = same_post s t wire;
        could_be_taken = due_over w.bound (w.grace (2 * c)) (w.grace (2 * c + 1)) ch m (sym answer);
        oldest_goes = take_list m ch (sym answer) ∙ ap (λ x. m ∷ waiting_in x) (sym here);
        others = others_kept s t c (after_take ch) wire stored;
      }
  take_lawful s c None t h (wire, stored, answer) =
      let ch = channel_at s.channels c in
      let w = means s.wire in
      let here = stored_here s t c (after_take ch) h stored ∙ take_of_nothing ch (sym answer) in
      record {
        same_post = same_post s t wire;
        not_ready = λ ready. due_not_over w.bound (w.grace (2 * c)) (w.grace (2 * c + 1)) ch (sym answer) ready.1;
        all_kept = λ k inside. elim (cases_eq k c) [
          | inl same ↦ channel_kept s t k wire (subst (λ x. channel_at t.channels x ≡ channel_at s.channels x) (sym same) here)
          | inr other ↦ others_kept s t c (after_take ch) wire stored k inside other
        ];
      }

  pub tick_lawful : (s t : AlternatingPost W) → VisitedBelow carries s.wire s.channels 64 t.wire t.channels → LawfulTick (meaning s) (meaning t)
  tick_lawful s t visits =
      let so = ticked laws s.wire s.channels s.all s.sound visits (omega arith) in
      record {
        same_post = record { same_channels = refl; same_lag = ap (λ k. (k + 1) * (k + 2)) so.same_bound };
        same_lists = so.same_lists;
        dues_fall = λ c busy. so.dues_fall c busy.0 busy.1;
      }
