-- What a visit does to one channel: nothing that waits changes, and its due falls. Of the wire, only the graces of its two lines change.
use Rattle.std.specs.Prelude.{◌≡◌, ℕ, ◌+◌, ◌-◌, ◌*◌, ◌<◌, ◌≤◌, ◌≢◌, [], length, Some, None, Option}
use Rattle.std.proofs.Common.{sym, ap, subst, ◌∙◌, ⊎_elim, arith}
use Rattle.alternating_bit.specs.declared.channel.Channel.{Channel}
use Rattle.alternating.specs.AlternatingPosts.{due_in}
use Rattle.alternating_bit.specs.Channels.{waiting_in, frame_of, after_frame, after_acknowledgement}
use Rattle.alternating.specs.Soundness.{Sound}
use Rattle.alternating.specs.Visits.{Acknowledging, acknowledgement_lost, acknowledgement_through, Visit, nothing_to_send, message_lost, message_through}
use Rattle.alternating.specs.ChannelSteps.{frame_shows, no_frame_shows, Heard, heard, acknowledged_bit, acknowledged_list, sound_before_arrival, sound_with_first}
use Rattle.alternating.specs.Dues.{due_idle, due_lost, due_unacknowledged, due_acknowledged}
use Rattle.posts.specs.MessageLists.{oldest_of}
use Rattle.wires.specs.declared.frame.Frame.{Frame}
use Rattle.wires.specs.Wiring.{Wiring, WireLaws, LawfulCarry, lines}

-- the due of channel c over a wire
abbrev pub due_over_wire : ℕ → Wiring → Channel → ℕ
due_over_wire c w ch = due_in w.bound (w.grace (2 * c)) (w.grace (2 * c + 1)) ch

-- It is the same where the wire has the same bound and the channel's lines have the same graces.
pub due_same : (c : ℕ) (w v : Wiring) (ch d : Channel) → v.bound ≡ w.bound → v.grace (2 * c) ≡ w.grace (2 * c) → v.grace (2 * c + 1) ≡ w.grace (2 * c + 1) → d ≡ ch → due_over_wire c v d ≡ due_over_wire c w ch
due_same c w v ch d bound there back same =
    ap (λ x. due_in x (v.grace (2 * c)) (v.grace (2 * c + 1)) d) bound
    ∙ ap (λ x. due_in w.bound x (v.grace (2 * c + 1)) d) there
    ∙ ap (λ x. due_in w.bound (w.grace (2 * c)) x d) back
    ∙ ap (due_over_wire c w) same

pub record Kept (c : ℕ) (w : Wiring) (ch : Channel) (v : Wiring) (d : Channel) : Type 0 where
  pub same_list : waiting_in d ≡ waiting_in ch
  pub sound : Sound d
  pub due_falls : waiting_in ch ≢ [] → due_over_wire c v d ≤ due_over_wire c w ch - 1
  pub same_bound : v.bound ≡ w.bound
  pub other_graces : (k : ℕ) → k < lines → k ≢ 2 * c → k ≢ 2 * c + 1 → v.grace k ≡ w.grace k

loss_lowers : (w : Wiring) (l : ℕ) (f : Frame) (v : Wiring) → LawfulCarry w l f None v → v.grace l < w.grace l
loss_lowers w l f v law = ⊎_elim (λ e. cc) (λ lost. lost.1) law.same_frame_or_grace_falls

module _ {W : Type 0} {means : W → Wiring} {carries : W → ℕ → Frame → Option Frame → W → Type 0} (laws : WireLaws means carries) (c : ℕ) (few : c < 64) where
  there : 2 * c < lines
  there = omega arith

  back : 2 * c + 1 < lines
  back = omega arith

  -- Two frames are carried, one there and one back.
  module _ (w u v : W) (f answer : Frame) (came : Option Frame) (out : carries w (2 * c) f (Some f) u) (home : carries u (2 * c + 1) answer came v) where
    law_there : LawfulCarry (means w) (2 * c) f (Some f) (means u)
    law_there = laws.carry_is_lawful w (2 * c) f (Some f) u there out

    law_back : LawfulCarry (means u) (2 * c + 1) answer came (means v)
    law_back = laws.carry_is_lawful u (2 * c + 1) answer came v back home

    both_same_bound : (means v).bound ≡ (means w).bound
    both_same_bound = law_back.same_bound ∙ law_there.same_bound

    both_other_graces : (k : ℕ) → k < lines → k ≢ 2 * c → k ≢ 2 * c + 1 → (means v).grace k ≡ (means w).grace k
    both_other_graces k l n n' = law_back.other_lines_keep_their_grace k l n' ∙ law_there.other_lines_keep_their_grace k l n

    grace_there_within : (means v).grace (2 * c) ≤ (means w).bound
    grace_there_within = omega (arith, both_same_bound, (laws.always_lawful v).grace_within_bound (2 * c) there)

  answered : (w u v : W) (f : Frame) (ch d e : Channel) → Sound ch → frame_of ch ≡ Some f → Heard ch d → carries w (2 * c) f (Some f) u → Acknowledging carries c f.bit u d v e → Kept c (means w) ch (means v) e
  answered w u v f ch d e sound its hears out (acknowledgement_lost home same) =
      let bound = both_same_bound w u v f _ _ out home in
      let lower : (means v).grace (2 * c + 1) < (means w).grace (2 * c + 1) = omega (
        arith,
        loss_lowers (means u) (2 * c + 1) _ (means v) (law_back w u v f _ _ out home),
        (law_there w u v f _ _ out home).other_lines_keep_their_grace (2 * c + 1) back (λ x. omega arith),
      ) in
      let first = frame_shows ch f its in
      let falls = due_unacknowledged (means w).bound ((means w).grace (2 * c)) ((means v).grace (2 * c)) ((means w).grace (2 * c + 1)) ((means v).grace (2 * c + 1)) ch d hears (grace_there_within w u v f _ _ out home) lower in
      record {
        same_list = ap waiting_in same ∙ hears.same_list;
        sound = subst Sound (sym same) (sound_with_first d first.0 (omega (arith, ap length hears.same_list, sound.0)) (ap oldest_of hears.same_outgoing ∙ first.1));
        due_falls = λ busy. omega (arith, ap (due_over_wire c (means v)) same, ap (λ x. due_in x ((means v).grace (2 * c)) ((means v).grace (2 * c + 1)) d) bound, falls);
        same_bound = bound;
        other_graces = both_other_graces w u v f _ _ out home;
      }
  answered w u v f ch d e sound its hears out (acknowledgement_through home same) =
      let bound = both_same_bound w u v f _ _ out home in
      let done = after_acknowledgement d in
      let list = acknowledged_list d hears.has_arrived ∙ hears.same_list in
      let falls = due_acknowledged (means w).bound ((means w).grace (2 * c)) ((means v).grace (2 * c)) ((means w).grace (2 * c + 1)) ((means v).grace (2 * c + 1)) ch d hears (grace_there_within w u v f _ _ out home) in
      record {
        same_list = ap waiting_in same ∙ list;
        sound = subst Sound (sym same) (sound_before_arrival done (omega (arith, ap length list, sound.0)) (acknowledged_bit d hears.has_arrived));
        due_falls = λ busy. omega (arith, ap (due_over_wire c (means v)) same, ap (λ x. due_in x ((means v).grace (2 * c)) ((means v).grace (2 * c + 1)) done) bound, falls);
        same_bound = bound;
        other_graces = both_other_graces w u v f _ _ out home;
      }

  pub visit_keeps : (w : W) (ch : Channel) (v : W) (d : Channel) → Sound ch → Visit carries c w ch v d → Kept c (means w) ch (means v) d
  visit_keeps w ch v d sound (nothing_to_send none wire same) =
      let over = due_idle (means v).bound ((means v).grace (2 * c)) ((means v).grace (2 * c + 1)) ch (no_frame_shows ch none) in
      record {
        same_list = ap waiting_in same;
        sound = subst Sound (sym same) sound;
        due_falls = λ busy. omega (arith, ap (due_over_wire c (means v)) same, over busy);
        same_bound = ap (λ x. (means x).bound) wire;
        other_graces = λ k l n n'. ap (λ x. (means x).grace k) wire;
      }
  visit_keeps w ch v d sound (message_lost {f} its out same) =
      let law = laws.carry_is_lawful w (2 * c) f None v there out in
      let kept = law.other_lines_keep_their_grace (2 * c + 1) back (λ x. omega arith) in
      let falls = due_lost (means w).bound ((means w).grace (2 * c)) ((means v).grace (2 * c)) ((means w).grace (2 * c + 1)) ch (loss_lowers (means w) (2 * c) f (means v) law) in
      record {
        same_list = ap waiting_in same;
        sound = subst Sound (sym same) sound;
        due_falls = λ busy. omega (
          arith,
          ap (due_over_wire c (means v)) same,
          ap (λ x. due_in x ((means v).grace (2 * c)) ((means v).grace (2 * c + 1)) ch) law.same_bound,
          ap (λ x. due_in (means w).bound ((means v).grace (2 * c)) x ch) kept,
          falls,
        );
        same_bound = law.same_bound;
        other_graces = λ k l n n'. law.other_lines_keep_their_grace k l n;
      }
  visit_keeps w ch v d sound (message_through {f} {u} its out home) = answered w u v f ch (after_frame f ch) d sound its (heard ch f sound its) out home
