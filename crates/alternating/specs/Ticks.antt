-- What a tick does to all channels, by its visits one after the other.
use Rattle.std.specs.Prelude.{◌≡◌, ℕ, ◌+◌, ◌-◌, ◌*◌, ◌<◌, ◌≤◌, ◌≢◌, List, [], length, None, Option, slice_set, refl}
use Rattle.std.proofs.Common.{sym, ap, subst, ◌∙◌, inl, inr, arith, length-set}
use Rattle.std.proofs.lemmas.List.{set-get_or, get_or-set_same, get_or-set_other}
use Rattle.std.proofs.lemmas.List.Elements.{All-get_or}
use Rattle.std.proofs.lemmas.Bool.{cases_eq, cases_lt}
use Rattle.std.specs.List.{All}
use Rattle.alternating_bit.specs.declared.channel.Channel.{Channel}
use Rattle.alternating.specs.AlternatingPosts.{channel_at}
use Rattle.alternating_bit.specs.Channels.{unused, waiting_in, frame_of}
use Rattle.alternating.specs.Soundness.{Sound}
use Rattle.alternating.specs.Visits.{nothing_to_send, Visited, VisitedBelow, none_yet, one_more}
use Rattle.alternating.specs.VisitsKeep.{due_over_wire, due_same, visit_keeps}
use Rattle.wires.specs.declared.frame.Frame.{Frame}
use Rattle.wires.specs.Wiring.{Wiring, WireLaws, lines}

-- One channel of all is changed.
pub changed_here : (cs : List Channel) (c : ℕ) (d : Channel) → length cs ≡ 64 → c < 64 → channel_at (slice_set cs c d) c ≡ d
changed_here cs c d all few = get_or-set_same cs c d unused (omega (arith, all))

pub kept_elsewhere : (cs : List Channel) (c k : ℕ) (d : Channel) → k ≢ c → channel_at (slice_set cs c d) k ≡ channel_at cs k
kept_elsewhere cs c k d other = get_or-set_other cs c k d unused other

-- A channel that has nothing to send is visited where nothing is done.
pub nothing_sent : {W : Type 0} {carries : W → ℕ → Frame → Option Frame → W → Type 0} (w : W) (cs : List Channel) (c : ℕ) → frame_of (channel_at cs c) ≡ None → Visited carries w cs c w cs
nothing_sent w cs c none = (channel_at cs c, nothing_to_send none refl refl, sym (set-get_or cs c unused))

module _ {W : Type 0} {means : W → Wiring} {carries : W → ℕ → Frame → Option Frame → W → Type 0} (laws : WireLaws means carries) (w : W) (cs : List Channel) (all : length cs ≡ 64) (sound : All Sound cs) where
  -- The channels below n have been visited: no list has changed, and their dues have fallen. The others are as they were.
  pub record TickedBelow (n : ℕ) (v : W) (ds : List Channel) : Type 0 where
    pub all_there : length ds ≡ 64
    pub same_bound : (means v).bound ≡ (means w).bound
    pub same_lists : (c : ℕ) → c < 64 → waiting_in (channel_at ds c) ≡ waiting_in (channel_at cs c)
    pub dues_fall : (c : ℕ) → c < n → waiting_in (channel_at cs c) ≢ [] → due_over_wire c (means v) (channel_at ds c) ≤ due_over_wire c (means w) (channel_at cs c) - 1
    pub later_channels : (c : ℕ) → n ≤ c → c < 64 → channel_at ds c ≡ channel_at cs c
    pub later_graces : (l : ℕ) → 2 * n ≤ l → l < lines → (means v).grace l ≡ (means w).grace l

  next_visit : (n : ℕ) (v : W) (ds : List Channel) (u : W) (es : List Channel) → n < 64 → TickedBelow n v ds → Visited carries v ds n u es → TickedBelow (n + 1) u es
  next_visit n v ds u es few so (d, visit, stored) =
      let before : channel_at ds n ≡ channel_at cs n = so.later_channels n (omega arith) few in
      let kept = visit_keeps laws n few v (channel_at ds n) u d (subst Sound (sym before) (All-get_or Sound cs n unused (omega (arith, all)) sound)) visit in
      let here : channel_at es n ≡ d = ap (λ xs. channel_at xs n) stored ∙ changed_here ds n d so.all_there few in
      let elsewhere : (c : ℕ) → c ≢ n → channel_at es c ≡ channel_at ds c = λ c other. ap (λ xs. channel_at xs c) stored ∙ kept_elsewhere ds n c d other in
      let due_before = due_same n (means w) (means v) (channel_at cs n) (channel_at ds n) so.same_bound
      (so.later_graces (2 * n) (omega arith) (omega arith)) (so.later_graces (2 * n + 1) (omega arith) (omega arith)) before in
      let due_here : waiting_in (channel_at cs n) ≢ [] → due_over_wire n (means u) (channel_at es n) ≤ due_over_wire n (means w) (channel_at cs n) - 1 =
      λ busy. omega (arith, ap (due_over_wire n (means u)) here, due_before, kept.due_falls (λ none. busy (sym (ap waiting_in before) ∙ none))) in
      let due_elsewhere : (c : ℕ) → c < n → due_over_wire c (means u) (channel_at es c) ≡ due_over_wire c (means v) (channel_at ds c) =
      λ c less. due_same c (means v) (means u) (channel_at ds c) (channel_at es c) kept.same_bound
      (kept.other_graces (2 * c) (omega arith) (λ e. omega arith) (λ e. omega arith)) (kept.other_graces (2 * c + 1) (omega arith) (λ e. omega arith) (λ e. omega arith)) (elsewhere c (λ e. omega arith)) in
      record {
        all_there = ap length stored ∙ length-set ds n d ∙ so.all_there;
        same_bound = kept.same_bound ∙ so.same_bound;
        same_lists = λ c h. elim (cases_eq c n) [
          | inl same ↦ subst (λ x. waiting_in (channel_at es x) ≡ waiting_in (channel_at cs x)) (sym same) (ap waiting_in here ∙ kept.same_list ∙ ap waiting_in before)
          | inr other ↦ ap waiting_in (elsewhere c other) ∙ so.same_lists c h
        ];
        dues_fall = λ c h busy. elim (cases_lt c n) [
          | inl less ↦ omega (arith, due_elsewhere c less, so.dues_fall c less busy)
          | inr not_less ↦
              let same : n ≡ c = omega arith in
              subst (λ x. waiting_in (channel_at cs x) ≢ [] → due_over_wire x (means u) (channel_at es x) ≤ due_over_wire x (means w) (channel_at cs x) - 1) same due_here busy
        ];
        later_channels = λ c h l. elsewhere c (λ e. omega arith) ∙ so.later_channels c (omega arith) l;
        later_graces = λ l h inside. kept.other_graces l inside (λ e. omega arith) (λ e. omega arith) ∙ so.later_graces l (omega arith) inside;
      }

  pub ticked : {n : ℕ} {v : W} {ds : List Channel} → VisitedBelow carries w cs n v ds → n ≤ 64 → TickedBelow n v ds
  ticked none_yet h = record {
    all_there = all;
    same_bound = refl;
    same_lists = λ c l. refl;
    dues_fall = λ c l busy. absurd (omega arith);
    later_channels = λ c l k. refl;
    later_graces = λ l h inside. refl;
  }
  ticked (one_more {n} {v} {u} {ds} {es} before visit) h = next_visit n v ds u es (omega arith) (ticked before (omega arith)) visit
