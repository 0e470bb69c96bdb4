-- How the due of a channel goes on: it is within the lag, 0 exactly when something has arrived, and falls at each visit.
-- In the names, k is the bound of the wire, g and h are the graces of the line there and the line back, and a prime marks what is so after the visit.
use Rattle.std.specs.Prelude.{◌≡◌, ℕ, ◌+◌, ◌-◌, ◌*◌, ◌<◌, ◌≤◌, Bool, true, false, cond, ◌≢◌, List, [], ◌∷◌, ◌++◌, slice_get, Some, None, refl}
use Rattle.std.proofs.Common.{ap, subst, inl, inr, mul-le-mul, mul-le-mul_right, add-mul, mul_comm, arith}
use Rattle.alternating_bit.specs.declared.channel.Channel.{Channel}
use Rattle.alternating.specs.AlternatingPosts.{unless_arrived, due_in}
use Rattle.alternating_bit.specs.Channels.{first_has_arrived, waiting_in, after_acknowledgement}
use Rattle.alternating.specs.ChannelSteps.{Heard, acknowledged_bit}
use Rattle.posts.specs.MessageLists.{items, oldest_of, rest_of}
use Rattle.posts.specs.declared.message_list.MessageList.TheVariants.{Empty}
use Rattle.posts.proofs.MessageLists.{empty_without_first}
use Rattle.wires.specs.declared.message.Message.{Message}

-- the due where nothing has arrived, if the first outgoing message has arrived before or not
abbrev wait : ℕ → ℕ → ℕ → Bool → ℕ
wait k g h before = cond before (h * (k + 1) + (g + 1) + (k + 1)) (g + 1)

-- What holds of 0, and of the due where nothing has arrived, holds of the due.
unless_falls : (a : List Message) (m n : ℕ) → m ≤ n - 1 → unless_arrived a m ≤ unless_arrived a n - 1
unless_falls [] m n h = h
unless_falls (x ∷ xs) m n h = omega arith

unless_within : (a : List Message) (n top : ℕ) → n ≤ top → unless_arrived a n ≤ top
unless_within [] n top h = h
unless_within (x ∷ xs) n top h = omega arith

-- The lag.
abbrev lag_for : ℕ → ℕ
lag_for k = (k + 1) * (k + 2)

pub lag_at_least_one : (k : ℕ) → 1 ≤ lag_for k
lag_at_least_one k = omega (arith, mul-le-mul {n₁ = 1} {m₁ = 1} {n₂ = k + 1} {m₂ = k + 2} (omega arith) (omega arith))

pub lag_at_most_thousand : (k : ℕ) → k ≤ 7 → lag_for k ≤ 1000
lag_at_most_thousand k h = omega (arith, mul-le-mul {n₁ = k + 1} {m₁ = k + 2} {n₂ = 8} {m₂ = 9} (omega arith) (omega arith))

lag_is_a_sum : (k : ℕ) → lag_for k ≡ k * (k + 1) + (k + 1) + (k + 1)
lag_is_a_sum k = omega (arith, mul_comm (k + 1) (k + 2), add-mul k 2 (k + 1))

wait_within_lag : (k g h : ℕ) (before : Bool) → g ≤ k → h ≤ k → wait k g h before ≤ lag_for k
wait_within_lag k g h true there back = omega (arith, lag_is_a_sum k, mul-le-mul_right (k + 1) back)
wait_within_lag k g h false there back = omega (arith, lag_is_a_sum k)

pub due_within_lag : (k g h : ℕ) (ch : Channel) → g ≤ k → h ≤ k → due_in k g h ch ≤ lag_for k
due_within_lag k g h ch there back = unless_within (items ch.arrived) _ _ (wait_within_lag k g h (first_has_arrived ch) there back)

-- 0 where something has arrived, and only there.
pub due_over : (k g h : ℕ) (ch : Channel) (m : Message) → oldest_of ch.arrived ≡ Some m → due_in k g h ch ≡ 0
due_over k g h ch m first = over (items ch.arrived) (wait k g h (first_has_arrived ch)) first
  where
    over : (a : List Message) (n : ℕ) → slice_get a 0 ≡ Some m → unless_arrived a n ≡ 0
    over [] n e = cc
    over (x ∷ xs) n e = refl

wait_is_some : (k g h : ℕ) (before : Bool) → 1 ≤ wait k g h before
wait_is_some k g h true = omega arith
wait_is_some k g h false = omega arith

pub due_not_over : (k g h : ℕ) (ch : Channel) → oldest_of ch.arrived ≡ None → due_in k g h ch ≢ 0
due_not_over k g h ch none over =
    omega (arith, over, ap (λ a. unless_arrived (items a) (wait k g h (first_has_arrived ch))) (empty_without_first ch.arrived none), wait_is_some k g h (first_has_arrived ch))

-- Nothing is sent: then something has arrived, if anything waits.
over_when_idle : (k g h : ℕ) (a : List Message) (before : Bool) → a ++ items (cond before (rest_of Empty) Empty) ≢ [] → unless_arrived a (wait k g h before) ≡ 0
over_when_idle k g h [] true busy = absurd (busy refl)
over_when_idle k g h [] false busy = absurd (busy refl)
over_when_idle k g h (x ∷ xs) before busy = refl

pub due_idle : (k g h : ℕ) (ch : Channel) → oldest_of ch.outgoing ≡ None → waiting_in ch ≢ [] → due_in k g h ch ≡ 0
due_idle k g h ch none busy =
    let nothing = empty_without_first ch.outgoing none in
    let still = subst (λ o. items ch.arrived ++ items (cond (first_has_arrived ch) (rest_of o) o) ≢ []) nothing busy in
    over_when_idle k g h (items ch.arrived) (first_has_arrived ch) still

-- A message is lost on its way there.
wait_lost : (k g g' h : ℕ) (before : Bool) → g' < g → wait k g' h before ≤ wait k g h before - 1
wait_lost k g g' h true less = omega arith
wait_lost k g g' h false less = omega arith

pub due_lost : (k g g' h : ℕ) (ch : Channel) → g' < g → due_in k g' h ch ≤ due_in k g h ch - 1
due_lost k g g' h ch less = unless_falls (items ch.arrived) _ _ (wait_lost k g g' h (first_has_arrived ch) less)

-- A message comes through, and its acknowledgement is lost.
wait_unacknowledged : (k g g' h h' : ℕ) → g' ≤ k → h' < h → wait k g' h' true ≤ wait k g h true - 1
wait_unacknowledged k g g' h h' there less = omega (arith, mul-le-mul_right (k + 1) less, add-mul h' 1 (k + 1))

pub due_unacknowledged : (k g g' h h' : ℕ) (ch d : Channel) → Heard ch d → g' ≤ k → h' < h → due_in k g' h' d ≤ due_in k g h ch - 1
due_unacknowledged k g g' h h' ch d heard there less = elim heard.again_or_new [
  | inl again ↦
      let before = λ (x y : ℕ). ap (λ b. unless_arrived (items ch.arrived) (wait k x y b)) again.0 in
      omega (arith, ap (due_in k g' h') again.1, before g h, before g' h', unless_falls (items ch.arrived) _ _ (wait_unacknowledged k g g' h h' there less))
  | inr new ↦ omega (arith, new (wait k g' h' (first_has_arrived d)))
]

-- A message comes through, and so does its acknowledgement.
wait_acknowledged : (k g g' h h' : ℕ) → g' ≤ k → wait k g' h' false ≤ wait k g h true - 1
wait_acknowledged k g g' h h' there = omega arith

pub due_acknowledged : (k g g' h h' : ℕ) (ch d : Channel) → Heard ch d → g' ≤ k → due_in k g' h' (after_acknowledgement d) ≤ due_in k g h ch - 1
due_acknowledged k g g' h h' ch d heard there =
    let now = ap (λ b. unless_arrived (items d.arrived) (wait k g' h' b)) (acknowledged_bit d heard.has_arrived) in
    elim heard.again_or_new [
      | inl again ↦
          let before = ap (λ b. unless_arrived (items ch.arrived) (wait k g h b)) again.0 in
          let same = ap (λ x. unless_arrived (items x.arrived) (wait k g' h' false)) again.1 in
          omega (arith, now, same, before, unless_falls (items ch.arrived) _ _ (wait_acknowledged k g g' h h' there))
      | inr new ↦ omega (arith, now, new (wait k g' h' false))
    ]
