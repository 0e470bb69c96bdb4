-- The longest run of 1, in the words of a pattern that is read round and round: so many digits in a row are 1 somewhere, and no more anywhere.
use Rattle.std.proofs.Common.{◌≡◌, ℕ, ◌+◌, ◌-◌, ◌%◌, ◌<◌, eqb, ◌≢◌, List, ◌++◌, length, get_or, drop, sym, refl, ap, ◌∙◌, inl, inr, mod-eq_of_lt, arith, length-append, length-drop, eqb-true}
use native.Mathlib.Nat.{mod-eq-sub-mod}
use borrow.Author.Tests.{eqb-false}
use Rattle.std.proofs.lemmas.List.{get_or_append_left, get_or-append_right, get_or-drop}
use Rattle.std.proofs.lemmas.List.Folds.{prefix_len-append}
use Rattle.std.proofs.lemmas.List.Sums.{prefix_len-le-length, prefix_len_passes, prefix_len_stops}
use Rattle.std.proofs.lemmas.Bool.{cases_lt}
use Rattle.wires.specs.Patterns.{leading, run, longest, digit_after, Usable, LongestRun}
use Rattle.wires.specs.Runs.{zero_stops, run_at_most_longest, longest_is_a_run}

-- Read from a place to the end and once more from the start, the digits are those read round.
module _ (ds : List ℕ) (p : ℕ) (within : p < length ds) where
  read_round : (i : ℕ) → i < length (drop p ds) + length ds → get_or (drop p ds ++ ds) i 0 ≡ digit_after ds p i
  read_round i h = elim (cases_lt i (length (drop p ds))) [
    | inl before ↦
        let same : (p + i) % length ds ≡ p + i = mod-eq_of_lt (omega (arith, length-drop p ds)) in
        get_or_append_left (drop p ds) ds 0 i before ∙ get_or-drop p ds i 0 ∙ ap (λ k. get_or ds k 0) (sym same)
    | inr past ↦
        let less : (p + i) - length ds < length ds = omega (arith, length-drop p ds) in
        let same : (p + i) % length ds ≡ (p + i) - length ds = mod-eq-sub-mod (omega (arith, length-drop p ds)) ∙ mod-eq_of_lt less in
        let place : i - length (drop p ds) ≡ (p + i) - length ds = omega (arith, length-drop p ds) in
        get_or-append_right (drop p ds) ds (length (drop p ds)) i 0 refl past ∙ ap (λ k. get_or ds k 0) (place ∙ sym same)
  ]

  run_stops : leading ds < length ds → run ds p < length (drop p ds) + length ds
  run_stops stops =
      grind (arith, prefix_len-append (λ d. eqb d 49) (drop p ds) ds, prefix_len-le-length (λ d. eqb d 49) (drop p ds))

  run_is_of_ones : leading ds < length ds → (i : ℕ) → i < run ds p → digit_after ds p i ≡ 49
  run_is_of_ones stops i h =
      sym (read_round i (omega (arith, run_stops stops))) ∙ eqb-true _ 49 (prefix_len_passes (λ d. eqb d 49) (drop p ds ++ ds) i 0 h)

  run_ends : leading ds < length ds → digit_after ds p (run ds p) ≢ 49
  run_ends stops is =
      let another = prefix_len_stops (λ d. eqb d 49) (drop p ds ++ ds) 0 (omega (arith, run_stops stops, length-append (drop p ds) ds)) in
      eqb-false _ 49 another (read_round (run ds p) (run_stops stops) ∙ is)

pub longest_run : (ds : List ℕ) (k : ℕ) → Usable ds → k ≡ longest ds → LongestRun ds k
longest_run ds k usable is =
    let stops = zero_stops ds usable in
    record {
      as_many = elim (longest_is_a_run ds) [
        | inl none ↦ (0, usable.at_least_one, λ i h. absurd (omega (arith, h, is, none)))
        | inr best ↦ (best.0, best.1, λ i h. run_is_of_ones ds best.0 best.1 stops i (omega (arith, best.2)))
      ];
      no_more = λ p within. (run ds p, omega (arith, run_at_most_longest ds p within), run_ends ds p within stops);
    }
