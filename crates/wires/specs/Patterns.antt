-- Patterns of the ASCII digits 0 (48) and 1 (49), read round and round: what a run of 1 is, and which patterns can be used.
use Rattle.std.specs.Prelude.{◌≡◌, ℕ, All, Contains, ◌+◌, ◌%◌, ◌<◌, ◌≤◌, max, cond, fold, map, ◌≢◌, ◌⊎◌, List, ◌++◌, length, drop, Ok, Err, Result, ◌==◌, nat_lt, slice_index}
use Rattle.std.specs.List.{prefix_len, range_with_len}
use Rattle.refusals.specs.declared.Refusal.{Refusal}
use Rattle.refusals.specs.Numbers.{number_of}

-- how many 1 these digits begin with
abbrev pub leading : List ℕ → ℕ
leading ds = prefix_len (λ d. d == 49) ds

-- the run of 1 from place p on: read to the end, and once more from the start (a pattern has a 0, so that no run goes further)
abbrev pub run : List ℕ → ℕ → ℕ
run ds p = leading (drop p ds ++ ds)

-- the greatest of the runs from each place on
abbrev pub longest : List ℕ → ℕ
longest ds = fold max 0 (map (run ds) (range_with_len 0 (length ds)))

-- the digit i places after place p, read round and round
abbrev pub digit_after : List ℕ → ℕ → ℕ → ℕ
digit_after ds p i = slice_index ds ((p + i) % length ds)

-- k is the longest run of 1, read round and round: from some place on k digits are 1, and from no place on k + 1 are.
pub record LongestRun (ds : List ℕ) (k : ℕ) : Type 0 where
  pub as_many : (p : ℕ) × (p < length ds) × ((i : ℕ) → i < k → digit_after ds p i ≡ 49)
  pub no_more : (p : ℕ) → p < length ds → (i : ℕ) × (i ≤ k) × (digit_after ds p i ≢ 49)

-- the place after p, round
abbrev pub following : List ℕ → ℕ → ℕ
following ds p = cond (nat_lt (p + 1) (length ds)) (p + 1) 0

abbrev pub Digit : ℕ → Type 0
Digit b = (b ≡ 48) ⊎ (b ≡ 49)

pub record Usable (ds : List ℕ) : Type 0 where
  pub at_least_one : 1 ≤ length ds
  pub at_most_sixty_four : length ds ≤ 64
  pub only_digits : All Digit ds
  pub has_a_zero : Contains ds 48
  pub at_most_seven_in_a_row : longest ds ≤ 7

-- what the check of a pattern answers
abbrev pub Checked : List ℕ → Result ℕ Refusal → Type 0
Checked ds (Ok k) = Usable ds × (k ≡ longest ds)
Checked ds (Err e) = (Usable ds → ⊥) × (number_of e ≡ 9)
