-- Runs of 1 in a pattern: where they stop, the longest of them, and how one gets shorter as a line reads on.
use Rattle.std.specs.Prelude.{◌≡◌, ℕ, zero, suc, ◌+◌, ◌<◌, ◌≤◌, ◌⊎◌, max, Bool, true, false, cond, List, [], ◌∷◌, ◌++◌, length, drop, map, ◌==◌, nat_lt, slice_index, slice_index_or, refl}
use Rattle.std.proofs.Common.{ap, sym, ◌∙◌, inl, inr, arith, eqb-true, ltb-false}
use Rattle.std.proofs.lemmas.List.{at_drop_more, at_drop_all}
use Rattle.std.proofs.lemmas.List.Folds.{prefix_len-append}
use Rattle.std.proofs.lemmas.List.FromFn.{length-map-range_with_len, get_or-map-range_with_len}
use Rattle.std.proofs.lemmas.List.Sums.{prefix_len-le-length, prefix_len_passes}
use Rattle.std.proofs.lemmas.Bool.{cases_lt}
use Rattle.std.specs.List.{fold, range_with_len}
use Rattle.std.proofs.Math.Logic.{∥∥₁_elim}
use Rattle.std.proofs.Props.{props}
use Rattle.wires.specs.Patterns.{leading, run, longest, following, Usable}

-- The digits that are counted are 1, so that a 0 stops them.
pub zero_stops : (ds : List ℕ) → Usable ds → leading ds < length ds
zero_stops ds usable =
    elim (cases_lt (leading ds) (length ds)) [
      | inl stops ↦ stops
      | inr all ↦
          let k = usable.has_a_zero.0 in
          let one = eqb-true (slice_index_or ds k 48) 49 (prefix_len_passes (λ d. d == 49) ds k 48 (omega (arith, usable.has_a_zero.1))) in
          absurd (omega (arith, one, usable.has_a_zero.2))
    ]

pub zero_stops_if_usable : (ds : List ℕ) → ∥ Usable ds ∥₁ → leading ds < length ds
zero_stops_if_usable ds usable = ∥∥₁_elim usable (Prim.hlevel props) (zero_stops ds)

-- What follows digits that are not all 1 is not read.
leading_stops : (xs ys : List ℕ) → leading xs < length xs → leading (xs ++ ys) ≡ leading xs
leading_stops xs ys stops = grind (arith, prefix_len-append (λ d. d == 49) xs ys)

pub leading_at_most_all : (ds : List ℕ) → leading ds ≤ length ds
leading_at_most_all ds = prefix_len-le-length (λ d. d == 49) ds

-- A run that reaches the end goes on at the start.
pub run_round_the_end : (ds : List ℕ) (p : ℕ) → cond (nat_lt (leading (drop p ds)) (length (drop p ds))) (leading (drop p ds)) (leading (drop p ds) + leading ds) ≡ run ds p
run_round_the_end ds p = grind (arith, prefix_len-append (λ d. d == 49) (drop p ds) ds, prefix_len-le-length (λ d. d == 49) (drop p ds))

-- The greatest of some numbers is at least as great as each, and it is one of them.
no_less_than_the_first : (xs : List ℕ) (first : ℕ) → first ≤ fold max first xs
no_less_than_the_first [] first = omega arith
no_less_than_the_first (x ∷ xs) first = omega (arith, no_less_than_the_first xs (max first x))

no_less_than_each : (xs : List ℕ) (first k : ℕ) → k < length xs → slice_index xs k ≤ fold max first xs
no_less_than_each [] first k h = absurd (omega arith)
no_less_than_each (x ∷ xs) first zero h = omega (arith, no_less_than_the_first xs (max first x))
no_less_than_each (x ∷ xs) first (suc k) h = no_less_than_each xs (max first x) k (omega arith)

one_of_them : (xs : List ℕ) (first : ℕ) → (fold max first xs ≡ first) ⊎ ((k : ℕ) × (k < length xs) × (slice_index xs k ≡ fold max first xs))
one_of_them [] first = inl refl
one_of_them (x ∷ xs) first =
    elim (one_of_them xs (max first x)) [
      | inl is ↦ elim (cases_lt first x) [ inl less ↦ inr (0, omega arith, omega (arith, is)) | inr more ↦ inl (omega (arith, is)) ]
      | inr later ↦ inr (suc later.0, omega (arith, later.1), later.2)
    ]

pub run_at_most_longest : (ds : List ℕ) (p : ℕ) → p < length ds → run ds p ≤ longest ds
run_at_most_longest ds p h =
    let runs = map (run ds) (range_with_len 0 (length ds)) in
    omega (
      arith,
      no_less_than_each runs 0 p (omega (arith, length-map-range_with_len (run ds) 0 (length ds))),
      get_or-map-range_with_len (run ds) 0 (length ds) p p 0 h (omega arith),
    )

pub longest_is_a_run : (ds : List ℕ) → (longest ds ≡ 0) ⊎ ((p : ℕ) × (p < length ds) × (run ds p ≡ longest ds))
longest_is_a_run ds =
    elim (one_of_them (map (run ds) (range_with_len 0 (length ds))) 0) [
      | inl none ↦ inl none
      | inr some ↦
          let within : some.0 < length ds = omega (arith, some.1, length-map-range_with_len (run ds) 0 (length ds)) in
          inr (some.0, within, omega (arith, some.2, get_or-map-range_with_len (run ds) 0 (length ds) some.0 some.0 0 within (omega arith)))
    ]

-- A line that reads a 1 has a run of one less before it.
round_the_end : (ds : List ℕ) (p : ℕ) (further : Bool) → nat_lt (p + 1) (length ds) ≡ further → leading ds < length ds → run ds (cond further (p + 1) 0) ≡ run ds (p + 1)
round_the_end ds p true e h = refl
round_the_end ds p false e h =
    leading_stops ds ds h ∙ sym (at_drop_all (λ xs. leading (xs ++ ds)) ds (p + 1) (ltb-false (p + 1) (length ds) e))

pub run_falls : (ds : List ℕ) (p : ℕ) → p < length ds → leading ds < length ds → (slice_index ds p == 49) ≡ true → 1 + run ds (following ds p) ≡ run ds p
run_falls ds p h stops one =
    let here = at_drop_more (λ xs. leading (xs ++ ds)) ds p 0 h ∙ ap (λ b. cond b (1 + run ds (p + 1)) 0) one in
    ap (λ n. 1 + n) (round_the_end ds p (nat_lt (p + 1) (length ds)) refl stops) ∙ sym here
