-- Sums, counts and tests over the numbers below a bound: how they compare, and what one number adds.
use Rattle.std.proofs.Common.{◌≡◌, ℕ, zero, suc, ◌+◌, ◌<◌, ◌≤◌, Bool, true, false, cond, ◌||◌, eqb, refl, ⊎_elim, arith}
use Rattle.std.proofs.lemmas.Bool.{or_left, or_right, or_cases, cond-true, cases_eq}
use Rattle.std.proofs.lemmas.Bool.Decides.{nat_tests}
use Rattle.graph.specs.Counting.{total, number, any}

pub total_le : (g k : ℕ → ℕ) (n : ℕ) → ((i : ℕ) → i < n → g i ≤ k i) → total g n ≤ total k n
unfolding total
total_le g k zero h = omega arith
total_le g k (suc n) h =
    let below = total_le g k n (λ i l. h i (omega arith)) in
    omega (arith, h n (omega arith))

-- one smaller, none larger
pub total_lt : (g k : ℕ → ℕ) (n j : ℕ) → ((i : ℕ) → i < n → g i ≤ k i) → j < n → g j < k j → total g n < total k n
unfolding total
total_lt g k zero j h l s = omega arith
total_lt g k (suc n) j h l s =
    let rest : (i : ℕ) → i < n → g i ≤ k i = λ i m. h i (omega arith) in
    let last = h n (omega arith) in
    ⊎_elim
    (λ e. let s' : g n < k n = rw e at s in omega (arith, total_le g k n rest))
    (λ e. omega (arith, total_lt g k n j rest (omega arith) s))
    (cases_eq j n)

pub total_at : (g : ℕ → ℕ) (n j : ℕ) → j < n → g j ≤ total g n
unfolding total
total_at g zero j l = omega arith
total_at g (suc n) j l =
    ⊎_elim (λ e. rw e (omega arith)) (λ e. omega (arith, total_at g n j (omega arith))) (cases_eq j n)

-- each at most one more
pub total_one_more : (g k : ℕ → ℕ) (n : ℕ) → ((i : ℕ) → i < n → g i ≤ 1 + k i) → total g n ≤ n + total k n
unfolding total
total_one_more g k zero h = omega arith
total_one_more g k (suc n) h =
    let below = total_one_more g k n (λ i l. h i (omega arith)) in
    omega (arith, h n (omega arith))

pub total_sum : (g k : ℕ → ℕ) (n : ℕ) → total (λ i. g i + k i) n ≡ total g n + total k n
unfolding total
total_sum g k zero = omega arith
total_sum g k (suc n) = omega (arith, total_sum g k n)

pub total_none : (n : ℕ) → total (λ _. 0) n ≡ 0
unfolding total
total_none zero = refl
total_none (suc n) = omega (arith, total_none n)

-- what a number adds if it passes a test: no more where the test is stricter and the number smaller
part_le : (a b : Bool) (x y : ℕ) → (a ≡ true → b ≡ true) → (a ≡ true → x ≤ y) → cond a x 0 ≤ cond b y 0
part_le false b x y h k = omega arith
part_le true b x y h k = rw (cond-true b y 0 (h refl)) (k refl)

-- two sums over those that pass a test, u' within u, and there s' at most s
module _ (n : ℕ) (u u' : ℕ → Bool) (s s' : ℕ → ℕ)
    (fewer : (i : ℕ) → i < n → u' i ≡ true → u i ≡ true) (less : (i : ℕ) → i < n → u' i ≡ true → s' i ≤ s i) where
  pub sum_le : total (λ i. cond (u' i) (s' i) 0) n ≤ total (λ i. cond (u i) (s i) 0) n
  sum_le = total_le _ _ n (λ i l. part_le (u' i) (u i) (s' i) (s i) (fewer i l) (less i l))

  pub sum_lt : (j : ℕ) → j < n → cond (u' j) (s' j) 0 < cond (u j) (s j) 0
      → total (λ i. cond (u' i) (s' i) 0) n < total (λ i. cond (u i) (s i) 0) n
  sum_lt j = total_lt _ _ n j (λ i l. part_le (u' i) (u i) (s' i) (s i) (fewer i l) (less i l))

pub number_le : (t u : ℕ → Bool) (n : ℕ) → ((i : ℕ) → i < n → t i ≡ true → u i ≡ true) → number t n ≤ number u n
unfolding number
number_le t u n h = total_le _ _ n (λ i l. part_le (t i) (u i) 1 1 (h i l) (λ _. omega arith))

pub number_lt : (t u : ℕ → Bool) (n j : ℕ) → ((i : ℕ) → i < n → t i ≡ true → u i ≡ true) → j < n → t j ≡ false → u j ≡ true
    → number t n < number u n
unfolding number
number_lt t u n j h l f e = total_lt _ _ n j (λ i l. part_le (t i) (u i) 1 1 (h i l) (λ _. omega arith)) l (rw (f, e) (omega arith))

pub number_most : (t : ℕ → Bool) (n : ℕ) → number t n ≤ n
unfolding number total
number_most t zero = omega arith
number_most t (suc n) = omega (arith, number_most t n, each (t n))
  where
    each : (a : Bool) → cond a 1 0 ≤ 1
    each true = omega arith
    each false = omega arith

pub number_or : (t u : ℕ → Bool) (n : ℕ) → number (λ i. t i || u i) n ≤ number t n + number u n
unfolding number total
number_or t u zero = omega arith
number_or t u (suc n) = omega (arith, number_or t u n, each (t n) (u n))
  where
    each : (a b : Bool) → cond (a || b) 1 0 ≤ cond a 1 0 + cond b 1 0
    each true b = omega arith
    each false b = omega arith

number_past : (j n : ℕ) → n ≤ j → number (λ i. eqb i j) n ≡ 0
unfolding number total
number_past j zero l = refl
number_past j (suc n) l = let below = number_past j n (omega arith) in grind (arith, nat_tests, below)

-- one number at most is j
pub number_one : (j n : ℕ) → number (λ i. eqb i j) n ≤ 1
unfolding number total
number_one j zero = omega arith
number_one j (suc n) = let below = number_one j n in let past = number_past j n in grind (arith, nat_tests, below, past)

-- the number j is one more, if it does not pass yet
pub number_more : (t : ℕ → Bool) (n j : ℕ) → j < n → t j ≡ false → number t n + 1 ≤ number (λ i. eqb i j || t i) n
number_more t n j l f = omega (arith, number_lt t (λ i. eqb i j || t i) n j (λ i _ e. or_right (eqb i j) (t i) e) l f (go j))
  where
    go : (j : ℕ) → (eqb j j || t j) ≡ true
    go j = grind (arith, nat_tests)

pub any_from : (t : ℕ → Bool) (n j : ℕ) → j < n → t j ≡ true → any t n ≡ true
unfolding any
any_from t zero j l e = absurd (omega arith)
any_from t (suc n) j l e =
    ⊎_elim (λ s. or_left (t n) _ (rw s at e)) (λ s. or_right (t n) _ (any_from t n j (omega arith) e)) (cases_eq j n)

pub any_gives : (t : ℕ → Bool) (n : ℕ) → any t n ≡ true → (j : ℕ) × (j < n) × (t j ≡ true)
unfolding any
any_gives t zero e = cc
any_gives t (suc n) e =
    ⊎_elim (λ s. (n, omega arith, s)) (λ s. let r = any_gives t n s in (r.0, omega arith, r.2)) (or_cases (t n) _ e)

pub any_none : (t : ℕ → Bool) (n j : ℕ) → any t n ≡ false → j < n → t j ≡ true → ⊥
any_none t n j e l s = cc (any_from t n j l s)
