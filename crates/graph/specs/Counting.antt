-- Sums, counts and tests over the numbers below a bound.
use Rattle.std.specs.Prelude.{ℕ, zero, suc, ◌+◌, Bool, false, cond, ◌||◌}

-- g 0 + .. + g (n - 1)
unfoldable pub total : (ℕ → ℕ) → ℕ → ℕ
total g zero = 0
total g (suc n) = g n + total g n

-- how many numbers below n pass the test
unfoldable pub number : (ℕ → Bool) → ℕ → ℕ
number t n = total (λ i. cond (t i) 1 0) n

-- does a number below n pass the test?
unfoldable pub any : (ℕ → Bool) → ℕ → Bool
any t zero = false
any t (suc n) = t n || any t n
