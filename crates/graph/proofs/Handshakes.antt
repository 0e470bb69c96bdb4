-- The neighbours of all drinkers, added up, are at most twice the bottles.
use Rattle.std.proofs.Common.{ℕ, ◌+◌, ◌*◌, ◌≤◌, Bool, true, false, cond, ◌&&◌, eqb, List, [], ◌∷◌, length, arith}
use Rattle.graph.specs.declared.ends.Ends.{Ends}
use Rattle.graph.specs.Counting.{total, number}
use Rattle.graph.specs.Ends.{joins, neighbours}
use Rattle.graph.proofs.Counting.{total_le, total_sum, total_none, number_or, number_one}

number_part : (c : Bool) (j n : ℕ) → number (λ i. c && eqb i j) n ≤ cond c 1 0
unfolding number
number_part true j n = number_one j n
number_part false j n = omega (arith, total_none n)

-- one bottle makes two drinkers each other's neighbour
one_bottle : (e : Ends) (n : ℕ) → total (λ p. number (joins e p) n) n ≤ 2
unfolding number
one_bottle e n =
    let ends = total_le (λ p. number (joins e p) n) (λ p. cond (eqb p e.lower) 1 0 + cond (eqb p e.higher) 1 0) n (λ p _. each p) in
    omega (
      arith,
      ends,
      total_sum (λ p. cond (eqb p e.lower) 1 0) (λ p. cond (eqb p e.higher) 1 0) n,
      number_one e.lower n,
      number_one e.higher n,
    )
  where
    each : (p : ℕ) → number (joins e p) n ≤ cond (eqb p e.lower) 1 0 + cond (eqb p e.higher) 1 0
    each p = omega (
      arith,
      number_or (λ q. eqb p e.lower && eqb q e.higher) (λ q. eqb p e.higher && eqb q e.lower) n,
      number_part (eqb p e.lower) e.higher n,
      number_part (eqb p e.higher) e.lower n,
    )

pub handshakes : (es : List Ends) (n : ℕ) → total (λ p. number (neighbours es p) n) n ≤ 2 * length es
unfolding number
handshakes [] n = omega (arith, total_none n, total_le (λ p. number (neighbours [] p) n) (λ _. 0) n (λ p _. omega (arith, total_none n)))
handshakes (e ∷ es) n =
    omega (
      arith,
      handshakes es n,
      one_bottle e n,
      total_le (λ p. number (neighbours (e ∷ es) p) n) (λ p. number (joins e p) n + number (neighbours es p) n) n (λ p _. number_or (joins e p) (neighbours es p) n),
      total_sum (λ p. number (joins e p) n) (λ p. number (neighbours es p) n) n,
    )
