-- The bits of a word: past its end, with one bit more, that only 0 has none, and of what two words share.
use Rattle.std.proofs.Common.{◌≡◌, ℕ, ◌*◌, ◌/◌, ◌%◌, ◌^◌, ◌<◌, ◌≤◌, true, false, ◌&&◌, ◌||◌, eqb, ltb, ⊎_elim, arith}
use Rattle.std.proofs.lemmas.Bool.{eq-eqb, eqb-true, eqb-false, cases_eq, cases_lt}
use Rattle.std.proofs.lemmas.Bool.Decides.{nat_tests}
use Rattle.std.proofs.lemmas.Nat.{pow_below}
use Rattle.std.proofs.lemmas.Nat.Bits.{bit_at-zero, bit_at_and, bit_at_set_same, bit_at_set_other, bit_at-trailing_zeros, same_from_bits}
use Rattle.std.specs.Int.{bit_at, trailing_zeros, w32}
use Rattle.std.specs.Int.RustNames.{bit_or}
use native.Mathlib.Nat.{div-eq_of_lt}
use lib.Bits.{bit_and}
use Rattle.sets.specs.Members.{bit_of}

-- a word has no bit from 32 on
pub bit_of_past : (w b : ℕ) → w < 4294967296 → 32 ≤ b → bit_of w b ≡ false
bit_of_past w b l h =
    let small : w < 2 ^ b = ⊎_elim (λ (m : 32 < b). omega (arith, pow_below 32 b m)) (λ (m : b ≤ 32). (let e : b ≡ 32 = omega arith in rw e l)) (cases_lt 32 b) in
    let none : w / 2 ^ b ≡ 0 = div-eq_of_lt small in
    rw none

-- the word with bit m too
pub bit_of_with : (x m b : ℕ) → m < 32 → bit_of (bit_or x (1 * 2 ^ m % 4294967296)) b ≡ (bit_of x b || (eqb b m && ltb m 32))
bit_of_with x m b l = ⊎_elim
    (λ (e : b ≡ m). let same = bit_at_set_same w32 x m l in grind (arith, nat_tests))
    (λ e. let other = bit_at_set_other w32 x m l b e in grind (arith, nat_tests))
    (cases_eq b m)

-- 0 has no bit, and another word has one
pub no_bit : (w b : ℕ) → eqb w 0 ≡ true → bit_of w b ≡ false
no_bit w b e = let zero = eqb-true w 0 e in rw zero (let none = bit_at-zero b in grind (arith, nat_tests))

pub has_bit : (w : ℕ) → w < 4294967296 → eqb w 0 ≡ false → (b : ℕ) × (bit_of w b ≡ true)
has_bit w l e =
    let found = bit_at-trailing_zeros w32 w (omega (arith, eqb-false w 0 e)) l in
    (trailing_zeros w32 w, eq-eqb (bit_at w (trailing_zeros w32 w)) 1 found.1)

-- a word is what it shares with another just if its bits are bits of the other
pub within_shared : (x y b : ℕ) → eqb (bit_and x y) x ≡ true → bit_of x b ≡ true → bit_of y b ≡ true
within_shared x y b e t =
    let shared : bit_and x y ≡ x = eqb-true (bit_and x y) x e in
    let least = bit_at_and x y b in
    let here : bit_at x b ≡ 1 = eqb-true (bit_at x b) 1 t in
    eq-eqb (bit_at y b) 1 (let least_of = rw shared at least in omega arith)

pub shared_within : (x y : ℕ) → eqb (bit_and x y) x ≡ false → ((b : ℕ) → bit_of x b ≡ true → bit_of y b ≡ true) → ⊥
shared_within x y e h = eqb-false (bit_and x y) x e (same_from_bits (bit_and x y) x same)
  where
    same : (b : ℕ) → bit_at (bit_and x y) b ≡ bit_at x b
    same b =
        let least = bit_at_and x y b in
        ⊎_elim (λ (one : bit_at x b ≡ 1). let too = eqb-true (bit_at y b) 1 (h b (eq-eqb (bit_at x b) 1 one)) in omega arith) (λ other. omega arith) (cases_eq (bit_at x b) 1)
