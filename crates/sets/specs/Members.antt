-- What is in a set: the numbers whose bits are 1. Users of a set read these words and never a bit.
use Rattle.std.specs.Prelude.{◌≡◌, ℕ, ◌/◌, ◌%◌, ◌^◌, Bool, true, false, ◌&&◌, ◌||◌, ◌==◌, nat_lt}
use Rattle.sets.specs.declared.Set.{Set}

abbrev pub with_bits : ℕ → Set
with_bits w = record { bits = w }

-- bit b of the word is 1
abbrev pub bit_of : ℕ → ℕ → Bool
bit_of w b = (w / 2 ^ b) % 2 == 1

-- is b a member?
abbrev pub has : Set → ℕ → Bool
has s b = bit_of s.bits b

abbrev pub NoneIn : Set → Type 0
NoneIn s = (b : ℕ) → has s b ≡ false

abbrev pub SomeIn : Set → Type 0
SomeIn s = (b : ℕ) × (has s b ≡ true)

-- each member of s is a member of t
abbrev pub Within : Set → Set → Type 0
Within s t = (b : ℕ) → has s b ≡ true → has t b ≡ true

-- t has the members of s, and m, if it is below 32, and no others
abbrev pub Adds : Set → ℕ → Set → Type 0
Adds s m t = (b : ℕ) → has t b ≡ (has s b || (b == m && nat_lt m 32))
