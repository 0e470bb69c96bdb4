-- What a relation says of two numbers, and what a write to one pair leaves. Users of a relation read these words and never a row.
use Rattle.std.specs.Prelude.{◌≡◌, ℕ, ◌<◌, Bool, false, cond, ◌&&◌, List, [], length, ◌==◌, nat_lt, slice_index_or}
use Rattle.relations.specs.declared.relation.Relation.{Relation}

-- what stands in row p at q; outside the table, nothing is related
unfoldable pub at : List (List Bool) → ℕ → ℕ → Bool
at rows p q = slice_index_or (slice_index_or rows p []) q false

-- sixteen rows of sixteen
abbrev pub Square : List (List Bool) → Type 0
Square rows = (length rows ≡ 16) × ((p : ℕ) → p < 16 → length (slice_index_or rows p []) ≡ 16)

-- p is related to q
abbrev pub related : Relation → ℕ → ℕ → Bool
related r = at r.rows

-- is this the pair p, q, and are both below 16?
abbrev pub is_pair : ℕ → ℕ → ℕ → ℕ → Bool
is_pair p q a b = (a == p && b == q) && (nat_lt p 16 && nat_lt q 16)

-- s is r, but for the pair p, q
abbrev pub Written : Relation → ℕ → ℕ → Bool → Relation → Type 0
Written r p q v s = (a b : ℕ) → related s a b ≡ cond (is_pair p q a b) v (related r a b)
