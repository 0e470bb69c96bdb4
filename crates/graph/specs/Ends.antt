-- The ends of bottles, as a list: bottle b is the element at place b. Drinkers that share a bottle are neighbours.
use Rattle.std.specs.Prelude.{ℕ, ◌<◌, Bool, ◌&&◌, ◌||◌, List, length, ◌==◌, ◌≢◌, nat_lt, slice_index_or}
use Rattle.std.specs.List.{list_any}
use Rattle.graph.specs.declared.ends.Ends.{Ends}

abbrev pub between : ℕ → ℕ → Ends
between u v = record { lower = u; higher = v }

-- the ends of bottle b; 0 and 0 where there is no such bottle
abbrev pub end_at : List Ends → ℕ → Ends
end_at es b = slice_index_or es b (between 0 0)

-- p and q are the two ends, in either order
abbrev pub joins : Ends → ℕ → ℕ → Bool
joins e p q = (p == e.lower && q == e.higher) || (p == e.higher && q == e.lower)

-- p is one of the two ends
abbrev pub touches : Ends → ℕ → Bool
touches e p = p == e.lower || p == e.higher

-- p and q share a bottle
abbrev pub neighbours : List Ends → ℕ → ℕ → Bool
neighbours es p q = list_any (λ e. joins e p q) es

-- there is a bottle b, and p is one of its ends
abbrev pub is_end : List Ends → ℕ → ℕ → Bool
is_end es p b = nat_lt b (length es) && touches (end_at es b) p

-- each bottle has two ends U < V among n drinkers
abbrev pub EndsOrdered : ℕ → List Ends → Type 0
EndsOrdered n es = (b : ℕ) → b < length es → ((end_at es b).lower < (end_at es b).higher) × ((end_at es b).higher < n)

-- no pair of drinkers shares two bottles
abbrev pub PairsOnce : List Ends → Type 0
PairsOnce es = (a b : ℕ) → a < b → b < length es → end_at es a ≢ end_at es b
