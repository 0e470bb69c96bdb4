-- What a queue keeps, so that its laws hold: each entry is a drinker's only one, and no entry that eats has a neighbour before it.
-- A user of the diner need not read this.
use Rattle.std.specs.Prelude.{ℕ, Bool, true, not, ◌&&◌, List, [], ◌∷◌, ◌==◌, nat_lt}
use Rattle.std.specs.List.{list_any}
use Rattle.queueing.specs.declared.entry.Entry.{Entry}

-- p is in the queue
abbrev pub has_entry : List Entry → ℕ → Bool
has_entry es p = list_any (λ e. e.drinker == p) es

-- one of these entries eats and is a neighbour of p
abbrev pub eating_neighbour : (ℕ → ℕ → Bool) → ℕ → List Entry → Bool
eating_neighbour near p es = list_any (λ e. near p e.drinker && e.eating) es

abbrev pub orderly : (ℕ → ℕ → Bool) → ℕ → List Entry → Bool
orderly near n [] = true
orderly near n (e ∷ es) =
    (nat_lt e.drinker n && not (has_entry es e.drinker)) && (not (eating_neighbour near e.drinker es) && orderly near n es)
