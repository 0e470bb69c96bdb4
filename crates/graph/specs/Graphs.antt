-- What a graph answers when it is made, when two drinkers are joined, and when it is asked for a bottle's ends.
use Rattle.std.specs.Prelude.{◌≡◌, ℕ, ◌<◌, ◌≤◌, true, ◌⊎◌, List, [], ◌∷◌, ◌++◌, length, take, Some, None, Ok, Err, Option, Result}
use Rattle.graph.specs.declared.ends.Ends.{Ends}
use Rattle.graph.specs.declared.graph.Graph.{Graph}
use Rattle.graph.specs.Ends.{between, end_at, neighbours}
use Rattle.refusals.specs.declared.Refusal.{Refusal}
use Rattle.refusals.specs.Numbers.{number_of}

-- the ends of the bottles that there are, in number order
abbrev pub ends_of : Graph → List Ends
ends_of g = take g.bottles g.ends

-- a new graph has 1 to 16 drinkers and no bottle; another count is refused with 11
abbrev pub Made : ℕ → Result Graph Refusal → Type 0
Made n (Ok g) = (1 ≤ n) × (n ≤ 16) × (g.drinkers ≡ n) × (ends_of g ≡ [])
Made n (Err e) = ((n < 1) ⊎ (16 < n)) × (number_of e ≡ 11)

-- u and v can be the ends of the next bottle
pub record Joinable (g : Graph) (u v : ℕ) : Type 0 where
  pub in_order : u < v
  pub known : v < g.drinkers
  pub not_joined : neighbours (ends_of g) u v ≡ true → ⊥

-- the graph with one bottle more, between u and v
pub record Joined (g : Graph) (u v : ℕ) (h : Graph) : Type 0 where
  pub same_drinkers : h.drinkers ≡ g.drinkers
  pub one_more : ends_of h ≡ ends_of g ++ between u v ∷ []

-- what `join` answers and leaves: the next free number; 11 when there are 32 bottles, and else 10 for unfit ends
abbrev pub Join : Graph → ℕ → ℕ → Result ℕ Refusal → Graph → Type 0
Join g u v (Ok b) h = (length (ends_of g) < 32) × Joinable g u v × (b ≡ length (ends_of g)) × Joined g u v h
Join g u v (Err e) h =
    (((length (ends_of g) ≡ 32) × (number_of e ≡ 11)) ⊎ ((length (ends_of g) < 32) × (Joinable g u v → ⊥) × (number_of e ≡ 10)))
    × (h ≡ g)

abbrev pub EndsAsked : List Ends → ℕ → Option Ends → Type 0
EndsAsked es b (Some e) = (b < length es) × (e ≡ end_at es b)
EndsAsked es b None = length es ≤ b
