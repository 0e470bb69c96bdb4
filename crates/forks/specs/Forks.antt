-- The fork diner as a model: of each two neighbours one precedes the other. How it starts, and what each call makes of it.
use Rattle.std.specs.Prelude.{ℕ, zero, suc, Bool, true, false, cond, not, ◌&&◌, ◌||◌, List, ◌==◌, nat_lt, slice_index_or}
use Rattle.dining.specs.declared.phase.Phase.{Phase}
use Rattle.dining.specs.declared.phase.Phase.TheVariants.{Thinking, Hungry, Eating}
use Rattle.dining.specs.Phases.{is_hungry, is_eating, with_phase}
use Rattle.graph.specs.declared.neighbourhood.Neighbourhood.{Neighbourhood}
use Rattle.graph.specs.Counting.{any}
use Rattle.graph.specs.Neighbourhoods.{near}
use Rattle.relations.specs.declared.relation.Relation.{Relation}
use Rattle.relations.specs.Related.{related}

pub record Forks : Type 0 where
  pub drinkers : ℕ
  pub bottles : ℕ
  pub neighbours : ℕ → ℕ → Bool
  pub phase : ℕ → Phase
  -- precedes p q: they are neighbours, and of the two p comes first
  pub precedes : ℕ → ℕ → Bool

-- The start: all think, and the lower number precedes.
abbrev pub started : ℕ → ℕ → (ℕ → ℕ → Bool) → Forks
started n e neighbours = record {
  drinkers = n;
  bottles = e;
  neighbours = neighbours;
  phase = λ _. Thinking;
  precedes = λ p q. neighbours p q && nat_lt p q;
}

abbrev pub with_phases : Forks → (ℕ → Phase) → Forks
with_phases f phases = record {
  drinkers = f.drinkers;
  bottles = f.bottles;
  neighbours = f.neighbours;
  phase = phases;
  precedes = f.precedes;
}

-- `hungry`: p is hungry, and nothing else has changed.
abbrev pub after_hungry : Forks → ℕ → Forks
after_hungry f p = with_phases f (with_phase f.phase p Hungry)

-- all neighbours of h precede it, it precedes nobody, and the others are as they were
unfoldable pub behind : Forks → ℕ → ℕ → ℕ → Bool
behind f h p q = cond (p == h) false (cond (q == h) (f.neighbours p h) (f.precedes p q))

-- `done`: h thinks, behind all its neighbours.
abbrev pub after_done : Forks → ℕ → Forks
after_done f h = record {
  drinkers = f.drinkers;
  bottles = f.bottles;
  neighbours = f.neighbours;
  phase = with_phase f.phase h Thinking;
  precedes = behind f h;
}

-- q keeps p from eating: it is a neighbour that eats, or a hungry one that precedes p
abbrev pub blocks : Forks → ℕ → ℕ → Bool
blocks f p q = (f.neighbours p q && is_eating (f.phase q)) || (f.precedes q p && is_hungry (f.phase q))

-- p is hungry, and nobody keeps it from eating
abbrev pub may_eat : Forks → ℕ → Bool
may_eat f p = is_hungry (f.phase p) && not (any (blocks f p) f.drinkers)

abbrev pub feed_if : Bool → (ℕ → Phase) → ℕ → ℕ → Phase
feed_if true phases p = with_phase phases p Eating
feed_if false phases p = phases

-- the phases after the first n drinkers have been visited, in number order
unfoldable pub visited : Forks → ℕ → ℕ → Phase
visited f zero = f.phase
visited f (suc n) = feed_if (may_eat (with_phases f (visited f n)) n) (visited f n) n

-- `turn`: all drinkers have been visited.
abbrev pub after_turn : Forks → Forks
after_turn f = with_phases f (visited f f.drinkers)

-- what stands at place p
abbrev pub phase_at : List Phase → ℕ → Phase
phase_at phases p = slice_index_or phases p Thinking

-- the model that the tables of a fork diner hold
abbrev pub forks_of : Neighbourhood → List Phase → Relation → Forks
forks_of s phases precedes = record {
  drinkers = s.drinkers;
  bottles = s.bottles;
  neighbours = near s;
  phase = phase_at phases;
  precedes = related precedes;
}
