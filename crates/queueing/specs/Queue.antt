-- The queue diner as a model: the hungry and the eating, in the order in which they became hungry.
-- How it starts, what each call makes of it, and what it means.
use Rattle.std.specs.Prelude.{ℕ, ◌+◌, ◌-◌, Bool, false, cond, not, ◌&&◌, ◌||◌, List, [], ◌∷◌, ◌++◌, filter, ◌==◌}
use Rattle.std.specs.List.{list_any}
use Rattle.dining.specs.declared.phase.Phase.{Phase}
use Rattle.dining.specs.declared.phase.Phase.TheVariants.{Thinking, Hungry, Eating}
use Rattle.dining.specs.Dining.{Dining}
use Rattle.queueing.specs.declared.entry.Entry.{Entry}

pub record Queue : Type 0 where
  pub drinkers : ℕ
  pub neighbours : ℕ → ℕ → Bool
  -- the earliest first
  pub entries : List Entry

abbrev pub with_entries : Queue → List Entry → Queue
with_entries q es = record { drinkers = q.drinkers; neighbours = q.neighbours; entries = es }

-- The start: nobody is in the queue.
abbrev pub started : ℕ → (ℕ → ℕ → Bool) → Queue
started n neighbours = record { drinkers = n; neighbours = neighbours; entries = [] }

-- who is in the queue is hungry or eats; who is not thinks
abbrev pub phase_in : List Entry → ℕ → Phase
phase_in [] p = Thinking
phase_in (e ∷ es) p = cond (e.drinker == p) (cond e.eating Eating Hungry) (phase_in es p)

-- `hungry`: p is last in the queue.
abbrev pub hungry_entry : ℕ → Entry
hungry_entry p = record { drinker = p; eating = false }

abbrev pub after_hungry : Queue → ℕ → Queue
after_hungry q p = with_entries q (q.entries ++ hungry_entry p ∷ [])

-- `done`: p is no longer in the queue.
abbrev pub without : List Entry → ℕ → List Entry
without es p = filter (λ e. not (e.drinker == p)) es

abbrev pub after_done : Queue → ℕ → Queue
after_done q p = with_entries q (without q.entries p)

-- one of these entries is a neighbour of p
abbrev pub has_neighbour : (ℕ → ℕ → Bool) → List Entry → ℕ → Bool
has_neighbour near es p = list_any (λ e. near e.drinker p) es

-- an entry eats if it ate, or if none of those earlier in the queue is its neighbour
abbrev pub feed : (ℕ → ℕ → Bool) → List Entry → Entry → Entry
feed near earlier e = record { drinker = e.drinker; eating = e.eating || not (has_neighbour near earlier e.drinker) }

abbrev pub fed : (ℕ → ℕ → Bool) → List Entry → List Entry → List Entry
fed near earlier [] = []
fed near earlier (e ∷ es) = feed near earlier e ∷ fed near (earlier ++ e ∷ []) es

-- `turn`: each entry is fed that has no neighbour earlier in the queue.
abbrev pub after_turn : Queue → Queue
after_turn q = with_entries q (fed q.neighbours [] q.entries)

-- how many entries are earlier than p's
abbrev pub ahead_in : List Entry → ℕ → ℕ
ahead_in [] p = 0
ahead_in (e ∷ es) p = cond (e.drinker == p) 0 (1 + ahead_in es p)

-- h eats, and its entry is earlier than p's
abbrev pub holder_in : List Entry → ℕ → ℕ → Bool
holder_in [] p h = false
holder_in (e ∷ es) p h = cond (e.drinker == p) false ((e.drinker == h && e.eating) || holder_in es p h)

-- What it means.
abbrev pub dining : Queue → Dining
dining q = record {
  drinkers = q.drinkers;
  cap = q.drinkers - 1;
  neighbours = q.neighbours;
  phase = phase_in q.entries;
  ahead = ahead_in q.entries;
  holder = holder_in q.entries;
}
