-- What the tables of a fork diner hold: the phases after a write, and the model after one visit. A user of the diner need not read this.
use Rattle.std.specs.Prelude.{◌≡◌, ℕ, ◌<◌, List, length, slice_set}
use Rattle.std.proofs.Math.Path.{fun_ext}
use Rattle.std.proofs.Common.{sym, ◌∙◌, ⊎_elim}
use Rattle.std.proofs.lemmas.List.{get_or-set_same, get_or-set_other}
use Rattle.std.proofs.lemmas.Bool.{cases_eq}
use Rattle.dining.specs.declared.phase.Phase.{Phase}
use Rattle.dining.specs.declared.phase.Phase.TheVariants.{Thinking}
use Rattle.dining.specs.Phases.{with_phase}
use Rattle.dining.proofs.Phases.{phase_here, phase_elsewhere}
use Rattle.forks.specs.Forks.{Forks, phase_at, with_phases, may_eat, feed_if}

-- A phase that is written.
pub phase_written : (xs : List Phase) (p : ℕ) (x : Phase) → p < length xs → phase_at (slice_set xs p x) ≡ with_phase (phase_at xs) p x
phase_written xs p x l = fun_ext (λ j. ⊎_elim
    (λ e. rw e (get_or-set_same xs p x Thinking l ∙ sym (phase_here (phase_at xs) p x)))
    (λ e. get_or-set_other xs p j x Thinking e ∙ sym (phase_elsewhere (phase_at xs) p x j e))
    (cases_eq j p))

-- p eats at once, if it may
abbrev pub after_visit : Forks → ℕ → Forks
after_visit f p = with_phases f (feed_if (may_eat f p) f.phase p)
