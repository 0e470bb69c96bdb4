-- The look-out for a drinker's phase, one place on.
use Rattle.std.proofs.Common.{◌≡◌, ℕ, ◌+◌, ◌<◌, true, false, cond, ap, eqb, ◌∙◌, List, length, drop}
use Rattle.std.proofs.lemmas.List.{drop_more}
use Rattle.std.proofs.lemmas.Bool.{cond-true, cond-false}
use Rattle.dining.specs.declared.phase.Phase.TheVariants.{Hungry, Eating}
use Rattle.queueing.specs.declared.entry.Entry.{Entry}
use Rattle.queueing.specs.Queue.{phase_in}
use Rattle.queueing.proofs.Feeding.{at, no_entry}

module _ (es : List Entry) (i p : ℕ) (l : i < length es) where
  phase_next : phase_in (drop i es) p ≡ cond (eqb (at es i).drinker p) (cond (at es i).eating Eating Hungry) (phase_in (drop (i + 1) es) p)
  phase_next = ap (λ xs. phase_in xs p) (drop_more es i no_entry l)

  pub phase_found : eqb (at es i).drinker p ≡ true → phase_in (drop i es) p ≡ cond (at es i).eating Eating Hungry
  phase_found t = phase_next ∙ cond-true (eqb (at es i).drinker p) _ _ t

  pub phase_passed : eqb (at es i).drinker p ≡ false → phase_in (drop i es) p ≡ phase_in (drop (i + 1) es) p
  phase_passed t = phase_next ∙ cond-false (eqb (at es i).drinker p) _ _ t
