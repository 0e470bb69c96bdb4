-- Phases as tests: what a test tells of a phase, and what a change of one phase leaves.
use Rattle.std.proofs.Common.{◌≡◌, ℕ, true, eqb, refl}
use Rattle.std.proofs.lemmas.Bool.{eq-eqb, ne_eqb, cond-true, cond-false}
use Rattle.dining.specs.declared.phase.Phase.{Phase}
use Rattle.dining.specs.declared.phase.Phase.TheVariants.{Thinking, Hungry, Eating}
use Rattle.dining.specs.Phases.{is_hungry, is_eating, with_phase}

pub eating_from_test : (x : Phase) → is_eating x ≡ true → x ≡ Eating
eating_from_test Thinking e = cc
eating_from_test Hungry e = cc
eating_from_test Eating e = refl

pub test_from_eating : (x : Phase) → x ≡ Eating → is_eating x ≡ true
test_from_eating x e = rw e

pub hungry_from_test : (x : Phase) → is_hungry x ≡ true → x ≡ Hungry
hungry_from_test Thinking e = cc
hungry_from_test Hungry e = refl
hungry_from_test Eating e = cc

pub test_from_hungry : (x : Phase) → x ≡ Hungry → is_hungry x ≡ true
test_from_hungry x e = rw e

pub phase_here : (phases : ℕ → Phase) (p : ℕ) (x : Phase) → with_phase phases p x p ≡ x
unfolding with_phase
phase_here phases p x = cond-true (eqb p p) x (phases p) (eq-eqb p p refl)

pub phase_elsewhere : (phases : ℕ → Phase) (p : ℕ) (x : Phase) (q : ℕ) → (q ≡ p → ⊥) → with_phase phases p x q ≡ phases q
unfolding with_phase
phase_elsewhere phases p x q h = cond-false (eqb q p) x (phases q) (ne_eqb q p h)
