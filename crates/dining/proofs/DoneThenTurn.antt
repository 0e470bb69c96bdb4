-- A done and then a turn, by the laws of the meaning.
use Rattle.std.proofs.Common.{◌≡◌, ℕ, ◌<◌, sym, ◌∙◌, ⊎_elim, arith}
use Rattle.dining.specs.declared.phase.Phase.{Phase}
use Rattle.dining.specs.declared.phase.Phase.TheVariants.{Thinking, Hungry, Eating}
use Rattle.dining.specs.Dining.{Dining, IsIn, Holds, Lawful}
use Rattle.dining.specs.Laws.{StaysHungry, LawfulDone, LawfulTurn, DinerLaws}
use Rattle.dining.specs.Passing.{PassesOn}

-- A turn leaves thinking and eating drinkers as they are, and makes nobody hungry.
module _ (d e : Dining) (T : LawfulTurn d e) (q : ℕ) where
  pub turn_leaves_thinking : IsIn d Thinking q → IsIn e Thinking q
  turn_leaves_thinking (l, x) = (
    omega (arith, T.goes_on.same_drinkers),
    ⊎_elim
        (λ s. s ∙ x)
        (λ s. cc s.0)
        (T.phases q l),
  )

  pub turn_leaves_eating : IsIn d Eating q → IsIn e Eating q
  turn_leaves_eating (l, x) = (omega (arith, T.goes_on.same_drinkers), ⊎_elim (λ s. s ∙ x) (λ s. s.1) (T.phases q l))

  pub turn_makes_none_hungry : IsIn e Hungry q → IsIn d Hungry q
  turn_makes_none_hungry (l, x) =
      let m : q < d.drinkers = omega (arith, T.goes_on.same_drinkers) in
      (m, ⊎_elim (λ s. sym s ∙ x) (λ s. s.0) (T.phases q m))

module _ (d c e : Dining) (p : ℕ) (lawful : Lawful e) (eats : IsIn d Eating p) (D : LawfulDone d p c) (T : LawfulTurn c e) where
  unchanged : (q : ℕ) (x : Phase) → (q ≡ p → ⊥) → IsIn d x q → IsIn c x q
  unchanged q x other (l, s) = (omega (arith, D.goes_on.same_drinkers), D.phases.no_other q l other ∙ s)

  less : (q : ℕ) → StaysHungry d e q → Holds d p q → e.ahead q < d.ahead q
  less q (before, after) held =
      let between = turn_makes_none_hungry c e T q after in
      omega (arith, D.done_of_a_holder_lowers_ahead q before held, T.goes_on.ahead_never_rises q (between, after))

  pub passes_on : PassesOn d p e
  passes_on = record {
    thinks_again = turn_leaves_thinking c e T p (omega (arith, D.goes_on.same_drinkers, eats.0), D.phases.its_own);
    eaters_go_on = λ q other ate. turn_leaves_eating c e T q (unchanged q Eating other ate);
    who_waited_for_it_has_less_ahead = less;
    hungry_have_eating_holders = λ q h. let held = T.hungry_have_holders q h in (held.0, held.1, lawful.holders_eat q held.0 h held.1);
  }

-- The same from the laws of a diner.
pub passes_on_by_laws : {S : Type 0} {means : S → Dining} {hungers leaves : S → ℕ → S → Type 0} {turns : S → S → Type 0} → DinerLaws means hungers leaves turns
    → (s : S) (p : ℕ) (between t : S) → IsIn (means s) Eating p → leaves s p between → turns between t → PassesOn (means s) p (means t)
passes_on_by_laws laws s p between t eats left turned =
    passes_on _ _ _ p (laws.always_lawful t) eats (laws.done_is_lawful s p between eats left) (laws.turn_is_lawful between t turned)
