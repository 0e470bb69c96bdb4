-- One bottle more: the list of ends keeps its rules.
use Rattle.std.proofs.Common.{◌≡◌, ℕ, ◌<◌, Bool, true, ◌&&◌, ltb, List, [], ◌∷◌, ◌++◌, length, sym, refl, ap, ◌∙◌, ⊎_elim, arith}
use Rattle.std.proofs.lemmas.List.{get_or_push, get_or_append_left, length_push}
use Rattle.std.proofs.lemmas.List.Folds.{list_any_at}
use Rattle.std.proofs.lemmas.Bool.{cases_lt, eq-eqb}
use Rattle.std.proofs.lemmas.Bool.Decides.{nat_tests}
use Rattle.graph.specs.declared.ends.Ends.{Ends}
use Rattle.graph.specs.Ends.{between, end_at, joins, neighbours, is_end, EndsOrdered, PairsOnce}

module _ (es : List Ends) (u v : ℕ) where
  old_end : (b : ℕ) → b < length es → end_at (es ++ between u v ∷ []) b ≡ end_at es b
  old_end b l = get_or_append_left es (between u v ∷ []) (between 0 0) b l

  new_end : (b : ℕ) → length es ≡ b → end_at (es ++ between u v ∷ []) b ≡ between u v
  new_end b e = get_or_push es (between u v) (between 0 0) b e

  pub ordered_push : (n : ℕ) → EndsOrdered n es → u < v → v < n → EndsOrdered n (es ++ between u v ∷ [])
  ordered_push n h l m b k = ⊎_elim
      (λ s. rw (old_end b s) (h b s))
      (λ s. rw (new_end b (omega (arith, length_push es (between u v)))) (l, m))
      (cases_lt b (length es))

  pub once_push : PairsOnce es → (neighbours es u v ≡ true → ⊥) → PairsOnce (es ++ between u v ∷ [])
  once_push h fresh a b l k e = ⊎_elim
      (λ s. let before : a < length es = omega arith in h a b l s (sym (old_end a before) ∙ e ∙ old_end b s))
      (λ s.
      let last : length es ≡ b = omega (arith, length_push es (between u v)) in
      let before : a < length es = omega arith in
      let same : end_at es a ≡ between u v = sym (old_end a before) ∙ e ∙ new_end b last in
      fresh (list_any_at (λ x. joins x u v) es a (between 0 0) before (ap (λ x. joins x u v) same ∙ ends_join)))
      (cases_lt b (length es))
    where
      ends_join : joins (between u v) u v ≡ true
      ends_join = let a = eq-eqb u u refl in let b = eq-eqb v v refl in grind (arith, nat_tests)

-- The bottles below i that p shares.
abbrev pub SharedBelow : List Ends → ℕ → ℕ → (ℕ → Bool) → Type 0
SharedBelow es p i within = (b : ℕ) → within b ≡ (is_end es p b && ltb b i)
