-- A turn, entry by entry: those passed are fed, and those to come are as they were.
use Rattle.std.proofs.Common.{◌≡◌, ℕ, ◌+◌, ◌<◌, Bool, false, ◌||◌, List, [], ◌∷◌, ◌++◌, length, get_or, take, drop, set, refl, sym, ap, ◌∙◌, arith}
use Rattle.std.proofs.Math.Seq.{take-append_seam, set-append_seam, get_or-append_seam}
use Rattle.std.proofs.lemmas.List.{append-nil, append_assoc, take_more, drop_more, length-take-le}
use Rattle.queueing.specs.declared.entry.Entry.{Entry}
use Rattle.queueing.specs.Queue.{has_neighbour, feed, fed}

abbrev pub no_entry : Entry
no_entry = record { drinker = 0; eating = false }

abbrev pub at : List Entry → ℕ → Entry
at es i = get_or es i no_entry

module _ (near : ℕ → ℕ → Bool) where
  neighbours_fed : (earlier es : List Entry) (q : ℕ) → has_neighbour near (fed near earlier es) q ≡ has_neighbour near es q
  neighbours_fed earlier [] q = refl
  neighbours_fed earlier (e ∷ es) q = ap (λ t. near e.drinker q || t) (neighbours_fed (earlier ++ e ∷ []) es q)

  length_fed : (earlier es : List Entry) → length (fed near earlier es) ≡ length es
  length_fed earlier [] = refl
  length_fed earlier (e ∷ es) = omega (arith, length_fed (earlier ++ e ∷ []) es)

  fed_push : (earlier es : List Entry) (x : Entry) → fed near earlier (es ++ x ∷ []) ≡ fed near earlier es ++ feed near (earlier ++ es) x ∷ []
  fed_push earlier [] x = ap (λ xs. feed near xs x ∷ []) (sym (append-nil earlier))
  fed_push earlier (e ∷ es) x =
      ap (λ xs. feed near earlier e ∷ xs) (fed_push (earlier ++ e ∷ []) es x
      ∙ ap (λ xs. fed near (earlier ++ e ∷ []) es ++ feed near xs x ∷ []) (append_assoc earlier (e ∷ []) es))

  -- the first entry to come is fed where it stands
  feeding_seam : (es rest : List Entry) (e : Entry) → let front = fed near [] es in
      set (front ++ e ∷ rest) (length front) (feed near (take (length front) (front ++ e ∷ rest)) (at (front ++ e ∷ rest) (length front)))
      ≡ fed near [] (es ++ e ∷ []) ++ rest
  feeding_seam es rest e =
      let front = fed near [] es in
      rw (take-append_seam front (e ∷ rest), get_or-append_seam front e rest no_entry, set-append_seam front e rest, neighbours_fed [] es e.drinker, fed_push [] es e, append_assoc) refl

  pub feeding_more : (old now : List Entry) (i : ℕ) → i < length old → now ≡ fed near [] (take i old) ++ drop i old
      → set now i (feed near (take i now) (at now i)) ≡ fed near [] (take (i + 1) old) ++ drop (i + 1) old
  feeding_more old now i l e =
      let front = fed near [] (take i old) in
      let here : length front ≡ i = omega (arith, length_fed [] (take i old), length-take-le i old) in
      let seam : now ≡ front ++ at old i ∷ drop (i + 1) old = e ∙ ap (λ xs. front ++ xs) (drop_more old i no_entry l) in
      (λ j. set (seam j) (sym here j) (feed near (take (sym here j) (seam j)) (at (seam j) (sym here j))))
      ∙ feeding_seam (take i old) (drop (i + 1) old) (at old i)
      ∙ sym (ap (λ xs. fed near [] xs ++ drop (i + 1) old) (take_more old i no_entry l))
