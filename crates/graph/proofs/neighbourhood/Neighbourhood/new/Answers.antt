use Rattle.std.proofs.Common.{ℕ, ◌*◌, ◌≤◌, ◌≡◌, true, length, sym, subst, ◌∙◌, arith}
use mathlib.Core.Path.{fun_ext}
use Rattle.graph.specs.Counting.{total, number}
use Rattle.graph.specs.Ends.{neighbours}
use Rattle.graph.specs.Graphs.{ends_of}
use Rattle.graph.proofs.Handshakes.{handshakes}
use Rattle.graph.proofs.Sharing.{neighbours_symmetric, neighbours_irreflexive, neighbours_below}
use Rattle.graph.proofs.neighbourhood.Neighbourhood.new.Goals as goal

pub invariant_of-result-clause-known : goal.invariant_of-result-clause-known
invariant_of-result-clause-known c p q h =
    let g = c.args.graph.now in
    let es = ends_of g in
    let joined : neighbours es p q ≡ true = sym (c.neighbour_table.ensures p q) ∙ h in
    let back = neighbours_below g.drinkers es g.ordered q p (neighbours_symmetric es p q joined) in
    let there = neighbours_below g.drinkers es g.ordered p q joined in
    (omega (arith, back, c.drinkers.ensures), omega (arith, there, c.drinkers.ensures))

pub invariant_of-result-clause-symmetric : goal.invariant_of-result-clause-symmetric
invariant_of-result-clause-symmetric c p q h =
    let same = c.neighbour_table.ensures in
    same q p ∙ neighbours_symmetric (ends_of c.args.graph.now) p q (sym (same p q) ∙ h)

pub invariant_of-result-clause-irreflexive : goal.invariant_of-result-clause-irreflexive
invariant_of-result-clause-irreflexive c p h =
    let g = c.args.graph.now in
    neighbours_irreflexive g.drinkers (ends_of g) g.ordered p (sym (c.neighbour_table.ensures p p) ∙ h)

pub invariant_of-result-clause-sparse : goal.invariant_of-result-clause-sparse
invariant_of-result-clause-sparse c =
    let es = ends_of c.args.graph.now in
    let n = c.drinkers.result in
    let few = subst (λ (t : ℕ → ℕ → _). total (λ p. number (t p) n) n ≤ 2 * length es) (sym (fun_ext (λ p. fun_ext (c.neighbour_table.ensures p)))) (handshakes es n) in
    omega (arith, few, c.bottles.ensures)
