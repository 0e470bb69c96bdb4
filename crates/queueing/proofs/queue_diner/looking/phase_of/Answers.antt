use Rattle.std.proofs.Common.{sym, ap, ◌∙◌, arith}
use Rattle.std.proofs.lemmas.List.{drop_all}
use Rattle.std.proofs.lemmas.Bool.{eq-eqb, ne_eqb}
use Rattle.queueing.specs.Queue.{phase_in}
use Rattle.queueing.proofs.Looking.{phase_found, phase_passed}
use Rattle.queueing.proofs.queue_diner.looking.phase_of.Goals as goal

pub returns-then-entry-p : goal.returns-then-entry-p
returns-then-entry-p c =
    let mine = eq-eqb _ c.args.p c.if-entry-p.true in
    c.phase.ensures ∙ sym (sym c.loop-place.invariant ∙ phase_found c.args.entries.now c.loop-place.place c.args.p (omega arith) mine)

pub loop-place-preserved : goal.loop-place-preserved
loop-place-preserved c =
    sym (phase_passed c.args.entries.now c.loop-place.place c.args.p (omega arith) (ne_eqb _ c.args.p c.if-entry-p.false)) ∙ c.loop-place.invariant

pub returns : goal.returns
returns c = sym (ap (λ xs. phase_in xs c.args.p) (drop_all c.loop-place.place c.args.entries.now (omega arith))) ∙ c.loop-place.invariant
