use Rattle.std.proofs.Common.{arith}
use Rattle.type_track.proofs.Barring.{barred_all, barred_more, barred_none, barred_skip}
use Rattle.type_track.proofs.barred.add_barred.Goals as goal
use Rattle.type_track.proofs.barred.add_barred.Goals.{then-is_barred+in_ok-push, else-is_barred}

pub loop-state-init : goal.loop-state-init
loop-state-init c = λ p. barred_none c.args.protocol.now c.args.site c.args.statement c.args.relation p c.args.findings.now.items

pub loop-state-preserved : goal.loop-state-preserved
loop-state-preserved c = λ p.
    let k = c.args.protocol.now in
    let a = c.args.site in
    let s = c.args.statement in
    let old = c.args.findings.now.items in
    elim c.if-is_barred.branch [
      | then-is_barred+in_ok-push w ↦
          rw (w.findings-is, w.in_ok-push.ensures.items)
          (barred_more k a s c.args.relation p old c.loop-state.state c.loop-state.findings.items (c.loop-state.invariant p)
          (omega (arith, c.loop-state-test.true, c.states-state-end.ensures)) (c.is_barred.ensures.0 w.if-is_barred.true))
      | else-is_barred w ↦
          rw w.findings-is
          (barred_skip k a s c.args.relation p old c.loop-state.state c.loop-state.findings.items (c.loop-state.invariant p)
          (λ bars. let yes = c.is_barred.ensures.1 bars in let no = w.if-is_barred.false in cc))
    ]

pub returns : goal.returns
returns c = λ p.
    barred_all c.args.protocol.now c.args.site c.args.statement c.args.relation p c.args.findings.now.items c.loop-state.state c.loop-state.findings.items
    (c.loop-state.invariant p) (omega (arith, c.loop-state-test.false, c.states-state-end.ensures))
