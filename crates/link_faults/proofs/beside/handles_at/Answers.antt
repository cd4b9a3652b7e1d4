use Rattle.std.proofs.Common.{sym, ◌∙◌}
use Rattle.jim_ast.specs.declared.syntax.Trap.{Trap}
use Rattle.link_rules.specs.Bodies.{IsLabel}
use Rattle.link_faults.proofs.Scans.{found, none_found, none_more, other_some, same_some}
use Rattle.link_faults.proofs.beside.handles_at.Goals as goal

pub returns-then-eq : goal.returns-then-eq
returns-then-eq c = found (λ (trap : Trap). IsLabel c.args.body.now.labels trap.with c.args.end) c.args.traps.now c.loop-trap.trap-index (record { class = record { 0 = 0 }; from = record { 0 = 0 }; to = record { 0 = 0 }; with = record { 0 = 0 } }) c.loop-trap-test.true
    ((c.label.ensures c.args.end).0 (same_some c.label.result c.args.end (sym c.eq.ensures ∙ c.if-eq.true)))

pub loop-trap-preserved : goal.loop-trap-preserved
loop-trap-preserved c = none_more (λ (trap : Trap). IsLabel c.args.body.now.labels trap.with c.args.end) c.args.traps.now c.loop-trap.trap-index (record { class = record { 0 = 0 }; from = record { 0 = 0 }; to = record { 0 = 0 }; with = record { 0 = 0 } }) c.loop-trap.invariant c.loop-trap-test.true
    (λ h. other_some c.label.result c.args.end (sym c.eq.ensures ∙ c.if-eq.false) ((c.label.ensures c.args.end).1 h))

pub returns : goal.returns
returns c = none_found (λ (trap : Trap). IsLabel c.args.body.now.labels trap.with c.args.end) c.args.traps.now c.loop-trap.trap-index c.loop-trap.invariant c.loop-trap-test.false
