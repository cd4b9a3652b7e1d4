use Rattle.std.proofs.lemmas.Bool.{iff_false}
use Rattle.jim_ast.specs.declared.syntax.Trap.{Trap}
use Rattle.link_rules.specs.Bodies.{trap_labels}
use Rattle.link_faults.specs.Sites.{HasMissingLabel}
use Rattle.link_faults.proofs.Scans.{found, none_found, none_more}
use Rattle.link_faults.proofs.beside.trap_names_no_label.Goals as goal

pub returns-then-names_no_label : goal.returns-then-names_no_label
returns-then-names_no_label c = found (λ (trap : Trap). HasMissingLabel c.args.body.now.labels (trap_labels trap)) c.args.traps.now c.loop-trap.trap-index (record { class = record { 0 = 0 }; from = record { 0 = 0 }; to = record { 0 = 0 }; with = record { 0 = 0 } }) c.loop-trap-test.true
    (c.names_no_label.ensures.0 c.if-names_no_label.true)

pub loop-trap-preserved : goal.loop-trap-preserved
loop-trap-preserved c = none_more (λ (trap : Trap). HasMissingLabel c.args.body.now.labels (trap_labels trap)) c.args.traps.now c.loop-trap.trap-index (record { class = record { 0 = 0 }; from = record { 0 = 0 }; to = record { 0 = 0 }; with = record { 0 = 0 } }) c.loop-trap.invariant c.loop-trap-test.true
    (iff_false c.names_no_label.ensures c.if-names_no_label.false)

pub returns : goal.returns
returns c = none_found (λ (trap : Trap). HasMissingLabel c.args.body.now.labels (trap_labels trap)) c.args.traps.now c.loop-trap.trap-index c.loop-trap.invariant c.loop-trap-test.false
