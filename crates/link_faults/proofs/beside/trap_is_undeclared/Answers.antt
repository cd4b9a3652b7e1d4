use Rattle.std.proofs.lemmas.Bool.{iff_false}
use Rattle.jim_ast.specs.declared.syntax.Trap.{Trap}
use Rattle.link_classes.specs.Seen.{seen_method}
use Rattle.link_faults.specs.Sites.{IsUndeclared}
use Rattle.link_faults.proofs.Scans.{found, none_found, none_more}
use Rattle.link_faults.proofs.beside.trap_is_undeclared.Goals as goal

pub returns-then-is_undeclared : goal.returns-then-is_undeclared
returns-then-is_undeclared c = found (λ (trap : Trap). IsUndeclared c.args.classes.now.world (seen_method c.args.method.now).names trap.class) c.args.traps.now c.loop-trap.trap-index (record { class = record { 0 = 0 }; from = record { 0 = 0 }; to = record { 0 = 0 }; with = record { 0 = 0 } }) c.loop-trap-test.true
    (c.is_undeclared.ensures.0 c.if-is_undeclared.true)

pub loop-trap-preserved : goal.loop-trap-preserved
loop-trap-preserved c = none_more (λ (trap : Trap). IsUndeclared c.args.classes.now.world (seen_method c.args.method.now).names trap.class) c.args.traps.now c.loop-trap.trap-index (record { class = record { 0 = 0 }; from = record { 0 = 0 }; to = record { 0 = 0 }; with = record { 0 = 0 } }) c.loop-trap.invariant c.loop-trap-test.true
    (iff_false c.is_undeclared.ensures c.if-is_undeclared.false)

pub returns : goal.returns
returns c = none_found (λ (trap : Trap). IsUndeclared c.args.classes.now.world (seen_method c.args.method.now).names trap.class) c.args.traps.now c.loop-trap.trap-index c.loop-trap.invariant c.loop-trap-test.false
