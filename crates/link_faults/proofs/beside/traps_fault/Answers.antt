use Rattle.std.proofs.Common.{None, Some, subst, sym}
use Rattle.link_classes.specs.Seen.{seen_method}
use Rattle.link_faults.specs.Progress.{RefusesTraps}
use Rattle.link_faults.specs.Order.{IsFirstOf}
use Rattle.link_faults.specs.Traps.{IsFirstForTraps}
use Rattle.link_faults.proofs.BodyFaults.{traps_first}
use Rattle.link_faults.proofs.beside.traps_fault.Goals as goal

pub returns-in-Some : goal.returns-in-Some
returns-in-Some c =
    let w = c.args.classes.now.world in
    let m = seen_method c.args.method.now in
    let rule = subst (IsFirstForTraps w m.names c.args.body.now) c.in-Some.is c.traps_rule.ensures in
    subst (λ n. IsFirstOf (RefusesTraps w m) (record { index = n; kind = c.in-Some.kind })) (sym c.end_of.ensures) (traps_first w m c.args.body.now c.requires.in_body (Some c.in-Some.kind) rule)

pub returns-in-None : goal.returns-in-None
returns-in-None c =
    let w = c.args.classes.now.world in
    let m = seen_method c.args.method.now in
    traps_first w m c.args.body.now c.requires.in_body None (subst (IsFirstForTraps w m.names c.args.body.now) c.in-None.is c.traps_rule.ensures)
