use Rattle.std.proofs.Common.{◌<◌, List, All, length, subst, sym, ap, ◌∙◌}
use Rattle.jim_ast.specs.declared.syntax.Body.{Body}
use Rattle.jim_ast.specs.declared.syntax.Trap.{Trap}
use Rattle.link_classes.specs.Seen.{seen_method}
use Rattle.link_faults.proofs.Placed.{traps_within}
use Rattle.link_faults.proofs.beside.traps_undeclared.Goals as goal

pub trap_is_undeclared-requires-clause-within : goal.trap_is_undeclared-requires-clause-within
trap_is_undeclared-requires-clause-within c =
    let m = c.args.method.now in
    let traps = c.as_slice.ensures ∙ ap (λ (b : Body). b.traps) c.body.ensures in
    subst (λ (ts : List Trap). All (λ (trap : Trap). trap.class.0 < length (seen_method m).names) ts) (sym traps) (traps_within c.args.classes.now.texts m c.args.body.now c.requires.known c.requires.in_body)
