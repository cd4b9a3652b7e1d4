use Rattle.std.proofs.Common.{All, sym, ap, subst, ◌≡◌, Some, slice_get}
use Rattle.lists.specs.Lists.{Has, Each}
use Rattle.link_classes.specs.Classes.{ClassTable}
use Rattle.link_codes.specs.Contexts.{context_of}
use Rattle.link_codes.proofs.Called.{call_made, rows_numbered}
use Rattle.link_codes.proofs.calls.parts.Goals as goal

pub numbers-requires : goal.numbers-requires
numbers-requires c =
    subst (All (Has c.args.scope.now.numbering.now)) (sym c.as_slice.ensures.value)
    (rows_numbered (context_of c.args.scope.now) c.args.targets.now.world c.args.mode c.args.sig.now c.class-class.result c.in_ok-key.key c.in_ok-rows.rows.items
    (ap (λ (t : ClassTable). t.world) c.requires.classes) c.class-class.ensures c.in_ok-key.ensures c.in_ok-rows.ensures.rows c.requires.targets)

pub returns-clause-call : goal.returns-clause-call
returns-clause-call c = λ later kept.
    call_made (context_of c.args.scope.now) c.args.targets.now.world c.args.mode c.args.sig.now c.class-class.result c.in_ok-key.key c.in_ok-rows.rows.items
    (ap (λ (t : ClassTable). t.world) c.requires.classes) c.class-class.ensures c.in_ok-key.ensures c.in_ok-rows.ensures.rows
    later c.args.operands.now c.in_ok-args.args c.in_ok-runs.runs (c.in_ok-args.ensures.args later kept)
    (subst (λ rows. Each (λ row n. slice_get c.args.scope.now.numbering.now n ≡ Some row) rows c.in_ok-runs.runs) c.as_slice.ensures.value c.in_ok-runs.ensures)
