use Rattle.std.proofs.Common.{List, ◌≡◌, length, sym, subst}
use Rattle.link_rules.specs.Linked.{LinkedProgram}
use Rattle.link_program.specs.Parts.{with_code}
use Rattle.narrow_rules.specs.declared.kept.Kept.{Kept}
use Rattle.narrow_rules.specs.Narrowed.{IsNarrowed}
use Rattle.link_narrow.specs.Bodies.{AreBodies}
use Rattle.link_narrow.proofs.Whole.{form_left, if_ok, program_left}
use Rattle.link_narrow.proofs.narrowing.narrow.Goals as goal

pub with_code-requires-clause-form : goal.with_code-requires-clause-form
with_code-requires-clause-form c =
    let bodies = c.in_ok-bodies.bodies.items in
    let p = c.args.linked.now in
    form_left p c.args.kept.now bodies c.tell_form.ensures
    (subst (λ (kept : List Kept). AreBodies p kept (length p.methods) bodies) c.in_ok-named.ensures c.in_ok-bodies.ensures)

pub returns : goal.returns
returns c =
    let bodies = c.in_ok-bodies.bodies.items in
    let p = c.args.linked.now in
    let left = program_left p c.args.kept.now bodies c.tell_form.ensures
    (subst (λ (kept : List Kept). AreBodies p kept (length p.methods) bodies) c.in_ok-named.ensures c.in_ok-bodies.ensures) in
    if_ok (λ (q : LinkedProgram). q ≡ with_code p bodies) (IsNarrowed p c.args.kept.now) c.with_code.result c.with_code.ensures
    (λ q same. subst (IsNarrowed p c.args.kept.now) (sym same) left)
