use Rattle.std.proofs.Common.{◌∙◌, arith, ap, length, sym}
use Rattle.class_rules.specs.Rows.{Rows}
use Rattle.link_program.proofs.Declared.{class_within}
use Rattle.jim_step.proofs.fields.declares.Goals as goal

pub sub-requires-clause-b : goal.sub-requires-clause-b
sub-requires-clause-b c =
    let below = class_within c.args.linked.now c.args.field c.in-Some.declaring c.tell_form.ensures.fields (sym c.field_class.ensures ∙ c.in-Some.is) in
    omega (arith, below, c.tell_form.ensures.tree, ap (λ (r : Rows). length r.classes) c.tree.ensures)
