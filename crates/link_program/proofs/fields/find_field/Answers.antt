use lib.Pointwise.{bytes_decides}
use Rattle.std.proofs.Common.{sym, true≢false, ◌∙◌}
use Rattle.link_program.proofs.Naming.{is_found, no_entry, others_more}
use Rattle.link_program.proofs.fields.find_field.Goals as goal
use Rattle.link_program.proofs.fields.find_field.Goals.{else-field-class-via-then-field-class+else-eq, else-field-class-via-else-field-class}

pub returns-then-eq-clause-some : goal.returns-then-eq-clause-some
returns-then-eq-clause-some c =
    let same = (bytes_decides c.as_str.result.now c.args.name.now).0 (sym c.eq.ensures ∙ c.if-eq.true) in
    is_found c.args.fields.now c.args.class c.args.name.now c.loop-at.at c.index-fields-at.result c.loop-at-test.true c.index-fields-at.is c.if-field-class.true
    (sym c.as_str.ensures ∙ same) c.loop-at.invariant

pub loop-at-preserved : goal.loop-at-preserved
loop-at-preserved c =
    others_more c.args.fields.now c.args.class c.args.name.now c.loop-at.at c.index-fields-at.result c.loop-at-test.true c.index-fields-at.is
    (elim c.else-field-class.branch [
      | else-field-class-via-then-field-class+else-eq w ↦ (λ same named.
          true≢false (sym ((bytes_decides w.as_str.result.now c.args.name.now).1 (w.as_str.ensures ∙ named)) ∙ sym w.eq.ensures ∙ w.if-eq.false))
      | else-field-class-via-else-field-class w ↦ (λ same named. absurd (w.if-field-class.false same))
    ]) c.loop-at.invariant

pub returns-clause-none : goal.returns-clause-none
returns-clause-none c = no_entry c.args.fields.now c.args.class c.args.name.now c.loop-at.at c.loop-at-test.false c.loop-at.invariant
