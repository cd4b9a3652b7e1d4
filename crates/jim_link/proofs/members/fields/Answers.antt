use Rattle.std.proofs.Common.{Global, Vec, length, map, sym, ap, ◌∙◌, arith}
use Rattle.std.proofs.lemmas.List.{length_push, take_all}
use Rattle.link_classes.specs.Seen.{seen_field}
use Rattle.link_program.specs.Parts.{linked_field}
use Rattle.link_program.specs.declared.parts.FieldEntry.{FieldEntry}
use Rattle.link_rules.specs.Classes.{fields_of}
use Rattle.link_rules.specs.Linked.{instance_fields}
use Rattle.jim_link.proofs.MemberFacts.{field_last, no_instance}
use Rattle.jim_link.proofs.members.fields.Goals as goal
use Rattle.jim_link.proofs.members.fields.Goals.{then-not-field+in_ok-field_entry+in_ok-push, else-not-field}

pub loop-row-init : goal.loop-row-init
loop-row-init c = record { fields = ap (map linked_field) c.new-found.ensures.items; few = omega (arith, ap (length {A = FieldEntry}) c.new-found.ensures.items) }

pub loop-row-preserved : goal.loop-row-preserved
loop-row-preserved c =
    let fields = fields_of c.args.classes.now.world.classes in
    let f = seen_field c.field-field.result in
    elim c.if-not-field.branch [
      | then-not-field+in_ok-field_entry+in_ok-push w ↦ (
          let found = ap (λ (v : Vec FieldEntry Global). v.items) w.found-is ∙ w.in_ok-push.ensures.items in
          record {
            fields = ap (map linked_field) found
                ∙ field_last fields c.loop-row.row f c.field-field.ensures.there w.if-not-field.true c.loop-row.found.items w.in_ok-field_entry.field-0 c.loop-row.invariant.fields
                w.in_ok-field_entry.ensures;
            few = omega (arith, ap (length {A = FieldEntry}) found, length_push c.loop-row.found.items w.in_ok-field_entry.field-0, c.loop-row.invariant.few);
          }
          )
      | else-not-field w ↦ (
          let found = ap (λ (v : Vec FieldEntry Global). v.items) w.found-is in
          record {
            fields = ap (map linked_field) found ∙ c.loop-row.invariant.fields ∙ sym (no_instance fields c.loop-row.row f c.field-field.ensures.there w.if-not-field.false);
            few = omega (arith, ap (length {A = FieldEntry}) found, c.loop-row.invariant.few);
          }
          )
    ]

pub returns-clause-fields : goal.returns-clause-fields
returns-clause-fields c =
    let fields = fields_of c.args.classes.now.world.classes in
    ap (map linked_field) c.from_vec.ensures ∙ c.loop-row.invariant.fields
    ∙ ap instance_fields (take_all c.loop-row.row fields (omega (arith, c.loop-row-test.false, c.field_count-row-end.ensures)))

pub returns-clause-few : goal.returns-clause-few
returns-clause-few c = omega (arith, ap (length {A = FieldEntry}) c.from_vec.ensures, c.loop-row.invariant.few)
