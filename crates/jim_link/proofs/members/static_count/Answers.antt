use Rattle.std.proofs.Common.{ap, ◌∙◌, arith}
use Rattle.std.proofs.lemmas.List.{take_all}
use Rattle.link_classes.specs.Seen.{seen_field}
use Rattle.link_codes.proofs.Numbered.{after_instance, after_static}
use Rattle.link_rules.specs.Classes.{fields_of}
use Rattle.jim_link.specs.Members.{static_fields}
use Rattle.jim_link.proofs.members.static_count.Goals as goal
use Rattle.jim_link.proofs.members.static_count.Goals.{then-field, else-field}

pub loop-row-preserved : goal.loop-row-preserved
loop-row-preserved c =
    let fields = fields_of c.args.classes.now.world.classes in
    let f = seen_field c.field.result in
    elim c.if-field.branch [
      | then-field w ↦ (
          let more = after_static fields c.loop-row.row f c.field.ensures.there w.if-field.true in
          record { counted = omega (arith, more.1, w.count-is, c.loop-row.invariant.counted); few = omega (arith, w.count-is, c.loop-row.invariant.few) }
          )
      | else-field w ↦ (
          let more = after_instance fields c.loop-row.row f c.field.ensures.there w.if-field.false in
          record { counted = omega (arith, more.1, w.count-is, c.loop-row.invariant.counted); few = omega (arith, w.count-is, c.loop-row.invariant.few) }
          )
    ]

pub returns : goal.returns
returns c =
    let fields = fields_of c.args.classes.now.world.classes in
    c.loop-row.invariant.counted ∙ ap static_fields (take_all c.loop-row.row fields (omega (arith, c.loop-row-test.false, c.field_count-row-end.ensures)))
