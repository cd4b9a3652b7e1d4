use Rattle.std.proofs.Common.{◌∙◌, ap, sym, ◌+◌}
use Rattle.link_rules.specs.Classes.{fields_of}
use Rattle.link_classes.specs.Seen.{seen_field}
use Rattle.link_codes.proofs.Numbered.{after_instance, after_static, numbers_more}
use Rattle.link_codes.proofs.fields.FieldNumbers.new.Goals as goal
use Rattle.link_codes.proofs.fields.FieldNumbers.new.Goals.{then-field, else-field}

pub loop-row-preserved : goal.loop-row-preserved
loop-row-preserved c =
    let fields = fields_of c.args.classes.now.world.classes in
    let so_far = c.loop-row.invariant in
    let numbers = numbers_more fields c.loop-row.numbers.items c.push.new.self.items c.loop-row.row c.loop-row.instances c.loop-row.statics so_far.numbers c.in_ok-push.ensures.items
    so_far.instances so_far.statics in
    elim c.if-field.branch [
      | then-field w ↦ (let counts = after_static fields c.loop-row.row (seen_field c.field.result) c.field.ensures.there w.if-field.true in
          record {
            numbers = numbers;
            instances = w.instances-is ∙ so_far.instances ∙ sym counts.0;
            statics = w.statics-is ∙ ap (λ n. n + 1) so_far.statics ∙ sym counts.1;
          })
      | else-field w ↦ (let counts = after_instance fields c.loop-row.row (seen_field c.field.result) c.field.ensures.there w.if-field.false in
          record {
            numbers = numbers;
            instances = w.instances-is ∙ ap (λ n. n + 1) so_far.instances ∙ sym counts.0;
            statics = w.statics-is ∙ so_far.statics ∙ sym counts.1;
          })
    ]
