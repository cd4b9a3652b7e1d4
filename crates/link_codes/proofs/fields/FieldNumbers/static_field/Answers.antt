use Rattle.std.proofs.Common.{length, ap, ◌∙◌, arith}
use Rattle.link_codes.specs.declared.fields.FieldNumber.{FieldNumber}
use Rattle.link_codes.proofs.Numbered.{get_or-field_numbers}
use Rattle.link_codes.proofs.fields.FieldNumbers.static_field.Goals as goal

pub returns : goal.returns
returns c = λ fields same.
    ap (λ (n : FieldNumber). n.static_field)
    (get_or-field_numbers c.self.inside.numbers.items fields c.args.row c.index.result.now (c.self.view_is ∙ same) (omega (arith, c.requires, ap length c.self.view_is)) c.index.ensures)
