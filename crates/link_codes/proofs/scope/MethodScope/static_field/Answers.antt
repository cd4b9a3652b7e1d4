use Rattle.std.proofs.Common.{length, ap, arith}
use Rattle.link_rules.specs.Classes.{fields_of}
use Rattle.link_codes.proofs.Numbered.{length-field_numbers}
use Rattle.link_codes.proofs.scope.MethodScope.static_field.Goals as goal

pub static_field-requires : goal.static_field-requires
static_field-requires c =
    omega (arith, c.field_row.ensures.within, ap length c.args.self.now.numbered, length-field_numbers (fields_of c.args.self.now.classes.now.world.classes))
