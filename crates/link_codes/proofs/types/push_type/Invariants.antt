use Rattle.std.proofs.Common.{◌≡◌, ◌++◌}
use Rattle.std.specs.String.{string_bytes}
use Rattle.link_classes.specs.Classes.{texts_at}
use Rattle.link_rules.specs.Names.{base_text, brackets}
use Rattle.link_codes.proofs.types.push_type.Given as goal

abbrev pub invariant-loop : goal.invariant-loop
invariant-loop l = string_bytes l.text ≡ string_bytes l.fn.text ++ (base_text (texts_at l.names l.ids) l.fn.ty.base ++ brackets l.counter)
