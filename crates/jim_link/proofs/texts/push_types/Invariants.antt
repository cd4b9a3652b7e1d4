use Rattle.std.proofs.Common.{◌≡◌, ◌++◌, take}
use Rattle.std.specs.Prelude.{string_bytes}
use Rattle.link_rules.specs.Names.{types_text}
use Rattle.jim_link.specs.Texts.{own_names}
use Rattle.jim_link.proofs.texts.push_types.Given as goal

abbrev pub invariant-loop-at : goal.invariant-loop-at
invariant-loop-at l = string_bytes l.text ≡ string_bytes l.fn.text ++ types_text (own_names l.method) (take l.at l.types)
