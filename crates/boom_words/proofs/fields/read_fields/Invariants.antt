use Rattle.std.proofs.Common.{map, take}
use Rattle.std.specs.List.{AllZip}
use Rattle.boom_words.specs.Fields.{field_name}
use Rattle.boom_words.proofs.Parts.{Reads}
use Rattle.boom_words.proofs.fields.read_fields.Given as goal

-- the first parts are read
abbrev pub invariant-loop-part : goal.invariant-loop-part
invariant-loop-part l = AllZip Reads (take l.part-index l.part-items) (map field_name l.fields.items)
