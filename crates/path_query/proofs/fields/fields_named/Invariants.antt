use Rattle.std.proofs.Common.{take}
use Rattle.std.specs.List.{AllZip}
use Rattle.path_query.proofs.Numbered.{Numbers}
use Rattle.path_query.proofs.fields.fields_named.Given as goal

-- the first parts are numbered
abbrev pub invariant-loop-word : goal.invariant-loop-word
invariant-loop-word l = AllZip (Numbers l.linked) (take l.word-index l.word-items) l.fields.items
