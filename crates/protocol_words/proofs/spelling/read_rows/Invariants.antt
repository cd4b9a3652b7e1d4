use Rattle.std.proofs.Common.{map, take}
use Rattle.protocol_words.specs.Spellings.{named_row, texts}
use Rattle.protocol_words.proofs.Rows.{IsRead}
use Rattle.protocol_words.proofs.spelling.read_rows.Given as goal

abbrev pub invariant-loop-index : goal.invariant-loop-index
invariant-loop-index l = IsRead (take l.index (texts l.parts)) (map named_row l.rows.items) l.keys
