use Rattle.protocol_words.specs.Spellings.{named_protocol}
use Rattle.protocol_words.proofs.Counting.{IsCounted}
use Rattle.protocol_words.proofs.numbering.number_names.Given as goal

abbrev pub invariant-loop-index : goal.invariant-loop-index
invariant-loop-index l = IsCounted (named_protocol l.spelling) l.index l.states l.events l.rows.items
