use Rattle.std.proofs.Common.{◌≡◌, false, take}
use Rattle.std.specs.List.{list_any}
use Rattle.jim_text.specs.Contents.{is_quote}
use Rattle.jim_text.proofs.content.has_quote.Given as goal

abbrev pub invariant-loop-byte : goal.invariant-loop-byte
invariant-loop-byte l = list_any is_quote (take l.byte-index l.text) ≡ false
