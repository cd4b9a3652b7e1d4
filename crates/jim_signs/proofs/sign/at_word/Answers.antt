use Rattle.std.proofs.Common.{◌∙◌, sym}
use Rattle.jim_signs.proofs.DigitLemmas.{digits_behind}
use Rattle.jim_signs.proofs.sign.at_word.Goals as goal

pub number_of_digits-requires-clause-each : goal.number_of_digits-requires-clause-each
number_of_digits-requires-clause-each c = digits_behind c.args.text.now 10 (c.requires (sym c.starts_with.ensures.value ∙ c.if-starts_with.true))
