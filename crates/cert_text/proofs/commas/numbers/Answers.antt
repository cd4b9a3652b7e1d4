use Rattle.std.proofs.Common.{ap, ◌∙◌}
use Rattle.cert_text.specs.Words.{texts}
use Rattle.cert_text.proofs.ListWords.{numbers_read}
use Rattle.cert_text.proofs.commas.numbers.Goals as goal

pub returns : goal.returns
returns c = numbers_read c.numbers_of.result c.args.word.now (texts c.as_slice.result.now) (ap texts c.as_slice.ensures.value ∙ c.in_ok-words.ensures) c.numbers_of.ensures
