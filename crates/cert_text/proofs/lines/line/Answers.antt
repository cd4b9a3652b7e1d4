use Rattle.std.proofs.Common.{ap, ◌∙◌}
use Rattle.cert_text.specs.Words.{texts}
use Rattle.cert_text.proofs.LineWords.{line_read}
use Rattle.cert_text.proofs.lines.line.Goals as goal

pub returns : goal.returns
returns c = line_read c.of_words.result c.args.text.now (texts c.as_slice.result.now) (ap texts c.as_slice.ensures.value ∙ c.in_ok-words.ensures) c.of_words.ensures
