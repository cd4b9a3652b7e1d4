use Rattle.std.proofs.Common.{ap, ◌∙◌}
use Rattle.std.specs.Fmt.{decimal}
use Rattle.boom_words.proofs.Words.{has_boxes}
use Rattle.boom_words.proofs.request.demo.Goals as goal

pub returns-in-0-clause-none : goal.returns-in-0-clause-none
returns-in-0-clause-none c = λ refused r h. has_boxes _ _ r h (c.in_ok-boxes.ensures.some.0 ∙ ap decimal c.in-0.is)
