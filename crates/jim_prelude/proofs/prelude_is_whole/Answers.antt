-- Both texts are the same letters.
use Rattle.std.proofs.Common.{refl}
use Rattle.jim_prelude.specs.Text.{prelude_text}
use Rattle.jim_prelude.proofs.prelude_is_whole.Goals as goal

pub returns-clause-text : goal.returns-clause-text
unfolding prelude_text
returns-clause-text c = refl
