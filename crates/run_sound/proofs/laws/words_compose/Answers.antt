use Rattle.spds_laws.proofs.Compose.{words_composed}
use Rattle.run_sound.proofs.laws.words_compose.Goals as goal

pub returns : goal.returns
returns c = λ q o base s n word rest meets fields stored. words_composed c.args.linked.now q o base s meets n word rest fields stored
