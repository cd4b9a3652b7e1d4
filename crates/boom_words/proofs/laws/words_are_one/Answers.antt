use Rattle.boom_words.proofs.Words.{request_one}
use Rattle.boom_words.proofs.laws.words_are_one.Goals as goal

pub returns : goal.returns
returns c = request_one
