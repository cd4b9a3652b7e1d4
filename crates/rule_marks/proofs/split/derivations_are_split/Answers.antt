use Rattle.rule_marks.proofs.Splitting.{any_derivations_split, codes_tell_words, derivations_split, words_coded}
use Rattle.rule_marks.proofs.split.derivations_are_split.Goals as goal

pub returns-clause-word : goal.returns-clause-word
returns-clause-word g c = derivations_split g.met.W.Weight.laws

pub returns-clause-any : goal.returns-clause-any
returns-clause-any g c = any_derivations_split g.met.W.Weight.laws

pub returns-clause-coded_alone : goal.returns-clause-coded_alone
returns-clause-coded_alone g c = words_coded g.met.W.Weight.laws

pub returns-clause-one_word : goal.returns-clause-one_word
returns-clause-one_word g c = codes_tell_words
