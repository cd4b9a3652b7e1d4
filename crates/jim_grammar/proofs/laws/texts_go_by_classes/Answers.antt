use Rattle.jim_grammar.proofs.Classes.{go_by_classes, have_known_classes}
use Rattle.jim_grammar.proofs.laws.texts_go_by_classes.Goals as goal

pub returns-clause-classes : goal.returns-clause-classes
returns-clause-classes c = go_by_classes

pub returns-clause-known : goal.returns-clause-known
returns-clause-known c = have_known_classes
