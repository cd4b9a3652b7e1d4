use Rattle.spds_rules.specs.Systems.{Meets}
use Rattle.spds_laws.proofs.Strings.{calls_strings, method_string}
use Rattle.spds_laws.proofs.laws.strings_are_of_methods.Goals as goal

pub returns-clause-strings : goal.returns-clause-strings
returns-clause-strings c p q o n string = calls_strings p q (Meets p q) o

pub returns-clause-some : goal.returns-clause-some
returns-clause-some c = method_string
