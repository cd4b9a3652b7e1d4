use Rattle.std.proofs.Common.{◌≡◌, [], length, map}
use Rattle.jim_grammar.specs.Expressions.{Tree, spell}
use Rattle.jim_grammar.specs.Grammar.{class, program}
use Rattle.jim_build.specs.Classes.{class_of}
use Rattle.jim_build.proofs.Loops.{Through}
use Rattle.jim_build.proofs.classes.build.Given as goal

abbrev pub invariant-loop-reader : goal.invariant-loop-reader
invariant-loop-reader l = (x : Tree program) → spell program x [] ≡ l.fn.signs → Through (spell class) (map class_of) x [] l.reader l.classes.items

abbrev pub decreases-loop-reader : goal.decreases-loop-reader
decreases-loop-reader l = length l.reader
