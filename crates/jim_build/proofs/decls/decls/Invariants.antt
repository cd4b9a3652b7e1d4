use Rattle.std.proofs.Common.{◌≡◌, ◌≤◌, List, length, false}
use Rattle.jim_signs.specs.declared.seen.Sign.{Sign}
use Rattle.jim_grammar.specs.Expressions.{Star, Tree, spell}
use Rattle.jim_grammar.specs.Grammar.{decl}
use Rattle.jim_build.specs.Decls.{locals_of}
use Rattle.jim_build.specs.Splits.{begins_decl}
use Rattle.jim_build.proofs.Loops.{Through}
use Rattle.jim_build.proofs.decls.decls.Given as goal

abbrev pub invariant-loop-alloc : goal.invariant-loop-alloc
invariant-loop-alloc l = record {
  through : (x : Tree (Star decl)) (r : List Sign) → l.fn.reader ≡ spell (Star decl) x r → begins_decl r ≡ false → Through (spell decl) locals_of x r l.reader l.locals.items;
  no_longer : length l.reader ≤ length l.fn.reader;
}

abbrev pub decreases-loop-alloc : goal.decreases-loop-alloc
decreases-loop-alloc l = length l.reader
