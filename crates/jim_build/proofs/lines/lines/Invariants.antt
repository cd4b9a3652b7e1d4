use Rattle.std.proofs.Common.{◌≡◌, ◌≤◌, List, length, false}
use Rattle.jim_signs.specs.declared.seen.Sign.{Sign}
use Rattle.jim_grammar.specs.Expressions.{Star, Tree, spell}
use Rattle.jim_grammar.specs.Grammar.{line}
use Rattle.jim_stmts.specs.Leads.{lead_at}
use Rattle.jim_build.specs.Splits.{begins_line}
use Rattle.jim_build.proofs.LineLoop.{LinesThrough}
use Rattle.jim_build.proofs.lines.lines.Given as goal

abbrev pub invariant-loop-alloc : goal.invariant-loop-alloc
invariant-loop-alloc l = record {
  through : (x : Tree (Star line)) (r : List Sign) → l.fn.reader ≡ spell (Star line) x r → begins_line (lead_at r) ≡ false → LinesThrough x r l.reader l.stmts.items l.labels.items;
  no_longer : length l.reader ≤ length l.fn.reader;
}

abbrev pub decreases-loop-alloc : goal.decreases-loop-alloc
decreases-loop-alloc l = length l.reader
