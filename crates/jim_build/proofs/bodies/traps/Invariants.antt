use Rattle.std.proofs.Common.{◌≡◌, ◌≢◌, ◌≤◌, List, length, map}
use Rattle.jim_text.specs.declared.lead.Lead.TheVariants as lead
use Rattle.jim_signs.specs.declared.seen.Sign.{Sign}
use Rattle.jim_grammar.specs.Expressions.{Star, Tree, spell}
use Rattle.jim_grammar.specs.Grammar.{trap}
use Rattle.jim_stmts.specs.Leads.{lead_at}
use Rattle.jim_build.specs.Bodies.{trap_of}
use Rattle.jim_build.proofs.Loops.{Through}
use Rattle.jim_build.proofs.bodies.traps.Given as goal

abbrev pub invariant-loop-traps : goal.invariant-loop-traps
invariant-loop-traps l = record {
  through : (x : Tree (Star trap)) (r : List Sign) → l.fn.reader ≡ spell (Star trap) x r → lead_at r ≢ lead.Catch → Through (spell trap) (map trap_of) x r l.reader l.traps.items;
  no_longer : length l.reader ≤ length l.fn.reader;
}

abbrev pub decreases-loop-traps : goal.decreases-loop-traps
decreases-loop-traps l = length l.reader
