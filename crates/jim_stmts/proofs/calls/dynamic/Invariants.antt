use Rattle.std.proofs.Common.{◌≡◌, ◌≤◌, List, length}
use Rattle.jim_text.specs.declared.lead.Lead.TheVariants as lead
use Rattle.jim_signs.specs.declared.seen.Sign.{Sign}
use Rattle.jim_grammar.specs.declared.set.LeadSet.TheVariants.{NotEnds}
use Rattle.jim_grammar.specs.Expressions.{Tree, One, spell}
use Rattle.jim_grammar.specs.Forms.{Dynamic}
use Rattle.jim_grammar.specs.Grammar.{by_invoke}
use Rattle.jim_stmts.specs.Leads.{lead_at}
use Rattle.jim_stmts.proofs.Repeats.{EachLeft}
use Rattle.jim_stmts.proofs.calls.dynamic.Given as goal

abbrev pub invariant-loop-reader : goal.invariant-loop-reader
invariant-loop-reader l = record {
  no_longer : length l.reader ≤ length l.fn.reader;
  left : (x : Tree (by_invoke Dynamic)) (r : List Sign) → l.fn.reader ≡ spell (by_invoke Dynamic) x r → lead_at r ≡ lead.Semicolon → EachLeft (One NotEnds) (λ left. Unit {0}) l.reader r;
}

abbrev pub decreases-loop-reader : goal.decreases-loop-reader
decreases-loop-reader l = length l.reader
