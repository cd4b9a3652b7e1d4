use Rattle.std.proofs.Common.{◌≡◌, ◌≢◌, ◌≤◌, List, length}
use Rattle.jim_text.specs.declared.lead.Lead.TheVariants as lead
use Rattle.jim_signs.specs.declared.seen.Sign.{Sign}
use Rattle.jim_grammar.specs.Expressions.{Tree, spell}
use Rattle.jim_grammar.specs.Grammar.{imm, imms}
use Rattle.jim_stmts.specs.Leads.{lead_at}
use Rattle.jim_stmts.specs.Meanings.{imm_of, imms_of}
use Rattle.jim_stmts.proofs.Commas.{CommasLeft}
use Rattle.jim_stmts.proofs.operands.imms.Given as goal

abbrev pub invariant-loop-reader : goal.invariant-loop-reader
invariant-loop-reader l = record {
  no_longer : length l.reader ≤ length l.fn.reader;
  left : (x : Tree imms) (r : List Sign) → l.fn.reader ≡ spell imms x r → lead_at r ≢ lead.Comma → CommasLeft imm imm_of (imms_of x) l.found.items l.reader r;
}

abbrev pub decreases-loop-reader : goal.decreases-loop-reader
decreases-loop-reader l = length l.reader
