use Rattle.std.proofs.Common.{◌≡◌, ◌≢◌, ◌≤◌, ◌++◌, List, length, map}
use Rattle.jim_text.specs.declared.lead.Lead.TheVariants as lead
use Rattle.jim_signs.specs.declared.seen.Sign.{Sign}
use Rattle.jim_grammar.specs.Expressions.{Tree, Star, spell}
use Rattle.jim_grammar.specs.Grammar.{case_line}
use Rattle.jim_stmts.specs.Leads.{lead_at}
use Rattle.jim_stmts.specs.Meanings.{case_of}
use Rattle.jim_stmts.proofs.Repeats.{EachLeft}
use Rattle.jim_stmts.proofs.stmts.cases.Given as goal

abbrev pub invariant-loop-labels : goal.invariant-loop-labels
invariant-loop-labels l = record {
  no_longer : length l.reader ≤ length l.fn.reader;
  left : (xs : Tree (Star case_line)) (r : List Sign) → l.fn.reader ≡ spell (Star case_line) xs r → lead_at r ≢ lead.Case → EachLeft case_line (λ left. map case_of xs ≡ l.labels.items ++ map case_of left) l.reader r;
}

abbrev pub decreases-loop-labels : goal.decreases-loop-labels
decreases-loop-labels l = length l.reader
