use Rattle.std.proofs.Common.{◌≡◌, ◌≢◌, ◌+◌, ◌-◌, ◌≤◌, List, length}
use Rattle.jim_text.specs.declared.lead.Lead.TheVariants as lead
use Rattle.jim_signs.specs.declared.seen.Sign.{Sign}
use Rattle.jim_grammar.specs.Expressions.{Tree, spell, spell_each}
use Rattle.jim_grammar.specs.Grammar.{pair}
use Rattle.jim_stmts.specs.Leads.{lead_at}
use Rattle.jim_stmts.proofs.Repeats.{EachLeft}
use Rattle.jim_stmts.proofs.signatures.pairs.Given as goal

abbrev pub invariant-loop-dims : goal.invariant-loop-dims
invariant-loop-dims l = record {
  within : l.dims ≤ l.fn.most;
  no_longer : length l.reader ≤ length l.fn.reader;
  left : (xs : List (Tree pair)) (r : List Sign) → l.fn.reader ≡ spell_each (spell pair) xs r → lead_at r ≢ lead.OpenBracket → EachLeft pair (λ left. l.dims + length left ≡ length xs) l.reader r;
}

abbrev pub decreases-loop-dims : goal.decreases-loop-dims
decreases-loop-dims l = l.fn.most - l.dims
