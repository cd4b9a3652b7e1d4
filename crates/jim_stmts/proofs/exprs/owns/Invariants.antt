use Rattle.std.proofs.Common.{◌≡◌, ◌≢◌, ◌+◌, ◌-◌, ◌≤◌, List, length}
use Rattle.jim_text.specs.declared.lead.Lead.TheVariants as lead
use Rattle.jim_signs.specs.declared.seen.Sign.{Sign}
use Rattle.jim_grammar.specs.Expressions.{Tree, spell, spell_each}
use Rattle.jim_grammar.specs.Grammar.{own}
use Rattle.jim_stmts.specs.Leads.{lead_at}
use Rattle.jim_stmts.proofs.Repeats.{EachLeft}
use Rattle.jim_stmts.proofs.Sizes.{Counted}
use Rattle.jim_stmts.proofs.exprs.owns.Given as goal

abbrev pub invariant-loop-sizes : goal.invariant-loop-sizes
invariant-loop-sizes l = record {
  within : l.sizes.sized + l.sizes.others ≤ l.fn.most;
  no_longer : length l.reader ≤ length l.fn.reader;
  left : (xs : List (Tree own)) (r : List Sign) → l.fn.reader ≡ spell_each (spell own) xs r → lead_at r ≢ lead.OpenBracket → EachLeft own (Counted xs l.sizes.sized l.sizes.others) l.reader r;
}

abbrev pub decreases-loop-sizes : goal.decreases-loop-sizes
decreases-loop-sizes l = l.fn.most - (l.sizes.sized + l.sizes.others)
