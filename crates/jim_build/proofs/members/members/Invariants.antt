use Rattle.std.proofs.Common.{◌≡◌, ◌≤◌, List, length}
use Rattle.jim_text.specs.declared.lead.Lead.TheVariants as lead
use Rattle.jim_signs.specs.declared.seen.Sign.{Sign}
use Rattle.jim_grammar.specs.Expressions.{Star, Tree, spell}
use Rattle.jim_grammar.specs.Grammar.{member}
use Rattle.jim_stmts.specs.Leads.{lead_at}
use Rattle.jim_build.specs.Members.{fields_of, methods_of}
use Rattle.jim_build.proofs.Loops.{Through}
use Rattle.jim_build.proofs.members.members.Given as goal

abbrev pub invariant-loop-alloc : goal.invariant-loop-alloc
invariant-loop-alloc l = record {
  fields : (x : Tree (Star member)) (r : List Sign) → l.fn.reader ≡ spell (Star member) x r → lead_at r ≡ lead.CloseBrace → Through (spell member) fields_of x r l.reader l.fields.items;
  methods : (x : Tree (Star member)) (r : List Sign) → l.fn.reader ≡ spell (Star member) x r → lead_at r ≡ lead.CloseBrace → Through (spell member) methods_of x r l.reader l.methods.items;
  no_longer : length l.reader ≤ length l.fn.reader;
}

abbrev pub decreases-loop-alloc : goal.decreases-loop-alloc
decreases-loop-alloc l = length l.reader
