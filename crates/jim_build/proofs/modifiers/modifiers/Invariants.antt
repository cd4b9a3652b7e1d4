use Rattle.std.proofs.Common.{◌≡◌, ◌≤◌, List, length, false}
use Rattle.jim_signs.specs.declared.seen.Sign.{Sign}
use Rattle.jim_grammar.specs.declared.set.LeadSet.TheVariants.{Modifiers}
use Rattle.jim_grammar.specs.Sets.{is_modifier}
use Rattle.jim_grammar.specs.Expressions.{Star, One, Tree, spell}
use Rattle.jim_stmts.specs.Leads.{lead_at}
use Rattle.jim_build.proofs.ModifierLoop.{ModifiersThrough}
use Rattle.jim_build.proofs.modifiers.modifiers.Given as goal

abbrev pub invariant-loop-reader : goal.invariant-loop-reader
invariant-loop-reader l = record {
  through : (x : Tree (Star (One Modifiers))) (r : List Sign) → l.fn.reader ≡ spell (Star (One Modifiers)) x r → is_modifier (lead_at r) ≡ false → ModifiersThrough x r l.reader l.flags;
  no_longer : length l.reader ≤ length l.fn.reader;
}

abbrev pub decreases-loop-reader : goal.decreases-loop-reader
decreases-loop-reader l = length l.reader
