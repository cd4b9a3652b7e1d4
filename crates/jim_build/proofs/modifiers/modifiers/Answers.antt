use Rattle.std.proofs.Common.{◌≡◌, true, false, arith}
use Rattle.jim_grammar.specs.Sets.{is_modifier}
use Rattle.jim_stmts.specs.Leads.{lead_at}
use Rattle.jim_build.proofs.ModifierLoop.{modifiers_more, modifiers_end}
use Rattle.jim_build.proofs.modifiers.modifiers.Goals as goal

pub loop-reader-preserved : goal.loop-reader-preserved
loop-reader-preserved c =
    let next : is_modifier (lead_at c.loop-reader.reader) ≡ true = cc in record {
      through = λ x r h n.
          modifiers_more x r _ _ _ _ (c.loop-reader.invariant.through x r h n) n next
          (rw (← c.lead-in-loop-reader.ensures) c.with-flags.ensures.statics) (rw (← c.lead-in-loop-reader.ensures) c.with-flags.ensures.natives) (rw (← c.lead-in-loop-reader.ensures) c.with-flags.ensures.abstracts)
          c.skip.ensures.rest;
      no_longer = omega arith;
    }

pub returns-clause-flags : goal.returns-clause-flags
returns-clause-flags c = λ x r h n.
    let next : is_modifier (lead_at c.loop-reader.reader) ≡ false = cc in (modifiers_end x r _ _ (c.loop-reader.invariant.through x r h n) next).0

pub returns-clause-rest : goal.returns-clause-rest
returns-clause-rest c = λ x r h n.
    let next : is_modifier (lead_at c.loop-reader.reader) ≡ false = cc in (modifiers_end x r _ _ (c.loop-reader.invariant.through x r h n) next).1
