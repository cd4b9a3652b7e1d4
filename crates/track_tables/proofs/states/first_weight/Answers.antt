use Rattle.std.proofs.Common.{arith, true≢false, sym, ◌∙◌}
use Rattle.weight_laws.proofs.Meaning.{meaning}
use Rattle.track_tables.proofs.states.first_weight.Goals as goal

pub returns-then-is_made_at : goal.returns-then-is_made_at
returns-then-is_made_at c p k q a site_is events =
    rw c.one.ensures (record {
      made = λ made i low. meaning.one 0 i (omega arith);
      constant = λ other i low. absurd (other ((c.is_made_at.ensures a site_is).0 c.if-is_made_at.true));
    })

pub returns-else-is_made_at : goal.returns-else-is_made_at
returns-else-is_made_at c p k q a site_is events = record {
  made = λ made i low. absurd (true≢false (sym ((c.is_made_at.ensures a site_is).1 made) ∙ c.if-is_made_at.false));
  constant = λ other i low. (c.anywhere.ensures p k q a events).each 0 i (omega arith) low;
}
