use Rattle.std.proofs.Common.{sym, subst}
use Rattle.link_indexes.specs.Rows.{AreTheIndexes}
use Rattle.link_indexes.specs.Tables.{IsInMethod}
use Rattle.link_rules.specs.Accessed.{codes_in}
use Rattle.spds_nodes.specs.Backs.{IsLeft}
use Rattle.spds_nodes.proofs.backs.left_at.Goals as goal

pub returns-then-raised : goal.returns-then-raised
returns-then-raised c =
    subst (λ raised. AreTheIndexes (IsInMethod (IsLeft raised) (codes_in c.args.linked.now) c.args.method) c.raised.result.now) (sym c.if-raised.true)
    c.raised.ensures

pub returns-else-raised : goal.returns-else-raised
returns-else-raised c =
    subst (λ raised. AreTheIndexes (IsInMethod (IsLeft raised) (codes_in c.args.linked.now) c.args.method) c.returns.result.now) (sym c.if-raised.false)
    c.returns.ensures
