use Rattle.std.proofs.Common.{◌∙◌, refl, sym}
use Rattle.auto_table.proofs.Weighed.{link_unnamed}
use Rattle.auto_table.proofs.table.Table.link_at.Goals as goal

pub returns-in-Some : goal.returns-in-Some
returns-in-Some g c = c.link_weight.ensures c.args.child ((c.in-Some.ensures c.in-Some.row).0 refl)

pub returns-in-None : goal.returns-in-None
returns-in-None g c = c.zero.ensures ∙ sym (link_unnamed g.W.Weight.domain c.args.self.now c.args.child (λ k. let e = (c.in-None.ensures k.0).1 k.1 in cc) c.args.parent)
