use Rattle.std.proofs.Common.{◌∙◌, refl, sym}
use Rattle.auto_table.proofs.Weighed.{weight_unnamed}
use Rattle.auto_table.proofs.table.Table.at.Goals as goal

pub returns-in-Some : goal.returns-in-Some
returns-in-Some g c = c.weight.ensures c.args.entry ((c.in-Some.ensures c.in-Some.row).0 refl)

pub returns-in-None : goal.returns-in-None
returns-in-None g c = c.zero.ensures ∙ sym (weight_unnamed g.W.Weight.domain c.args.self.now c.args.entry (λ k. let e = (c.in-None.ensures k.0).1 k.1 in cc) c.args.node)
