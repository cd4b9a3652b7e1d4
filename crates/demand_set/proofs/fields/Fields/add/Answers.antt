use Rattle.std.proofs.Common.{eqb, eqb-true, eq-eqb, refl}
use Rattle.lists.proofs.Places.{IsApart-adds}
use Rattle.lists.proofs.Keys.{Adds-insert_key, put-insert_key}
use Rattle.demand_set.proofs.fields.Fields.add.Goals as goal

pub invariant_of-self-2 : goal.invariant_of-self-2
invariant_of-self-2 c = IsApart-adds _ _ c.args.field c.self.invariant (rw c.in_ok-insert.ensures.keys (Adds-insert_key eqb eqb-true (λ x. eq-eqb x x refl) _ _))

pub returns : goal.returns
returns c = rw (← c.self.view_is) (put-insert_key eqb eqb-true (λ x. eq-eqb x x refl) _ _ _ _ c.in_ok-insert.ensures.added c.in_ok-insert.ensures.keys)
