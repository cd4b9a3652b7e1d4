use Rattle.std.proofs.Common.{◌-◌, ap, map}
use Rattle.auto_table.proofs.grid.Grid.room_for.Goals as goal

pub invariant_of-self : goal.invariant_of-self
invariant_of-self g c = c.self.invariant

pub returns-clause-still : goal.returns-clause-still
returns-clause-still g c = rw (← c.self.view_is) (λ i. record { rows = ap (map (λ v. v.items)) c.reserve.ensures.items i; keys = c.self.inside.keys.keys; places = c.self.inside.places.items; room = c.reserve.new.self.cap - c.reserve.new.self.len })
