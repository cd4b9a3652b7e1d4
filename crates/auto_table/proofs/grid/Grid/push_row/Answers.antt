use Rattle.std.proofs.Common.{◌∙◌, ◌++◌, ◌∷◌, [], ap, map, arith}
use Rattle.std.proofs.lemmas.List.{map-append}
use Rattle.auto_table.proofs.Filed.{less_room}
use Rattle.auto_table.proofs.grid.Grid.push_row.Goals as goal

pub push_reserved-requires : goal.push_reserved-requires
push_reserved-requires g c = let room = rw (← c.self.view_is) at c.requires in omega (arith, room)

pub invariant_of-self : goal.invariant_of-self
invariant_of-self g c = c.self.invariant

pub returns : goal.returns
returns g c = rw (← c.self.view_is) (λ i. record {
  rows = (ap (map (λ v. v.items)) c.push_reserved.ensures.items ∙ map-append (λ v. v.items) c.self.inside.rows.items (c.new-row.result ∷ []) ∙ ap (λ xs. map (λ v. v.items) c.self.inside.rows.items ++ xs ∷ []) c.new-row.ensures.items) i;
  keys = c.self.inside.keys.keys;
  places = c.self.inside.places.items;
  room = less_room c.self.inside.rows.cap c.self.inside.rows.len c.push_reserved.new.self.cap c.push_reserved.new.self.len c.push_reserved.ensures.capacity c.push_reserved.ensures.len i;
})
