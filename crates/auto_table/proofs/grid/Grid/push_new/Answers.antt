use Rattle.std.proofs.Common.{◌∙◌, ◌++◌, ◌∷◌, [], ap, map, refl, subst, arith}
use Rattle.std.proofs.lemmas.List.{map-append}
use Rattle.std.proofs.lemmas.Result.{err_from_is_err_and}
use Rattle.lists.specs.Lists.{Has}
use Rattle.auto_table.proofs.Filed.{length_push, less_room}
use Rattle.auto_table.proofs.grid.Grid.push_new.Goals as goal

pub returns-in_err-row-clause-ok : goal.returns-in_err-row-clause-ok
returns-in_err-row-clause-ok g c = let p = err_from_is_err_and c.from_residual.result c.from_residual.ensures.1 in rw p.1 tt

pub returns-in_err-row-clause-err : goal.returns-in_err-row-clause-err
returns-in_err-row-clause-err g c = let p = err_from_is_err_and c.from_residual.result c.from_residual.ensures.1 in rw p.1 refl

pub push_reserved-requires : goal.push_reserved-requires
push_reserved-requires g c = omega (arith, c.in_ok-row.ensures.len, c.in_ok-row.ensures.exact)

pub invariant_of-self : goal.invariant_of-self
invariant_of-self g c = rw c.room.ensures.keys c.self.invariant

pub returns-in_err-room-clause-ok : goal.returns-in_err-room-clause-ok
returns-in_err-room-clause-ok g c = let p = err_from_is_err_and c.from_residual-in_err-room.result c.from_residual-in_err-room.ensures.1 in rw p.1 tt

pub returns-in_err-room-clause-err : goal.returns-in_err-room-clause-err
returns-in_err-room-clause-err g c = let p = err_from_is_err_and c.from_residual-in_err-room.result c.from_residual-in_err-room.ensures.1 in rw (p.1, c.room.ensures.keys) c.self.view_is

pub invariant_of-self-in_err-reserve : goal.invariant_of-self-in_err-reserve
invariant_of-self-in_err-reserve g c = rw (c.room.ensures.keys, c.reserve.ensures.items) c.self.invariant

pub returns-in_err-reserve-clause-ok : goal.returns-in_err-reserve-clause-ok
returns-in_err-reserve-clause-ok g c = let p = err_from_is_err_and c.from_residual-in_err-reserve.result c.from_residual-in_err-reserve.ensures.1 in rw p.1 tt

pub returns-in_err-reserve-clause-err : goal.returns-in_err-reserve-clause-err
returns-in_err-reserve-clause-err g c = let p = err_from_is_err_and c.from_residual-in_err-reserve.result c.from_residual-in_err-reserve.ensures.1 in rw (p.1, c.room.ensures.keys, c.reserve.ensures.items) c.self.view_is

pub push_reserved-requires-2 : goal.push_reserved-requires-2
push_reserved-requires-2 g c = omega (arith, c.in_ok-reserve.ensures.ok)

pub put-requires-clause-room : goal.put-requires-clause-room
put-requires-clause-room g c = c.in_ok-room.ensures.room

pub put-requires-clause-new : goal.put-requires-clause-new
put-requires-clause-new g c = (rw c.room.ensures.keys (λ k. c.requires.new (subst (λ z. Has z.keys c.args.key) c.self.view_is k)))

pub push_reserved-requires-3 : goal.push_reserved-requires-3
push_reserved-requires-3 g c = let room = rw (← c.self.view_is) at c.requires.room in omega (arith, room)

pub invariant_of-self-2 : goal.invariant_of-self-2
invariant_of-self-2 g c = rw (c.put.ensures.keys, c.room.ensures.keys, c.push_reserved-2.ensures.items, c.reserve.ensures.items) (length_push c.self.inside.places.items c.self.inside.keys.keys 0 c.args.key c.self.invariant)

pub returns-clause-ok : goal.returns-clause-ok
returns-clause-ok g c = rw (← c.self.view_is) (λ i. record {
  rows = (ap (map (λ v. v.items)) c.push_reserved-3.ensures.items ∙ map-append (λ v. v.items) c.self.inside.rows.items (c.push_reserved.new.self ∷ []) ∙ ap (λ xs. map (λ v. v.items) c.self.inside.rows.items ++ xs ∷ []) (c.push_reserved.ensures.items ∙ ap (λ xs. xs ++ c.args.cell ∷ []) c.in_ok-row.ensures.items)) i;
  keys = (c.put.ensures.keys ∙ ap (λ ks. ks ++ c.args.key ∷ []) c.room.ensures.keys) i;
  places = (c.push_reserved-2.ensures.items ∙ ap (λ ps. ps ++ 0 ∷ []) c.reserve.ensures.items) i;
  room = less_room c.self.inside.rows.cap c.self.inside.rows.len c.push_reserved-3.new.self.cap c.push_reserved-3.new.self.len c.push_reserved-3.ensures.capacity c.push_reserved-3.ensures.len i;
})
