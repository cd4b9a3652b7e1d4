use Rattle.std.proofs.Common.{◌∙◌, ◌++◌, ◌∷◌, [], ◌-◌, ap, length, map, subst, sym, arith}
use Rattle.std.specs.List.{slice_set}
use Rattle.std.proofs.lemmas.List.{get_or-map, length-map, map-set}
use Rattle.std.proofs.lemmas.Result.{err_from_is_err_and}
use Rattle.lists.specs.Lists.{Has}
use Rattle.auto_table.proofs.Filed.{length_push, set_row-same}
use Rattle.auto_table.proofs.grid.Grid.push.Goals as goal
use Rattle.auto_table.proofs.grid.Grid.push.Goals.{then-place-eq0, else-place-eq0}

pub invariant_of-self : goal.invariant_of-self
invariant_of-self g c = rw c.room.ensures.keys c.self.invariant

pub returns-in_err-room-clause-ok : goal.returns-in_err-room-clause-ok
returns-in_err-room-clause-ok g c = let p = err_from_is_err_and c.from_residual.result c.from_residual.ensures.1 in rw p.1 tt

pub returns-in_err-room-clause-err : goal.returns-in_err-room-clause-err
returns-in_err-room-clause-err g c = let p = err_from_is_err_and c.from_residual.result c.from_residual.ensures.1 in rw (p.1, c.room.ensures.keys) c.self.view_is

pub invariant_of-self-in_err-reserve : goal.invariant_of-self-in_err-reserve
invariant_of-self-in_err-reserve g c = rw (c.room.ensures.keys, c.reserve.ensures.items) c.self.invariant

pub returns-in_err-reserve-clause-ok : goal.returns-in_err-reserve-clause-ok
returns-in_err-reserve-clause-ok g c = let p = err_from_is_err_and c.from_residual-in_err-reserve.result c.from_residual-in_err-reserve.ensures.1 in rw p.1 tt

pub returns-in_err-reserve-clause-err : goal.returns-in_err-reserve-clause-err
returns-in_err-reserve-clause-err g c = let p = err_from_is_err_and c.from_residual-in_err-reserve.result c.from_residual-in_err-reserve.ensures.1 in rw (p.1, c.room.ensures.keys, c.reserve.ensures.items) c.self.view_is

pub index_mut-cells-requires : goal.index_mut-cells-requires
index_mut-cells-requires g c = (let low = rw (← c.self.view_is) at c.requires.row in omega (arith, low, c.self.inside.rows.ok.0, length-map c.self.inside.rows.items (λ v. v.items)))

pub invariant_of-self-in_err-reserve-2 : goal.invariant_of-self-in_err-reserve-2
invariant_of-self-in_err-reserve-2 g c = rw (c.room.ensures.keys, c.reserve.ensures.items) c.self.invariant

pub push_reserved-requires-2 : goal.push_reserved-requires-2
push_reserved-requires-2 g c = omega (arith, c.in_ok-reserve.ensures.ok)

pub put-requires-clause-room : goal.put-requires-clause-room
put-requires-clause-room g c = c.in_ok-room.ensures.room

pub put-requires-clause-new : goal.put-requires-clause-new
put-requires-clause-new g c = (rw c.room.ensures.keys (λ k. c.requires.new (subst (λ z. Has z.keys c.args.key) c.self.view_is k)))

pub invariant_of-self-2 : goal.invariant_of-self-2
invariant_of-self-2 g c = rw (c.put.ensures.keys, c.room.ensures.keys, c.push_reserved-2.ensures.items, c.reserve.ensures.items) (length_push c.self.inside.places.items c.self.inside.keys.keys _ c.args.key c.self.invariant)

pub push_reserved-requires : goal.push_reserved-requires
push_reserved-requires g c = elim c.if-place-eq0.branch [
  | then-place-eq0 w ↦ omega (arith, w.reserve-is, c.in_ok-reserve-2.ensures.ok)
  | else-place-eq0 w ↦ omega (arith, w.reserve-is, c.in_ok-reserve-2.ensures.ok)
]

pub returns-in_err-reserve-2-clause-ok : goal.returns-in_err-reserve-2-clause-ok
returns-in_err-reserve-2-clause-ok g c = let p = err_from_is_err_and c.from_residual-in_err-reserve-2.result c.from_residual-in_err-reserve-2.ensures.1 in rw p.1 tt

pub returns-in_err-reserve-2-clause-err : goal.returns-in_err-reserve-2-clause-err
returns-in_err-reserve-2-clause-err g c =
    let same = (get_or-map (λ v. v.items) c.self.inside.rows.items c.args.row c.index_mut-cells.result.now [] (let low = rw (← c.self.view_is) at c.requires.row in omega (arith, low, length-map c.self.inside.rows.items (λ v. v.items))) ∙ ap (λ v. v.items) (sym c.index_mut-cells.ensures.value)) in
    let p = err_from_is_err_and c.from_residual-in_err-reserve-2.result c.from_residual-in_err-reserve-2.ensures.1 in
    rw (p.1, ← c.self.view_is) (λ i. record {
      rows = (map-set (λ v. v.items) c.self.inside.rows.items c.args.row c.reserve-2.new.self ∙ ap (slice_set (map (λ v. v.items) c.self.inside.rows.items) c.args.row) (c.reserve-2.ensures.items ∙ sym same) ∙ set_row-same (map (λ v. v.items) c.self.inside.rows.items) c.args.row) i;
      keys = c.room.ensures.keys i;
      places = c.reserve.ensures.items i;
      room = c.self.inside.rows.cap - c.self.inside.rows.len;
    })

pub returns-clause-ok : goal.returns-clause-ok
returns-clause-ok g c =
    let same = (get_or-map (λ v. v.items) c.self.inside.rows.items c.args.row c.index_mut-cells.result.now [] (let low = rw (← c.self.view_is) at c.requires.row in omega (arith, low, length-map c.self.inside.rows.items (λ v. v.items))) ∙ ap (λ v. v.items) (sym c.index_mut-cells.ensures.value)) in
    rw (← c.self.view_is) (λ i. record {
      rows = (map-set (λ v. v.items) c.self.inside.rows.items c.args.row c.push_reserved.new.self ∙ ap (slice_set (map (λ v. v.items) c.self.inside.rows.items) c.args.row) (c.push_reserved.ensures.items ∙ ap (λ xs. xs ++ c.args.cell ∷ []) (c.reserve-2.ensures.items ∙ sym same))) i;
      keys = (c.put.ensures.keys ∙ ap (λ ks. ks ++ c.args.key ∷ []) c.room.ensures.keys) i;
      places = (c.push_reserved-2.ensures.items ∙ ap (λ ps. ps ++ c.len-place.result ∷ []) c.reserve.ensures.items ∙ ap (λ n. c.self.inside.places.items ++ n ∷ []) (c.len-place.ensures ∙ c.index_mut-cells.result.now.ok.0 ∙ ap length (sym same))) i;
      room = c.self.inside.rows.cap - c.self.inside.rows.len;
    })
