use Rattle.std.proofs.Common.{◌∙◌, [], ◌<◌, ◌-◌, ap, length, map, subst, sym, arith}
use Rattle.std.specs.List.{slice_set}
use Rattle.std.specs.Vec.{with_item}
use Rattle.std.proofs.lemmas.List.{get_or-map, length-map, map-set}
use Rattle.auto_table.proofs.grid.Grid.write.Goals as goal

pub index_mut-requires : goal.index_mut-requires
index_mut-requires g c = (let low = rw (← c.self.view_is) at c.requires.row in omega (arith, low, c.self.inside.rows.ok.0, length-map c.self.inside.rows.items (λ v. v.items)))

pub index_mut-requires-2 : goal.index_mut-requires-2
index_mut-requires-2 g c =
    let same = (get_or-map (λ v. v.items) c.self.inside.rows.items c.args.row c.index_mut.result.now [] (let low = rw (← c.self.view_is) at c.requires.row in omega (arith, low, length-map c.self.inside.rows.items (λ v. v.items))) ∙ ap (λ v. v.items) (sym c.index_mut.ensures.value)) in
    let place = rw (← c.self.view_is) at c.requires.place in
    omega (arith, subst (λ xs. c.args.place < length xs) same place, c.index_mut.result.now.ok.0)

pub invariant_of-self : goal.invariant_of-self
invariant_of-self g c = c.self.invariant

pub returns : goal.returns
returns g c =
    let same = (get_or-map (λ v. v.items) c.self.inside.rows.items c.args.row c.index_mut.result.now [] (let low = rw (← c.self.view_is) at c.requires.row in omega (arith, low, length-map c.self.inside.rows.items (λ v. v.items))) ∙ ap (λ v. v.items) (sym c.index_mut.ensures.value)) in
    rw (← c.self.view_is) (λ i. record {
      rows = (map-set (λ v. v.items) c.self.inside.rows.items c.args.row (with_item c.index_mut.result.now c.args.place c.args.cell) ∙ ap (λ xs. slice_set (map (λ v. v.items) c.self.inside.rows.items) c.args.row (slice_set xs c.args.place c.args.cell)) (sym same)) i;
      keys = c.self.inside.keys.keys;
      places = c.self.inside.places.items;
      room = c.self.inside.rows.cap - c.self.inside.rows.len;
    })
