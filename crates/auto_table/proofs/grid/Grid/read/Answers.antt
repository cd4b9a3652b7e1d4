use Rattle.std.proofs.Common.{◌∙◌, [], ◌<◌, Some, ap, length, slice_get, subst, sym, arith}
use Rattle.std.proofs.lemmas.List.{get_or-map, length-map}
use Rattle.std.proofs.lemmas.Option.{slice_get-get_or}
use Rattle.auto_table.proofs.grid.Grid.read.Goals as goal

pub index-requires : goal.index-requires
index-requires g c = (let low = rw (← c.self.view_is) at c.requires.row in omega (arith, low, c.self.inside.rows.ok.0, length-map c.self.inside.rows.items (λ v. v.items)))

pub index-requires-2 : goal.index-requires-2
index-requires-2 g c =
    let same = (get_or-map (λ v. v.items) c.self.inside.rows.items c.args.row c.index.result.now [] (let low = rw (← c.self.view_is) at c.requires.row in omega (arith, low, length-map c.self.inside.rows.items (λ v. v.items))) ∙ ap (λ v. v.items) (sym c.index.ensures)) in
    let place = rw (← c.self.view_is) at c.requires.place in
    omega (arith, subst (λ xs. c.args.place < length xs) same place, c.index.result.now.ok.0)

pub returns : goal.returns
returns g c =
    let same = (get_or-map (λ v. v.items) c.self.inside.rows.items c.args.row c.index.result.now [] (let low = rw (← c.self.view_is) at c.requires.row in omega (arith, low, length-map c.self.inside.rows.items (λ v. v.items))) ∙ ap (λ v. v.items) (sym c.index.ensures)) in
    let place = rw (← c.self.view_is) at c.requires.place in
    rw (← c.self.view_is) (ap (λ xs. slice_get xs c.args.place) same ∙ slice_get-get_or c.index.result.now.items c.args.place c.index-2.result.now (subst (λ xs. c.args.place < length xs) same place) ∙ ap Some (sym c.index-2.ensures))
