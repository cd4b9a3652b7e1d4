use Rattle.std.proofs.Common.{◌∙◌, [], ap, sym, arith}
use Rattle.std.proofs.lemmas.List.{get_or-map, length-map}
use Rattle.auto_table.proofs.grid.Grid.row.Goals as goal

pub index-requires : goal.index-requires
index-requires g c = (let low = rw (← c.self.view_is) at c.requires in omega (arith, low, c.self.inside.rows.ok.0, length-map c.self.inside.rows.items (λ v. v.items)))

pub returns : goal.returns
returns g c = rw (← c.self.view_is) (c.as_slice.ensures.value ∙ ap (λ v. v.items) c.index.ensures ∙ sym (get_or-map (λ v. v.items) c.self.inside.rows.items c.args.row c.index.result.now [] (let low = rw (← c.self.view_is) at c.requires in omega (arith, low, length-map c.self.inside.rows.items (λ v. v.items)))))
