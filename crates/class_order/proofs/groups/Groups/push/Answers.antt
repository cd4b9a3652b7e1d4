use Rattle.std.proofs.Common.{slice_set, Vec, length, ◌<◌, Global, sym, ◌∙◌, ap, ◌++◌, ◌∷◌, [], List, map}
use Rattle.std.proofs.lemmas.List.{map-set, get_or-map, length-map}
use Rattle.class_order.proofs.groups.Groups.push.Goals as goal

pub returns : goal.returns
returns g c =
    let items = λ (v : Vec g.row.T.Denot Global). v.items in
    let lists : List (Vec g.row.T.Denot Global) = c.self.inside.lists.items in
    let within : c.args.at < length lists = rw (sym (length-map lists items)) (rw (← c.self.view_is) at c.requires) in
    let read = ap items c.index_mut-list.ensures.value in
    let shown = get_or-map items lists c.args.at c.index_mut-list.result.now [] within in
    rw (← c.self.view_is) (rw map-set (ap (slice_set (map items lists) c.args.at) (c.in_ok-push.ensures.items ∙ ap (λ ys. ys ++ c.args.value ∷ []) (read ∙ sym shown))))
