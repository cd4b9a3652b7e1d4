use Rattle.std.proofs.Common.{◌≡◌, Some, slice_get, sym, refl}
use Rattle.std.proofs.lemmas.Bool.{ltb-true}
use Rattle.std.proofs.lemmas.Option.{slice_get_read}
use Rattle.link_bodies.proofs.Sorted.{first_place, is_name, no_place, other_name}
use Rattle.link_bodies.proofs.places.FirstPlaces.find.Goals as goal

pub returns-then-ne : goal.returns-then-ne
returns-then-ne c names knows =
    let looked = c.in_ok-named.ensures.lookup in
    let here : slice_get c.args.self.now.places.items c.count_below.result ≡ Some c.in_ok-named.named.now =
    rw c.deref.ensures.value at (slice_get_read c.deref.result.now _ c.count_below.result c.in_ok-named.named.now refl (ltb-true _ _ (sym looked.0)) looked.1) in
    no_place names _ knows.named knows.ordered c.args.name c.count_below.result (c.count_below.ensures knows.ordered) c.in_ok-named.named.now here
    (other_name c.in_ok-named.named.now.name c.args.name (sym c.if-ne.ensures))

pub returns : goal.returns
returns c names knows =
    let looked = c.in_ok-named.ensures.lookup in
    let here : slice_get c.args.self.now.places.items c.count_below.result ≡ Some c.in_ok-named.named.now =
    rw c.deref.ensures.value at (slice_get_read c.deref.result.now _ c.count_below.result c.in_ok-named.named.now refl (ltb-true _ _ (sym looked.0)) looked.1) in
    first_place names _ knows.named knows.ordered c.args.name c.count_below.result (c.count_below.ensures knows.ordered) c.in_ok-named.named.now here
    (is_name c.in_ok-named.named.now.name c.args.name (sym c.if-ne.ensures))
