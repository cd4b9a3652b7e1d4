use Rattle.std.proofs.Common.{◌≡◌, ◌+◌, ℕ, subst, arith}
use Rattle.lists.proofs.Places.{slice_get-below}
use Rattle.type_track.specs.Searches.{MaySearch}
use Rattle.type_track.proofs.search.search_all.Goals as goal

pub bring_all-requires-clause-room : goal.bring_all-requires-clause-room
bring_all-requires-clause-room g c κs within =
    let few = c.requires.posed.1.given.few in
    let count = c.requires.count in
    rw c.deref_mut.ensures.value (omega arith)

pub bring_all-requires-clause-may : goal.bring_all-requires-clause-may
bring_all-requires-clause-may g c κs within site list there =
    let at : site ≡ 0 + site = omega arith in
    let low = slice_get-below c.args.lists.now.items site list (rw c.deref_mut.ensures.value at there) in
    subst (λ (n : ℕ). MaySearch c.args.search.now n) at
    (record { query = c.requires.posed.0; posed = c.requires.posed.1; within = omega (arith, low, c.requires.count) })
