use Rattle.std.proofs.Common.{◌≡◌, ◌<◌, ℕ, List, Some, false, true, length, get_or, slice_get, sym, ap, subst, ◌∙◌, arith}
use Rattle.std.specs.List.{AllPairs}
use Rattle.std.proofs.lemmas.Option.{get_or_from_slice_get, slice_get-get_or}
use Rattle.lists.proofs.Places.{slice_get-below}
use Rattle.link_sites.specs.declared.place.Place.{Place}
use Rattle.link_sites.specs.contracts.place.PlacePartialEq.TheImpl as places
use Rattle.link_sites.specs.Places.{ComesBefore}
use Rattle.call_side.proofs.Order.{mark_none, mark_there, no_place, same_place, self_place}
use Rattle.call_side.proofs.calls.Calls.mark_of.Goals as goal
use Rattle.call_side.proofs.calls.Calls.mark_of.Goals.{else-at-places-via-then-at-places+else-eq, else-at-places-via-else-at-places}

pub returns-then-eq-clause-marks : goal.returns-then-eq-clause-marks
returns-then-eq-clause-marks c =
    let xs = c.as_slice-places.result.now in
    let there : slice_get xs c.rank-at.result ≡ Some c.args.place = slice_get-get_or xs c.rank-at.result no_place c.if-at-places.true ∙ ap Some (same_place _ c.args.place (sym c.if-eq.ensures)) in
    let is : xs ≡ c.args.self.now = cc in
    mark_there c.args.self.now c.rank-at.result c.args.place (rw c.self.view_is at c.self.invariant.ordered) (rw is at there)

-- another place isn't the one that stands there
other_place : (xs : List Place) (at : ℕ) (place : Place) → false ≡ places.eq-value.it (get_or xs at no_place) place → slice_get xs at ≡ Some place → ⊥
other_place xs at place other there =
    let read = get_or_from_slice_get xs at place no_place there in
    let same : places.eq-value.it (get_or xs at no_place) place ≡ true = subst (λ (x : Place). places.eq-value.it x place ≡ true) (sym read) (self_place place) in
    cc

pub returns-clause-marks : goal.returns-clause-marks
returns-clause-marks c =
    let xs = c.as_slice-places.result.now in
    let is : xs ≡ c.args.self.now = cc in
    let ordered : AllPairs ComesBefore xs = subst (λ (ys : List Place). AllPairs ComesBefore ys) (sym c.as_slice-places.ensures.value) c.self.invariant.ordered in
    let none = mark_none xs c.rank-at.result c.args.place ordered c.rank-at.ensures.within c.rank-at.ensures.before c.rank-at.ensures.behind in
    rw (← is) (none (elim c.else-at-places.branch [
      | else-at-places-via-then-at-places+else-eq w ↦ other_place xs c.rank-at.result c.args.place w.if-eq.ensures
      | else-at-places-via-else-at-places w ↦ (λ there. let below : c.rank-at.result < length xs = slice_get-below xs c.rank-at.result c.args.place there in omega arith)
    ]))
