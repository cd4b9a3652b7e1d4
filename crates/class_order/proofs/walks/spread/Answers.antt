use Rattle.std.proofs.Common.{◌≡◌, ◌<◌, ◌≤◌, ◌⊎◌, Some, ℕ, slice_get, length, sym, ◌∙◌, inl, inr, arith}
use Rattle.std.proofs.lemmas.Option.{slice_get_within, slice_get-get_or}
use Rattle.lists.proofs.Elements.{Contains-at}
use Rattle.class_order.proofs.Visited.{searched_start, searched_more, searched_all, searched_bound, visits_longer, within_more}
use Rattle.class_order.proofs.walks.spread.Goals as goal

pub loop-class-init : goal.loop-class-init
loop-class-init c = record {
  searched = searched_start _ _ _ c.requires.done;
  known = c.requires.known;
  within = c.requires.from;
}

pub get-requires-in-Some : goal.get-requires-in-Some
get-requires-in-Some c = c.loop-class.invariant.known _ (Contains-at _ c.loop-class.at _ (sym c.in-Some.ensures.value))

pub overflow_add-at : goal.overflow_add-at
overflow_add-at c =
    let within = slice_get_within _ c.loop-class.at _ (sym c.in-Some.ensures.value) in
    omega (arith, within, c.requires.few, searched_bound _ _ c.in-Some.ensures.distinct c.loop-class.invariant.known)

pub loop-class-smaller : goal.loop-class-smaller
loop-class-smaller c =
    let within = slice_get_within _ c.loop-class.at _ (sym c.in-Some.ensures.value) in
    omega (arith, within, searched_bound _ _ c.in-Some.ensures.distinct c.loop-class.invariant.known)

pub loop-class-preserved : goal.loop-class-preserved
loop-class-preserved c =
    let there = sym c.in-Some.ensures.value in
    let within = slice_get_within _ c.loop-class.at _ there in
    let added = rw c.get-in-Some.ensures at c.in_ok-add_all.ensures in
    record {
      searched = searched_more _ _ _ _ _ _ c.loop-class.invariant.searched there added;
      known = within_more _ _ _ _ c.requires.steps c.loop-class.invariant.known added;
      within = omega (arith, within, visits_longer _ _ _ added);
    }

pub returns-clause-reached : goal.returns-clause-reached
returns-clause-reached c =
    let over : length c.loop-class.reached ≤ c.loop-class.at = elim (below_or c.loop-class.at (length c.loop-class.reached)) [
      | inl lt ↦ absurd (none (slice_get-get_or c.loop-class.reached c.loop-class.at 0 lt))
      | inr h ↦ h
    ] in
    searched_all _ _ _ _ c.loop-class.invariant.searched over
  where
    below_or : (i n : ℕ) → (i < n) ⊎ (n ≤ i)
    below_or i n = grind arith

    none : {x : ℕ} → slice_get c.loop-class.reached c.loop-class.at ≡ Some x → ⊥
    none e = c.in_default.not-Some _ (c.get.ensures.value ∙ e)
