use Rattle.std.proofs.Common.{◌≡◌, ◌<◌, ◌++◌, ◌∷◌, [], Some, slice_get, length, length-append, get_or, ap, ◌∙◌, arith}
use Rattle.std.proofs.lemmas.List.Elements.{Contains-get_or}
use Rattle.class_order.specs.declared.finish.Stage.TheVariants.{New, Open, Done}
use Rattle.class_order.specs.Tables.{Under, IsSearch}
use Rattle.class_order.proofs.Searches.{search_open, search_last, search_enter, search_finish, search_bent, straight_map, straight_push, begun_first, begun_more, new_count-opened}
use Rattle.class_order.proofs.finish.search.Goals as goal
use Rattle.class_order.proofs.finish.search.Goals.{then-not-are_done, else-not-are_done}

pub loop-visit-init : goal.loop-visit-init
loop-visit-init c = record {
  searched = rw (c.in_ok-push.ensures.items, c.new-path.ensures.items) (search_open _ _ _ [] c.args.start c.requires.searched c.requires.new (λ k v e. cc));
  begun = begun_first _ _ c.requires.new;
  straight = λ straight. straight;
}

pub get-lower-requires : goal.get-lower-requires
get-lower-requires c = (search_last _ _ _ c.pop.new.self.items c.in-Some.visit (rw c.in-Some.ensures.items at c.loop-visit.invariant.searched)).1

pub first_new-next-requires-clause-known : goal.first_new-next-requires-clause-known
first_new-next-requires-clause-known c = λ k d h.
    let u : Under c.args.below.now (get_or c.get-lower.result.now k d) c.in-Some.visit.class = rw (← c.get-lower.ensures) (Contains-get_or c.get-lower.result.now k d h) in
    omega (arith, c.requires.below _ _ u, c.loop-visit.invariant.searched.len, ap length c.deref.ensures.value)

pub first_new-next-requires-clause-from : goal.first_new-next-requires-clause-from
first_new-next-requires-clause-from c = rw c.get-lower.ensures (search_last _ _ _ c.pop.new.self.items c.in-Some.visit (rw c.in-Some.ensures.items at c.loop-visit.invariant.searched)).2

pub are_done-requires : goal.are_done-requires
are_done-requires c = λ k d h.
    let u : Under c.args.below.now (get_or c.get-lower.result.now k d) c.in-Some.visit.class = rw (← c.get-lower.ensures) (Contains-get_or c.get-lower.result.now k d h) in
    omega (arith, c.requires.below _ _ u, c.loop-visit.invariant.searched.len, ap length c.deref-then-next-lower.ensures.value)

pub index_mut-requires-then-next-lower : goal.index_mut-requires-then-next-lower
index_mut-requires-then-next-lower c = omega (arith, (search_last _ _ _ c.pop.new.self.items c.in-Some.visit (rw c.in-Some.ensures.items at c.loop-visit.invariant.searched)).0, c.loop-visit.stages.ok.0)

pub loop-visit-preserved-in-Continue-branch-2 : goal.loop-visit-preserved-in-Continue-branch-2
loop-visit-preserved-in-Continue-branch-2 c =
    let s : IsSearch c.args.below.now c.loop-visit.stages.items c.loop-visit.order.items (c.pop.new.self.items ++ c.in-Some.visit ∷ []) = rw c.in-Some.ensures.items at c.loop-visit.invariant.searched in
    let last = search_last _ _ _ c.pop.new.self.items c.in-Some.visit s in
    let whole = c.if-next-lower.true ∙ ap length c.get-lower.ensures in
    record {
      searched = rw c.in_ok-push-2.ensures.items (search_finish _ _ _ _ c.in-Some.visit c.first_new-next.result s
          (λ j h lt. rw (c.get-lower.ensures, c.deref.ensures.value) at (c.first_new-next.ensures.begun j h lt)) c.requires.below whole);
      begun = begun_more _ _ _ _ Done last.0 (λ e. cc) c.loop-visit.invariant.begun;
      straight = elim c.if-not-are_done.branch [
        | then-not-are_done w ↦
            let open_one = c.are_done.ensures.not_done w.if-not-are_done.true in
            rw w.straight-is (search_bent _ _ _ _ c.in-Some.visit c.first_new-next.result s
            (λ j h lt. rw (c.get-lower.ensures, c.deref.ensures.value) at (c.first_new-next.ensures.begun j h lt)) c.requires.below whole
            open_one.0 (rw c.get-lower.ensures at open_one.1) (rw c.deref-then-next-lower.ensures.value at open_one.2))
        | else-not-are_done w ↦
            let all_done = rw (c.get-lower.ensures, c.deref-then-next-lower.ensures.value) at (c.are_done.ensures.done w.if-not-are_done.false) in
            rw (w.straight-is, c.in_ok-push-2.ensures.items) (straight_map _ _ _ c.loop-visit.straight
            (λ old first. straight_push _ _ _ (old first) (λ d u. s.done d (all_done d u))) c.loop-visit.invariant.straight)
      ];
    }

-- the class at which the search goes on
pub index_mut-requires-else-next-lower : goal.index_mut-requires-else-next-lower
index_mut-requires-else-next-lower c =
    let h : c.first_new-next.result < length c.get-lower.result.now = omega (arith, c.first_new-next.ensures.within, c.if-next-lower.false) in
    let u : Under c.args.below.now (get_or c.get-lower.result.now c.first_new-next.result 0) c.in-Some.visit.class = rw (← c.get-lower.ensures) (Contains-get_or c.get-lower.result.now c.first_new-next.result 0 h) in
    omega (arith, c.requires.below _ _ u, c.loop-visit.invariant.searched.len, c.loop-visit.stages.ok.0)

pub loop-visit-smaller : goal.loop-visit-smaller
loop-visit-smaller c =
    let h : c.first_new-next.result < length c.get-lower.result.now = omega (arith, c.first_new-next.ensures.within, c.if-next-lower.false) in
    let new : slice_get c.loop-visit.stages.items (get_or c.get-lower.result.now c.first_new-next.result 0) ≡ Some New = rw c.deref.ensures.value at (c.first_new-next.ensures.new h) in
    omega (arith, new_count-opened c.loop-visit.stages.items (get_or c.get-lower.result.now c.first_new-next.result 0) new, simp length-append at (ap length c.in-Some.ensures.items), simp length-append at (ap length c.in_ok-push-3.ensures.items), simp length-append at (ap length c.in_ok-push-4.ensures.items))

pub loop-visit-preserved : goal.loop-visit-preserved
loop-visit-preserved c =
    let s : IsSearch c.args.below.now c.loop-visit.stages.items c.loop-visit.order.items (c.pop.new.self.items ++ c.in-Some.visit ∷ []) = rw c.in-Some.ensures.items at c.loop-visit.invariant.searched in
    let h : c.first_new-next.result < length c.get-lower.result.now = omega (arith, c.first_new-next.ensures.within, c.if-next-lower.false) in
    let u : Under c.args.below.now (get_or c.get-lower.result.now c.first_new-next.result 0) c.in-Some.visit.class = rw (← c.get-lower.ensures) (Contains-get_or c.get-lower.result.now c.first_new-next.result 0 h) in
    let known : get_or c.get-lower.result.now c.first_new-next.result 0 < length c.loop-visit.stages.items = omega (arith, c.requires.below _ _ u, s.len) in
    let new : slice_get c.loop-visit.stages.items (get_or c.get-lower.result.now c.first_new-next.result 0) ≡ Some New = rw c.deref.ensures.value at (c.first_new-next.ensures.new h) in
    record {
      searched = rw (c.in_ok-push-4.ensures.items, c.in_ok-push-3.ensures.items, c.get-lower.ensures) (search_enter _ _ _ c.pop.new.self.items c.in-Some.visit c.first_new-next.result s
          (λ j le lt. rw (c.get-lower.ensures, c.deref.ensures.value) at (c.first_new-next.ensures.begun j le lt))
          (rw c.get-lower.ensures at h) (rw c.get-lower.ensures at new));
      begun = begun_more _ _ _ _ Open known (λ e. cc) c.loop-visit.invariant.begun;
      straight = c.loop-visit.invariant.straight;
    }
