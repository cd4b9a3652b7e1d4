use Rattle.std.proofs.Common.{◌≡◌, ◌∙◌, ◌+◌, ◌-◌, false, Some, None, IfSome, List, arith, get_or, length, sym, ap, subst}
use Rattle.std.proofs.lemmas.List.Elements.{Contains-get_or}
use Rattle.std.proofs.lemmas.Option.{slice_get-get_or}
use Rattle.class_rules.specs.declared.rows.ClassRow.{ClassRow}
use Rattle.class_tree.specs.declared.turns.Turn.{Turn}
use Rattle.class_order.specs.Groups.{group}
use Rattle.class_tree.specs.Turns.{AreHere, HaveOneRow, HaveTurned, IsBefore, TellBefore}
use Rattle.lists.proofs.Elements.{same_read}
use Rattle.class_tree.proofs.Walking.{entered_here, named_by, parent_named, some_by, tell_kept, tell_more}
use Rattle.class_tree.proofs.walk.turns_by_slot.Goals as goal
use Rattle.class_tree.proofs.walk.turns_by_slot.Goals.{then-not-branch+in_ok-take_up, else-not-branch}

pub index-number-requires : goal.index-number-requires
index-number-requires c =
    let known = c.requires.within _ (Contains-get_or c.args.order.now (c.loop-at.at - 1) 0 (omega (arith, c.loop-at-test.true, c.loop-at.invariant.within))) in
    omega (arith, known, c.requires.forest.len, c.args.forest.now.numbers.ok.0)

pub bounds-classes-class : goal.bounds-classes-class
bounds-classes-class c = c.requires.within _ (Contains-get_or c.args.order.now (c.loop-at.at - 1) 0 (omega (arith, c.loop-at-test.true, c.loop-at.invariant.within)))

pub leave_up_to-requires-clause-told : goal.leave_up_to-requires-clause-told
leave_up_to-requires-clause-told c =
    let at = c.loop-at.at - 1 in
    let place = c.requires.placed at _ (slice_get-get_or c.args.order.now at 0 (omega (arith, c.loop-at-test.true, c.loop-at.invariant.within))) in
    let known = c.requires.within _ (Contains-get_or c.args.order.now at 0 (omega (arith, c.loop-at-test.true, c.loop-at.invariant.within))) in
    let read : c.index-number.result.now ≡ get_or c.args.forest.now.numbers.items (get_or c.args.order.now at 0) 0 =
    c.index-number.ensures ∙ same_read c.args.forest.now.numbers.items (get_or c.args.order.now at 0) _ 0 (omega (arith, known, c.requires.forest.len)) in
    let is : length c.args.order.now - c.loop-at.at ≡ c.index-number.result.now = omega (arith, place, read, c.loop-at-test.true, c.loop-at.invariant.within) in
    subst (λ n. TellBefore c.args.classes.now c.args.forest.now.owns c.args.forest.now.numbers.items n c.loop-at.turns) is c.loop-at.invariant.told

pub returns-clause-rising : goal.returns-clause-rising
returns-clause-rising c = λ s. (c.loop-at.invariant.told.ordered s).rising

pub returns-clause-told : goal.returns-clause-told
returns-clause-told c = λ k s h.
    let m = c.requires.all k h in
    let place = c.requires.placed m.0 k (slice_get-get_or c.args.order.now m.0 k m.1 ∙ ap Some m.2) in
    c.loop-at.invariant.told.told k s (omega (arith, h, c.requires.forest.len), omega (arith, place, c.loop-at-test.false))

pub leave_up_to-requires-clause-from : goal.leave_up_to-requires-clause-from
leave_up_to-requires-clause-from c =
    let at = c.loop-at.at - 1 in
    let place = c.requires.placed at _ (slice_get-get_or c.args.order.now at 0 (omega (arith, c.loop-at-test.true, c.loop-at.invariant.within))) in
    let known = c.requires.within _ (Contains-get_or c.args.order.now at 0 (omega (arith, c.loop-at-test.true, c.loop-at.invariant.within))) in
    let read : c.index-number.result.now ≡ get_or c.args.forest.now.numbers.items (get_or c.args.order.now at 0) 0 =
    c.index-number.ensures ∙ same_read c.args.forest.now.numbers.items (get_or c.args.order.now at 0) _ 0 (omega (arith, known, c.requires.forest.len)) in
    let is : length c.args.order.now - c.loop-at.at ≡ c.index-number.result.now = omega (arith, place, read, c.loop-at-test.true, c.loop-at.invariant.within) in
    subst (λ n. IfSome c.loop-at.here (IsBefore c.args.forest.now.numbers.items n)) is c.loop-at.invariant.before

pub take_up-requires-clause-class : goal.take_up-requires-clause-class
take_up-requires-clause-class c =
    let f = c.requires.forest in
    let d : ClassRow = record { parent = None; interface = false } in
    let numbers = c.args.forest.now.numbers.items in
    let at = c.loop-at.at - 1 in
    let class = get_or c.args.order.now at 0 in
    let known = c.requires.within class (Contains-get_or c.args.order.now at 0 (omega (arith, c.loop-at-test.true, c.loop-at.invariant.within))) in
    let read : c.index-number.result.now ≡ get_or numbers class 0 = c.index-number.ensures ∙ same_read numbers class _ 0 (omega (arith, known, f.len)) in
    let named = named_by c.args.classes.now class d known in
    rw c.as_slice.ensures.value (some_by (IsBefore numbers c.index-number.result.now) (get_or c.args.classes.now class d).parent
    (λ p e.
    let parent = parent_named c.args.classes.now class p _ named e in
    let lower = f.falls class p parent in
    let there = f.known class p parent in
    (omega (arith, there, f.len), omega (arith, lower, read))))

pub get-requires : goal.get-requires
get-requires c =
    let known = c.requires.within _ (Contains-get_or c.args.order.now (c.loop-at.at - 1) 0 (omega (arith, c.loop-at-test.true, c.loop-at.invariant.within))) in
    omega (arith, known, c.requires.forest.owns_len)

pub enter-requires-clause-one : goal.enter-requires-clause-one
enter-requires-clause-one c = subst HaveOneRow (sym c.get.ensures) (c.requires.forest.one (get_or c.args.order.now (c.loop-at.at - 1) 0))

pub loop-at-preserved : goal.loop-at-preserved
loop-at-preserved c =
    let f = c.requires.forest in
    let d : ClassRow = record { parent = None; interface = false } in
    let classes = c.args.classes.now in
    let owns = c.args.forest.now.owns in
    let numbers = c.args.forest.now.numbers.items in
    let at = c.loop-at.at - 1 in
    let class = get_or c.args.order.now at 0 in
    let parent = (get_or classes class d).parent in
    let n = c.index-number.result.now in
    let mid = c.if-not-branch.turns in
    let place = c.requires.placed at class (slice_get-get_or c.args.order.now at 0 (omega (arith, c.loop-at-test.true, c.loop-at.invariant.within))) in
    let known = c.requires.within class (Contains-get_or c.args.order.now at 0 (omega (arith, c.loop-at-test.true, c.loop-at.invariant.within))) in
    let read : n ≡ get_or numbers class 0 = c.index-number.ensures ∙ same_read numbers class _ 0 (omega (arith, known, f.len)) in
    let named = named_by classes class d known in
    let come : TellBefore classes owns numbers n mid × AreHere classes owns mid parent × (length mid ≡ c.args.slots) = elim c.if-not-branch.branch [
      | then-not-branch+in_ok-take_up w ↦
          let value = w.as_slice.ensures.value in
          let both = w.in_ok-take_up.ensures.told classes owns (rw value c.in_ok-leave_up_to.ensures.told) in
          (rw w.turns-is (rw value at both.0), rw w.turns-is both.1, ap (length {A = List Turn}) w.turns-is ∙ w.in_ok-take_up.ensures.len ∙ c.in_ok-leave_up_to.ensures.len ∙ c.loop-at.invariant.len)
      | else-not-branch w ↦
          (rw w.turns-is c.in_ok-leave_up_to.ensures.told, rw w.turns-is (c.in_ok-leave_up_to.ensures.here w.if-not-branch.false), ap (length {A = List Turn}) w.turns-is ∙ c.in_ok-leave_up_to.ensures.len ∙ c.loop-at.invariant.len)
    ] in
    let entered : HaveTurned n (group owns class) (λ o. Some o.row) mid c.enter.new.turns =
    subst (λ xs. HaveTurned n xs (λ o. Some o.row) mid c.enter.new.turns) c.get.ensures c.in_ok-enter.ensures in
    let here = entered_here classes owns numbers c.args.slots f n mid c.enter.new.turns come.0 class parent named come.1 entered in
    let kept = tell_kept classes owns numbers n mid c.enter.new.turns (group owns class) _ come.0 entered in
    let more = tell_more classes owns numbers c.args.slots f n mid c.enter.new.turns come.0 class known (sym read) here kept in
    let next : n + 1 ≡ length c.args.order.now - at = omega (arith, place, read, c.loop-at-test.true, c.loop-at.invariant.within) in
    record {
      within = omega (arith, c.loop-at.invariant.within);
      len = entered.len ∙ come.2;
      told = subst (λ k. TellBefore classes owns numbers k c.enter.new.turns) next more;
      before = (omega (arith, known, f.len), omega (arith, read, next));
      here = here;
    }
