use Rattle.std.proofs.Common.{◌≡◌, ◌∙◌, ◌<◌, ℕ, false, None, arith, get_or, length, sym, ap, subst}
use Rattle.class_rules.specs.declared.rows.ClassRow.{ClassRow}
use Rattle.class_order.specs.Groups.{group}
use Rattle.class_tree.specs.Turns.{AreHere, HaveTurned, IsBefore, numbered, row_over}
use Rattle.class_tree.proofs.Walking.{before_parent, falls_left, if_some, left_here, named_by, none_of, not_true, numbered_before, parent_named, some_by, steps_left, tell_kept}
use Rattle.class_tree.proofs.walk.leave_up_to.Goals as goal

pub number_of-above-requires : goal.number_of-above-requires
number_of-above-requires c =
    let f = c.requires.forest in
    let d : ClassRow = record { parent = None; interface = false } in
    let before = if_some (IsBefore c.args.forest.now.numbers.items c.args.number) c.loop-at.at c.in-Some.class c.loop-at.invariant.before c.in-Some.is in
    let named = named_by c.args.classes.now c.in-Some.class d (omega (arith, before.0, f.len)) in
    some_by (λ k. k < length c.as_slice.result.now) (get_or c.args.classes.now c.in-Some.class d).parent
    (λ p e. let known = f.known c.in-Some.class p (parent_named c.args.classes.now c.in-Some.class p _ named e) in omega (arith, known, f.len, ap (length {A = ℕ}) c.as_slice.ensures.value))

pub leave-requires-clause-above : goal.leave-requires-clause-above
leave-requires-clause-above c =
    let f = c.requires.forest in
    let d : ClassRow = record { parent = None; interface = false } in
    let before = if_some (IsBefore c.args.forest.now.numbers.items c.args.number) c.loop-at.at c.in-Some.class c.loop-at.invariant.before c.in-Some.is in
    let named = named_by c.args.classes.now c.in-Some.class d (omega (arith, before.0, f.len)) in
    rw (c.number_of-above.ensures, c.as_slice.ensures.value) (numbered_before c.args.forest.now.numbers.items c.args.number (get_or c.args.classes.now c.in-Some.class d).parent
    (λ p e. let lower = f.falls c.in-Some.class p (parent_named c.args.classes.now c.in-Some.class p _ named e) in omega (arith, lower, before.1)))

pub loop-at-preserved : goal.loop-at-preserved
loop-at-preserved c =
    let f = c.requires.forest in
    let d : ClassRow = record { parent = None; interface = false } in
    let classes = c.args.classes.now in
    let owns = c.args.forest.now.owns in
    let numbers = c.args.forest.now.numbers.items in
    let class = c.in-Some.class in
    let parent = (get_or classes class d).parent in
    let before = if_some (IsBefore numbers c.args.number) c.loop-at.at class c.loop-at.invariant.before c.in-Some.is in
    let named = named_by classes class d (omega (arith, before.0, f.len)) in
    let here = subst (AreHere classes owns c.loop-at.turns) c.in-Some.is c.loop-at.invariant.here in
    let above : c.number_of-above.result ≡ numbered numbers parent = c.number_of-above.ensures ∙ ap (λ xs. numbered xs parent) c.as_slice.ensures.value in
    let turned : HaveTurned c.args.number (group owns class) (λ o. row_over (numbered numbers parent) (group c.loop-at.turns o.slot)) c.loop-at.turns c.leave.new.turns =
    subst (λ xs. HaveTurned c.args.number xs (λ o. row_over (numbered numbers parent) (group c.loop-at.turns o.slot)) c.loop-at.turns c.leave.new.turns) c.get.ensures
    (subst (λ a. HaveTurned c.args.number c.get.result.now (λ o. row_over a (group c.loop-at.turns o.slot)) c.loop-at.turns c.leave.new.turns) above c.in_ok-leave.ensures) in
    record {
      len = turned.len ∙ c.loop-at.invariant.len;
      told = tell_kept classes owns numbers c.args.number c.loop-at.turns c.leave.new.turns (group owns class) _ c.loop-at.invariant.told turned;
      before = some_by (IsBefore numbers c.args.number) parent
          (λ p e. before_parent classes owns numbers _ f c.args.number c.loop-at.turns c.leave.new.turns c.loop-at.invariant.told class p before (parent_named classes class p parent named e));
      here = left_here classes owns numbers _ f c.args.number c.loop-at.turns c.leave.new.turns c.loop-at.invariant.told class parent named before here turned;
    }

pub loop-at-smaller : goal.loop-at-smaller
loop-at-smaller c =
    let f = c.requires.forest in
    let d : ClassRow = record { parent = None; interface = false } in
    let numbers = c.args.forest.now.numbers.items in
    let before = if_some (IsBefore numbers c.args.number) c.loop-at.at c.in-Some.class c.loop-at.invariant.before c.in-Some.is in
    let named = named_by c.args.classes.now c.in-Some.class d (omega (arith, before.0, f.len)) in
    subst (λ o. steps_left numbers (get_or c.args.classes.now c.in-Some.class d).parent < steps_left numbers o) (sym c.in-Some.is) (falls_left c.args.classes.now numbers c.in-Some.class _ f.falls named)

pub returns : goal.returns
returns c = record {
  len = c.loop-at.invariant.len;
  told = c.loop-at.invariant.told;
  here = λ t.
      let none = none_of c.args.to (c.is_none.ensures ∙ not_true c.is_none.result t) in
      subst (AreHere c.args.classes.now c.args.forest.now.owns c.loop-at.turns) (c.in_default.is ∙ sym none) c.loop-at.invariant.here;
}
