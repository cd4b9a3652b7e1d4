use Rattle.std.proofs.Common.{◌≡◌, ℕ, ◌+◌, ◌-◌, ◌<◌, Some, List, length, get_or, slice_get, subst, sym, ap, ◌∙◌, arith}
use Rattle.std.specs.List.{Contains}
use Rattle.std.proofs.lemmas.List.Elements.{Contains-get_or}
use Rattle.std.proofs.lemmas.Option.{slice_get-get_or}
use Rattle.class_tree.specs.declared.numbering.Numbering.{Numbering}
use Rattle.class_rules.specs.declared.rows.ClassRow.{ClassRow}
use Rattle.class_tree.specs.Turns.{IsNumbering}
use Rattle.class_tree.proofs.Running.{more_runs}
use Rattle.lists.proofs.Elements.{same_read}
use Rattle.class_tree.proofs.runs.Runs.new.Goals as goal

-- the class at an index of the order, and its place
class_known : (classes : List ClassRow) (n : Numbering) (order : List ℕ) (i : ℕ) → IsNumbering classes n → order ≡ n.order.items → i < length order → get_or order i 0 < length classes
class_known classes n order i is same h = is.within _ (subst (λ xs. Contains xs (get_or order i 0)) same (Contains-get_or order i 0 h))

class_placed : (classes : List ClassRow) (n : Numbering) (order : List ℕ) (i : ℕ) → IsNumbering classes n → order ≡ n.order.items → i < length order
    → get_or n.numbers.items (get_or order i 0) 0 + 1 + i ≡ length order
class_placed classes n order i is same h = is.placed i (get_or order i 0) (ap (λ xs. slice_get xs i) (sym same) ∙ slice_get-get_or order i 0 h) ∙ ap (length {A = ℕ}) (sym same)

pub index-place-requires : goal.index-place-requires
index-place-requires c =
    let known = class_known _ _ _ (c.loop-at.at - 1) c.requires c.as_slice-order.ensures.value (omega (arith, c.loop-at-test.true, c.loop-at.invariant.count)) in
    omega (arith, known, c.requires.own.len, c.args.numbering.now.numbers.ok.0)

pub start_of-start-requires : goal.start_of-start-requires
start_of-start-requires c = class_known _ _ _ (c.loop-at.at - 1) c.requires c.as_slice-order.ensures.value (omega (arith, c.loop-at-test.true, c.loop-at.invariant.count))

pub loop-at-preserved : goal.loop-at-preserved
loop-at-preserved c =
    let within : c.loop-at.at - 1 < length c.as_slice-order.result.now = omega (arith, c.loop-at-test.true, c.loop-at.invariant.count) in
    let known = class_known _ _ _ (c.loop-at.at - 1) c.requires c.as_slice-order.ensures.value within in
    let placed = class_placed _ _ _ (c.loop-at.at - 1) c.requires c.as_slice-order.ensures.value within in
    let class = get_or c.as_slice-order.result.now (c.loop-at.at - 1) 0 in
    let numbers = c.args.numbering.now.numbers.items in
    let read : c.index-place.result.now ≡ get_or numbers class 0 = c.index-place.ensures ∙ same_read numbers class _ 0 (omega (arith, known, c.requires.own.len)) in
    let at : get_or numbers class 0 ≡ length c.loop-at.tenants.items = omega (arith, placed, c.loop-at-test.true, c.loop-at.invariant.count) in
    let place : c.index-place.result.now ≡ length c.loop-at.tenants.items = read ∙ at in
    record {
      count = omega (arith, c.in_ok-push.ensures.len, c.loop-at-test.true, c.loop-at.invariant.count);
      are = rw (c.in_ok-push.ensures.items, c.in_ok-push-2.ensures.items) (more_runs c.args.classes.now numbers c.loop-at.tenants.items c.loop-at.starts.items c.loop-at.last c.loop-at.start c.loop-at.invariant.are
          class c.start_of-start.result known at (rw place at c.start_of-start.ensures));
    }

pub returns : goal.returns
returns c =
    let are = c.loop-at.invariant.are in
    record {
      len = are.len;
      reached = λ k h.
          let m = c.requires.all k h in
          let placed = c.requires.placed m.0 k (slice_get-get_or c.args.numbering.now.order.items m.0 k m.1 ∙ ap Some m.2) in
          let same : length c.as_slice-order.result.now ≡ length c.args.numbering.now.order.items = ap (length {A = ℕ}) c.as_slice-order.ensures.value in
          omega (arith, placed, same, c.loop-at-test.false, c.loop-at.invariant.count);
      placed = are.placed;
      begun = are.begun;
      each = are.each;
      falls = c.requires.falls;
    }
