use Rattle.std.proofs.Common.{◌≡◌, inl, inr, ℕ, ◌+◌, ◌++◌, List, Some, slice_get, subst, sym, arith}
use Rattle.lists.proofs.Grown.{longer_more, longer_none}
use Rattle.lists.proofs.Places.{slice_get-append_left, slice_get-below, slice_get-there}
use Rattle.cert_lines.specs.declared.keys.FieldAt.{FieldAt}
use Rattle.spds_rules.specs.declared.edge.Edge.{Edge}
use Rattle.lists.specs.Lists.{Has}
use Rattle.cert_trace.specs.Ahead.{IsSearched}
use Rattle.cert_trace.proofs.FoundAhead.{searched_more}
use Rattle.cert_trace.proofs.Wanted.{less_next}
use Rattle.cert_trace.proofs.ahead.search.Goals as goal

pub loop-at-init : goal.loop-at-init
loop-at-init c = record { longer = longer_none _; searched = λ i at low. absurd (omega arith) }

pub loop-at-preserved : goal.loop-at-preserved
loop-at-preserved c =
    let was = c.loop-at.invariant in
    let now = c.in_ok-add_all_before.ensures in
    let keys = c.loop-at.found.keys in
    let less = c.loop-at-test.true in
    let many = c.len.ensures.value in
    record {
      longer = longer_more _ _ _ was.longer now.longer;
      searched = λ i at low there.
          let before = slice_get-there keys i (omega (arith, low, less, many)) in
          let again = slice_get-append_left keys now.longer.0 i before.0 before.1 in
          let here : slice_get (keys ++ now.longer.0) i ≡ Some at = subst (λ (xs : List FieldAt). slice_get xs i ≡ Some at) now.longer.1 there in
          let same : before.0 ≡ at = cc in
          let was_there : slice_get keys i ≡ Some at = subst (λ (x : FieldAt). slice_get keys i ≡ Some x) same before.1 in
          elim (less_next i c.loop-at.at low) [
            | inl under ↦ searched_more _ _ now.longer c.args.back.now c.args.args.now at (was.searched i at under was_there)
            | inr is ↦
                let read : slice_get keys c.loop-at.at ≡ Some at = subst (λ (k : ℕ). slice_get keys k ≡ Some at) is was_there in
                let one : c.key-next.result ≡ at = (let key = c.key-next.ensures in cc) in
                subst (IsSearched c.add_all_before.new.found.keys c.args.back.now c.args.args.now) one
                (λ e has. now.before e (subst (λ (xs : List Edge). Has xs e) (sym c.at-edges.ensures) has))
          ];
    }

pub returns-clause-all : goal.returns-clause-all
returns-clause-all c = λ yes at has.
    let low = slice_get-below c.loop-at.found.keys has.0 at has.1 in
    let all = c.loop-at-test.false in
    let many = c.len.ensures.value in
    c.loop-at.invariant.searched has.0 at (omega (arith, low, all, many)) has.1
