use Rattle.std.proofs.Common.{◌≡◌, ◌≤◌, ◌+◌, ◌++◌, ◌∷◌, [], ℕ, false, true, Some, length, slice_get, refl, sym, subst}
use Rattle.lists.proofs.Places.{slice_get-there, slice_get-read}
use Rattle.link_sites.specs.Places.{before}
use Rattle.call_side.specs.Calls.{AreCallsUpTo}
use Rattle.call_side.proofs.Counted.{calls_end, calls_more, calls_skip}
use Rattle.call_side.proofs.calls.add_calls.Goals as goal
use Rattle.call_side.proofs.calls.add_calls.Goals.{then-is_call+in_ok-number_of+in_ok-push, else-is_call}

pub loop-index-preserved : goal.loop-index-preserved
loop-index-preserved c =
    let p = c.args.linked.now in
    let m = slice_get-there p.methods c.args.method c.requires.there in
    let is = c.code-code-items.ensures m.0 m.1 in
    let read = slice_get-read c.code-code-items.result.now c.loop-index.index c.code-item.result c.loop-index-test.true c.code-item.is in
    let here : slice_get m.0.code c.loop-index.index ≡ Some c.code-item.result = rw is at read in
    elim c.if-is_call.branch [
      | then-is_call+in_ok-number_of+in_ok-push w ↦
          rw (w.places-is, w.in_ok-push.ensures.items)
          (subst (λ (i : ℕ). AreCallsUpTo p c.args.method (c.loop-index.index + 1) (c.loop-index.places.items ++ before c.args.method i ∷ [])) (sym w.in_ok-number_of.ensures)
          (calls_more p c.args.method c.loop-index.index c.code-item.result c.loop-index.places.items (record { method = m.0; there = m.1; here = here }) (w.if-is_call.ensures.0 refl) c.loop-index.invariant))
      | else-is_call w ↦ rw w.places-is (calls_skip p c.args.method c.loop-index.index c.code-item.result m.0 c.loop-index.places.items m.1 here
          (λ call. let no : false ≡ true = w.if-is_call.ensures.1 call in cc) c.loop-index.invariant)
    ]

pub returns : goal.returns
returns c =
    let p = c.args.linked.now in
    let m = slice_get-there p.methods c.args.method c.requires.there in
    let is = c.code-code-items.ensures m.0 m.1 in
    let past : length m.0.code ≤ c.loop-index.index = rw is at c.loop-index-test.false in
    calls_end p c.args.method c.loop-index.index m.0 c.loop-index.places.items m.1 past c.loop-index.invariant
