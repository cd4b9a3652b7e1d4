use Rattle.std.proofs.Common.{◌≡◌, ℕ, ◌+◌, ◌≤◌, List, Some, length, slice_get, sym, subst}
use Rattle.lists.proofs.Places.{slice_get-there, slice_get-read}
use Rattle.link_rules.specs.declared.code.Code.{Code}
use Rattle.link_sites.specs.Places.{CodeAt}
use Rattle.refined_query.specs.Keeping.{AreKeptBefore}
use Rattle.refined_query.proofs.Selection.{kept_end}
use Rattle.refined_query.proofs.keeping.keep_in.Goals as goal

pub keep_at-requires-clause-code : goal.keep_at-requires-clause-code
keep_at-requires-clause-code g c κs within =
    let p = c.args.linked.now in
    let at = c.loop-at.at in
    let here = c.index-codes-at.result in
    let m = slice_get-there p.methods c.args.method c.requires.there in
    let read = slice_get-read c.code-codes.result.now at here c.loop-at-test.true c.index-codes-at.is in
    let there = subst (λ (xs : List Code). slice_get xs at ≡ Some here) {x = c.code-codes.result.now} {y = m.0.code} (c.code-codes.ensures m.0 m.1) read in
    subst (λ (i : ℕ). CodeAt p c.args.method i here) {x = at} (sym {b = at} c.in-Ok.ensures.1) (record { method = m.0; there = m.1; here = there })

pub keep_at-requires-clause-before : goal.keep_at-requires-clause-before
keep_at-requires-clause-before g c κs within =
    subst (λ (i : ℕ). AreKeptBefore c.args.linked.now c.args.budget c.args.method i c.loop-at.kept.items) (sym c.in-Ok.ensures.1) c.loop-at.invariant

pub loop-at-preserved : goal.loop-at-preserved
loop-at-preserved g c =
    subst (λ (i : ℕ). AreKeptBefore c.args.linked.now c.args.budget c.args.method (i + 1) c.keep_at.new.kept.items) c.in-Ok.ensures.1 c.in_ok-keep_at.ensures

pub returns : goal.returns
returns g c =
    let p = c.args.linked.now in
    let m = slice_get-there p.methods c.args.method c.requires.there in
    let past = subst (λ (xs : List Code). length xs ≤ c.loop-at.at) {x = c.code-codes.result.now} {y = m.0.code} (c.code-codes.ensures m.0 m.1) c.loop-at-test.false in
    kept_end p c.args.budget c.args.method c.loop-at.at m.0 c.loop-at.kept.items m.1 past c.loop-at.invariant
