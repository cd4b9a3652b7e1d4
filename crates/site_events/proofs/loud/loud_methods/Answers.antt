use Rattle.std.proofs.Common.{◌≡◌, ◌↔◌, ◌⊎◌, ℕ, List, Some, None, eqb, slice_get, sym, subst, ◌∙◌}
use Rattle.lists.specs.Lists.{Has}
use Rattle.site_events.proofs.Searching.{searched_all, searched_more, searched_none}
use Rattle.site_events.proofs.loud.loud_methods.Goals as goal

pub loop-target-init : goal.loop-target-init
loop-target-init c = λ p calling methods.
    searched_none p c.args.callers.now c.args.told.now calling methods c.new-found.result.keys c.add_all.new.found.keys c.new-found.ensures c.in_ok-add_all.ensures.each

pub loop-target-preserved : goal.loop-target-preserved
loop-target-preserved c = λ p calling methods.
    let target = c.in-Some.target in
    let there : slice_get c.loop-target.found.keys c.loop-target.at ≡ Some target = sym c.in-Some.ensures.value in
    let put = subst (λ (xs : List ℕ). (m : ℕ) → Has c.add_all-in-Some.new.found.keys m ↔ (Has c.loop-target.found.keys m ⊎ Has xs m)) c.at.ensures c.in_ok-add_all-2.ensures.each in
    searched_more p c.args.callers.now c.args.told.now calling methods c.loop-target.at c.loop-target.found.keys c.add_all-in-Some.new.found.keys target
    (c.loop-target.invariant p calling methods) there c.in_ok-add_all-2.ensures.stay put

pub returns : goal.returns
returns c = λ p calling methods.
    let none : slice_get c.loop-target.found.keys c.loop-target.at ≡ None = sym c.method_at.ensures.value ∙ c.in_default.is in
    searched_all p c.args.callers.now c.args.told.now calling methods c.loop-target.at c.loop-target.found.keys (c.loop-target.invariant p calling methods) none c.method_at.ensures.apart
