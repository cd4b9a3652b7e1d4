use Rattle.std.proofs.Common.{◌≡◌, ℕ, List, slice_index_or, subst}
use Rattle.std.proofs.lemmas.List.{take_all}
use Rattle.std.proofs.lemmas.Option.{slice_get-get_or}
use Rattle.lists.proofs.Places.{take-next}
use Rattle.site_events.proofs.Calling.{AreAdded, added_itself, added_more}
use Rattle.site_events.proofs.loud.add_all.Goals as goal

pub loop-method-preserved : goal.loop-method-preserved
loop-method-preserved c =
    let items = c.args.methods.now in
    let index = c.loop-method.method-index in
    let x = slice_index_or items index 0 in
    rw (take-next items index x (slice_get-get_or items index 0 c.loop-method-test.true))
    (added_more (λ (m : ℕ). m) _ c.loop-method.found.keys _ _ x c.loop-method.invariant c.in_ok-add.ensures.keys)

pub returns-clause-each : goal.returns-clause-each
returns-clause-each c =
    let items = c.args.methods.now in
    let all = take_all c.loop-method.method-index items c.loop-method-test.false in
    added_itself c.args.found.now.keys items c.loop-method.found.keys
    (subst (λ (list : List ℕ). AreAdded (λ (m : ℕ). m) c.args.found.now.keys list c.loop-method.found.keys) all c.loop-method.invariant)
