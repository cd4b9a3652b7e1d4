use Rattle.std.proofs.Common.{ℕ, List, refl, slice_index_or, subst}
use Rattle.std.proofs.lemmas.List.{take_all}
use Rattle.std.proofs.lemmas.Option.{slice_get-get_or}
use Rattle.lists.proofs.Places.{take-next}
use Rattle.site_events.proofs.Calling.{ArePut, put_more, put_none}
use Rattle.site_events.proofs.callers.put_under.Goals as goal

pub loop-method-init : goal.loop-method-init
loop-method-init c = put_none c.args.target c.args.pairs.now.items

pub loop-method-preserved : goal.loop-method-preserved
loop-method-preserved c =
    let items = c.args.methods.now in
    let index = c.loop-method.method-index in
    let x = slice_index_or items index 0 in
    rw (c.in_ok-push.ensures.items, take-next items index x (slice_get-get_or items index 0 c.loop-method-test.true))
    (put_more c.args.target c.args.pairs.now.items _ x c.loop-method.pairs.items _ refl c.loop-method.invariant)

pub returns : goal.returns
returns c =
    let items = c.args.methods.now in
    let all = take_all c.loop-method.method-index items c.loop-method-test.false in
    subst (λ (list : List ℕ). ArePut c.args.target list c.args.pairs.now.items c.loop-method.pairs.items) all c.loop-method.invariant
