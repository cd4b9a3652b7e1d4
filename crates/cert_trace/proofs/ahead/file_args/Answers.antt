use Rattle.std.proofs.Common.{List, arith, inl, inr, refl, subst, sym}
use Rattle.std.proofs.lemmas.List.{take_all}
use Rattle.std.proofs.lemmas.Option.{slice_get-get_or}
use Rattle.lists.specs.Lists.{Has}
use Rattle.spds_rules.specs.declared.store.StoreAt.{StoreAt}
use Rattle.cert_work.proofs.Growing.{each_next}
use Rattle.cert_trace.specs.Ahead.{IsArgFiled}
use Rattle.cert_trace.proofs.ahead.file_args.Goals as goal

pub loop-store-init : goal.loop-store-init
loop-store-init c = λ s has. let h = has.1 in cc

pub loop-store-preserved : goal.loop-store-preserved
loop-store-preserved c =
    each_next (IsArgFiled c.add.new.self) c.args.stores.now c.loop-store.store-index _ (slice_get-get_or _ _ _ c.loop-store-test.true)
    (λ s has. (c.in_ok-add.ensures.has s.field s.arg).1 (inl (c.loop-store.invariant s has))) ((c.in_ok-add.ensures.has _ _).1 (inr (refl, refl)))

pub returns : goal.returns
returns c =
    let all = take_all c.loop-store.store-index c.args.stores.now (omega arith) in
    λ s has. c.loop-store.invariant s (subst (λ (xs : List StoreAt). Has xs s) (sym all) has)
