use Rattle.std.proofs.Common.{List, arith, subst, sym}
use Rattle.std.proofs.lemmas.List.{take_all}
use Rattle.std.proofs.lemmas.Option.{slice_get-get_or}
use Rattle.lists.specs.Lists.{Has}
use Rattle.spds_rules.specs.declared.store.StoreAt.{StoreAt}
use Rattle.cert_work.proofs.Growing.{each_next}
use Rattle.cert_work.specs.Wants.{IsWanted}
use Rattle.cert_trace.proofs.Wanted.{wanted_more, wider_more, wider_none}
use Rattle.cert_trace.proofs.wanting.want_stores.Goals as goal

pub loop-store-init : goal.loop-store-init
loop-store-init c = record { wider = wider_none _; both = λ s has. let h = has.1 in cc }

pub loop-store-preserved : goal.loop-store-preserved
loop-store-preserved c =
    let was = c.loop-store.invariant in
    let now = c.in_ok-want_store.ensures in
    record {
      wider = wider_more _ _ _ was.wider now.wider;
      both = each_next (λ (s : StoreAt). IsWanted c.want_store.new.wants c.args.pairing.object s.arg × IsWanted c.want_store.new.wants c.args.pairing.base s.base)
          c.args.stores.now c.loop-store.store-index _ (slice_get-get_or _ _ _ c.loop-store-test.true)
          (λ s has. let old = was.both s has in (wanted_more _ _ now.wider c.args.pairing.object s.arg old.0, wanted_more _ _ now.wider c.args.pairing.base s.base old.1)) now.both;
    }

pub returns-clause-both : goal.returns-clause-both
returns-clause-both c =
    let all = take_all c.loop-store.store-index c.args.stores.now (omega arith) in
    λ s has. c.loop-store.invariant.both s (subst (λ (xs : List StoreAt). Has xs s) (sym all) has)
