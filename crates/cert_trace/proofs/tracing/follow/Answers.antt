use Rattle.std.proofs.Common.{◌≡◌, List, Some, slice_get, subst, sym}
use Rattle.std.proofs.lemmas.Option.{get_or_from_slice_get}
use Rattle.link_sites.specs.declared.site.Site.{Site}
use Rattle.spds_rules.specs.declared.store.StoreAt.{StoreAt}
use Rattle.cert_work.specs.Added.{AreAdded}
use Rattle.cert_work.specs.Roads.{StartOf}
use Rattle.cert_work.specs.Wants.{IsWanted}
use Rattle.cert_trace.proofs.Traced.{met_there, rests_justified}
use Rattle.cert_trace.proofs.tracing.follow.Goals as goal

pub follow_wanted-requires-clause-justified : goal.follow_wanted-requires-clause-justified
follow_wanted-requires-clause-justified c =
    let next = c.requires.next in
    let rests = next.rests in
    let stands = rests.stands in
    let m = c.args.met.now in
    let wants = c.args.view.now.wants.now in
    let o = get_or_from_slice_get c.sites.result.now m.object rests.object _ (subst (λ (xs : List Site). slice_get xs m.object ≡ Some rests.object) (sym c.sites.ensures) stands.object_is) in
    let b = get_or_from_slice_get c.sites-2.result.now m.base rests.base _ (subst (λ (xs : List Site). slice_get xs m.base ≡ Some rests.base) (sym c.sites-2.ensures) stands.base_is) in
    let s = get_or_from_slice_get c.stores.result.now m.store rests.store _ (subst (λ (xs : List StoreAt). slice_get xs m.store ≡ Some rests.store) (sym c.stores.ensures) stands.store_is) in
    let yes = c.is_wanted_in.ensures.yes c.if-is_wanted_in.true in
    let start : StartOf c.args.view.now rests.base yes.0 = subst (λ (x : Site). StartOf c.args.view.now x yes.0) b yes.1 in
    let wanted : IsWanted wants rests.object yes.0 = subst (λ (x : Site). IsWanted wants x yes.0) o yes.2 in
    let meets = c.requires.meets rests.object rests.base rests.store stands in
    rests_justified c.args.view.now c.args.demand.now next.before c.args.work.now.written next.traced.closed m rests
    (c.requires.wanted.stored rests.object rests.base rests.store yes.0 meets start wanted)
    (c.requires.wanted.into rests.object rests.base rests.store yes.0 meets start wanted) _ o b s c.as_slice.ensures

pub returns-then-is_wanted_in-clause-there : goal.returns-then-is_wanted_in-clause-there
returns-then-is_wanted_in-clause-there c = λ o base st n stands start wanted.
    let m = c.args.met.now in
    met_there c.follow_wanted.new.work.written _ _ _ o base st c.in_ok-follow_wanted.ensures.there
    (get_or_from_slice_get c.sites.result.now m.object o _ (subst (λ (xs : List Site). slice_get xs m.object ≡ Some o) (sym c.sites.ensures) stands.object_is))
    (get_or_from_slice_get c.sites-2.result.now m.base base _ (subst (λ (xs : List Site). slice_get xs m.base ≡ Some base) (sym c.sites-2.ensures) stands.base_is))
    (get_or_from_slice_get c.stores.result.now m.store st _ (subst (λ (xs : List StoreAt). slice_get xs m.store ≡ Some st) (sym c.stores.ensures) stands.store_is))

pub returns-clause-added : goal.returns-clause-added
returns-clause-added c = AreAdded.none

pub returns-clause-there : goal.returns-clause-there
returns-clause-there c = λ o base st n stands start wanted.
    let m = c.args.met.now in
    let same = get_or_from_slice_get c.sites.result.now m.object o _ (subst (λ (xs : List Site). slice_get xs m.object ≡ Some o) (sym c.sites.ensures) stands.object_is) in
    let into = get_or_from_slice_get c.sites-2.result.now m.base base _ (subst (λ (xs : List Site). slice_get xs m.base ≡ Some base) (sym c.sites-2.ensures) stands.base_is) in
    let yes = c.is_wanted_in.ensures.no n (subst (λ (x : Site). StartOf c.args.view.now x n) (sym into) start)
    (subst (λ (x : Site). IsWanted c.args.view.now.wants.now x n) (sym same) wanted) in
    let no = c.if-is_wanted_in.false in
    cc (yes, no)
