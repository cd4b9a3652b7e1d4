use Rattle.std.proofs.Common.{◌≡◌, List, Some, slice_get, subst, sym}
use Rattle.std.proofs.lemmas.Option.{get_or_from_slice_get}
use Rattle.link_sites.specs.declared.site.Site.{Site}
use Rattle.spds_rules.specs.declared.store.StoreAt.{StoreAt}
use Rattle.cert_trace.proofs.Wanted.{settled_at}
use Rattle.cert_trace.proofs.filing.file_next.Goals as goal

pub returns-clause-settled : goal.returns-clause-settled
returns-clause-settled c = λ o base s stands.
    let m = c.args.met.now in
    settled_at c.file_met.new.wants c.file_met.new.stores _ _ _ o base s c.in_ok-file_met.ensures.settled
    (get_or_from_slice_get c.sites.result.now m.object o _ (subst (λ (xs : List Site). slice_get xs m.object ≡ Some o) (sym c.sites.ensures) stands.object_is))
    (get_or_from_slice_get c.sites-2.result.now m.base base _ (subst (λ (xs : List Site). slice_get xs m.base ≡ Some base) (sym c.sites-2.ensures) stands.base_is))
    (get_or_from_slice_get c.stores.result.now m.store s _ (subst (λ (xs : List StoreAt). slice_get xs m.store ≡ Some s) (sym c.stores.ensures) stands.store_is))
