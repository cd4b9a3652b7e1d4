use Rattle.std.proofs.Common.{rules}
use Rattle.std.proofs.lemmas.Option.{slice_get-get_or}
use Rattle.link_sites.specs.contracts.site.SitePartialEq.TheImpl.{eq-value}
use Rattle.demand_set.specs.Order.{site_cmp}
use Rattle.demand_set.proofs.Ordered.{precedes_sorted, site_total}
use Rattle.demand_set.proofs.Reordered.{Has-same, IsApart-from_pairs, differ-from_distinct, sorted_by}
use Rattle.demand_set.proofs.SameSite.{same_site, self_site}
use Rattle.demand_set.proofs.order.sort_sites.Goals as goal

pub returns-clause-same : goal.returns-clause-same
returns-clause-same c = Has-same (eq-value).it same_site self_site _ _ c.in_ok-sort_unstable_by.ensures.reordered.2

pub returns-clause-apart : goal.returns-clause-apart
returns-clause-apart c = IsApart-from_pairs _ (differ-from_distinct (eq-value).it same_site self_site _ c.in_ok-sort_unstable_by.ensures.unique)

pub returns-clause-ordered : goal.returns-clause-ordered
returns-clause-ordered c =
    let p = c.args.linked.now in
    let now = c.in_ok-sort_unstable_by.ensures in
    let differ = differ-from_distinct (eq-value).it same_site self_site _ now.unique in
    let same = Has-same (eq-value).it same_site self_site _ _ now.reordered.2 in
    let sorted = sorted_by _ (site_cmp p) (site_total p) now.sorted (λ a r f' called. search rules) in
    precedes_sorted p _ c.tell_form.ensures (λ i d h. c.requires.sites _ ((same _).0 (i, slice_get-get_or _ i d h))) differ sorted
