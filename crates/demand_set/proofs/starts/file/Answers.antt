use Rattle.std.proofs.Common.{◌≡◌, refl, sym}
use Rattle.link_sites.specs.contracts.site.SitePartialEq.TheImpl.{eq-value}
use Rattle.demand_set.proofs.Filed.{IsFiled-none, IsFiled-put}
use Rattle.demand_set.proofs.Numbers.{index-exact, index-none}
use Rattle.demand_set.proofs.SameSite.{same_site, self_site}
use Rattle.demand_set.proofs.starts.file.Goals as goal

pub returns-in_default-get_index_of : goal.returns-in_default-get_index_of
returns-in_default-get_index_of c = IsFiled-none _ _ _ _ (λ s has is.
    let one : s ≡ c.in-Some.site = cc (c.in-Some.ensures) in
    index-none (eq-value).it same_site self_site _ _ c.in_default-get_index_of.ensures.found (rw one at has))

pub returns : goal.returns
returns c =
    let here = (index-exact (eq-value).it same_site self_site _ _ _ c.requires.apart c.in-Some-get_index_of.ensures.index c.in-Some-get_index_of.ensures.found c.in-Some-get_index_of.at).0 refl in
    IsFiled-put _ _ _ _ _ _ c.index_mut.result.now _ c.requires.many c.requires.apart here (sym c.in-Some.ensures) c.index_mut.ensures.value c.in_ok-push.ensures.items
