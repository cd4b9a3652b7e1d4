use Rattle.demand_set.proofs.Standing.{node_site}
use Rattle.demand_set.proofs.starts.sites_of.Goals as goal

pub sort_sites-requires : goal.sort_sites-requires
sort_sites-requires c = record {
  sites = λ s has. let p = (c.in_ok-sites.ensures.found s).0 has in node_site _ c.tell_form.ensures p.0 s (c.requires.nodes p.0 p.1) p.2;
}

pub returns-clause-found : goal.returns-clause-found
returns-clause-found c = λ s. (
  λ has. (c.in_ok-sites.ensures.found s).0 ((c.in_ok-sort_sites.ensures.same s).0 has),
  λ has. (c.in_ok-sort_sites.ensures.same s).1 ((c.in_ok-sites.ensures.found s).1 has),
)
