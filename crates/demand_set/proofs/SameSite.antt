-- The derived test on sites is equality.
use Rattle.std.proofs.Common.{◌≡◌, true, rules}
use Rattle.link_sites.specs.declared.place.Place.{Place}
use Rattle.link_sites.specs.declared.site.Site.{Site}
use Rattle.link_sites.specs.contracts.place.PlacePartialEq.TheImpl as place
use Rattle.link_sites.specs.contracts.site.SitePartialEq.TheImpl as site

same_place : (x y : Place) → place.eq-value.it x y ≡ true → x ≡ y
same_place x y h = search rules

self_place : (x : Place) → place.eq-value.it x x ≡ true
self_place x = search rules

pub same_site : (x y : Site) → site.eq-value.it x y ≡ true → x ≡ y
same_site x y h = search (rules, same_place)

pub self_site : (x : Site) → site.eq-value.it x x ≡ true
self_site x = search (rules, self_place)
