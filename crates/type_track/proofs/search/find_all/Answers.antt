use Rattle.std.proofs.Common.{◌≡◌, [], List, length, take, ap, sym, subst, ◌∙◌, arith}
use Rattle.std.specs.Global.{Vec}
use Rattle.std.specs.List.{flat_map}
use Rattle.std.proofs.lemmas.List.{take_all}
use Rattle.query_core.proofs.Refused.{if_ok}
use Rattle.track_verdicts.specs.declared.verdict.Finding.{Finding}
use Rattle.type_track.specs.Findings.{IsKeptBefore}
use Rattle.type_track.specs.Growing.{GrowsBy}
use Rattle.type_track.proofs.Findings.{site_has}
use Rattle.type_track.proofs.Posing.{found_each}
use Rattle.type_track.proofs.Searching.{IsFindingIn, sites_all, sites_joined}
use Rattle.type_track.proofs.search.find_all.Goals as goal

pub search_all-requires-clause-count : goal.search_all-requires-clause-count
search_all-requires-clause-count g c κs within = c.in_ok-lists.ensures.count_is ∙ ap length c.sites.ensures

pub returns : goal.returns
returns g c =
    let s = c.args.search.now in
    let lists = c.search_all.new.lists.items in
    let done = c.in_ok-search_all.ensures in
    if_ok c.joined.result _ _ c.joined.ensures (λ findings are q posed.
    let sites = s.given.demand.now.sites in
    let count = done.count ∙ c.in_ok-lists.ensures.count_is ∙ ap length c.sites.ensures in
    let items : Vec Finding → List Finding = λ list. list.items in
    let all = sites_joined s.given.linked.now s.protocol.now q sites posed.given.demand.sites.ordered lists count
    (found_each q s posed _ c.in_ok-lists.lists.items lists c.in_ok-lists.ensures done) (length lists) (omega arith) in
    let same : flat_map items (take (length lists) lists) ≡ findings.items =
    ap (flat_map items) (take_all (length lists) lists (omega arith) ∙ sym c.deref.ensures.value) ∙ sym are in
    sites_all s.given.linked.now s.protocol.now q sites findings.items (length lists) (omega (arith, count))
    (site_has s.given.linked.now s.protocol.now q s.given.demand.now posed.given.demand)
    (subst (λ (xs : List Finding). GrowsBy (IsKeptBefore s.given.linked.now) (IsFindingIn s.given.linked.now s.protocol.now q (take (length lists) sites)) [] xs) same all))
