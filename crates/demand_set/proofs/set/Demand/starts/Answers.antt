use Rattle.std.proofs.Common.{◌≡◌, ◌∙◌, ℕ, List, ◌<◌, length, map, slice_get, get_or, Some, sym, ap, arith}
use Rattle.std.specs.Global.{Vec}
use Rattle.std.specs.Option.{option_map}
use Rattle.std.proofs.lemmas.List.{length-map}
use Rattle.std.proofs.lemmas.Option.{slice_get-get_or, slice_get-map}
use Rattle.lists.proofs.Places.{slice_get-below}
use Rattle.link_sites.specs.declared.site.Site.{Site}
use Rattle.spds_rules.specs.declared.node.Node.{Node}
use Rattle.lists.specs.Lists.{AreAll}
use Rattle.demand_set.specs.Demands.{StartsAt}
use Rattle.demand_set.specs.Starts.{AreStarts}
use Rattle.demand_set.proofs.set.Demand.starts.Goals as goal

-- the numbers that are kept for a site
starts_at : (nodes : List Node) (sites : List Site) (starts : List (Vec ℕ)) (i : ℕ) (site : Site) (v : Vec ℕ) → AreStarts nodes sites (map (λ (x : Vec ℕ). x.items) starts)
    → slice_get sites i ≡ Some site → v ≡ get_or starts i v → AreAll (StartsAt nodes site) v.items
starts_at nodes sites starts i site v are at is =
    let within : i < length starts = omega (arith, slice_get-below sites i site at, are.as_many, length-map starts (λ (x : Vec ℕ). x.items)) in
    let there : slice_get starts i ≡ Some v = slice_get-get_or starts i v within ∙ ap Some (sym is) in
    are.each i site v.items at (slice_get-map (λ (x : Vec ℕ). x.items) starts i ∙ ap (option_map (λ (x : Vec ℕ). x.items)) there)

pub returns : goal.returns
returns c = rw (← c.self.view_is, c.as_slice.ensures.value) (λ s at. starts_at _ _ _ _ s _ c.self.invariant.0.are_starts at c.index.ensures)
