-- What is held at a place of a list.
use Rattle.std.proofs.Common.{◌≡◌, ◌↔◌, ℕ, List, Some, slice_get, subst}
use Rattle.demand_set.specs.Demands.{DemandParts}
use Rattle.lists.specs.Lists.{Has}
use Rattle.link_rules.specs.Linked.{LinkedProgram}
use Rattle.link_sites.specs.declared.site.Site.{Site}
use Rattle.spds_rules.specs.declared.node.Node.{Node}
use Rattle.spds_rules.specs.Answers.{IsAnswered}
use Rattle.spds_rules.specs.Demand.{Asked}
use Rattle.track_tables.specs.Held.{IsHeldAt}

-- a site is held at a place exactly where its node may hold objects of it
pub held_there : (p : LinkedProgram) (q : Asked) (d : DemandParts) (a : Site) (nodes : List ℕ) (place number : ℕ) (n : Node) (sites : List ℕ) (site : ℕ)
    → slice_get nodes place ≡ Some number → slice_get d.nodes number ≡ Some n → Has sites site ↔ IsAnswered p q n a → Has sites site ↔ IsHeldAt p q d a nodes place
held_there p q d a nodes place number n sites site here there held = (
  (λ has. record { number = number; here = here; node = n; there = there; answered = held.0 has }),
  (λ is.
      let first = is.here in
      let same : is.number ≡ number = cc in
      let read = subst (λ (i : ℕ). slice_get d.nodes i ≡ Some is.node) same is.there in
      let one : is.node ≡ n = cc in
      held.1 (subst (λ (m : Node). IsAnswered p q m a) one is.answered)),
)
