-- What a query asks for is in its demand, and its sites are among those of the demand.
use Rattle.std.proofs.Common.{◌≡◌, ◌↔◌, ℕ, zero, suc, ◌≤◌, List, Option, Some, None, Bool, IsTrue, length, map, slice_get, refl, sym, ap, ◌∙◌, subst, arith}
use Rattle.std.proofs.lemmas.List.{length-map}
use Rattle.lists.specs.Lists.{Has, IsApart}
use Rattle.lists.proofs.Places.{slice_get-below, slice_get-there}
use Rattle.lists.proofs.Joined.{slice_get-mapped}
use Rattle.link_rules.specs.Linked.{LinkedProgram}
use Rattle.link_program.proofs.Found.{at_map}
use Rattle.link_sites.specs.declared.place.Place.{Place}
use Rattle.link_sites.specs.declared.site.Site.{Site}
use Rattle.link_sites.specs.Places.{before}
use Rattle.link_sites.specs.Sites.{Precedes}
use Rattle.spds_rules.specs.declared.node.Node.{Node}
use Rattle.spds_rules.specs.Answers.{IsAnswered}
use Rattle.spds_rules.specs.Demand.{Asked, Demanded, SiteIn}
use Rattle.spds_rules.specs.declared.node.Var.TheVariants.{Local}
use Rattle.spds_rules.specs.Nodes.{IsNode, at, site_of}
use Rattle.spds_rules.specs.Systems.{Calls, Meets}
use Rattle.spds_laws.proofs.Within.{fields_site}
use Rattle.demand_set.proofs.Appended.{Has-one}
use Rattle.demand_set.proofs.Counts.{length-IsApart}
use Rattle.demand_set.specs.Demands.{DemandParts, IsDemandOf}
use Rattle.query_core.specs.Places.{IsPlaceOf}
use Rattle.query_core.specs.Sought.{IsNumbered, IsSought, asked_of, nodes_of}
use Rattle.query_core.proofs.OneWay.{sites_one_way}
use Rattle.query_core.proofs.Ordered.{AllPairs-apart}

-- a place is a node of the program
pub place_node : (p : LinkedProgram) (text : List ℕ) (index : ℕ) (name : List ℕ) (n : Node) → IsPlaceOf p text index name n → IsNode p n
place_node p text index name n here =
    let code = slice_get-there here.method.code index here.within in
    let there : IsNode p (at (before here.number index) (Local here.local)) = record {
      method = here.method;
      there = here.is_method.there;
      code = code.0;
      here = code.1;
      stands = tt;
      has = slice_get-below here.method.locals here.local name here.is_local.holds;
    } in
    subst (IsNode p) (sym here.is) there

-- the nodes that are asked for are those of the query
pub asked_nodes : (P : Node → Type 0) (a : Node) (b : Option Node) → P a → ((m : Node) → b ≡ Some m → P m) → (n : Node) → Has (nodes_of a b) n → P n
asked_nodes P a None first second n has = subst P (sym (Has-one a n has)) first
asked_nodes P a (Some m) first second n (zero, e) = let same : a ≡ n = cc in subst P same first
asked_nodes P a (Some m) first second n (suc i, e) = subst P (sym (Has-one m n (i, e))) (second m refl)

module _ (p : LinkedProgram) (a : Node) (b : Option Node) where
  -- the first is one
  pub first_asked : Has (nodes_of a b) a
  first_asked = first_of_them b
    where
      first_of_them : (b : Option Node) → Has (nodes_of a b) a
      first_of_them None = (0, refl)
      first_of_them (Some m) = (0, refl)

  -- and the second, where there is one
  pub second_asked : (m : Node) → b ≡ Some m → Has (nodes_of a b) m
  second_asked m e = subst (λ (o : Option Node). Has (nodes_of a o) m) (sym e) (1, refl)

  -- they are among the nodes of the demand
  pub asked_has : (d : DemandParts) → IsDemandOf p (asked_of a b) d → (n : Node) → Has (nodes_of a b) n → Has d.nodes n
  asked_has d demand n has = demand.nodes.all n (Demanded.target has)

-- what is sought is a site of the demand
pub sought_site : (p : LinkedProgram) (q : Asked) (a : Node) (b : Option Node) (o : Site) → IsSought p q a b o → SiteIn p q o
sought_site p q a None o answered = fields_site p q (Meets p q) o answered.0
sought_site p q a (Some m) o shared = fields_site p q (Meets p q) o shared.0.0

-- a site as what is found
abbrev found : Site → Option Site
found o = Some o

-- a demand has no more sites than nodes
pub few_sites : (p : LinkedProgram) (q : Asked) (d : DemandParts) → IsDemandOf p q d → length d.sites ≤ length d.nodes
few_sites p q d demand =
    let le = length-IsApart (map found d.sites) (map site_of d.nodes) apart among in
    omega (arith, le, length-map d.sites found, length-map d.nodes site_of)
  where
    apart : IsApart (map found d.sites)
    apart i j y one two =
        let first = slice_get-mapped found d.sites i y one in
        let second = slice_get-mapped found d.sites j y two in
        let same : first.0 ≡ second.0 = cc (first.2, second.2) in
        AllPairs-apart (Precedes p) (sites_one_way p) d.sites demand.sites.ordered i j second.0
        (subst (λ (o : Site). slice_get d.sites i ≡ Some o) same first.1) second.1

    among : (y : Option Site) → Has (map found d.sites) y → Has (map site_of d.nodes) y
    among y has =
        let site = slice_get-mapped found d.sites has.0 y has.1 in
        let start = (demand.sites.each site.0).0 (has.0, site.1) in
        let node = demand.nodes.all start.0 start.1.1 in
        (node.0, at_map site_of d.nodes node.0 start.0 node.1 ∙ ap Some (start.1.0.1 ∙ site.2))

-- both nodes may hold an object of the site, and the test of one call string tells the rest
pub sought_of_two : (p : LinkedProgram) (q : Asked) (a : Node) (b : Option Node) (o : Site) (nodes : List Node) (number : ℕ) (together : Bool)
    → IsNumbered nodes b (Some number) → IsAnswered p q a o → ((m : Node) → slice_get nodes number ≡ Some m → IsAnswered p q m o)
    → ((m : Node) → slice_get nodes number ≡ Some m → IsTrue together ↔ ((string : List Place) × Calls p q o a string × Calls p q o m string))
    → IsTrue together ↔ IsSought p q a b o
sought_of_two p q a None o nodes number together is first second tells = absurd is
sought_of_two p q a (Some m) o nodes number together is first second tells =
    (λ yes. (first, second m is, (tells m is).0 yes), λ shared. (tells m is).1 shared.2)
