-- The ways over the stores of a field, and the sites to which they lead.
use Rattle.std.proofs.Common.{◌≡◌, ◌↔◌, ◌⊎◌, ℕ, ◌≤◌, List, [], ◌∷◌, ◌++◌, Some, length, slice_get, refl, sym, subst, inl, inr, arith}
use Rattle.lists.specs.Lists.{Has, IsApart, AreAll}
use Rattle.lists.proofs.Places.{slice_get-below}
use Rattle.link_rules.specs.Linked.{LinkedProgram}
use Rattle.link_sites.specs.declared.site.Site.{Site}
use Rattle.link_sites.specs.Sites.{HasField}
use Rattle.spds_rules.specs.declared.node.Node.{Node}
use Rattle.spds_rules.specs.declared.store.StoreAt.{StoreAt}
use Rattle.spds_rules.specs.Answers.{IsAnswered}
use Rattle.spds_rules.specs.Demand.{Asked}
use Rattle.spds_rules.specs.Systems.{Calls, Meets}
use Rattle.spds_laws.proofs.Within.{fields_within}
use Rattle.spds_nodes.specs.Stored.{IsStoreOf}
use Rattle.demand_set.specs.Demands.{DemandParts}
use Rattle.demand_set.proofs.Appended.{Has-one}
use Rattle.spds_solve.specs.Solved.{SolvedParts}
use Rattle.path_query.specs.declared.hops.Way.{Way}
use Rattle.path_query.specs.Numbers.{AreNumbersOf, IsAmong, IsLedTo, IsNamed, IsPosed, IsWay, IsWayIn}
use Rattle.path_query.specs.Paths.{IsBehind}
use Rattle.path_query.proofs.Collecting.{put_one}
use Rattle.path_query.proofs.Numbering.{numbers_as}

-- a way from one of the owners is one from all of them
pub way_of : (p : LinkedProgram) (q : Asked) (d : DemandParts) (owners : List ℕ) (s : StoreAt) (k : ℕ) (w : Way) → Has owners k → IsWay p q d (k ∷ []) s w → IsWay p q d owners s w
way_of p q d owners s k w has way = record {
  arg_is = way.arg_is;
  base_is = way.base_is;
  from = subst (Has owners) (sym (Has-one k w.owner way.from)) has;
  site = way.site;
  site_is = way.site_is;
  there = way.there;
  has = way.has;
}

-- and the other way round
pub way_from : (p : LinkedProgram) (q : Asked) (d : DemandParts) (owners : List ℕ) (s : StoreAt) (w : Way) → IsWay p q d owners s w → IsWay p q d (w.owner ∷ []) s w
way_from p q d owners s w way = record {
  arg_is = way.arg_is;
  base_is = way.base_is;
  from = (0, refl);
  site = way.site;
  site_is = way.site_is;
  there = way.there;
  has = way.has;
}

module _ (p : LinkedProgram) (q : Asked) (d : DemandParts) (solved : SolvedParts) (posed : IsPosed p q d solved) (owners : List ℕ) (field : ℕ) (stores : List StoreAt)
    (all : AreAll (IsStoreOf p field) stores) (ways : List Way) (are : (w : Way) → Has ways w ↔ IsWayIn p q d owners stores w) where
  -- their numbers name nodes and a site
  pub ways_named : (w : Way) → Has ways w → IsNamed d w
  ways_named w has =
      let way = ((are w).0 has).2 in
      record { arg = _; arg_is = way.arg_is; base = _; base_is = way.base_is; owner = way.site; owner_is = way.site_is }

  -- a site to which a way leads is behind one of the owners
  led_behind : (o : Site) → IsLedTo p q d ways o → IsBehind p q (IsAmong d.sites owners) field o
  led_behind o led =
      let w = led.0 in
      let leads = led.2 in
      let named = leads.named in
      let over = (are w).0 led.1 in
      let s = over.0 in
      let way = over.2 in
      let store = all.each s over.1 in
      let arg : named.arg ≡ s.arg = cc (named.arg_is, way.arg_is) in
      let base : named.base ≡ s.base = cc (named.base_is, way.base_is) in
      let owner : named.owner ≡ way.site = cc (named.owner_is, way.site_is) in
      let at_owner = subst (λ (x : Site). Calls p q x named.base leads.string) owner leads.at_base in
      record {
        base = way.site;
        from = (w.owner, way.from, way.site_is);
        store = s;
        of_field = store.1;
        hops = record {
          store = store.0;
          arg = subst (λ (n : Node). IsAnswered p q n o) arg leads.there;
          owner = way.there;
          string = leads.string;
          at_arg = subst (λ (n : Node). Calls p q o n leads.string) arg leads.at_arg;
          at_base = subst (λ (n : Node). Calls p q way.site n leads.string) base at_owner;
          has = way.has;
        };
      }

  -- what is answered at a node has its number
  node_there : (n : Node) (o : Site) → IsAnswered p q n o → Has d.nodes n
  node_there n o answered = posed.demand.nodes.all n ((fields_within p q (Meets p q) o answered.0).1)

  -- and a way leads to each site behind one of the owners
  behind_led : (o : Site) → IsBehind p q (IsAmong d.sites owners) field o → IsLedTo p q d ways o
  behind_led o h =
      let s = h.store in
      let arg = node_there s.arg o h.hops.arg in
      let base = node_there s.base h.base h.hops.owner in
      let k = h.from in
      let w : Way = record { arg = arg.0; base = base.0; owner = k.0 } in
      let way : IsWay p q d owners s w = record {
        arg_is = arg.1;
        base_is = base.1;
        from = k.1;
        site = h.base;
        site_is = k.2;
        there = h.hops.owner;
        has = h.hops.has;
      } in (
        w,
        (are w).1 (s, all.all s (h.hops.store, h.of_field), way),
        record {
          named = record { arg = s.arg; arg_is = arg.1; base = s.base; base_is = base.1; owner = h.base; owner_is = k.2 };
          there = h.hops.arg;
          string = h.hops.string;
          at_arg = h.hops.at_arg;
          at_base = h.hops.at_base;
        },
      )

  -- so the numbers of those to which ways lead are of those behind
  pub numbers_behind : (numbers : List ℕ) → AreNumbersOf d.sites (IsLedTo p q d ways) numbers → AreNumbersOf d.sites (IsBehind p q (IsAmong d.sites owners) field) numbers
  numbers_behind numbers of_led = numbers_as d.sites (IsLedTo p q d ways) (IsBehind p q (IsAmong d.sites owners) field) numbers led_behind behind_led of_led

-- the ways from one owner after the other are those from all of them
pub ways_from_owners : (p : LinkedProgram) (q : Asked) (d : DemandParts) (owners : List ℕ) (s : StoreAt) (Old New : Way → Type 0)
    → ((w : Way) → New w ↔ (Old w ⊎ ((k : ℕ) × Has owners k × IsWay p q d (k ∷ []) s w))) → (w : Way) → New w ↔ (Old w ⊎ IsWay p q d owners s w)
ways_from_owners p q d owners s Old New are w = (
  λ h. elim ((are w).0 h) [ inl old ↦ inl old | inr from ↦ inr (way_of p q d owners s from.0 w from.1 from.2) ],
  λ h. (are w).1 (elim h [ inl old ↦ inl old | inr way ↦ inr (w.owner, way.from, way_from p q d owners s w way) ]),
)

-- a way is its numbers
same_way : (w : Way) (arg base owner : ℕ) → w.arg ≡ arg → w.base ≡ base → w.owner ≡ owner → w ≡ (record { arg = arg; base = base; owner = owner })
same_way w arg base owner a b o = rw (← a, ← b, ← o) refl

module _ (p : LinkedProgram) (q : Asked) (d : DemandParts) (s : StoreAt) (k : ℕ) where
  -- where its ends have these numbers, and the owner may be at the base and has the field, there is one way from the owner
  pub put_way : (arg base : ℕ) (site : Site) → IsApart d.nodes → slice_get d.nodes arg ≡ Some s.arg → slice_get d.nodes base ≡ Some s.base
      → slice_get d.sites k ≡ Some site → IsAnswered p q s.base site → HasField p site s.field → (old new : List Way)
      → new ≡ old ++ (record { arg = arg; base = base; owner = k }) ∷ [] → (w : Way) → Has new w ↔ (Has old w ⊎ IsWay p q d (k ∷ []) s w)
  put_way arg base site apart arg_is base_is site_is there has old new is w = (
    λ h. elim ((put w).0 h) [ inl a ↦ inl a | inr e ↦ inr (subst (λ (x : Way). IsWay p q d (k ∷ []) s x) (sym e) itself) ],
    λ h. (put w).1 (elim h [ inl a ↦ inl a | inr way ↦ inr (only way) ]),
  )
    where
      one : Way
      one = record { arg = arg; base = base; owner = k }

      put : (x : Way) → Has new x ↔ (Has old x ⊎ (x ≡ one))
      put x = put_one old new one is x

      itself : IsWay p q d (k ∷ []) s one
      itself = record { arg_is = arg_is; base_is = base_is; from = (0, refl); site = site; site_is = site_is; there = there; has = has }

      only : IsWay p q d (k ∷ []) s w → w ≡ one
      only way = same_way w arg base k (apart w.arg arg s.arg way.arg_is arg_is) (apart w.base base s.base way.base_is base_is) (Has-one k w.owner way.from)

  -- there is none from an owner that can't be at the base, or hasn't the field
  pub no_way : (site : Site) → slice_get d.sites k ≡ Some site → (IsAnswered p q s.base site → HasField p site s.field → ⊥) → (w : Way) → IsWay p q d (k ∷ []) s w → ⊥
  no_way site site_is not w way =
      let owner = Has-one k w.owner way.from in
      let here = subst (λ (i : ℕ). slice_get d.sites i ≡ Some way.site) owner way.site_is in
      let same : way.site ≡ site = cc (here, site_is) in
      not (subst (λ (x : Site). IsAnswered p q s.base x) same way.there) (subst (λ (x : Site). HasField p x s.field) same way.has)

  -- and none from a number that no site has
  pub no_way_past : length d.sites ≤ k → (w : Way) → IsWay p q d (k ∷ []) s w → ⊥
  no_way_past past w way =
      let owner = Has-one k w.owner way.from in
      let below = slice_get-below d.sites w.owner way.site way.site_is in
      omega (arith, owner, below, past)
