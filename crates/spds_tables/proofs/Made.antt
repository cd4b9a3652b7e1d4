-- The parts of a demand, as they are made.
use Rattle.std.proofs.Common.{◌≡◌, ℕ, ◌<◌, ◌↔◌, List, [], ◌∷◌, ◌++◌, length, map, get_or, zero, suc, Some, slice_get, Vec, Global, refl, sym, ap, ◌∙◌, subst, inl, inr, arith}
use Rattle.std.specs.List.{flat_map}
use Rattle.std.proofs.lemmas.Option.{get_or_from_slice_get}
use Rattle.auto_table.specs.declared.rule.Rule.{Rule}
use Rattle.auto_table.specs.declared.rule.Rule.TheVariants as rule
use Rattle.call_side.specs.Bases.{AreLed, AreStrings, IsLast}
use Rattle.call_side.specs.Calls.{AreTheCalls}
use Rattle.call_side.proofs.CallStrings.{IsLed-by}
use Rattle.demand_set.specs.Demands.{DemandParts, IsDemandOf, StartsAt}
use Rattle.lists.specs.Lists.{Has, Each, AreAll}
use Rattle.lists.proofs.Places.{slice_get-below, slice_get-there}
use Rattle.lists.specs.Filings.{row}
use Rattle.link_laws.proofs.Lists.{at_map, each_left, each_right, in_flat_map, map_at}
use Rattle.link_rules.specs.Linked.{LinkedProgram}
use Rattle.link_sites.specs.declared.place.Place.{Place}
use Rattle.link_sites.specs.declared.site.Site.{Site}
use Rattle.post_star.specs.Derivations.{Leads}
use Rattle.post_star.specs.Works.{weight_of}
use Rattle.rule_cells.specs.CellRules.{HaveCells}
use Rattle.spds_rules.specs.declared.edge.Edge.{Edge}
use Rattle.spds_rules.specs.declared.edge.EdgeKind.{EdgeKind}
use Rattle.spds_rules.specs.declared.edge.EdgeKind.TheVariants as edge
use Rattle.spds_rules.specs.declared.node.Node.{Node}
use Rattle.spds_rules.specs.declared.store.StoreAt.{StoreAt}
use Rattle.demand_set.specs.declared.numbered.EdgeAt.{EdgeAt}
use Rattle.demand_set.specs.Numbers.{AreEdgesAt, IsEdgeAt}
use Rattle.call_side.specs.Gathered.{AreGathered}
use Rattle.spds_rules.specs.Demand.{Asked, Demanded, EdgeIn}
use Rattle.spds_rules.specs.Nodes.{IsNode, site_of}
use Rattle.spds_rules.specs.Systems.{KeepsCalls, KeepsFields}
use Rattle.spds_tables.specs.declared.numbered.Jump.{Jump}
use Rattle.spds_tables.specs.declared.numbered.StartAt.{StartAt}
use Rattle.spds_tables.specs.declared.numbered.StoreNodes.{StoreNodes}
use Rattle.spds_tables.specs.declared.parts.Parts.{Parts}
use Rattle.spds_tables.specs.Making.{IsCallRuleBy, IsCallRuleOf, IsJumpAt, IsStartAt, IsStartHere, field_rule_by, field_rule_of}
use Rattle.spds_tables.specs.Names.{AreNames, Names}
use Rattle.spds_tables.specs.Parts.{AreLedIn, no_store, open_nodes, start_nodes, start_rows, starts_at}
use Rattle.spds_tables.specs.PartsOf.{AreParts, IsEdgeRule, IsJumpOf, IsStartOf, IsStoreOf, StandsFor, names_of}
use Rattle.spds_tables.specs.Systems.{IsCallRule}
use Rattle.spds_tables.proofs.Ascending.{ascending_apart}
use Rattle.weight_laws.specs.declared.reach.Reach.{Reach}
use Rattle.weight_laws.specs.Reach.{reach_domain}
use Rattle.lists.proofs.Joined.{Has-either}

-- rows of which one more is made
pub row_more : (xs : List (Vec StartAt Global)) (x : Vec StartAt Global) (i : ℕ) → i < length xs
    → row (map (λ v. v.items) (xs ++ x ∷ [])) i ≡ row (map (λ v. v.items) xs) i
row_more [] x i below = absurd (omega arith)
row_more (y ∷ xs) x zero below = refl
row_more (y ∷ xs) x (suc i) below = row_more xs x i (omega arith)

pub row_last : (xs : List (Vec StartAt Global)) (x : Vec StartAt Global) → row (map (λ v. v.items) (xs ++ x ∷ [])) (length xs) ≡ x.items
row_last [] x = refl
row_last (y ∷ xs) x = row_last xs x

-- what is gathered from the numbers of the start nodes of a site
pub gathered_here : (p : LinkedProgram) (nodes : List Node) (o : Site) (numbers : List ℕ) (starts : List StartAt) → AreAll (StartsAt nodes o) numbers
    → AreGathered (IsStartAt p nodes) numbers starts → (s : StartAt) → Has starts s ↔ IsStartHere p nodes o s
gathered_here p nodes o numbers starts all gathered s = (
  (λ has.
      let g = (gathered s).0 has in
      let at = all.each g.0 g.1 in
      let number = g.2.number_is in
      let there = g.2.stands.node_is in
      let here : slice_get nodes g.0 ≡ Some g.2.node = rw (← number) there in
      let same : at.0 ≡ g.2.node = cc (at.1, here) in
      record { node = g.2.node; stands = g.2.stands; is_node = g.2.is_node; site_is = ap site_of (sym same) ∙ at.2 }),
  (λ h.
      let has = all.all s.node (h.node, h.stands.node_is, h.site_is) in
      (gathered s).1 (s.node, has, record { node = h.node; stands = h.stands; number_is = refl; is_node = h.is_node })),
)

-- the rules of edges weigh one
pub field_ones : (edges : List EdgeAt) (r : Rule Reach) → Has (map field_rule_of edges) r → weight_of r ≡ reach_domain.one
field_ones edges r has = let at = at_map field_rule_of edges has.0 r has.1 in ap weight_of at.2 ∙ by at.0.kind at.0.from at.0.to
  where
    by : (kind : EdgeKind) (from to : ℕ) → weight_of (field_rule_by kind from to) ≡ reach_domain.one
    by edge.Flow from to = refl
    by (edge.Load field) from to = refl
    by (edge.Call call) from to = refl
    by (edge.Return call) from to = refl
    by edge.Jump from to = refl

pub call_ones : (calls : List Place) (edges : List EdgeAt) (rules : List (Rule Reach)) → AreGathered (IsCallRuleOf calls) edges rules → (r : Rule Reach) → Has rules r
    → weight_of r ≡ reach_domain.one
call_ones calls edges rules gathered r has = let g = (gathered r).0 has in by g.0.kind g.0.from g.0.to g.2
  where
    by : (kind : EdgeKind) (from to : ℕ) → IsCallRuleBy calls kind from to r → weight_of r ≡ reach_domain.one
    by edge.Flow from to h = ap weight_of h
    by (edge.Load field) from to h = ap weight_of h
    by (edge.Call call) from to h = ap weight_of h.2
    by (edge.Return call) from to h = ap weight_of h.2
    by edge.Jump from to h = absurd h

-- an edge by its numbers
pub is_edge : (e : EdgeAt) (from to : ℕ) (kind : EdgeKind) → e.from ≡ from → e.to ≡ to → e.kind ≡ kind → e ≡ record { from = from; to = to; kind = kind }
is_edge e from to kind a b c =
    ap (λ (n : ℕ). record { from = n; to = e.to; kind = e.kind }) a ∙ ap (λ (n : ℕ). record { from = from; to = n; kind = e.kind }) b
    ∙ ap (λ (k : EdgeKind). record { from = from; to = to; kind = k }) c

module _ (p : LinkedProgram) (q : Asked) (d : DemandParts) (is : IsDemandOf p q d) where
  -- the two nodes of stores are among the nodes
  pub store_bases : (s : StoreAt) → Has d.stores s → Has d.nodes s.base
  store_bases s has = let e = is.stores.each s has in is.nodes.all s.base (Demanded.base e.1.edge e.1.demanded e.0 refl)

  pub store_args : (s : StoreAt) → Has d.stores s → Has d.nodes s.arg
  store_args s has = let e = is.stores.each s has in is.nodes.all s.arg (Demanded.arg e.1.edge e.1.demanded e.0 refl)

  module _ (calls : List Place) (are_calls : AreTheCalls p calls) where
    abbrev names : Names
    names = names_of d calls

    pub demand_names : AreNames p q names
    demand_names = record {
      nodes = is.nodes;
      sites = record { each = λ o has. (is.sites.each o).0 has; all = λ o h. (is.sites.each o).1 h; apart = ascending_apart p d.sites is.sites.ordered };
      stores = is.stores;
      calls = are_calls;
    }

    -- an edge between two nodes
    record IsAt (a : Node) (kind : EdgeKind) (b : Node) (from to : ℕ) : Type 0 where
      pub edge : EdgeIn p q a kind b
      pub from_is : slice_get d.nodes from ≡ Some a
      pub to_is : slice_get d.nodes to ≡ Some b

    module _ (edges : List EdgeAt) (numbered : AreEdgesAt d.nodes d.edges edges) where
      -- each numbered edge is one of the demand
      edge_of : (e : EdgeAt) → Has edges e → (a : Node) × (b : Node) × IsAt a e.kind b e.from e.to
      edge_of e has =
          let x = each_right (IsEdgeAt d.nodes) d.edges edges has.0 e numbered has.1 in
          let edge = is.edges.each x.0 (has.0, x.1) in (
            x.0.from,
            x.0.to,
            record {
              edge = subst (λ (k : EdgeKind). EdgeIn p q x.0.from k x.0.to) (sym x.2.kind_is) edge;
              from_is = x.2.from_is;
              to_is = x.2.to_is;
            },
          )

      -- and each edge of the demand is numbered
      of_edge : (a : Node) (kind : EdgeKind) (b : Node) (from to : ℕ) → IsAt a kind b from to → Has edges (record { from = from; to = to; kind = kind })
      of_edge a kind b from to at =
          let x : Edge = record { from = a; to = b; kind = kind } in
          let has = is.edges.all x at.edge in
          let e = each_left (IsEdgeAt d.nodes) d.edges edges has.0 x numbered has.1 in
          let same = is_edge e.0 from to kind (is.nodes.apart e.0.from from a e.2.from_is at.from_is) (is.nodes.apart e.0.to to b e.2.to_is at.to_is) e.2.kind_is in
          subst (Has edges) same (has.0, e.1)

      -- field rules
      field_is : (a b : Node) (kind : EdgeKind) (from to : ℕ) → IsAt a kind b from to → IsEdgeRule p q names (field_rule_by kind from to)
      field_is a b edge.Flow from to at = (refl, record { source = a; target = b; kind = edge.Flow; edge = at.edge; keeps = tt; from_is = at.from_is; to_is = at.to_is })
      field_is a b (edge.Load field) from to at = (refl, record { source = a; target = b; edge = at.edge; from_is = at.from_is; to_is = at.to_is })
      field_is a b (edge.Call call) from to at =
          (refl, record { source = a; target = b; kind = edge.Call call; edge = at.edge; keeps = tt; from_is = at.from_is; to_is = at.to_is })
      field_is a b (edge.Return call) from to at =
          (refl, record { source = a; target = b; kind = edge.Return call; edge = at.edge; keeps = tt; from_is = at.from_is; to_is = at.to_is })
      field_is a b edge.Jump from to at = (refl, record { source = a; target = b; kind = edge.Jump; edge = at.edge; keeps = tt; from_is = at.from_is; to_is = at.to_is })

      keeps_flow : (kind : EdgeKind) (from to : ℕ) → KeepsFields kind → field_rule_by kind from to ≡ rule.Flow from to reach_domain.one
      keeps_flow edge.Flow from to k = refl
      keeps_flow (edge.Load field) from to k = absurd k
      keeps_flow (edge.Call call) from to k = refl
      keeps_flow (edge.Return call) from to k = refl
      keeps_flow edge.Jump from to k = refl

      field_there : (a b : Node) (kind : EdgeKind) (from to : ℕ) → IsAt a kind b from to → Has (map field_rule_of edges) (field_rule_by kind from to)
      field_there a b kind from to at =
          let n = of_edge a kind b from to at in
          (n.0, map_at field_rule_of edges n.0 (record { from = from; to = to; kind = kind }) n.1)

      field_from : (r : Rule Reach) → IsEdgeRule p q names r → Has (map field_rule_of edges) r
      field_from (rule.Flow from to weight) h =
          let k = h.1 in
          let same : field_rule_by k.kind from to ≡ rule.Flow from to weight =
          keeps_flow k.kind from to k.keeps ∙ ap (λ (w : Reach). rule.Flow from to w) (sym h.0) in
          subst (Has (map field_rule_of edges)) same
          (field_there k.source k.target k.kind from to (record { edge = k.edge; from_is = k.from_is; to_is = k.to_is }))
      field_from (rule.Push from to mark weight) h = absurd h
      field_from (rule.Pop from mark to weight) h =
          let k = h.1 in
          let same : rule.Pop from mark to reach_domain.one ≡ rule.Pop from mark to weight = ap (λ (w : Reach). rule.Pop from mark to w) (sym h.0) in
          subst (Has (map field_rule_of edges)) same
          (field_there k.source k.target (edge.Load mark) from to (record { edge = k.edge; from_is = k.from_is; to_is = k.to_is }))

      pub field_made : (r : Rule Reach) → Has (map field_rule_of edges) r ↔ IsEdgeRule p q names r
      field_made r = (
        (λ has.
            let at = at_map field_rule_of edges has.0 r has.1 in
            let e = edge_of at.0 (has.0, at.1) in
            subst (IsEdgeRule p q names) (sym at.2) (field_is e.0 e.1 at.0.kind at.0.from at.0.to e.2)),
        field_from r,
      )

      -- call rules
      call_is : (a b : Node) (kind : EdgeKind) (from to : ℕ) (r : Rule Reach) → IsAt a kind b from to → IsCallRuleBy calls kind from to r → IsCallRule p q names r
      call_is a b edge.Flow from to r at h =
          subst (IsCallRule p q names) (sym h)
          (refl, record { source = a; target = b; kind = edge.Flow; edge = at.edge; keeps = tt; from_is = at.from_is; to_is = at.to_is })
      call_is a b (edge.Load field) from to r at h =
          subst (IsCallRule p q names) (sym h)
          (refl, record { source = a; target = b; kind = edge.Load field; edge = at.edge; keeps = tt; from_is = at.from_is; to_is = at.to_is })
      call_is a b (edge.Call call) from to r at h =
          subst (IsCallRule p q names) (sym h.2) (refl, record { source = a; target = b; call = call; edge = at.edge; mark_is = h.1; from_is = at.from_is; to_is = at.to_is })
      call_is a b (edge.Return call) from to r at h =
          subst (IsCallRule p q names) (sym h.2) (refl, record { source = a; target = b; call = call; edge = at.edge; mark_is = h.1; from_is = at.from_is; to_is = at.to_is })
      call_is a b edge.Jump from to r at h = absurd h

      keeps_call : (kind : EdgeKind) (from to : ℕ) → KeepsCalls kind → IsCallRuleBy calls kind from to (rule.Flow from to reach_domain.one)
      keeps_call edge.Flow from to k = refl
      keeps_call (edge.Load field) from to k = refl
      keeps_call (edge.Call call) from to k = absurd k
      keeps_call (edge.Return call) from to k = absurd k
      keeps_call edge.Jump from to k = absurd k

      module _ (rules : List (Rule Reach)) (gathered : AreGathered (IsCallRuleOf calls) edges rules) where
        call_there : (a b : Node) (kind : EdgeKind) (from to : ℕ) (r : Rule Reach) → IsAt a kind b from to → IsCallRuleBy calls kind from to r → Has rules r
        call_there a b kind from to r at h = (gathered r).1 (record { from = from; to = to; kind = kind }, of_edge a kind b from to at, h)

        call_from : (r : Rule Reach) → IsCallRule p q names r → Has rules r
        call_from (rule.Flow from to weight) h =
            let k = h.1 in
            subst (λ (w : Reach). Has rules (rule.Flow from to w)) (sym h.0)
            (call_there k.source k.target k.kind from to (rule.Flow from to reach_domain.one)
            (record { edge = k.edge; from_is = k.from_is; to_is = k.to_is }) (keeps_call k.kind from to k.keeps))
        call_from (rule.Push from to mark weight) h =
            let k = h.1 in
            subst (λ (w : Reach). Has rules (rule.Push from to mark w)) (sym h.0)
            (call_there k.source k.target (edge.Call k.call) from to (rule.Push from to mark reach_domain.one)
            (record { edge = k.edge; from_is = k.from_is; to_is = k.to_is }) (mark, k.mark_is, refl))
        call_from (rule.Pop from mark to weight) h =
            let k = h.1 in
            subst (λ (w : Reach). Has rules (rule.Pop from mark to w)) (sym h.0)
            (call_there k.source k.target (edge.Return k.call) from to (rule.Pop from mark to reach_domain.one)
            (record { edge = k.edge; from_is = k.from_is; to_is = k.to_is }) (mark, k.mark_is, refl))

        pub call_made : (r : Rule Reach) → Has rules r ↔ IsCallRule p q names r
        call_made r = (
          (λ has.
              let g = (gathered r).0 has in
              let e = edge_of g.0 g.1 in
              call_is e.0 e.1 g.0.kind g.0.from g.0.to r e.2 g.2),
          call_from r,
        )

      -- jumps
      module _ (jumps : List Jump) (gathered : AreGathered (IsJumpAt d.nodes) edges jumps) where
        jump_is : (j : Jump) (e : EdgeAt) → Has edges e → IsJumpAt d.nodes e j → IsJumpOf p q names j
        jump_is j e has at =
            let of = edge_of e has in
            let a = of.0 in
            let b = of.1 in
            let there : slice_get d.nodes j.to.node ≡ Some b = subst (λ (n : ℕ). slice_get d.nodes n ≡ Some b) (sym at.to_is) of.2.to_is in
            let node : at.node ≡ b = (let stands = at.stands.node_is in cc) in
            record {
              source = a;
              target = b;
              edge = subst (λ (k : EdgeKind). EdgeIn p q a k b) at.kind_is of.2.edge;
              from_is = subst (λ (n : ℕ). slice_get d.nodes n ≡ Some a) (sym at.from_is) of.2.from_is;
              to_is = subst (StandsFor d.nodes j.to) node at.stands;
            }

        pub jumps_made : (j : Jump) → Has jumps j ↔ IsJumpOf p q names j
        jumps_made j = (
          (λ has. let g = (gathered j).0 has in jump_is j g.0 g.1 g.2),
          (λ h.
              let has = of_edge h.source edge.Jump h.target j.from j.to.node (record { edge = h.edge; from_is = h.from_is; to_is = h.to_is.node_is }) in
              (gathered j).1 (
                record { from = j.from; to = j.to.node; kind = edge.Jump },
                has,
                record { kind_is = refl; from_is = refl; to_is = refl; node = h.target; stands = h.to_is },
              )),
        )

    -- start nodes
    pub starts_made : (o : Site) (s : StartAt) → IsStartHere p d.nodes o s ↔ IsStartOf p q names o s
    starts_made o s = (
      (λ h. record { node = h.node; start = ((h.is_node, h.site_is), is.nodes.each h.node (s.node, h.stands.node_is)); stands = h.stands }),
      (λ h. record { node = h.node; stands = h.stands; is_node = h.start.0.0; site_is = h.start.0.1 }),
    )

-- stores
pub stores_made : (nodes : List Node) (all : List StoreAt) (stores : List StoreNodes) → Each (IsStoreOf nodes) all stores → (store : ℕ) (s : StoreAt)
    → slice_get all store ≡ Some s → IsStoreOf nodes s (get_or stores store no_store)
stores_made nodes all stores each store s there =
    let x = each_left (IsStoreOf nodes) all stores store s each there in
    subst (IsStoreOf nodes s) (sym (get_or_from_slice_get stores store x.0 no_store x.1)) x.2

module _ (p : LinkedProgram) (q : Asked) (names : Names) (are : AreNames p q names) (parts : Parts) (of : AreParts p q names parts) (led : AreLed p parts.bases.steps) where
  node_led : (n : Node) → IsNode p n → (s : StartAt) → StandsFor names.nodes s n → (word : List ℕ) × Leads parts.bases.steps s.method word parts.bases.last
  node_led n node s stands =
      let below = slice_get-below node.method.code n.place.index node.code node.here in
      subst (λ (m : ℕ). (word : List ℕ) × Leads parts.bases.steps m word parts.bases.last) (sym stands.method_is)
      (led.methods n.place.method (node.method, node.there, omega (arith, below)) parts.bases.last of.last)

  row_led : (s : StartAt) → Has (flat_map (λ (starts : List StartAt). starts) (start_rows parts)) s
      → (word : List ℕ) × Leads parts.bases.steps s.method word parts.bases.last
  row_led s has =
      let at = in_flat_map (λ (starts : List StartAt). starts) (start_rows parts) has.0 s has.1 in
      let i = at.1.0 in
      let v = at_map (λ (v : Vec StartAt Global). v.items) parts.starts.items i at.0 at.1.1 in
      let below = slice_get-below parts.starts.items i v.0 v.1 in
      let o = slice_get-there names.sites i (let count = of.start_count in omega arith) in
      let there : Has (starts_at parts i) s = subst (λ (xs : List StartAt). Has xs s) (sym (get_or_from_slice_get (start_rows parts) i at.0 [] at.1.1)) at.2 in
      let start = (of.starts i o.0 o.1 s).0 there in
      node_led start.node start.start.0.0 s start.stands

  -- the parts are led
  pub parts_led : parts.fields.value.steps ≡ [] → parts.fields.value.last ≡ 0 → parts.calls.value.steps ≡ parts.bases.steps → parts.calls.value.last ≡ parts.bases.last → AreLedIn parts
  parts_led field_steps field_last call_steps call_last = record {
    bases = IsLed-by p parts.bases.steps [] parts.bases.last led of.last (λ s has. cc has.1);
    starts = λ s has. elim (Has-either (flat_map (λ (starts : List StartAt). starts) (start_rows parts)) (map (λ (j : Jump). j.to) parts.jumps.items) s has) [
      | inl a ↦ row_led s a
      | inr b ↦
          let j = at_map (λ (j : Jump). j.to) parts.jumps.items b.0 s b.1 in
          let jump = (of.jumps j.0).0 (b.0, j.1) in
          node_led jump.target jump.edge.0.to s (subst (λ (x : StartAt). StandsFor names.nodes x jump.target) (sym j.2) jump.to_is)
    ];
    field_steps = field_steps;
    field_last = field_last;
    call_steps = call_steps;
    call_last = call_last;
  }

-- all of them together
pub parts_made : (p : LinkedProgram) (q : Asked) (d : DemandParts) (is : IsDemandOf p q d) (parts : Parts) (calls : List Place) → AreTheCalls p calls
    → ((edges : List EdgeAt) × AreEdgesAt d.nodes d.edges edges
    × HaveCells reach_domain (map field_rule_of edges) (start_nodes (start_rows parts)) parts.field_cells.items parts.fields.value.rules)
    → ((edges : List EdgeAt) × (rules : List (Rule Reach)) × AreEdgesAt d.nodes d.edges edges × AreGathered (IsCallRuleOf calls) edges rules
    × HaveCells reach_domain rules (open_nodes (start_rows parts) parts.jumps.items) parts.call_cells.items parts.calls.value.rules)
    → ((edges : List EdgeAt) × AreEdgesAt d.nodes d.edges edges × AreGathered (IsJumpAt d.nodes) edges parts.jumps.items) → length parts.starts.items ≡ length d.sites
    → ((site : ℕ) (o : Site) → slice_get d.sites site ≡ Some o → (s : StartAt) → Has (starts_at parts site) s ↔ IsStartHere p d.nodes o s)
    → Each (IsStoreOf d.nodes) d.stores parts.stores.items → AreStrings p calls parts.bases.steps → IsLast p parts.bases.last → parts.places ≡ calls
    → AreParts p q (names_of d calls) parts
parts_made p q d is parts calls are_calls fields rules jumps count starts stores strings last places = record {
  field_nodes = map field_rule_of fields.0;
  field_rules = field_made p q d is calls are_calls fields.0 fields.1;
  field_cells = fields.2;
  call_nodes = rules.1;
  call_rules = call_made p q d is calls are_calls rules.0 rules.2 rules.1 rules.3;
  call_cells = rules.4;
  jumps = jumps_made p q d is calls are_calls jumps.0 jumps.1 parts.jumps.items jumps.2;
  starts = λ site o there s.
      let a = starts site o there s in
      let b = starts_made p q d is calls are_calls o s in
      ((λ h. b.0 (a.0 h)), (λ h. a.1 (b.1 h)));
  start_count = count;
  stores = stores_made d.nodes d.stores parts.stores.items stores;
  store_count = sym stores.as_many;
  strings = strings;
  last = last;
  places = places;
}
