-- The tables of a site have its two systems over the meets that they have taken in.
use Rattle.std.proofs.Common.{◌≡◌, ◌==◌, ℕ, ◌↔◌, Bool, false, List, [], ◌++◌, if◌then◌else◌, map, Some, slice_get, eq-eqb, refl, sym, ap, ◌∙◌, subst, inl, inr}
use Rattle.std.proofs.lemmas.Bool.Decides.{eqb_tells}
use Rattle.std.proofs.lemmas.Option.{slice_get-get_or}
use Rattle.auto_table.specs.declared.rule.Rule.{Rule}
use Rattle.auto_table.specs.declared.rule.Rule.TheVariants as rule
use Rattle.lists.specs.Lists.{Has}
use Rattle.link_laws.proofs.Lists.{at_map, in_flat_map, map_at}
use Rattle.link_rules.specs.Linked.{LinkedProgram}
use Rattle.link_sites.specs.declared.place.Place.{Place}
use Rattle.link_sites.specs.declared.site.Site.{Site}
use Rattle.post_star.specs.declared.bases.Start.{Start}
use Rattle.post_star.specs.Jobs.{Job}
use Rattle.spds_laws.proofs.Starts.{calls_starts, starts_calls, starts_open}
use Rattle.spds_laws.specs.Found.{Triple}
use Rattle.spds_laws.specs.Starts.{Arrives, FromStarts, IsAsked, IsOpen}
use Rattle.spds_rules.specs.declared.edge.EdgeKind.TheVariants as edge
use Rattle.spds_rules.specs.declared.node.Node.{Node}
use Rattle.spds_rules.specs.declared.store.StoreAt.{StoreAt}
use Rattle.spds_rules.specs.Demand.{Asked, Demanded, EdgeIn, StartIn}
use Rattle.link_sites.specs.Sites.{HasField}
use Rattle.spds_rules.specs.Systems.{InCalls, InFields, MayStore}
use Rattle.spds_tables.specs.declared.numbered.Jump.{Jump}
use Rattle.spds_tables.specs.declared.numbered.Met.{Met}
use Rattle.spds_tables.specs.declared.numbered.StartAt.{StartAt}
use Rattle.spds_tables.specs.declared.parts.Parts.{Parts}
use Rattle.spds_tables.specs.declared.tables.SiteTables.{SiteTables}
use Rattle.spds_tables.specs.Names.{AreNames, Names}
use Rattle.spds_tables.specs.Parts.{call_cell, field_cell, open_nodes, start_rows, starts_at, store_at, store_nodes_at}
use Rattle.spds_tables.specs.PartsOf.{AreParts, IsEdgeRule, StandsFor}
use Rattle.spds_tables.specs.Systems.{IsCallStart, IsCallSystem, IsFieldRule, IsFieldStart, IsFieldSystem, IsStored, Reaches}
use Rattle.spds_tables.specs.Tables.{AreSettled, ArrivesAt, IsCallJob, IsJumpedTo, IsStoredTo, Opens}
use Rattle.spds_tables.specs.Triples.{IsInRange, MetIn, no_site, no_store_at, triple_of, triples_of}
use Rattle.call_side.specs.Bases.{AreMarks}
use Rattle.spds_tables.proofs.ByCells.{call_node, calls_by_cells, field_node, fields_by_cells, jump_open, node_calls, node_fields, node_pushes, node_pushes_for, node_pushes_of, push_node, start_open}
use Rattle.spds_tables.proofs.CallSystems.{calls_exact, calls_some, derived_marks, given_marks}
use Rattle.spds_tables.proofs.FieldSystems.{fields_exact}
use Rattle.spds_tables.proofs.Lists.{Has-flat_map}
use Rattle.weight_laws.specs.declared.reach.Reach.{Reach}
use Rattle.weight_laws.specs.Reach.{reach_domain}
use Rattle.lists.proofs.Joined.{Has-either, Has-left, Has-right}

-- records with the same fields
same_triple : (x y : Triple) → x.object ≡ y.object → x.base ≡ y.base → x.store ≡ y.store → x ≡ y
same_triple x y a b c =
    ap (λ (o : Site). record { object = o; base = x.base; store = x.store }) a ∙ ap (λ (o : Site). record { object = y.object; base = o; store = x.store }) b
    ∙ ap (λ (s : StoreAt). record { object = y.object; base = y.base; store = s }) c

same_start : (x y : Start Reach) → x.base ≡ y.base → x.node ≡ y.node → x.weight ≡ y.weight → x ≡ y
same_start x y a b c =
    ap (λ (n : ℕ). record { base = n; node = x.node; weight = x.weight }) a ∙ ap (λ (n : ℕ). record { base = y.base; node = n; weight = x.weight }) b
    ∙ ap (λ (w : Reach). record { base = y.base; node = y.node; weight = w }) c

-- the triple of a meet that is in range
module _ (names : Names) (m : Met) (inside : IsInRange names m) where
  pub object_is : slice_get names.sites m.object ≡ Some (triple_of names m).object
  object_is = slice_get-get_or names.sites m.object no_site inside.object

  pub base_is : slice_get names.sites m.base ≡ Some (triple_of names m).base
  base_is = slice_get-get_or names.sites m.base no_site inside.base

  pub store_is : slice_get names.stores m.store ≡ Some (triple_of names m).store
  store_is = slice_get-get_or names.stores m.store no_store_at inside.store

-- a listed triple is that of a meet
pub listed_met : (names : Names) (mets : List Met) (o base : Site) (s : StoreAt) → MetIn names mets o base s
    → (m : Met) × Has mets m × (record { object = o; base = base; store = s } ≡ triple_of names m)
listed_met names mets o base s has =
    let at = at_map (triple_of names) mets has.0 (record { object = o; base = base; store = s }) has.1 in
    (at.0, (has.0, at.1), at.2)

-- a meet's triple is listed
pub met_listed : (names : Names) (mets : List Met) (m : Met) (o base : Site) (s : StoreAt) → Has mets m → (triple_of names m).object ≡ o
    → (triple_of names m).base ≡ base → (triple_of names m).store ≡ s → MetIn names mets o base s
met_listed names mets m o base s has a b c =
    let same = same_triple (triple_of names m) (record { object = o; base = base; store = s }) a b c in
    (has.0, subst (λ (t : Triple). slice_get (triples_of names mets) has.0 ≡ Some t) same (map_at (triple_of names) mets has.0 m has.1))

module _ (p : LinkedProgram) (q : Asked) (names : Names) (are : AreNames p q names) (parts : Parts) (of : AreParts p q names parts) (site : ℕ) (o : Site)
    (here : slice_get names.sites site ≡ Some o) (mets : List Met) (inside : (m : Met) → Has mets m → IsInRange names m) where
  -- a rule of an edge is one of the field system
  edge_rule : (r : Rule Reach) → IsEdgeRule p q names r → IsFieldRule p q names (MetIn names mets) o r
  edge_rule (rule.Flow from to weight) h = h
  edge_rule (rule.Push from to mark weight) h = absurd h
  edge_rule (rule.Pop from mark to weight) h = h

  -- so is one of a meet of the site
  met_rule : (m : Met) (s : StartAt) → Has mets m → m.object ≡ site → Has (starts_at parts m.base) s
      → IsFieldRule p q names (MetIn names mets) o (push_node parts site (store_nodes_at parts m.store) s)
  met_rule m s has e among =
      let range = inside m has in
      let t = triple_of names m in
      let start = (of.starts m.base t.base (base_is names m range) s).0 among in
      let stored = of.stores m.store t.store (store_is names m range) in
      let object : t.object ≡ o = (let at = object_is names m range in let same : slice_get names.sites m.object ≡ Some o = rw e here in cc) in (
        refl,
        record {
          base = t.base;
          store = t.store;
          target = start.node;
          met = met_listed names mets m o t.base t.store has object refl refl;
          start = start.start;
          field_is = stored.field_is;
          from_is = stored.arg_is;
          to_is = start.stands.node_is;
        },
      )

  -- a meet of the site has its rules, and no other meet has any
  same_object : (m : Met) → m.object ≡ site → node_pushes_for parts site m ≡ node_pushes_of parts site m
  same_object m e = ap (λ (b : Bool). if b then node_pushes_of parts site m else []) (eq-eqb m.object site e)

  other_object : (m : Met) → m.object == site ≡ false → node_pushes_for parts site m ≡ []
  other_object m e = ap (λ (b : Bool). if b then node_pushes_of parts site m else []) e

  pushed_rule : (r : Rule Reach) → Has (node_pushes parts site mets) r → IsFieldRule p q names (MetIn names mets) o r
  pushed_rule r has =
      let at = in_flat_map (node_pushes_for parts site) mets has.0 r has.1 in
      elim (eqb_tells at.0.object site) [
        | inl h ↦
            let here : Has (node_pushes_of parts site at.0) r = subst (λ (rs : List (Rule Reach)). Has rs r) (same_object at.0 h.1) at.2 in
            let push = at_map (push_node parts site (store_nodes_at parts at.0.store)) (starts_at parts at.0.base) here.0 r here.1 in
            subst (IsFieldRule p q names (MetIn names mets) o) (sym push.2) (met_rule at.0 push.0 at.1 h.1 (here.0, push.1))
        | inr h ↦ absurd (let empty : Has [] r = subst (λ (rs : List (Rule Reach)). Has rs r) (other_object at.0 h.0) at.2 in cc empty.1)
      ]

  -- each rule of a store is there
  stored_rule : (from to mark : ℕ) (weight : Reach) → weight ≡ reach_domain.one → IsStored p q names (MetIn names mets) o from mark to
      → Has (node_pushes parts site mets) (rule.Push from to mark weight)
  stored_rule from to mark weight one k =
      let listed = listed_met names mets o k.base k.store k.met in
      let m = listed.0 in
      let range = inside m listed.1 in
      let object : slice_get names.sites m.object ≡ Some o = object_is names m range ∙ ap (λ (t : Triple). Some t.object) (sym listed.2) in
      let base : slice_get names.sites m.base ≡ Some k.base = base_is names m range ∙ ap (λ (t : Triple). Some t.base) (sym listed.2) in
      let store : slice_get names.stores m.store ≡ Some k.store = store_is names m range ∙ ap (λ (t : Triple). Some t.store) (sym listed.2) in
      let same : m.object ≡ site = are.sites.apart m.object site o object here in
      let stored = of.stores m.store k.store store in
      let nodes = store_nodes_at parts m.store in
      let s : StartAt = record { node = to; method = k.target.place.method } in
      let among : Has (starts_at parts m.base) s =
      (of.starts m.base k.base base s).1 (record { node = k.target; start = k.start; stands = record { node_is = k.to_is; method_is = refl } }) in
      let arg : nodes.arg ≡ from = are.nodes.apart nodes.arg from k.store.arg stored.arg_is k.from_is in
      let field : nodes.field ≡ mark = stored.field_is ∙ sym k.field_is in
      let push : push_node parts site nodes s ≡ rule.Push from to mark weight =
      ap (λ (a : ℕ). rule.Push a to nodes.field reach_domain.one) arg ∙ ap (λ (f : ℕ). rule.Push from to f reach_domain.one) field
      ∙ ap (λ (w : Reach). rule.Push from to mark w) (sym one) in
      let in_one : Has (node_pushes_of parts site m) (rule.Push from to mark weight) =
      (among.0, map_at (push_node parts site nodes) (starts_at parts m.base) among.0 s among.1 ∙ ap Some push) in
      Has-flat_map (node_pushes_for parts site) mets m (rule.Push from to mark weight) listed.1
      (subst (λ (rs : List (Rule Reach)). Has rs (rule.Push from to mark weight)) (sym (same_object m same)) in_one)

  rule_there : (r : Rule Reach) → IsFieldRule p q names (MetIn names mets) o r → Has (of.field_nodes ++ node_pushes parts site mets) r
  rule_there (rule.Flow from to weight) h =
      Has-left of.field_nodes (node_pushes parts site mets) (rule.Flow from to weight) ((of.field_rules (rule.Flow from to weight)).1 h)
  rule_there (rule.Push from to mark weight) h =
      Has-right of.field_nodes (node_pushes parts site mets) (rule.Push from to mark weight) (stored_rule from to mark weight h.0 h.1)
  rule_there (rule.Pop from mark to weight) h =
      Has-left of.field_nodes (node_pushes parts site mets) (rule.Pop from mark to weight) ((of.field_rules (rule.Pop from mark to weight)).1 h)

  -- the field system of nodes
  field_system : IsFieldSystem p q names (MetIn names mets) o (node_fields parts site of.field_nodes mets)
  field_system = record {
    steps = refl;
    last = refl;
    rules = λ r. (
      (λ has. elim (Has-either of.field_nodes (node_pushes parts site mets) r has) [
        | inl a ↦ edge_rule r ((of.field_rules r).0 a)
        | inr b ↦ pushed_rule r b
      ]),
      rule_there r,
    );
    starts = λ s. (start_to s, start_from s);
  }
    where
      start_to : (s : Start Reach) → Has (map (field_node parts site) (starts_at parts site)) s → IsFieldStart p q names o s
      start_to s has =
          let at = at_map (field_node parts site) (starts_at parts site) has.0 s has.1 in
          let start = (of.starts site o here at.0).0 (has.0, at.1) in
          record {
            node = start.node;
            start = start.start;
            base_is = ap (λ (x : Start Reach). x.base) at.2;
            node_is = ap (λ (x : Start Reach). slice_get names.nodes x.node) at.2 ∙ start.stands.node_is;
            weight_is = ap (λ (x : Start Reach). x.weight) at.2;
          }

      start_from : (s : Start Reach) → IsFieldStart p q names o s → Has (map (field_node parts site) (starts_at parts site)) s
      start_from s h =
          let at : StartAt = record { node = s.node; method = h.node.place.method } in
          let among = (of.starts site o here at).1 (record { node = h.node; start = h.start; stands = record { node_is = h.node_is; method_is = refl } }) in
          let same = same_start (field_node parts site at) s (sym h.base_is) refl (sym h.weight_is) in
          (among.0, map_at (field_node parts site) (starts_at parts site) among.0 at among.1 ∙ ap Some same)

  -- a start node of the call system
  pub record IsBegunAt (begun : List StartAt) (n : Node) : Type 0 where
    pub start : StartAt
    pub has : Has begun start
    pub stands : StandsFor names.nodes start n

  -- the call system of nodes
  call_system : (begun : List StartAt) → ((s : StartAt) → Has begun s → (n : Node) × StandsFor names.nodes s n)
      → IsCallSystem p q names (IsBegunAt begun) (node_calls parts of.call_nodes begun)
  call_system begun stands = record {
    steps = of.strings;
    last = of.last;
    rules = of.call_rules;
    starts = λ s. (start_to s, start_from s);
  }
    where
      start_to : (s : Start Reach) → Has (map (call_node parts) begun) s → IsCallStart names (IsBegunAt begun) s
      start_to s has =
          let at = at_map (call_node parts) begun has.0 s has.1 in
          let n = stands at.0 (has.0, at.1) in
          record {
            node = n.0;
            start = record { start = at.0; has = (has.0, at.1); stands = n.1 };
            base_is = ap (λ (x : Start Reach). x.base) at.2 ∙ n.1.method_is;
            node_is = ap (λ (x : Start Reach). slice_get names.nodes x.node) at.2 ∙ n.1.node_is;
            weight_is = ap (λ (x : Start Reach). x.weight) at.2;
          }

      start_from : (s : Start Reach) → IsCallStart names (IsBegunAt begun) s → Has (map (call_node parts) begun) s
      start_from s h =
          let at = h.start.start in
          let node : at.node ≡ s.node = are.nodes.apart at.node s.node h.node h.start.stands.node_is h.node_is in
          let base : at.method ≡ s.base = h.start.stands.method_is ∙ sym h.base_is in
          let same = same_start (call_node parts at) s base node (sym h.weight_is) in
          (h.start.has.0, map_at (call_node parts) begun h.start.has.0 at h.start.has.1 ∙ ap Some same)

  -- what opens is an open node, and is kept
  pub record IsStanding (s : StartAt) : Type 0 where
    pub node : Node
    pub stands : StandsFor names.nodes s node
    pub opened : IsOpen p q (MetIn names mets) o node
    pub kept : Has (open_nodes (start_rows parts) parts.jumps.items) s.node

  begun_open : (begun : List StartAt) → ((s : StartAt) → Has begun s → IsStanding s) → (n : Node) → IsBegunAt begun n → IsOpen p q (MetIn names mets) o n
  begun_open begun all n b =
      let s = all b.start b.has in
      let at = s.stands.node_is in
      let there = b.stands.node_is in
      let same : s.node ≡ n = cc in
      subst (IsOpen p q (MetIn names mets) o) same s.opened

  begun_system : (begun : List StartAt) → ((s : StartAt) → Has begun s → IsStanding s) → IsCallSystem p q names (IsBegunAt begun) (node_calls parts of.call_nodes begun)
  begun_system begun all = call_system begun (λ x has. let s = all x has in (s.node, s.stands))

  -- it has the words of the call system of tables
  begun_words : (begun : List StartAt) → ((s : StartAt) → Has begun s → IsStanding s) → (job : Job Reach) → IsCallJob parts begun job → (number : ℕ) (word : List ℕ)
      → Reaches (node_calls parts of.call_nodes begun) number word ↔ Reaches job (call_cell parts number) word
  begun_words begun all job is number word = calls_by_cells parts of.call_nodes of.call_cells begun (λ s has. (all s has).kept) job is number word

  -- which arrives where some string is given
  arrives_at : (begun : List StartAt) → ((s : StartAt) → Has begun s → IsStanding s) → (job : Job Reach) → IsCallJob parts begun job
      → (number : ℕ) (n : Node) → slice_get names.nodes number ≡ Some n → ArrivesAt job (call_cell parts number) ↔ Arrives p q (IsBegunAt begun) n
  arrives_at begun all job is number n there =
      let same = calls_some p q names are (IsBegunAt begun) (node_calls parts of.call_nodes begun) (begun_system begun all) number n there in (
        (λ w. same.0 (w.0, (begun_words begun all job is number w.0).1 w.1)),
        (λ c. let w = same.1 c in (w.0, (begun_words begun all job is number w.0).0 w.1)),
      )

  jumped_standing : (begun : List StartAt) → ((s : StartAt) → Has begun s → IsStanding s) → (job : Job Reach) → IsCallJob parts begun job → (s : StartAt)
      → IsJumpedTo parts.call_cells.items parts.jumps.items job s → IsStanding s
  jumped_standing begun all job is s h =
      let jump = (of.jumps h.jump).0 h.has in
      let given = (arrives_at begun all job is h.jump.from jump.source jump.from_is).0 h.arrives in
      record {
        node = jump.target;
        stands = subst (λ (x : StartAt). StandsFor names.nodes x jump.target) (sym h.to_is) jump.to_is;
        opened = IsOpen.jump jump.edge (starts_open p q (MetIn names mets) o (IsBegunAt begun) (begun_open begun all) given.1);
        kept = subst (λ (x : StartAt). Has (open_nodes (start_rows parts) parts.jumps.items) x.node) (sym h.to_is) (jump_open parts h.jump h.has);
      }

  stored_standing : (begun : List StartAt) → ((s : StartAt) → Has begun s → IsStanding s) → (job : Job Reach) → IsCallJob parts begun job → (s : StartAt)
      → IsStoredTo parts site mets job s → IsStanding s
  stored_standing begun all job is s h =
      let m = h.met in
      let range = inside m h.has in
      let t = triple_of names m in
      let start = (of.starts m.base t.base (base_is names m range) s).0 h.among in
      let stored = of.stores m.store t.store (store_is names m range) in
      let given = (arrives_at begun all job is (store_nodes_at parts m.store).arg t.store.arg stored.arg_is).0 h.arrives in
      let object : t.object ≡ o = (let at = object_is names m range in let same : slice_get names.sites m.object ≡ Some o = rw h.object here in cc) in
      record {
        node = start.node;
        stands = start.stands;
        opened = IsOpen.store (met_listed names mets m o t.base t.store h.has object refl refl) start.start
            (starts_open p q (MetIn names mets) o (IsBegunAt begun) (begun_open begun all) given.1);
        kept = start_open parts m.base s h.among;
      }

  pub opens_standing : {s : StartAt} → Opens parts site mets s → IsStanding s
  opens_standing (Opens.own {s} has) =
      let start = (of.starts site o here s).0 has in
      record { node = start.node; stands = start.stands; opened = IsOpen.own start.start; kept = start_open parts site s has }
  opens_standing (Opens.asked {s} begun job is all (inl jump)) = jumped_standing begun (λ x has. opens_standing (all x has)) job is s jump
  opens_standing (Opens.asked {s} begun job is all (inr store)) = stored_standing begun (λ x has. opens_standing (all x has)) job is s store

  -- in settled tables
  module _ (t : SiteTables) (settled : AreSettled parts site mets t) where
    abbrev pub Begins : Node → Type 0
    Begins = IsBegunAt t.begun

    all_standing : (s : StartAt) → Has t.begun s → IsStanding s
    all_standing s has = opens_standing (settled.built.opened s has)

    pub begins_open : (n : Node) → Begins n → IsOpen p q (MetIn names mets) o n
    begins_open n b = begun_open t.begun all_standing n b

    arrives : (number : ℕ) (n : Node) → slice_get names.nodes number ≡ Some n → ArrivesAt t.calls (call_cell parts number) ↔ Arrives p q Begins n
    arrives number n there = arrives_at t.begun all_standing t.calls settled.built.calls number n there

    own_begins : (n : Node) → StartIn p q o n → Begins n
    own_begins n st =
        let number = are.nodes.all n st.1 in
        let s : StartAt = record { node = number.0; method = n.place.method } in
        let stand : StandsFor names.nodes s n = record { node_is = number.1; method_is = refl } in
        record { start = s; has = settled.built.own s ((of.starts site o here s).1 (record { node = n; start = st; stands = stand })); stands = stand }

    jump_begins : (a b : Node) → EdgeIn p q a edge.Jump b → Arrives p q Begins a → Begins b
    jump_begins a b e c =
        let from = are.nodes.all a (Demanded.source e.0 e.1) in
        let to = are.nodes.all b e.1 in
        let s : StartAt = record { node = to.0; method = b.place.method } in
        let stand : StandsFor names.nodes s b = record { node_is = to.1; method_is = refl } in
        let jump : Jump = record { from = from.0; to = s } in
        let has = (of.jumps jump).1 (record { source = a; target = b; edge = e; from_is = from.1; to_is = stand }) in
        record {
          start = s;
          has = settled.closed s (inl (record { jump = jump; has = has; to_is = refl; arrives = (arrives from.0 a from.1).1 c }));
          stands = stand;
        }

    store_begins : (base : Site) (s : StoreAt) (n : Node) → MetIn names mets o base s → StartIn p q base n → Arrives p q Begins s.arg → Begins n
    store_begins base store n met st c =
        let listed = listed_met names mets o base store met in
        let m = listed.0 in
        let range = inside m listed.1 in
        let object : slice_get names.sites m.object ≡ Some o = object_is names m range ∙ ap (λ (x : Triple). Some x.object) (sym listed.2) in
        let base_there : slice_get names.sites m.base ≡ Some base = base_is names m range ∙ ap (λ (x : Triple). Some x.base) (sym listed.2) in
        let store_there : slice_get names.stores m.store ≡ Some store = store_is names m range ∙ ap (λ (x : Triple). Some x.store) (sym listed.2) in
        let stored = of.stores m.store store store_there in
        let number = are.nodes.all n st.1 in
        let s : StartAt = record { node = number.0; method = n.place.method } in
        let stand : StandsFor names.nodes s n = record { node_is = number.1; method_is = refl } in
        record {
          start = s;
          has = settled.closed s (inr (record {
            met = m;
            has = listed.1;
            object = are.sites.apart m.object site o object here;
            arrives = (arrives (store_nodes_at parts m.store).arg store.arg stored.arg_is).1 c;
            among = (of.starts m.base base base_there s).1 (record { node = n; start = st; stands = stand });
          }));
          stands = stand;
        }

    begins_asked : (n : Node) → IsAsked p q (MetIn names mets) o Begins n → Begins n
    begins_asked n (IsAsked.own st) = own_begins n st
    begins_asked n (IsAsked.jump {a} {b} e c) = jump_begins a b e c
    begins_asked n (IsAsked.store {base} {s} met st c) = store_begins base s n met st c

    -- a string of the call system is one that the edges give from the start nodes
    pub calls_given : (n : Node) (string : List Place) → InCalls p q (MetIn names mets) o n string ↔ FromStarts p q Begins n string
    calls_given n string =
        ((λ c. calls_starts p q (MetIn names mets) o Begins begins_asked c), (λ c. starts_calls p q (MetIn names mets) o Begins begins_open c))

    system : IsCallSystem p q names Begins (node_calls parts of.call_nodes t.begun)
    system = begun_system t.begun all_standing

    words : (number : ℕ) (word : List ℕ) → Reaches (node_calls parts of.call_nodes t.begun) number word ↔ Reaches t.calls (call_cell parts number) word
    words number word = begun_words t.begun all_standing t.calls settled.built.calls number word

    -- at the cells of a node the tables derive what is in the systems at the node
    pub fields_are : (number : ℕ) (n : Node) (word : List ℕ) → slice_get names.nodes number ≡ Some n
        → Reaches t.fields (field_cell parts number) word ↔ InFields p q (MetIn names mets) o n word
    fields_are number n word there =
        let exact = fields_exact p q names are (MetIn names mets) o (node_fields parts site of.field_nodes mets) field_system number n word there in
        let same = fields_by_cells parts site of.field_nodes of.field_cells mets t.fields settled.built.fields number word in
        ((λ h. exact.0 (same.1 h)), (λ c. same.0 (exact.1 c)))

    pub strings_are : (number : ℕ) (n : Node) (word : List ℕ) (string : List Place) → slice_get names.nodes number ≡ Some n → AreMarks names.calls word string
        → Reaches t.calls (call_cell parts number) word ↔ InCalls p q (MetIn names mets) o n string
    strings_are number n word string there marks =
        let exact = calls_exact p q names are Begins (node_calls parts of.call_nodes t.begun) system number n word string there marks in
        let same = words number word in
        let given = calls_given n string in
        ((λ h. given.1 (exact.0 (same.1 h))), (λ c. same.0 (exact.1 (given.0 c))))

    pub strings_marked : (n : Node) (string : List Place) → InCalls p q (MetIn names mets) o n string → (word : List ℕ) × AreMarks names.calls word string
    strings_marked n string c = given_marks p q names are Begins (node_calls parts of.call_nodes t.begun) system n string ((calls_given n string).0 c)

    pub words_spelt : (number : ℕ) (word : List ℕ) → Reaches t.calls (call_cell parts number) word → (string : List Place) × AreMarks names.calls word string
    words_spelt number word h = derived_marks p q names are Begins (node_calls parts of.call_nodes t.begun) system number word ((words number word).1 h)

    pub calls_arrive : (number : ℕ) (n : Node) → slice_get names.nodes number ≡ Some n
        → ArrivesAt t.calls (call_cell parts number) ↔ ((string : List Place) × InCalls p q (MetIn names mets) o n string)
    calls_arrive number n there =
        let same = arrives number n there in
        ((λ h. let c = same.0 h in (c.0, (calls_given n c.0).1 c.1)), (λ h. same.1 (h.0, (calls_given n h.0).0 h.1)))

-- the tables of two sites derive a common word exactly where the sites have a common string
module _ (p : LinkedProgram) (q : Asked) (names : Names) (are : AreNames p q names) (parts : Parts) (of : AreParts p q names parts)
    (mets : List Met) (inside : (m : Met) → Has mets m → IsInRange names m)
    (first : ℕ) (o : Site) (first_is : slice_get names.sites first ≡ Some o) (one : SiteTables) (one_settled : AreSettled parts first mets one)
    (second : ℕ) (b : Site) (second_is : slice_get names.sites second ≡ Some b) (two : SiteTables) (two_settled : AreSettled parts second mets two) where
  pub calls_share : (x y : ℕ) (n m : Node) → slice_get names.nodes x ≡ Some n → slice_get names.nodes y ≡ Some m
      → ((word : List ℕ) × Reaches one.calls (call_cell parts x) word × Reaches two.calls (call_cell parts y) word)
      ↔ ((string : List Place) × InCalls p q (MetIn names mets) o n string × InCalls p q (MetIn names mets) b m string)
  calls_share x y n m there there2 =
      let first_are = strings_are p q names are parts of first o first_is mets inside one one_settled x n in
      let second_are = strings_are p q names are parts of second b second_is mets inside two two_settled y m in (
        (λ w.
            let s = words_spelt p q names are parts of first o first_is mets inside one one_settled x w.0 w.1 in
            (s.0, (first_are w.0 s.0 there s.1).0 w.1, (second_are w.0 s.0 there2 s.1).0 w.2)),
        (λ s.
            let w = strings_marked p q names are parts of first o first_is mets inside one one_settled n s.0 s.1 in
            (w.0, (first_are w.0 s.0 there w.1).1 s.1, (second_are w.0 s.0 there2 w.1).1 s.2)),
      )

  -- what the tables of two sites say of a store is whether an object of the one may be stored into one of the other
  pub may_store_exact : (store : ℕ) (s : StoreAt) → slice_get names.stores store ≡ Some s
      → (Reaches two.fields (store_at parts store).base.fields []
      × ((word : List ℕ) × Reaches one.calls (store_at parts store).arg.calls word × Reaches two.calls (store_at parts store).base.calls word)
      × HasField p b (store_at parts store).field)
      ↔ MayStore p q (MetIn names mets) o b s
  may_store_exact store s there =
      let stored = of.stores store s there in
      let nodes = store_nodes_at parts store in
      let fields = fields_are p q names are parts of second b second_is mets inside two two_settled nodes.base s.base [] stored.base_is in
      let shared = calls_share nodes.arg nodes.base s.arg s.base stored.arg_is stored.base_is in (
        (λ h. let c = shared.0 h.1 in (
          c.0,
          record {
            store = are.stores.each s (store, there);
            at_arg = c.1;
            at_base = c.2;
            is_base = fields.0 h.0;
            has = subst (HasField p b) stored.field_is h.2;
          },
        )),
        (λ m. (fields.1 m.1.is_base, shared.1 (m.0, m.1.at_arg, m.1.at_base), subst (HasField p b) (sym stored.field_is) m.1.has)),
      )
