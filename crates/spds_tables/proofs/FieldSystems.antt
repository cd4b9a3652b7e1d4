-- The field system of a site derives exactly what is in it.
use Rattle.std.proofs.Common.{◌≡◌, ◌↔◌, ℕ, List, [], ◌∷◌, Some, slice_get, refl, sym, subst}
use Rattle.lists.specs.Lists.{Has}
use Rattle.auto_table.specs.declared.rule.Rule.TheVariants as rule
use Rattle.link_rules.specs.Linked.{LinkedProgram}
use Rattle.link_sites.specs.declared.site.Site.{Site}
use Rattle.post_star.specs.declared.bases.BaseStep.{BaseStep}
use Rattle.post_star.specs.declared.bases.Start.{Start}
use Rattle.post_star.specs.Derivations.{Derives, Leads}
use Rattle.post_star.specs.Jobs.{Job}
use Rattle.spds_rules.specs.declared.edge.EdgeKind.{EdgeKind}
use Rattle.spds_rules.specs.declared.edge.EdgeKind.TheVariants.{Load}
use Rattle.spds_rules.specs.declared.node.Node.{Node}
use Rattle.spds_rules.specs.declared.store.StoreAt.{StoreAt}
use Rattle.spds_rules.specs.Demand.{Asked, Demanded, EdgeIn, StartIn}
use Rattle.spds_rules.specs.Systems.{InFields, KeepsFields}
use Rattle.spds_laws.proofs.Within.{fields_within}
use Rattle.spds_tables.specs.Names.{AreNames, Names}
use Rattle.spds_tables.specs.Systems.{IsFieldStart, IsFieldSystem, IsKept, IsLoaded, IsStored, Reaches}
use Rattle.weight_laws.specs.declared.reach.Reach.{Reach}
use Rattle.weight_laws.specs.Reach.{reach_domain}

-- with no base steps a base leads by the empty word alone, to itself
leads_none : (b : ℕ) (word : List ℕ) (last : ℕ) → Leads [] b word last → word ≡ []
leads_none b [] last h = refl
leads_none b (mark ∷ word) last h = cc h.1.1

module _ (p : LinkedProgram) (q : Asked) (names : Names) (are : AreNames p q names) (Meet : Site → Site → StoreAt → Type 0) (o : Site)
    (job : Job Reach) (is : IsFieldSystem p q names Meet o job) where
  -- a word that is derived is one of the node with the number
  abbrev IsIn : ℕ → List ℕ → Type 0
  IsIn number word = (n : Node) × (slice_get names.nodes number ≡ Some n) × InFields p q Meet o n word

  in_node : (number : ℕ) (n : Node) (word : List ℕ) → slice_get names.nodes number ≡ Some n → IsIn number word → InFields p q Meet o n word
  in_node number n word there h = let same : h.0 ≡ n = (let here = h.1 in cc) in subst (λ (x : Node). InFields p q Meet o x word) same h.2

  start_in : (s : Start Reach) (word : List ℕ) → IsFieldStart p q names o s → Leads job.steps s.base word job.last → IsIn s.node word
  start_in s word st leads =
      let none = leads_none s.base word job.last (subst (λ (steps : List BaseStep). Leads steps s.base word job.last) is.steps leads) in
      (st.node, st.node_is, subst (InFields p q Meet o st.node) (sym none) (InFields.start st.start))

  keep_in : (from to : ℕ) (word : List ℕ) → IsKept p q names KeepsFields from to → IsIn from word → IsIn to word
  keep_in from to word k h = (k.target, k.to_is, InFields.keep k.edge k.keeps (in_node from k.source word k.from_is h))

  load_in : (from field to : ℕ) (word : List ℕ) → IsLoaded p q names from field to → IsIn from (field ∷ word) → IsIn to word
  load_in from field to word k h = (k.target, k.to_is, InFields.load k.edge (in_node from k.source (field ∷ word) k.from_is h))

  store_in : (from field to : ℕ) (word : List ℕ) → IsStored p q names Meet o from field to → IsIn from word → IsIn to (field ∷ word)
  store_in from field to word k h = (
    k.target,
    k.to_is,
    subst (λ (f : ℕ). InFields p q Meet o k.target (f ∷ word)) (sym k.field_is) (InFields.store k.met k.start (in_node from k.store.arg word k.from_is h)),
  )

  -- what is derived is in the system
  derived_in : {number : ℕ} {word : List ℕ} {x : Reach} → Derives reach_domain job.rules job.starts job.steps job.last number word x → IsIn number word
  derived_in (Derives.starts_at {s} {word} has leads) = start_in s word ((is.starts s).0 has) leads
  derived_in (Derives.flows {from} {to} {word} {x} {weight} has d) = keep_in from to word ((is.rules (rule.Flow from to weight)).0 has).1 (derived_in d)
  derived_in (Derives.pushes {from} {to} {mark} {word} {x} {weight} has d) =
      store_in from mark to word ((is.rules (rule.Push from to mark weight)).0 has).1 (derived_in d)
  derived_in (Derives.pops {from} {mark} {to} {word} {x} {weight} has d) =
      load_in from mark to word ((is.rules (rule.Pop from mark to weight)).0 has).1 (derived_in d)

  -- it derives the word at the node
  abbrev IsReached : Node → List ℕ → Type 0
  IsReached n word = (number : ℕ) → slice_get names.nodes number ≡ Some n → Reaches job number word

  source_there : (a b : Node) (kind : EdgeKind) → EdgeIn p q a kind b → Has names.nodes a
  source_there a b kind e = are.nodes.all a (Demanded.source e.0 e.1)

  start_reached : (n : Node) → StartIn p q o n → IsReached n []
  start_reached n st number there =
      let s : Start Reach = record { base = 0; node = number; weight = reach_domain.one } in
      let has : Has job.starts s = (is.starts s).1 (record { node = n; start = st; base_is = refl; node_is = there; weight_is = refl }) in
      let leads : Leads job.steps 0 [] job.last = sym is.last in
      Derives.starts_at has leads

  keep_reached : (a b : Node) (kind : EdgeKind) (word : List ℕ) → EdgeIn p q a kind b → KeepsFields kind → IsReached a word → IsReached b word
  keep_reached a b kind word e k h number there =
      let from = source_there a b kind e in
      let has : Has job.rules (rule.Flow from.0 number reach_domain.one) =
      (is.rules (rule.Flow from.0 number reach_domain.one)).1
      (refl, record { source = a; target = b; kind = kind; edge = e; keeps = k; from_is = from.1; to_is = there }) in
      Derives.flows has (h from.0 from.1)

  load_reached : (a b : Node) (field : ℕ) (word : List ℕ) → EdgeIn p q a (Load field) b → IsReached a (field ∷ word) → IsReached b word
  load_reached a b field word e h number there =
      let from = source_there a b (Load field) e in
      let has : Has job.rules (rule.Pop from.0 field number reach_domain.one) =
      (is.rules (rule.Pop from.0 field number reach_domain.one)).1 (refl, record { source = a; target = b; edge = e; from_is = from.1; to_is = there }) in
      Derives.pops has (h from.0 from.1)

  store_reached : (base : Site) (s : StoreAt) (n : Node) (word : List ℕ) → Meet o base s → StartIn p q base n → Has names.nodes s.arg → IsReached s.arg word
      → IsReached n (s.field ∷ word)
  store_reached base s n word met st from h number there =
      let has : Has job.rules (rule.Push from.0 number s.field reach_domain.one) =
      (is.rules (rule.Push from.0 number s.field reach_domain.one)).1
      (refl, record { base = base; store = s; target = n; met = met; start = st; field_is = refl; from_is = from.1; to_is = there }) in
      Derives.pushes has (h from.0 from.1)

  -- what is in the system is derived
  in_reached : {n : Node} {word : List ℕ} → InFields p q Meet o n word → IsReached n word
  in_reached (InFields.start {n} st) = start_reached n st
  in_reached (InFields.keep {a} {b} {kind} {word} e k c) = keep_reached a b kind word e k (in_reached c)
  in_reached (InFields.load {a} {b} {field} {word} e c) = load_reached a b field word e (in_reached c)
  in_reached (InFields.store {base} {s} {n} {word} met st c) =
      store_reached base s n word met st (are.nodes.all s.arg (fields_within p q Meet o c).1) (in_reached c)

  -- the system derives the word at a node exactly where it is in the field system at the node
  pub fields_exact : (number : ℕ) (n : Node) (word : List ℕ) → slice_get names.nodes number ≡ Some n → Reaches job number word ↔ InFields p q Meet o n word
  fields_exact number n word there = ((λ d. in_node number n word there (derived_in d)), (λ c. in_reached c number there))
