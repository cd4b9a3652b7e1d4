-- The systems of tables have cells in place of nodes. At the cell of a node they derive what the systems of nodes derive at the node.
use Rattle.std.proofs.Common.{◌≡◌, ◌↔◌, ◌==◌, ℕ, zero, suc, Bool, true, false, List, [], ◌∷◌, ◌++◌, get_or, if◌then◌else◌, map, refl, sym, ap, ◌∙◌, subst}
use Rattle.std.specs.List.{flat_map}
use Rattle.std.proofs.lemmas.List.{append-nil, map-append}
use Rattle.auto_table.specs.declared.rule.Rule.{Rule}
use Rattle.auto_table.specs.declared.rule.Rule.TheVariants.{Push}
use Rattle.lists.specs.Lists.{Has}
use Rattle.link_laws.proofs.Lists.{at_map, in_flat_map, map_at}
use Rattle.post_star.specs.declared.bases.BaseStep.{BaseStep}
use Rattle.post_star.specs.declared.bases.Start.{Start}
use Rattle.post_star.specs.Derivations.{Derives}
use Rattle.post_star.specs.Jobs.{Job}
use Rattle.post_star.specs.Measures.{to_of}
use Rattle.rule_cells.specs.CellRules.{HaveCells, LeadToKept}
use Rattle.rule_cells.specs.Renamed.{number_in, renamed, renamed_start}
use Rattle.spds_tables.specs.declared.numbered.Jump.{Jump}
use Rattle.spds_tables.specs.declared.numbered.Met.{Met}
use Rattle.spds_tables.specs.declared.numbered.StartAt.{StartAt}
use Rattle.spds_tables.specs.declared.numbered.StoreNodes.{StoreNodes}
use Rattle.spds_tables.specs.declared.parts.Parts.{Parts}
use Rattle.spds_tables.specs.Parts.{call_cell, call_start, field_cell, field_start, open_nodes, push_to, pushes_for, pushes_of, pushes_over, start_nodes, start_rows, starts_at, store_nodes_at}
use Rattle.spds_tables.specs.Systems.{Reaches}
use Rattle.spds_tables.specs.Tables.{IsCallJob, IsFieldJob}
use Rattle.weight_laws.specs.declared.reach.Reach.{Reach}
use Rattle.weight_laws.specs.Reach.{reach_domain}
use Rattle.lists.proofs.Joined.{Has-left, Has-right}

-- what was mapped twice
mapped : {X Y Z : Type 0} (f : Y → Z) (g : X → Y) (h : X → Z) → ((x : X) → f (g x) ≡ h x) → (xs : List X) → map f (map g xs) ≡ map h xs
mapped f g h e [] = refl
mapped f g h e (x ∷ xs) = ap (λ y. y ∷ map f (map g xs)) (e x) ∙ ap (λ ys. h x ∷ ys) (mapped f g h e xs)

-- an element that is there under a condition
in_if : {X : Type 0} (b : Bool) (xs : List X) (x : X) → Has (if b then xs else []) x → Has xs x
in_if true xs x has = has
in_if false xs x has = cc has.1

-- systems of the same rules, starts and bases
same_system : {rules rules' : List (Rule Reach)} {starts starts' : List (Start Reach)} {steps steps' : List BaseStep} {last last' : ℕ} (n : ℕ) (word : List ℕ) → rules ≡ rules'
    → starts ≡ starts' → steps ≡ steps' → last ≡ last' → Derives reach_domain rules starts steps last n word reach_domain.one
    → Derives reach_domain rules' starts' steps' last' n word reach_domain.one
same_system {rules} {rules'} {starts} {starts'} {steps} {steps'} {last} {last'} n word a b c e h =
    subst (λ (l : ℕ). Derives reach_domain rules' starts' steps' l n word reach_domain.one) e
    (subst (λ (ts : List BaseStep). Derives reach_domain rules' starts' ts last n word reach_domain.one) c
    (subst (λ (ss : List (Start Reach)). Derives reach_domain rules' ss steps last n word reach_domain.one) b
    (subst (λ (rs : List (Rule Reach)). Derives reach_domain rs starts steps last n word reach_domain.one) a h)))

-- start nodes are kept
row_kept : (rows : List (List StartAt)) (i : ℕ) (s : StartAt) → Has (get_or rows i []) s → Has (start_nodes rows) s.node
row_kept [] i s has = cc has.1
row_kept (row ∷ rows) zero s has = Has-left (map (λ s. s.node) row) (start_nodes rows) s.node (has.0, map_at (λ (x : StartAt). x.node) row has.0 s has.1)
row_kept (row ∷ rows) (suc i) s has = Has-right (map (λ s. s.node) row) (start_nodes rows) s.node (row_kept rows i s has)

module _ (parts : Parts) where
  -- of each kind of system
  pub start_kept : (site : ℕ) (s : StartAt) → Has (starts_at parts site) s → Has (start_nodes (start_rows parts)) s.node
  start_kept site s has = row_kept (start_rows parts) site s has

  pub start_open : (site : ℕ) (s : StartAt) → Has (starts_at parts site) s → Has (open_nodes (start_rows parts) parts.jumps.items) s.node
  start_open site s has =
      Has-left (start_nodes (start_rows parts)) (map (λ j. j.to.node) parts.jumps.items) s.node (start_kept site s has)

  -- and in call systems what static fields come to
  pub jump_open : (j : Jump) → Has parts.jumps.items j → Has (open_nodes (start_rows parts) parts.jumps.items) j.to.node
  jump_open j has =
      Has-right (start_nodes (start_rows parts)) (map (λ j. j.to.node) parts.jumps.items) j.to.node
      (has.0, map_at (λ (x : Jump). x.to.node) parts.jumps.items has.0 j has.1)

  -- the call system of nodes
  abbrev pub call_node : StartAt → Start Reach
  call_node s = record { base = s.method; node = s.node; weight = reach_domain.one }

  abbrev pub node_calls : List (Rule Reach) → List StartAt → Job Reach
  node_calls rules begun = record { steps = parts.bases.steps; last = parts.bases.last; rules = rules; starts = map call_node begun; settled = true }

  module _ (rules : List (Rule Reach)) (have : HaveCells reach_domain rules (open_nodes (start_rows parts) parts.jumps.items) parts.call_cells.items parts.calls.value.rules)
      (begun : List StartAt) (open_each : (s : StartAt) → Has begun s → Has (open_nodes (start_rows parts) parts.jumps.items) s.node) where
    calls_lead : LeadToKept reach_domain (open_nodes (start_rows parts) parts.jumps.items) [] (map call_node begun)
    calls_lead = record {
      told = record { rule = λ r has. tt; start = λ s has. tt };
      rules = λ r has. cc has.1;
      nodes = λ x has.
          let s = at_map call_node begun has.0 x has.1 in
          subst (λ (y : Start Reach). Has (open_nodes (start_rows parts) parts.jumps.items) y.node) (sym s.2) (open_each s.0 (has.0, s.1));
    }

    pub calls_by_cells : (job : Job Reach) → IsCallJob parts begun job → (n : ℕ) (word : List ℕ)
        → Reaches (node_calls rules begun) n word ↔ Reaches job (call_cell parts n) word
    calls_by_cells job is n word =
        let same = have [] (map call_node begun) calls_lead parts.bases.steps parts.bases.last n word reach_domain.one in
        let few : parts.calls.value.rules ++ [] ≡ job.rules = append-nil parts.calls.value.rules ∙ sym is.rules in
        let starts : map (renamed_start (number_in parts.call_cells.items)) (map call_node begun) ≡ job.starts =
        mapped (renamed_start (number_in parts.call_cells.items)) call_node (call_start parts.call_cells.items) (λ s. refl) begun ∙ sym is.starts in (
          (λ h. same_system (call_cell parts n) word few starts (sym is.steps) (sym is.last) (same.0 (same_system n word (sym (append-nil rules)) refl refl refl h))),
          (λ h. same_system n word (append-nil rules) refl refl refl (same.1 (same_system (call_cell parts n) word (sym few) (sym starts) is.steps is.last h))),
        )

module _ (parts : Parts) (site : ℕ) where
  -- the rules of meets between nodes
  abbrev pub push_node : StoreNodes → StartAt → Rule Reach
  push_node store s = Push store.arg s.node store.field reach_domain.one

  abbrev pub node_pushes_of : Met → List (Rule Reach)
  node_pushes_of m = map (push_node (store_nodes_at parts m.store)) (starts_at parts m.base)

  abbrev pub node_pushes_for : Met → List (Rule Reach)
  node_pushes_for m = if m.object == site then node_pushes_of m else []

  abbrev pub node_pushes : List Met → List (Rule Reach)
  node_pushes mets = flat_map node_pushes_for mets

  -- by cells they are those of tables
  abbrev by_cell : Rule Reach → Rule Reach
  by_cell = renamed (number_in parts.field_cells.items)

  pushes_if : (b : Bool) (m : Met) → map by_cell (if b then node_pushes_of m else []) ≡ (if b then pushes_of parts m else [])
  pushes_if true m =
      mapped by_cell (push_node (store_nodes_at parts m.store)) (push_to parts.field_cells.items (store_nodes_at parts m.store)) (λ s. refl) (starts_at parts m.base)
  pushes_if false m = refl

  pushes_by_cells : (mets : List Met) → map by_cell (node_pushes mets) ≡ pushes_over parts site mets
  pushes_by_cells [] = refl
  pushes_by_cells (m ∷ mets) =
      map-append by_cell (node_pushes_for m) (node_pushes mets) ∙ ap (λ (rs : List (Rule Reach)). rs ++ map by_cell (node_pushes mets)) (pushes_if (m.object == site) m)
      ∙ ap (λ (rs : List (Rule Reach)). pushes_for parts site m ++ rs) (pushes_by_cells mets)

  -- the field system of nodes
  abbrev pub field_node : StartAt → Start Reach
  field_node s = record { base = 0; node = s.node; weight = reach_domain.one }

  abbrev pub node_fields : List (Rule Reach) → List Met → Job Reach
  node_fields rules mets = record { steps = []; last = 0; rules = rules ++ node_pushes mets; starts = map field_node (starts_at parts site); settled = true }

  -- the rules of meets lead to start nodes
  push_kept : (mets : List Met) (r : Rule Reach) → Has (node_pushes mets) r → Has (start_nodes (start_rows parts)) (to_of r)
  push_kept mets r has =
      let m = in_flat_map node_pushes_for mets has.0 r has.1 in
      let there = in_if (m.0.object == site) (node_pushes_of m.0) r m.2 in
      let s = at_map (push_node (store_nodes_at parts m.0.store)) (starts_at parts m.0.base) there.0 r there.1 in
      subst (λ (x : Rule Reach). Has (start_nodes (start_rows parts)) (to_of x)) (sym s.2) (start_kept parts m.0.base s.0 (there.0, s.1))

  fields_lead : (mets : List Met) → LeadToKept reach_domain (start_nodes (start_rows parts)) (node_pushes mets) (map field_node (starts_at parts site))
  fields_lead mets = record {
    told = record { rule = λ r has. tt; start = λ s has. tt };
    rules = push_kept mets;
    nodes = λ x has.
        let s = at_map field_node (starts_at parts site) has.0 x has.1 in
        subst (λ (y : Start Reach). Has (start_nodes (start_rows parts)) y.node) (sym s.2) (start_kept parts site s.0 (has.0, s.1));
  }

  pub fields_by_cells : (rules : List (Rule Reach)) → HaveCells reach_domain rules (start_nodes (start_rows parts)) parts.field_cells.items parts.fields.value.rules
      → (mets : List Met) (job : Job Reach) → IsFieldJob parts site mets job → (n : ℕ) (word : List ℕ)
      → Reaches (node_fields rules mets) n word ↔ Reaches job (field_cell parts n) word
  fields_by_cells rules have mets job is n word =
      let same = have (node_pushes mets) (map field_node (starts_at parts site)) (fields_lead mets) [] 0 n word reach_domain.one in
      let few : parts.fields.value.rules ++ map by_cell (node_pushes mets) ≡ job.rules =
      ap (λ (rs : List (Rule Reach)). parts.fields.value.rules ++ rs) (pushes_by_cells mets) ∙ sym is.rules in
      let starts : map (renamed_start (number_in parts.field_cells.items)) (map field_node (starts_at parts site)) ≡ job.starts =
      mapped (renamed_start (number_in parts.field_cells.items)) field_node (field_start parts.field_cells.items) (λ s. refl) (starts_at parts site) ∙ sym is.starts in (
        (λ h. same_system (field_cell parts n) word few starts (sym is.steps) (sym is.last) (same.0 h)),
        (λ h. same.1 (same_system (field_cell parts n) word (sym few) (sym starts) is.steps is.last h)),
      )
