-- Each edge that ends in a node is of one of the parts.
use Rattle.std.proofs.Common.{◌≡◌, ℕ, ◌+◌, Bool, Some, false, true, refl, sym, ap, subst, ◌∙◌, inl, inr}
use Rattle.link_rules.specs.declared.code.Code.{Code}
use Rattle.link_rules.specs.Flow.{Next, IsRaised, IsReturn}
use Rattle.link_rules.specs.Linked.{LinkedProgram}
use Rattle.link_rules.specs.WellLinked.{HasTarget}
use Rattle.link_indexes.specs.Facts.{Calls, StoresStatic as StoresInto}
use Rattle.link_sites.specs.declared.place.Place.{Place}
use Rattle.link_sites.specs.Places.{CodeAt, HasCode, before, in_flight}
use Rattle.spds_rules.specs.declared.edge.Edge.{Edge}
use Rattle.spds_rules.specs.declared.edge.EdgeKind.{EdgeKind}
use Rattle.spds_rules.specs.declared.edge.EdgeKind.TheVariants.{Flow, Load, Call, Return, Jump}
use Rattle.spds_rules.specs.declared.node.Node.{Node}
use Rattle.spds_rules.specs.declared.node.Var.{Var}
use Rattle.spds_rules.specs.declared.node.Var.TheVariants.{Local}
use Rattle.spds_rules.specs.declared.reach.Reach.TheVariants.{Plain}
use Rattle.spds_rules.specs.Edges.{Assigns, IsFlow, IsJump, IsLoad, IsPassed, IsReturned, IsRow, Leaves, LoadsInto, LoadsStatic, Passes, Returns, StoresStatic}
use Rattle.spds_rules.specs.Nodes.{IsNode, at}
use Rattle.spds_nodes.specs.Codes.{HandlesAt, PassesAs, TakesFrom}
use Rattle.spds_nodes.specs.Into.{IsAssigned, IsIntoUnraised}
use Rattle.spds_nodes.proofs.Ends.{edge}
use Rattle.spds_nodes.proofs.Sources.{HasCode-weaker, code_in, loaded_at, assigned_at, returned_listed, static_at, stored_listed}

-- the same statement, of a method that has the number too
moved : (p : LinkedProgram) (a b index : ℕ) (F : Code → Type 0) → a ≡ b → HasCode p a index F → HasCode p b index F
moved p a b index F same has = subst (λ number. HasCode p number index F) same has

-- the call of a target, and what it passes
pub target_calls : (p : LinkedProgram) (number index target : ℕ) → HasTarget p number index target → HasCode p number index (Calls target)
target_calls p number index target found = record { code = _; at = record { method = found.method; there = found.there; here = found.call }; is_so = found.has }

target_passes : (p : LinkedProgram) (number index target : ℕ) (v w : Var) (found : HasTarget p number index target) → Passes found.receiver found.args v w
    → HasCode p number index (λ c. PassesAs c v w)
target_passes p number index target v w found passes = record { code = _; at = record { method = found.method; there = found.there; here = found.call }; is_so = passes }

target_takes : (p : LinkedProgram) (number index target x : ℕ) (found : HasTarget p number index target) → found.to ≡ Some x
    → HasCode p number index (λ c. TakesFrom c x target)
target_takes p number index target x found taken = record { code = _; at = record { method = found.method; there = found.there; here = found.call }; is_so = (taken, found.has) }

module _ (p : LinkedProgram) (m s : ℕ) (w : Var) where
  -- from what the statement behind assigns
  behind_part : (e : Edge) (x t : ℕ) → w ≡ Local x → t + 1 ≡ s → HasCode p m t (λ c. IsAssigned p (at (before m s) w) x (before m t) c e)
      → IsIntoUnraised p (at (before m s) w) e
  behind_part e x t local behind assigned = inl (inl (inr (x, local, record { t = t; behind = behind; assigned = assigned })))

  -- within the frame
  flow_part : (number index : ℕ) (raised : Bool) (v : Var) → IsNode p (at (record { method = number; index = index; raised = raised }) v)
      → IsFlow p (at (record { method = number; index = index; raised = raised }) v) (at (before m s) w)
      → IsIntoUnraised p (at (before m s) w) (edge (at (record { method = number; index = index; raised = raised }) v) Flow (at (before m s) w))
  flow_part number index false v node row =
      let there : CodeAt p number index row.code = record { method = row.method; there = row.there; here = row.here } in
      let place : before number index ≡ before m index = ap (λ (k : ℕ). before k index) (sym row.same) in
      elim row.flows.1 [
        | inl leaves ↦
            let next : HasCode p number index (λ c. Next c index s) = record { code = row.code; at = there; is_so = row.flows.0 } in
            let left : HasCode p number index (λ c. Leaves c w) = record { code = row.code; at = there; is_so = subst (Leaves row.code) (sym leaves.1) leaves.0 } in
            inl (inl (inl (
              index,
              code_in p (λ c. Next c index s) m index (moved p number m index (λ c. Next c index s) (sym row.same) next),
              record { holds = (moved p number m index (λ c. Leaves c w) (sym row.same) left, sym leaves.1); at = place; is_kind = refl; ends = refl },
            )))
        | inr assigns ↦
            let to = assigned_at row.code v w index s assigns row.flows.0 in
            let e = edge (at (before number index) v) Flow (at (before m s) w) in
            behind_part e to.0 index to.1 to.2
            (moved p number m index (λ c. IsAssigned p (at (before m s) w) to.0 (before m index) c e) (sym row.same)
            (record { code = row.code; at = there; is_so = inl (inl (record { holds = subst (Assigns row.code v) to.1 assigns; at = place; is_kind = refl; ends = refl })) }))
      ]
  flow_part number index true v node row =
      let place : in_flight number index ≡ in_flight m index = ap (λ (k : ℕ). in_flight k index) (sym row.same) in
      let raised : HasCode p number index IsRaised = record { code = node.code; at = record { method = node.method; there = node.there; here = node.here }; is_so = node.stands } in
      let handles : HandlesAt p number index s = record { method = row.method; there = row.there; handles = row.flows.0 } in
      inr (
        v,
        row.flows.1,
        (
          index,
          code_in p IsRaised m index (moved p number m index IsRaised (sym row.same) raised),
          record { holds = (subst (λ k. HandlesAt p k index s) (sym row.same) handles, refl); at = place; is_kind = refl; ends = refl },
        ),
      )

  -- from what is loaded from
  load_part : (number index : ℕ) (raised : Bool) (v : Var) (field : ℕ) → IsLoad p (at (record { method = number; index = index; raised = raised }) v) field (at (before m s) w)
      → IsIntoUnraised p (at (before m s) w) (edge (at (record { method = number; index = index; raised = raised }) v) (Load field) (at (before m s) w))
  load_part number index raised v field row =
      let c = row.loads.code in
      let to = loaded_at c v field w index s row.loads.is_so.0 row.loads.is_so.1 in
      let e = edge (at (record { method = number; index = index; raised = raised }) v) (Load field) (at (before m s) w) in
      let first : record { method = number; index = index; raised = raised } ≡ before number index = ap (λ (b : Bool). record { method = number; index = index; raised = b }) row.unraised.0 in
      let place : record { method = number; index = index; raised = raised } ≡ before m index = first ∙ ap (λ (k : ℕ). before k index) (sym row.same) in
      behind_part e to.0 index to.1 to.2
      (moved p number m index (λ c. IsAssigned p (at (before m s) w) to.0 (before m index) c e) (sym row.same)
      (record { code = c; at = row.loads.at; is_so = inl (inl (record { holds = subst (LoadsInto c v field) to.1 row.loads.is_so.0; at = place; is_kind = refl; ends = refl })) }))

  -- from what calls pass
  passed_part : (a : Node) (call : Place) → IsPassed p a call (at (before m s) w) → IsIntoUnraised p (at (before m s) w) (edge a (Call call) (at (before m s) w))
  passed_part a call row =
      let place : call ≡ before call.method call.index = ap (λ (b : Bool). record { method = call.method; index = call.index; raised = b }) row.unraised in
      inl (inr (
        ap (λ (q : Place). q.index) row.begins,
        (
          record { method = call.method; index = call.index },
          code_in p (Calls m) call.method call.index (target_calls p call.method call.index m row.target),
          record { holds = target_passes p call.method call.index m a.var w row.target row.passes; at = row.from ∙ place; is_kind = ap Call place; ends = refl },
        ),
      ))

  -- from what methods return
  returned_part : (a : Node) (call : Place) → IsReturned p a call (at (before m s) w) → IsIntoUnraised p (at (before m s) w) (edge a (Return call) (at (before m s) w))
  returned_part a call row = elim row.gives [
    | inl result ↦
        let e = edge a (Return call) (at (before m s) w) in
        let call_place : call ≡ before call.method call.index = ap (λ (b : Bool). record { method = call.method; index = call.index; raised = b }) row.unraised in
        let same : call.method ≡ m = sym (ap (λ (q : Place). q.method) result.goes_on) in
        let place : a.place ≡ before a.place.method a.place.index = ap (λ (b : Bool). record { method = a.place.method; index = a.place.index; raised = b }) result.unraised in
        let takes = target_takes p call.method call.index a.place.method result.local row.target result.taken in
        let here : before call.method call.index ≡ before m call.index = ap (λ (k : ℕ). before k call.index) same in
        behind_part e result.local call.index result.is_local (sym (ap (λ (q : Place). q.index) result.goes_on))
        (moved p call.method m call.index (λ c. IsAssigned p (at (before m s) w) result.local (before m call.index) c e) same
        (HasCode-weaker p call.method call.index (λ c. TakesFrom c result.local a.place.method) (λ c. IsAssigned p (at (before m s) w) result.local (before m call.index) c e)
        (λ c taken. inr (
          a.place.method,
          taken,
          (
            a.place.index,
            code_in p IsReturn a.place.method a.place.index (HasCode-weaker p a.place.method a.place.index (λ c. Returns c a.var) IsReturn (λ c. returned_listed c a.var) result.returned),
            record { holds = result.returned; at = place; is_kind = ap Return (call_place ∙ here); ends = refl },
          ),
        ))
        takes))
    | inr escape ↦ absurd (cc (ap (λ (q : Place). q.raised) escape.at_call))
  ]

  -- through a static field
  jump_part : (a : Node) → IsJump p a (at (before m s) w) → IsIntoUnraised p (at (before m s) w) (edge a Jump (at (before m s) w))
  jump_part a row =
      let e = edge a Jump (at (before m s) w) in
      let c = row.loads.code in
      let to = static_at c row.field w row.load s row.loads.is_so.0 row.loads.is_so.1 in
      let place : a.place ≡ before a.place.method a.place.index = ap (λ (b : Bool). record { method = a.place.method; index = a.place.index; raised = b }) row.unraised.0 in
      behind_part e to.0 row.load to.1 to.2 (record {
        code = c;
        at = row.loads.at;
        is_so = inl (inr (
          row.field,
          subst (LoadsStatic c row.field) to.1 row.loads.is_so.0,
          (
            record { method = a.place.method; index = a.place.index },
            code_in p (StoresInto row.field) a.place.method a.place.index
                (HasCode-weaker p a.place.method a.place.index (λ c. StoresStatic c a.var row.field) (StoresInto row.field) (λ c. stored_listed c a.var row.field) row.stores),
            record { holds = row.stores; at = place; is_kind = refl; ends = refl },
          ),
        ));
      })

  -- each row
  pub row_part : (a : Node) (kind : EdgeKind) → IsNode p a → IsRow p Plain a kind (at (before m s) w) → IsIntoUnraised p (at (before m s) w) (edge a kind (at (before m s) w))
  row_part a Flow node row = flow_part a.place.method a.place.index a.place.raised a.var node row
  row_part a (Load field) node row = load_part a.place.method a.place.index a.place.raised a.var field row
  row_part a (Call call) node row = passed_part a call row
  row_part a (Return call) node row = elim row [ inl returned ↦ returned_part a call returned | inr none ↦ absurd none ]
  row_part a Jump node row = jump_part a row
