-- The edges that end at a raised place, and all edges that end in a node.
use Rattle.std.proofs.Common.{◌≡◌, ℕ, ◌↔◌, Bool, false, true, refl, sym, ap, subst, ◌∙◌, inl, inr}
use Rattle.link_rules.specs.Linked.{LinkedProgram}
use Rattle.link_rules.specs.WellLinked.{IsInForm}
use Rattle.link_rules.specs.Flow.{IsRaised}
use Rattle.link_sites.specs.declared.place.Place.{Place}
use Rattle.link_sites.specs.Places.{CodeAt, HasCode, before, in_flight}
use Rattle.spds_rules.specs.declared.edge.Edge.{Edge}
use Rattle.spds_rules.specs.declared.edge.EdgeKind.{EdgeKind}
use Rattle.spds_rules.specs.declared.edge.EdgeKind.TheVariants.{Flow, Load, Call, Return, Jump}
use Rattle.spds_rules.specs.declared.node.Node.{Node}
use Rattle.spds_rules.specs.declared.node.Var.{Var}
use Rattle.spds_rules.specs.declared.reach.Reach.TheVariants.{Plain}
use Rattle.spds_rules.specs.Edges.{IsEdge, IsFlow, IsOfFrame, IsReturned, IsRow}
use Rattle.spds_rules.specs.Nodes.{IsNode, MayStand, at}
use Rattle.spds_nodes.specs.Into.{IsEdgeInto, IsIntoRaised, IsIntoUnraised, IsTakenAlong, IsThrownIn}
use Rattle.spds_nodes.proofs.Complete.{row_part, target_calls}
use Rattle.spds_nodes.proofs.Ends.{edge, edge_into, node_at, unraised_edge}
use Rattle.spds_nodes.proofs.Named.{FitsCode-at}
use Rattle.spds_nodes.proofs.Sources.{called_target, code_in, frame_raised, in_code, thrown_has}

module _ (p : LinkedProgram) (form : IsInForm p) (m s : ℕ) (w : Var) (node : IsNode p (at (in_flight m s) w)) (e : Edge) where
  -- from what the statement puts in flight
  thrown_edge : IsThrownIn p (at (in_flight m s) w) e → IsEdgeInto p Plain (at (in_flight m s) w) e
  thrown_edge thrown =
      let c = thrown.1.code in
      let there = thrown.1.at in
      elim thrown.1.is_so [
        | inl from ↦
            edge_into p (before m s) Flow (at (in_flight m s) w) _ e from (record {
              from = node_at p m s c e.from.var there (thrown_has p there.method c e.from.var (FitsCode-at p m s c form there) from.holds);
              to = node;
              row = record { same = refl; method = there.method; there = there.there; code = c; here = there.here; flows = (refl, inr (from.holds, thrown.0)) };
            })
        | inr escaped ↦
            let u = escaped.0 in
            let r = escaped.2.0 in
            let from = escaped.2.2 in
            let raised = in_code p IsRaised u r escaped.2.1 in
            edge_into p (in_flight u r) (Return (before m s)) (at (in_flight m s) w) _ e from
            (subst (λ v. IsEdge p Plain (at (in_flight u r) v) (Return (before m s)) (at (in_flight m s) w)) (sym from.holds) (record {
              from = record { method = raised.at.method; there = raised.at.there; code = raised.code; here = raised.at.here; stands = raised.is_so; has = tt };
              to = node;
              row = inl (record {
                unraised = refl;
                target = called_target p m s u c there escaped.1;
                gives = inr (record { raised = refl; at_call = refl; thrown = (refl, thrown.0) });
              });
            }))
      ]

  -- from the same variable of the frame
  along_edge : IsTakenAlong (at (in_flight m s) w) e → IsEdgeInto p Plain (at (in_flight m s) w) e
  along_edge from =
      let there : CodeAt p m s node.code = record { method = node.method; there = node.there; here = node.here } in
      let is : IsEdge p Plain (at (before m s) w) Flow (at (in_flight m s) w) = record {
        from = node_at p m s node.code w there (frame_raised node.method node.code node.code w from.holds.0 node.has);
        to = node;
        row = record { same = refl; method = node.method; there = node.there; code = node.code; here = node.here; flows = (refl, inl (from.holds.0, refl)) };
      } in
      edge_into p (before m s) Flow (at (in_flight m s) w) _ e from (subst (λ v. IsEdge p Plain (at (before m s) v) Flow (at (in_flight m s) w)) (sym from.holds.1) is)

  -- each part
  raised_edge : IsIntoRaised p (at (in_flight m s) w) e → IsEdgeInto p Plain (at (in_flight m s) w) e
  raised_edge parts = elim parts [ inl thrown ↦ thrown_edge thrown | inr along ↦ along_edge along ]

module _ (p : LinkedProgram) (m s : ℕ) (w : Var) where
  -- within the frame
  into_flight : (number index : ℕ) (raised : Bool) (v : Var) → IsFlow p (at (record { method = number; index = index; raised = raised }) v) (at (in_flight m s) w)
      → IsIntoRaised p (at (in_flight m s) w) (edge (at (record { method = number; index = index; raised = raised }) v) Flow (at (in_flight m s) w))
  into_flight number index false v row =
      let first : before number index ≡ before m index = ap (λ (k : ℕ). before k index) (sym row.same) in
      let place : before number index ≡ before m s = first ∙ ap (before m) (sym row.flows.0) in
      let there : CodeAt p number index row.code = record { method = row.method; there = row.there; here = row.here } in
      let here : CodeAt p m s row.code = subst (λ k. CodeAt p m k row.code) (sym row.flows.0) (subst (λ k. CodeAt p k index row.code) (sym row.same) there) in
      elim row.flows.1 [
        | inl along ↦ inr (record { holds = (subst IsOfFrame (sym along.1) along.0, sym along.1); at = place; is_kind = refl; ends = refl })
        | inr thrown ↦ inl (thrown.1, record { code = row.code; at = here; is_so = inl (record { holds = thrown.0; at = place; is_kind = refl; ends = refl }) })
      ]
  into_flight number index true v row = absurd row.flows

  -- out of a method that is called
  escape_part : (a : Node) (call : Place) → IsNode p a → IsReturned p a call (at (in_flight m s) w) → IsIntoRaised p (at (in_flight m s) w) (edge a (Return call) (at (in_flight m s) w))
  escape_part a call node row = elim row.gives [
    | inl result ↦ absurd (cc (ap (λ (q : Place). q.raised) result.goes_on))
    | inr escape ↦
        let same : call.method ≡ m = sym (ap (λ (q : Place). q.method) escape.at_call) in
        let index : call.index ≡ s = sym (ap (λ (q : Place). q.index) escape.at_call) in
        let unraised : call ≡ before call.method call.index = ap (λ (b : Bool). record { method = call.method; index = call.index; raised = b }) row.unraised in
        let here : before call.method call.index ≡ before m s = ap (λ (k : ℕ). before k call.index) same ∙ ap (before m) index in
        let place : a.place ≡ in_flight a.place.method a.place.index = ap (λ (b : Bool). record { method = a.place.method; index = a.place.index; raised = b }) escape.raised in
        let calls = target_calls p call.method call.index a.place.method row.target in
        let raised : HasCode p a.place.method a.place.index IsRaised =
        record { code = node.code; at = record { method = node.method; there = node.there; here = node.here }; is_so = subst (MayStand node.code) escape.raised node.stands } in
        let at_call : CodeAt p m s calls.code = subst (λ k. CodeAt p m k calls.code) index (subst (λ k. CodeAt p k call.index calls.code) same calls.at) in
        inl (
          escape.thrown.1,
          record {
            code = calls.code;
            at = at_call;
            is_so = inr (
              a.place.method,
              calls.is_so,
              (
                a.place.index,
                code_in p IsRaised a.place.method a.place.index raised,
                record { holds = escape.thrown.0; at = place; is_kind = ap Return (unraised ∙ here); ends = refl },
              ),
            );
          },
        )
  ]

  -- each row
  raised_part : (a : Node) (kind : EdgeKind) → IsNode p a → IsRow p Plain a kind (at (in_flight m s) w) → IsIntoRaised p (at (in_flight m s) w) (edge a kind (at (in_flight m s) w))
  raised_part a Flow node row = into_flight a.place.method a.place.index a.place.raised a.var row
  raised_part a (Load field) node row = absurd (cc (row.unraised.1))
  raised_part a (Call call) node row = absurd (cc (ap (λ (q : Place). q.raised) row.begins))
  raised_part a (Return call) node row = elim row [ inl returned ↦ escape_part a call node returned | inr none ↦ absurd none ]
  raised_part a Jump node row = absurd (cc (row.unraised.1))

-- an edge that ends in the node
edge_parts : (p : LinkedProgram) (n : Node) (Parts : Edge → Type 0) → ((a : Node) (kind : EdgeKind) → IsNode p a → IsRow p Plain a kind n → Parts (edge a kind n))
    → (e : Edge) → IsEdgeInto p Plain n e → Parts e
edge_parts p n Parts part e ends =
    let is = subst (IsEdge p Plain e.from e.kind) ends.1 ends.0 in
    let same : edge e.from e.kind n ≡ e = ap (edge e.from e.kind) (sym ends.1) in
    subst Parts same (part e.from e.kind is.from is.row)

-- the node by its parts
node_is : (n : Node) (b : Bool) → n.place.raised ≡ b → at (record { method = n.place.method; index = n.place.index; raised = b }) n.var ≡ n
node_is n b state = ap (λ (c : Bool). at (record { method = n.place.method; index = n.place.index; raised = c }) n.var) (sym state)

-- the parts are the edges that end in the node
pub unraised_parts : (p : LinkedProgram) (n : Node) → IsInForm p → IsNode p n → n.place.raised ≡ false → (e : Edge) → IsIntoUnraised p n e ↔ IsEdgeInto p Plain n e
unraised_parts p n form node state =
    subst (λ k. IsNode p k → (e : Edge) → IsIntoUnraised p k e ↔ IsEdgeInto p Plain k e) (node_is n false state)
    (λ there e. (
      unraised_edge p form n.place.method n.place.index n.var there e,
      edge_parts p (at (before n.place.method n.place.index) n.var) (IsIntoUnraised p (at (before n.place.method n.place.index) n.var))
          (row_part p n.place.method n.place.index n.var) e,
    ))
    node

pub raised_parts : (p : LinkedProgram) (n : Node) → IsInForm p → IsNode p n → n.place.raised ≡ true → (e : Edge) → IsIntoRaised p n e ↔ IsEdgeInto p Plain n e
raised_parts p n form node state =
    subst (λ k. IsNode p k → (e : Edge) → IsIntoRaised p k e ↔ IsEdgeInto p Plain k e) (node_is n true state)
    (λ there e. (
      raised_edge p form n.place.method n.place.index n.var there e,
      edge_parts p (at (in_flight n.place.method n.place.index) n.var) (IsIntoRaised p (at (in_flight n.place.method n.place.index) n.var))
          (raised_part p n.place.method n.place.index n.var) e,
    ))
    node
