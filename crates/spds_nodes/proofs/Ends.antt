-- The parts are all edges that end in a node.
use Rattle.std.proofs.Common.{◌≡◌, ℕ, ◌+◌, false, refl, sym, ap, subst, ◌∙◌, inl, inr}
use Rattle.link_rules.specs.declared.code.Code.{Code}
use Rattle.link_rules.specs.Flow.{Handles, Next, IsRaised}
use Rattle.link_rules.specs.Linked.{LinkedMethod, LinkedProgram}
use Rattle.link_rules.specs.WellLinked.{IsInForm}
use Rattle.link_indexes.specs.Facts.{Calls}
use Rattle.link_sites.specs.declared.place.Place.{Place}
use Rattle.link_sites.specs.Places.{CodeAt, before, in_flight}
use Rattle.spds_rules.specs.declared.edge.Edge.{Edge}
use Rattle.spds_rules.specs.declared.edge.EdgeKind.{EdgeKind}
use Rattle.spds_rules.specs.declared.edge.EdgeKind.TheVariants.{Flow, Load, Call, Return, Jump}
use Rattle.spds_rules.specs.declared.node.Node.{Node}
use Rattle.spds_rules.specs.declared.node.Var.{Var}
use Rattle.spds_rules.specs.declared.node.Var.TheVariants.{Local}
use Rattle.spds_rules.specs.declared.reach.Reach.TheVariants.{Plain}
use Rattle.spds_rules.specs.Edges.{Assigns, IsEdge, Leaves, LoadsInto, LoadsStatic}
use Rattle.spds_rules.specs.Nodes.{HasVar, IsNode, at}
use Rattle.spds_nodes.specs.Codes.{Brings, PassesAs}
use Rattle.spds_nodes.specs.Into.{IsEdgeInto, IsFrom, IsFromBehind, IsHandledIn, IsIntoUnraised, IsKept, IsPassedIn}
use Rattle.spds_nodes.proofs.Named.{FitsCode-at}
use Rattle.spds_nodes.proofs.Sources.{HasCode-and, assigned_has, assigned_next, caught_has, in_code, left_has, loaded_has, loaded_next, one_numbered, passed_has, passed_target, returned_has, static_next, stored_has, taken_target}

-- the edge of a kind from a node to another
abbrev pub edge : Node → EdgeKind → Node → Edge
edge from kind to = record { from = from; to = to; kind = kind }

-- an edge by what is known of it
from_is : (place : Place) (kind : EdgeKind) (n : Node) (P : Var → Type 0) (e : Edge) → IsFrom place kind n P e → e ≡ edge (at place e.from.var) kind n
from_is place kind n P e from =
    let first : e ≡ edge (at place e.from.var) e.kind e.to = ap (λ (q : Place). edge (at q e.from.var) e.kind e.to) from.at in
    let second : edge (at place e.from.var) e.kind e.to ≡ edge (at place e.from.var) kind e.to = ap (λ (k : EdgeKind). edge (at place e.from.var) k e.to) from.is_kind in
    let third : edge (at place e.from.var) kind e.to ≡ edge (at place e.from.var) kind n = ap (λ (m : Node). edge (at place e.from.var) kind m) from.ends in
    first ∙ second ∙ third

-- it ends in the node, where it is one of the program
pub edge_into : (p : LinkedProgram) (place : Place) (kind : EdgeKind) (n : Node) (P : Var → Type 0) (e : Edge) → IsFrom place kind n P e
    → IsEdge p Plain (at place e.from.var) kind n → IsEdgeInto p Plain n e
edge_into p place kind n P e from is = subst (IsEdgeInto p Plain n) (sym (from_is place kind n P e from)) (is, refl)

-- a variable before a statement
pub node_at : (p : LinkedProgram) (number index : ℕ) (c : Code) (v : Var) (there : CodeAt p number index c) → HasVar there.method c false v → IsNode p (at (before number index) v)
node_at p number index c v there has = record { method = there.method; there = there.there; code = c; here = there.here; stands = tt; has = has }

module _ (p : LinkedProgram) (form : IsInForm p) (m s : ℕ) (w : Var) (node : IsNode p (at (before m s) w)) (e : Edge) where
  -- over a statement that leaves the variable
  kept_edge : IsKept p (at (before m s) w) e → IsEdgeInto p Plain (at (before m s) w) e
  kept_edge kept =
      let t = kept.0 in
      let from = kept.2 in
      let both = HasCode-and p m t (λ c. Next c t s) (λ c. Leaves c w) (in_code p (λ c. Next c t s) m t kept.1) from.holds.0 in
      let method = one_numbered p m node.method both.at.method node.there both.at.there in
      let has = subst (λ k. HasVar k node.code false w) method node.has in
      let source = node_at p m t both.code w both.at (left_has both.at.method node.code both.code w both.is_so.1 has) in
      let is : IsEdge p Plain (at (before m t) w) Flow (at (before m s) w) = record {
        from = source;
        to = node;
        row = record { same = refl; method = both.at.method; there = both.at.there; code = both.code; here = both.at.here; flows = (both.is_so.0, inl (both.is_so.1, refl)) };
      } in
      edge_into p (before m t) Flow (at (before m s) w) _ e from (subst (λ v. IsEdge p Plain (at (before m t) v) Flow (at (before m s) w)) (sym from.holds.1) is)

  -- from what the statement behind brings within the frame
  brought_edge : (t x : ℕ) (c : Code) (there : CodeAt p m t c) → t + 1 ≡ s → w ≡ Local x → (v : Var) (kind : EdgeKind) → Brings c x v kind
      → IsEdge p Plain (at (before m t) v) kind (at (before m s) w)
  brought_edge t x c there behind local v Flow brings =
      let assigns = subst (Assigns c v) (sym local) brings in
      record {
        from = node_at p m t c v there (assigned_has p there.method c v w (FitsCode-at p m t c form there) assigns);
        to = node;
        row = record {
          same = refl;
          method = there.method;
          there = there.there;
          code = c;
          here = there.here;
          flows = (subst (Next c t) behind (assigned_next c v w t assigns), inr assigns);
        };
      }
  brought_edge t x c there behind local v (Load field) brings =
      let loads = subst (LoadsInto c v field) (sym local) brings in
      record {
        from = node_at p m t c v there (loaded_has p there.method c v field w (FitsCode-at p m t c form there) loads);
        to = node;
        row = record {
          same = refl;
          unraised = (refl, refl);
          loads = record { code = c; at = there; is_so = (loads, subst (Next c t) behind (loaded_next c v field w t loads)) };
        };
      }
  brought_edge t x c there behind local v (Call call) brings = absurd brings
  brought_edge t x c there behind local v (Return call) brings = absurd brings
  brought_edge t x c there behind local v Jump brings = absurd brings

  -- from what the statement behind assigns
  behind_edge : IsFromBehind p (at (before m s) w) e → IsEdgeInto p Plain (at (before m s) w) e
  behind_edge found =
      let x = found.0 in
      let local = found.2 in
      let t = local.t in
      let c = local.assigned.code in
      let there = local.assigned.at in
      elim local.assigned.is_so [
        | inl other ↦ elim other [
          | inl brought ↦
              edge_into p (before m t) e.kind (at (before m s) w) _ e brought (brought_edge t x c there local.behind found.1 e.from.var e.kind brought.holds)
          | inr jump ↦
              let field = jump.0 in
              let from = jump.2.2 in
              let store = from.holds in
              let loads = subst (LoadsStatic c field) (sym found.1) jump.1 in
              edge_into p (before jump.2.0.method jump.2.0.index) Jump (at (before m s) w) _ e from (record {
                from = node_at p _ _ store.code e.from.var store.at (stored_has p store.at.method store.code e.from.var field (FitsCode-at p _ _ store.code form store.at) store.is_so);
                to = node;
                row = record {
                  field = field;
                  load = t;
                  unraised = (refl, refl);
                  stores = store;
                  loads = record { code = c; at = there; is_so = (loads, subst (Next c t) local.behind (static_next c field w t loads)) };
                };
              })
        ]
        | inr returned ↦
            let u = returned.0 in
            let r = returned.2.0 in
            let from = returned.2.2 in
            let gives = from.holds in
            let target = taken_target p m t x u c there returned.1 in
            edge_into p (before u r) (Return (before m t)) (at (before m s) w) _ e from (record {
              from = node_at p u r gives.code e.from.var gives.at (returned_has p gives.at.method gives.code e.from.var (FitsCode-at p u r gives.code form gives.at) gives.is_so);
              to = node;
              row = inl (record {
                unraised = refl;
                target = target.0;
                gives = inl (record { returned = gives; unraised = refl; goes_on = ap (before m) (sym local.behind); local = x; taken = target.1; is_local = found.1 });
              });
            })
      ]

  -- from what calls pass
  passed_edge : IsPassedIn p (at (before m s) w) e → IsEdgeInto p Plain (at (before m s) w) e
  passed_edge passed =
      let call = passed.1.0 in
      let from = passed.1.2 in
      let both = HasCode-and p call.method call.index (Calls m) (λ c. PassesAs c e.from.var w) (in_code p (Calls m) call.method call.index passed.1.1) from.holds in
      let target = passed_target p call.method call.index m e.from.var w both.code both.at both.is_so.0 both.is_so.1 in
      edge_into p (before call.method call.index) (Call (before call.method call.index)) (at (before m s) w) _ e from (record {
        from = node_at p call.method call.index both.code e.from.var both.at (passed_has p both.at.method both.code e.from.var w (FitsCode-at p call.method call.index both.code form both.at) both.is_so.1);
        to = node;
        row = record { from = refl; unraised = refl; target = target.0; begins = ap (before m) passed.0; passes = target.1 };
      })

  -- into a handler
  handled_edge : IsHandledIn p (at (before m s) w) e → IsEdgeInto p Plain (at (before m s) w) e
  handled_edge handled =
      let v = handled.0 in
      let t = handled.2.0 in
      let from = handled.2.2 in
      let raised = in_code p IsRaised m t handled.2.1 in
      let handles = from.holds.0 in
      let same = one_numbered p m node.method raised.at.method node.there raised.at.there in
      let caught = one_numbered p m handles.method raised.at.method handles.there raised.at.there in
      let is : IsEdge p Plain (at (in_flight m t) v) Flow (at (before m s) w) = record {
        from = record {
          method = raised.at.method;
          there = raised.at.there;
          code = raised.code;
          here = raised.at.here;
          stands = raised.is_so;
          has = caught_has raised.at.method node.code raised.code v w handled.1 (subst (λ k. HasVar k node.code false w) same node.has);
        };
        to = node;
        row = record {
          same = refl;
          method = raised.at.method;
          there = raised.at.there;
          code = raised.code;
          here = raised.at.here;
          flows = (subst (λ (k : LinkedMethod). Handles k.catches t s) caught handles.handles, handled.1);
        };
      } in
      edge_into p (in_flight m t) Flow (at (before m s) w) _ e from (subst (λ v. IsEdge p Plain (at (in_flight m t) v) Flow (at (before m s) w)) (sym from.holds.1) is)

  -- each part
  pub unraised_edge : IsIntoUnraised p (at (before m s) w) e → IsEdgeInto p Plain (at (before m s) w) e
  unraised_edge parts = elim parts [
    | inl more ↦ elim more [
      | inl first ↦ elim first [ inl kept ↦ kept_edge kept | inr behind ↦ behind_edge behind ]
      | inr passed ↦ passed_edge passed
    ]
    | inr handled ↦ handled_edge handled
  ]
