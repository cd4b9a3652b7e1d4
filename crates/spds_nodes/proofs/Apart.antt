-- No edge is of two rows of the table.
use Rattle.std.proofs.Common.{◌≡◌, ℕ, ◌⊎◌, false, true, refl, ap, subst, ◌∙◌, inl, inr}
use Rattle.link_rules.specs.declared.code.Code.{Code}
use Rattle.link_rules.specs.Linked.{LinkedProgram}
use Rattle.link_sites.specs.declared.place.Place.{Place}
use Rattle.link_sites.specs.Places.{CodeAt, before}
use Rattle.spds_rules.specs.declared.edge.Edge.{Edge}
use Rattle.spds_rules.specs.declared.edge.EdgeKind.TheVariants.{Flow, Call}
use Rattle.spds_rules.specs.declared.node.Node.{Node}
use Rattle.spds_rules.specs.Edges.{IsOfFrame, Leaves}
use Rattle.spds_nodes.specs.Codes.{Brings}
use Rattle.spds_nodes.specs.Into.{IsAssigned, IsBrought, IsFromBehind, IsHandledIn, IsJump, IsKept, IsPassedIn, IsReturned, IsTakenAlong, IsThrownIn}
use Rattle.spds_nodes.proofs.Brought.{Brings-local}
use Rattle.spds_nodes.proofs.Froms.{one_index}
use Rattle.spds_nodes.proofs.Statements.{CodeAt-one}

-- a place isn't raised and unraised
pub one_state : (e : Edge) → e.from.place.raised ≡ false → e.from.place.raised ≡ true → ⊥
one_state e x y = cc (x, y)

module _ (p : LinkedProgram) (n : Node) (x : ℕ) (from : Place) (c : Code) (e : Edge) where
  -- within a frame no static field is passed through, and no call
  pub brought_no_jump : IsBrought n x from c e → IsJump p n x c e → ⊥
  brought_no_jump a b = subst (Brings c x e.from.var) b.2.2.is_kind a.holds

  pub brought_no_return : (IsBrought n x from c e ⊎ IsJump p n x c e) → IsReturned p n x from c e → ⊥
  brought_no_return either b = elim either [
    | inl a ↦ subst (Brings c x e.from.var) b.2.2.is_kind a.holds
    | inr a ↦ cc (a.2.2.is_kind, b.2.2.is_kind)
  ]

  -- what is assigned isn't passed, and stands at no raised place
  pub assigned_no_call : IsAssigned p n x from c e → (call : Place) → e.kind ≡ Call call → ⊥
  assigned_no_call either call is = elim either [
    | inl other ↦ elim other [
      | inl a ↦ subst (Brings c x e.from.var) is a.holds
      | inr a ↦ cc (a.2.2.is_kind, is)
    ]
    | inr a ↦ cc (a.2.2.is_kind, is)
  ]

  pub assigned_unraised : from.raised ≡ false → IsAssigned p n x from c e → e.from.place.raised ≡ false
  assigned_unraised unraised either = elim either [
    | inl other ↦ elim other [
      | inl a ↦ ap (λ (q : Place). q.raised) a.at ∙ unraised
      | inr a ↦ ap (λ (q : Place). q.raised) a.2.2.at
    ]
    | inr a ↦ ap (λ (q : Place). q.raised) a.2.2.at
  ]

  -- what is assigned within the frame is to a local that the statement doesn't leave
  pub assigned_no_flow : IsAssigned p n x from c e → e.kind ≡ Flow → IsBrought n x from c e
  assigned_no_flow either is = elim either [
    | inl other ↦ elim other [
      | inl a ↦ a
      | inr a ↦ absurd (let kind = a.2.2.is_kind in cc (kind, is))
    ]
    | inr a ↦ absurd (let kind = a.2.2.is_kind in cc (kind, is))
  ]

module _ (p : LinkedProgram) (n : Node) (e : Edge) where
  pub kept_no_behind : IsKept p n e → IsFromBehind p n e → ⊥
  kept_no_behind kept behind =
      let there = kept.2.holds.0 in
      let local = behind.2 in
      let other = local.assigned in
      let brought = assigned_no_flow p n behind.0 (before n.place.method local.t) other.code e other.is_so kept.2.is_kind in
      let same_index = one_index e.from.place n.place.method n.place.method local.t kept.0 brought.at kept.2.at in
      let other_at = subst (λ t. CodeAt p n.place.method t other.code) same_index other.at in
      let same = CodeAt-one p n.place.method kept.0 other.code there.code other_at there.at in
      let leaves = subst (Leaves there.code) behind.1 there.is_so in
      leaves (Brings-local there.code behind.0 e.from.var e.kind (subst (λ d. Brings d behind.0 e.from.var e.kind) same brought.holds))

  pub no_passed : (IsKept p n e ⊎ IsFromBehind p n e) → IsPassedIn p n e → ⊥
  no_passed either passed = elim either [
    | inl kept ↦ let flow = kept.2.is_kind in let call = passed.1.2.is_kind in cc (flow, call)
    | inr behind ↦ assigned_no_call p n behind.0 (before n.place.method behind.2.t) behind.2.assigned.code e behind.2.assigned.is_so _ passed.1.2.is_kind
  ]

  pub no_handled : ((IsKept p n e ⊎ IsFromBehind p n e) ⊎ IsPassedIn p n e) → IsHandledIn p n e → ⊥
  no_handled either handled =
      let raised = ap (λ (q : Place). q.raised) handled.2.2.at in
      elim either [
        | inl other ↦ elim other [
          | inl kept ↦ one_state e (ap (λ (q : Place). q.raised) kept.2.at) raised
          | inr behind ↦ one_state e (assigned_unraised p n behind.0 (before n.place.method behind.2.t) behind.2.assigned.code e refl behind.2.assigned.is_so) raised
        ]
        | inr passed ↦ one_state e (ap (λ (q : Place). q.raised) passed.1.2.at) raised
      ]

  -- the exception in flight is no variable of a frame
  pub thrown_not_along : IsThrownIn p n e → IsTakenAlong n e → ⊥
  thrown_not_along thrown along = subst IsOfFrame thrown.0 along.holds.0
