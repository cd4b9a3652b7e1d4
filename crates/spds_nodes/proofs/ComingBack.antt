-- The back edges that end in a node.
use Rattle.std.proofs.Common.{◌≡◌, ℕ, ◌+◌, ◌↔◌, ◌⊎◌, Bool, List, [], Option, Some, false, true, length, refl, sym, ap, subst, ◌∙◌, inl, inr, arith}
use Rattle.lists.specs.Lists.{Has, AreAll}
use Rattle.lists.proofs.Places.{slice_get-below}
use Rattle.link_rules.specs.declared.code.Arg.{Arg}
use Rattle.link_rules.specs.declared.code.Arg.TheVariants as arg
use Rattle.link_rules.specs.declared.code.Code.{Code}
use Rattle.link_rules.specs.declared.code.Code.TheVariants as code
use Rattle.link_rules.specs.Linked.{LinkedMethod, LinkedProgram}
use Rattle.link_rules.specs.WellLinked.{HasTarget}
use Rattle.link_indexes.specs.Facts.{Calls}
use Rattle.link_sites.specs.declared.place.Place.{Place}
use Rattle.link_sites.specs.Places.{CodeAt, HasCode, before}
use Rattle.spds_rules.specs.declared.edge.Edge.{Edge}
use Rattle.spds_rules.specs.declared.edge.EdgeKind.{EdgeKind}
use Rattle.spds_rules.specs.declared.edge.EdgeKind.TheVariants.{Flow, Load, Call, Return, Jump}
use Rattle.spds_rules.specs.declared.node.Node.{Node}
use Rattle.spds_rules.specs.declared.node.Var.{Var}
use Rattle.spds_rules.specs.declared.node.Var.TheVariants.{Local, This, Param}
use Rattle.spds_rules.specs.declared.reach.Reach.TheVariants.{Plain, Tracked}
use Rattle.spds_rules.specs.Edges.{IsBack, IsBackByReturn, IsBackInFlight, IsEdge, IsReturned, IsRow, Passes}
use Rattle.spds_rules.specs.Formals.{HasFormal, IsPosition, formal}
use Rattle.spds_rules.specs.Nodes.{IsNode, MayStand, arg_var, at}
use Rattle.spds_rules.proofs.Formals.{formal_apart}
use Rattle.spds_nodes.specs.Added.{IsAdded, Over}
use Rattle.spds_nodes.specs.Backs.{IsBackAs, IsBackBy, IsBackFromAt, IsBackInto, IsBackOf, IsCallAt, IsKeptBy, IsLeft, IsParam, IsParamAt, IsReceiver, PassesBack, left_place}
use Rattle.spds_nodes.specs.Into.{IsEdgeInto}
use Rattle.spds_nodes.proofs.Ends.{edge}
use Rattle.spds_nodes.proofs.Joined.{AreAll-added, AreAll-same, IsAdded-none, IsAdded-same, IsAdded-then}
use Rattle.spds_nodes.proofs.Sources.{code_in, in_code, one_numbered}
use Rattle.spds_nodes.proofs.Statements.{CodeAt-one}
use Rattle.spds_rules.proofs.Passing.{passed_at_position}

pub PassesBack-position : (c : Code) (raised : Bool) (x : ℕ) (v : Var) → PassesBack c raised x v → IsPosition v
PassesBack-position (code.Call to mode class key receiver args targets) raised x v h = passed_at_position receiver args (Local x) v h.1
PassesBack-position _ raised x v h = absurd h

-- from one statement of a method, and out of one method
pub back_index : (p : LinkedProgram) (n : Node) (call : Place) (target : ℕ) (v : Var) (a b : ℕ) (e : Edge) → IsBackFromAt p n call target v a e
    → IsBackFromAt p n call target v b e → a ≡ b
back_index p n call target v a b e x y = let first = x.at in let second = y.at in sym (ap (λ (q : Place). q.index) first) ∙ ap (λ (q : Place). q.index) second

pub back_method : (p : LinkedProgram) (n : Node) (call : Place) (P Q : Var → Type 0) (a b : ℕ) (e : Edge) → IsBackOf p n call P a e → IsBackOf p n call Q b e → a ≡ b
back_method p n call P Q a b e x y =
    let first = x.2.1.2.2.at in
    let second = y.2.1.2.2.at in
    sym (ap (λ (q : Place). q.method) first) ∙ ap (λ (q : Place). q.method) second

-- and from the formal of one position
pub back_position : (p : LinkedProgram) (n : Node) (call : Place) (target : ℕ) (a b : Var) (e : Edge) → IsBackAs p n call target a e → IsBackAs p n call target b e
    → a ≡ b
back_position p n call target a b e x y =
    let first = x.1.1 in
    let second = y.1.1 in
    let same : first.method ≡ second.method = one_numbered p target first.method second.method first.there second.there in
    let var : x.1.0 ≡ y.1.0 = sym x.1.2.2.holds.1 ∙ y.1.2.2.holds.1 in
    formal_apart first.method.code a b x.0 y.0 (sym first.is ∙ var ∙ second.is ∙ ap (λ (m : LinkedMethod). formal m.code b) (sym same))

-- a call that passes the local back, with a target
target_passes_back : (p : LinkedProgram) (number index target : ℕ) (raised : Bool) (x : ℕ) (v : Var) (c : Code) → CodeAt p number index c → Calls target c
    → PassesBack c raised x v → (found : HasTarget p number index target) × Passes found.receiver found.args (Local x) v × IsKeptBy raised found.to x
target_passes_back p number index target raised x v (code.Call to mode class key receiver args targets) at calls h = (
  record { method = at.method; there = at.there; to = to; mode = mode; class = class; key = key; receiver = receiver; args = args; targets = targets; call = at.here; has = calls },
  h.1,
  h.0,
)
target_passes_back p number index target raised x v _ at calls h = absurd h

-- where a back edge comes to
comes : (p : LinkedProgram) (a : Node) (number t : ℕ) (to : Option ℕ) (x : ℕ) (m s : ℕ) (raised : Bool) (w : Var) → m ≡ number → a.place.raised ≡ raised
    → IsCallAt raised t s → IsKeptBy raised to x → HasCode p a.place.method a.place.index (IsLeft raised)
    → IsBackByReturn p a (before number t) to x (at (left_place m s raised) w) ⊎ IsBackInFlight a (before number t) (at (left_place m s raised) w)
comes p a number t to x m s false w same state called kept left =
    inl (record { returned = left; unraised = state; goes_on = ap (λ k. before k s) same ∙ ap (before number) (sym called); left = kept })
comes p a number t to x m s true w same state called kept left =
    inr (record { raised = state; at_call = ap (λ k. left_place k s true) same ∙ ap (λ k. left_place number k true) (sym called) })

-- a part is a back edge
pub back_of : (p : LinkedProgram) (n : Node) (e : Edge) → IsBackInto p n e → IsNode p e.from × (e.to ≡ n) × ((call : Place) × (e.kind ≡ Return call) × IsBack p e.from call n)
back_of p n e into =
    let x = into.0 in
    let t = into.2.0 in
    let has = into.2.2 in
    let target = has.is_so.0 in
    let position = has.is_so.2.0 in
    let has_formal = has.is_so.2.2.1.1 in
    let r = has.is_so.2.2.1.2.0 in
    let left = has.is_so.2.2.1.2.1 in
    let from = has.is_so.2.2.1.2.2 in
    let place : e.from.place ≡ left_place target r n.place.raised = from.at in
    let method : e.from.place.method ≡ target = ap (λ (q : Place). q.method) place in
    let here : at (left_place target r n.place.raised) e.from.var ≡ e.from = ap (λ (q : Place). at q e.from.var) (sym place) in
    let found = target_passes_back p n.place.method t target n.place.raised x position has.code has.at has.is_so.1 has.is_so.2.1 in
    let left_here : HasCode p target r (IsLeft n.place.raised) = in_code p (IsLeft n.place.raised) target r left in
    let formal_is = subst (λ w. HasFormal p target position w) (sym from.holds.1) has_formal in
    let row : IsBack p (at (left_place target r n.place.raised) e.from.var) (before n.place.method t) n = record {
      unraised = refl;
      target = found.0;
      local = x;
      is_local = into.1;
      position = position;
      passes = found.1;
      has_formal = formal_is;
      comes =
          comes p (at (left_place target r n.place.raised) e.from.var) n.place.method t found.0.to x n.place.method n.place.index n.place.raised n.var refl refl into.2.1
          found.2 left_here;
    } in (
      subst (IsNode p) here from.holds.0,
      from.ends,
      (before n.place.method t, from.is_kind, subst (λ a. IsBack p a (before n.place.method t) n) here row),
    )

-- a back edge is of a part
part : (p : LinkedProgram) (a : Node) (call : Place) (m s : ℕ) (raised : Bool) (w : Var) (b : Node) (back : IsBack p a call b) → IsNode p a → w ≡ Local back.local → call.method ≡ m
    → a.place.raised ≡ raised → IsCallAt raised call.index s → IsKeptBy raised back.target.to back.local → HasCode p a.place.method a.place.index (IsLeft raised)
    → IsBackInto p (at (left_place m s raised) w) (edge a (Return call) (at (left_place m s raised) w))
part p a call m s raised w b back node local method state called kept left =
    let place : a.place ≡ left_place a.place.method a.place.index raised = ap (λ (r : Bool). left_place a.place.method a.place.index r) state in
    let first : call ≡ before call.method call.index = ap (λ (r : Bool). left_place call.method call.index r) back.unraised in
    let call_is : call ≡ before m call.index = first ∙ ap (λ k. before k call.index) method in
    let number = subst (λ k. CodeAt p k call.index (code.Call back.target.to back.target.mode back.target.class back.target.key back.target.receiver back.target.args back.target.targets)) method
    (record { method = back.target.method; there = back.target.there; here = back.target.call }) in (
      back.local,
      local,
      (
        call.index,
        called,
        record {
          code = _;
          at = number;
          is_so = (
            a.place.method,
            back.target.has,
            (
              back.position,
              (kept, back.passes),
              (
                passed_at_position back.target.receiver back.target.args (Local back.local) back.position back.passes,
                (
                  a.var,
                  back.has_formal,
                  (
                    a.place.index,
                    code_in p (IsLeft raised) a.place.method a.place.index left,
                    record { holds = (subst (λ q. IsNode p (at q a.var)) place node, refl); at = place; is_kind = ap Return call_is; ends = refl },
                  ),
                ),
              ),
            ),
          );
        },
      ),
    )

-- the node by the parts of its place
node_is : (n : Node) (m s : ℕ) (raised : Bool) → n.place ≡ left_place m s raised → at (left_place m s raised) n.var ≡ n
node_is n m s raised is = ap (λ (q : Place). at q n.var) (sym is)

pub into_of : (p : LinkedProgram) (a : Node) (call : Place) (n : Node) → IsNode p a → IsBack p a call n → IsBackInto p n (edge a (Return call) n)
into_of p a call n node back = elim back.comes [
  | inl return ↦
      subst (λ k. IsBackInto p k (edge a (Return call) k)) (node_is n call.method (call.index + 1) false return.goes_on)
      (part p a call call.method (call.index + 1) false n.var n back node back.is_local refl return.unraised refl return.left return.returned)
  | inr flight ↦
      let raised : HasCode p a.place.method a.place.index (IsLeft true) =
      record { code = node.code; at = record { method = node.method; there = node.there; here = node.here }; is_so = subst (MayStand node.code) flight.raised node.stands } in
      subst (λ k. IsBackInto p k (edge a (Return call) k)) (node_is n call.method call.index true flight.at_call)
      (part p a call call.method call.index true n.var n back node back.is_local refl flight.raised refl tt raised)
]

-- a call takes its result into one local
one_result : (p : LinkedProgram) (number index a b : ℕ) (x : HasTarget p number index a) (y : HasTarget p number index b) → x.to ≡ y.to
one_result p number index a b x y =
    let same = CodeAt-one p number index (code.Call x.to x.mode x.class x.key x.receiver x.args x.targets) (code.Call y.to y.mode y.class y.key y.receiver y.args y.targets)
    (record { method = x.method; there = x.there; here = x.call }) (record { method = y.method; there = y.there; here = y.call }) in
    cc (same)

-- what comes back isn't what is returned or thrown
returned_no_back : (p : LinkedProgram) (a : Node) (call : Place) (b : Node) → IsReturned p a call b → IsBack p a call b → ⊥
returned_no_back p a call b returned back = elim returned.gives [
  | inl result ↦ elim back.comes [
    | inl return ↦
        let locals : Local result.local ≡ Local back.local = sym result.is_local ∙ back.is_local in
        let same : result.local ≡ back.local = cc (locals) in
        return.left (one_result p call.method call.index a.place.method a.place.method back.target returned.target ∙ result.taken ∙ ap Some same)
    | inr flight ↦
        let first = ap (λ (q : Place). q.raised) result.goes_on in
        let second = ap (λ (q : Place). q.raised) flight.at_call in
        cc (first, second)
  ]
  | inr escape ↦ let thrown = escape.thrown.1 in let local = back.is_local in cc (thrown, local)
]

module _ (p : LinkedProgram) (n : Node) (e : Edge) where
  -- no edge is both
  pub plain_no_back : IsEdgeInto p Plain n e → IsBackInto p n e → ⊥
  plain_no_back plain into =
      let back = back_of p n e into in
      let call = back.2.0 in
      let row = subst (λ k. IsRow p Plain e.from k n) back.2.1 (subst (IsRow p Plain e.from e.kind) back.1 plain.0.row) in
      elim row [ inl returned ↦ returned_no_back p e.from call n returned back.2.2 | inr none ↦ none ]

-- the rows, where objects are tracked, are those that there always are, and back edges
tracked_row : (p : LinkedProgram) (a : Node) (kind : EdgeKind) (b : Node) → IsRow p Plain a kind b → IsRow p Tracked a kind b
tracked_row p a Flow b row = row
tracked_row p a (Load field) b row = row
tracked_row p a (Call call) b row = row
tracked_row p a (Return call) b row = elim row [ inl returned ↦ inl returned | inr none ↦ absurd none ]
tracked_row p a Jump b row = row

row_either : (p : LinkedProgram) (a : Node) (kind : EdgeKind) (b : Node) → IsRow p Tracked a kind b
    → IsRow p Plain a kind b ⊎ ((call : Place) × (kind ≡ Return call) × IsBack p a call b)
row_either p a Flow b row = inl row
row_either p a (Load field) b row = inl row
row_either p a (Call call) b row = inl row
row_either p a (Return call) b row = elim row [ inl returned ↦ inl (inl returned) | inr back ↦ inr (call, refl, back) ]
row_either p a Jump b row = inl row

-- all edges where objects are tracked
pub tracked_parts : (p : LinkedProgram) (n : Node) → IsNode p n → (e : Edge) → (IsEdgeInto p Plain n e ⊎ IsBackInto p n e) ↔ IsEdgeInto p Tracked n e
tracked_parts p n node e = (
  (λ either. elim either [
    | inl plain ↦ (record { from = plain.0.from; to = plain.0.to; row = tracked_row p e.from e.kind e.to plain.0.row }, plain.1)
    | inr into ↦
        let back = back_of p n e into in
        let row : IsRow p Tracked e.from e.kind n = subst (λ k. IsRow p Tracked e.from k n) (sym back.2.1) (inr back.2.2) in
        let is : IsEdge p Tracked e.from e.kind n = record { from = back.0; to = node; row = row } in
        (subst (IsEdge p Tracked e.from e.kind) (sym back.1) is, back.1)
  ]),
  (λ ends. elim (row_either p e.from e.kind e.to ends.0.row) [
    | inl row ↦ inl (record { from = ends.0.from; to = ends.0.to; row = row }, ends.1)
    | inr back ↦
        let is = subst (IsBack p e.from back.0) ends.1 back.2 in
        let kind : edge e.from (Return back.0) n ≡ edge e.from e.kind n = ap (λ (k : EdgeKind). edge e.from k n) (sym back.1) in
        let to : edge e.from e.kind n ≡ e = ap (edge e.from e.kind) (sym ends.1) in
        inr (subst (IsBackInto p n) (kind ∙ to) (into_of p e.from back.0 n ends.0.from is))
  ]),
)

-- a variable is one parameter
pub one_param : (args : List Arg) (x a b : ℕ) (v : Var) → IsParamAt args x a v → IsParamAt args x b v → a ≡ b
one_param args x a b v first second = let same : Param a ≡ Param b = sym first.1 ∙ second.1 in cc (same)

-- the positions at which a call passes a local are the receiver and parameters
receiver_no_param : (receiver : Option ℕ) (args : List Arg) (x : ℕ) (v : Var) → IsReceiver receiver x v → IsParam args x v → ⊥
receiver_no_param receiver args x v this param = let same : This ≡ Param param.0 = sym this.1 ∙ param.1.1 in cc (same)

pub is_local_arg : (a : Arg) (x : ℕ) → arg_var a ≡ Some (Local x) → a ≡ arg.Local x
is_local_arg (arg.Local y) x h = let same : y ≡ x = cc (h) in ap arg.Local same
is_local_arg arg.Number x h = absurd (cc (h))
is_local_arg arg.Null x h = absurd (cc (h))
is_local_arg (arg.Text number) x h = absurd (cc (h))
is_local_arg (arg.Class number) x h = absurd (cc (h))

passes_either : (receiver : Option ℕ) (args : List Arg) (x : ℕ) (v : Var) → Passes receiver args (Local x) v → IsReceiver receiver x v ⊎ IsParam args x v
passes_either receiver args x This h = let same : h.0 ≡ x = cc (h.2) in inl (h.1 ∙ ap Some same, refl)
passes_either receiver args x (Param number) h = inr (number, (h.1 ∙ ap Some (is_local_arg h.0 x h.2), refl))
passes_either receiver args x _ h = absurd h

passes_from : (receiver : Option ℕ) (args : List Arg) (x : ℕ) (v : Var) → IsReceiver receiver x v ⊎ IsParam args x v → Passes receiver args (Local x) v
passes_from receiver args x v either = elim either [
  | inl this ↦ subst (Passes receiver args (Local x)) (sym this.1) (x, this.0, refl)
  | inr param ↦ subst (Passes receiver args (Local x)) (sym param.1.1) (arg.Local x, param.1.0, refl)
]

pub positions_are : (receiver : Option ℕ) (args : List Arg) (x : ℕ) (old mid new : List Var) → old ≡ [] → IsAdded (IsReceiver receiver x) old mid
    → IsAdded (IsParam args x) mid new → AreAll (Passes receiver args (Local x)) new
positions_are receiver args x old mid new empty first second =
    AreAll-same (λ v. IsReceiver receiver x v ⊎ IsParam args x v) (Passes receiver args (Local x)) new
    (λ v. (passes_from receiver args x v, passes_either receiver args x v))
    (AreAll-added (λ v. IsReceiver receiver x v ⊎ IsParam args x v) old new empty
    (IsAdded-then (IsReceiver receiver x) (IsParam args x) old mid new (receiver_no_param receiver args x) first second))

-- what comes back by a statement, over lists of its targets and of the positions
pub IsBackBy-same : (p : LinkedProgram) (n : Node) (x : ℕ) (call : Place) (c : Code) (targets : List ℕ) (positions : List Var) (old new : List Edge)
    → ((t : ℕ) → Has targets t ↔ Calls t c) → AreAll (PassesBack c n.place.raised x) positions
    → IsAdded (Over (Has targets) (IsBackOf p n call (Has positions))) old new → IsAdded (IsBackBy p n x call c) old new
IsBackBy-same p n x call c targets positions old new of_targets of_positions added =
    IsAdded-same (Over (Has targets) (IsBackOf p n call (Has positions))) (IsBackBy p n x call c) old new
    (λ e. (
      (λ over. (over.0, (of_targets over.0).0 over.1, (over.2.0, of_positions.each over.2.0 over.2.1, over.2.2))),
      (λ over. (over.0, (of_targets over.0).1 over.1, (over.2.0, of_positions.all over.2.0 over.2.1, over.2.2))),
    ))
    added

pub IsBackBy-none : (p : LinkedProgram) (n : Node) (x : ℕ) (call : Place) (c : Code) (positions : List Var) (old : List Edge) → length positions ≡ 0
    → AreAll (PassesBack c n.place.raised x) positions → IsAdded (IsBackBy p n x call c) old old
IsBackBy-none p n x call c positions old empty of_positions =
    IsAdded-none (IsBackBy p n x call c) old
    (λ e over.
    let has = of_positions.all over.2.0 over.2.1 in
    omega (arith, slice_get-below positions has.0 over.2.0 has.1, empty))
