-- The edges that end in a node, by where they come from.
use Rattle.std.specs.Prelude.{◌≡◌, ℕ, ◌+◌, ◌⊎◌}
use Rattle.link_rules.specs.declared.code.Code.{Code}
use Rattle.link_rules.specs.Linked.{LinkedProgram}
use Rattle.link_indexes.specs.declared.method.Place.{Place as Indexed}
use Rattle.link_indexes.specs.Facts.{Calls, StoresStatic as StoresInto}
use Rattle.link_rules.specs.Flow.{IsRaised, IsReturn}
use Rattle.link_indexes.specs.Tables.{GoesOnIn, IsAt, IsInMethod}
use Rattle.link_rules.specs.Accessed.{codes_in}
use Rattle.link_sites.specs.declared.place.Place.{Place}
use Rattle.link_sites.specs.Places.{HasCode, before, in_flight}
use Rattle.spds_rules.specs.declared.edge.Edge.{Edge}
use Rattle.spds_rules.specs.declared.edge.EdgeKind.{EdgeKind}
use Rattle.spds_rules.specs.declared.edge.EdgeKind.TheVariants.{Flow, Call, Return, Jump}
use Rattle.spds_rules.specs.declared.node.Node.{Node}
use Rattle.spds_rules.specs.declared.node.Var.{Var}
use Rattle.spds_rules.specs.declared.node.Var.TheVariants.{Local, Thrown}
use Rattle.spds_rules.specs.declared.reach.Reach.{Reach}
use Rattle.spds_rules.specs.Edges.{IsCaughtAs, IsEdge, IsOfFrame, IsThrownBy, Leaves, LoadsStatic, Returns, StoresStatic}
use Rattle.spds_nodes.specs.Added.{Over}
use Rattle.spds_nodes.specs.Codes.{Brings, HandlesAt, PassesAs, TakesFrom}

-- the edges of the program that end in the node, with back edges where objects are tracked
abbrev pub IsEdgeInto : LinkedProgram → Reach → Node → Edge → Type 0
IsEdgeInto p reach n e = IsEdge p reach e.from e.kind e.to × (e.to ≡ n)

-- an edge of the kind, into the node, from a variable with the fact at the place
pub record IsFrom (place : Place) (kind : EdgeKind) (to : Node) (Holds : Var → Type 0) (e : Edge) : Type 0 where
  pub holds : Holds e.from.var
  pub at : e.from.place ≡ place
  pub is_kind : e.kind ≡ kind
  pub ends : e.to ≡ to

-- from the same variable before the statement at t, which leaves it
abbrev pub IsKeptFrom : LinkedProgram → Node → ℕ → Edge → Type 0
IsKeptFrom p n t = IsFrom (before n.place.method t) Flow n (λ v. HasCode p n.place.method t (λ c. Leaves c n.var) × (v ≡ n.var))

-- from the same variable before each statement that leaves it
abbrev pub IsKept : LinkedProgram → Node → Edge → Type 0
IsKept p n = Over (GoesOnIn (codes_in p) n.place.method n.place.index) (IsKeptFrom p n)

-- from v with an exception in flight at t, into a handler
abbrev pub IsHandledFrom : LinkedProgram → Node → Var → ℕ → Edge → Type 0
IsHandledFrom p n v t = IsFrom (in_flight n.place.method t) Flow n (λ w. HandlesAt p n.place.method t n.place.index × (w ≡ v))

-- from v with an exception in flight at each statement that it may come out of
abbrev pub IsHandled : LinkedProgram → Node → Var → Edge → Type 0
IsHandled p n v = Over (IsInMethod IsRaised (codes_in p) n.place.method) (IsHandledFrom p n v)

-- from what the call at the place passes
abbrev pub IsPassedFrom : LinkedProgram → Node → Indexed → Edge → Type 0
IsPassedFrom p n call = IsFrom (before call.method call.index) (Call (before call.method call.index)) n
    (λ v. HasCode p call.method call.index (λ c. PassesAs c v n.var))

-- from what each call that may run the method passes
abbrev pub IsPassed : LinkedProgram → Node → Edge → Type 0
IsPassed p n = Over (IsAt (Calls n.place.method) (codes_in p)) (IsPassedFrom p n)

-- from what the statement at the place stores into the static field
abbrev pub IsJumpFrom : LinkedProgram → Node → ℕ → Indexed → Edge → Type 0
IsJumpFrom p n field store = IsFrom (before store.method store.index) Jump n
    (λ v. HasCode p store.method store.index (λ c. StoresStatic c v field))

-- from what each store into the static field stores
abbrev pub IsJumpOf : LinkedProgram → Node → ℕ → Edge → Type 0
IsJumpOf p n field = Over (IsAt (StoresInto field) (codes_in p)) (IsJumpFrom p n field)

-- from what the method returns at its statement r, to the call
abbrev pub IsReturnFrom : LinkedProgram → Node → Place → ℕ → ℕ → Edge → Type 0
IsReturnFrom p n call target r = IsFrom (before target r) (Return call) n (λ v. HasCode p target r (λ c. Returns c v))

-- from what the method returns
abbrev pub IsReturnOf : LinkedProgram → Node → Place → ℕ → Edge → Type 0
IsReturnOf p n call target = Over (IsInMethod IsReturn (codes_in p) target) (IsReturnFrom p n call target)

-- from the exception in flight in the method at its statement r, to the call
abbrev pub IsEscapeFrom : Node → Place → ℕ → ℕ → Edge → Type 0
IsEscapeFrom n call target r = IsFrom (in_flight target r) (Return call) n (λ v. v ≡ Thrown)

-- from the exception in flight at each statement of the method that it may come out of
abbrev pub IsEscapeOf : LinkedProgram → Node → Place → ℕ → Edge → Type 0
IsEscapeOf p n call target = Over (IsInMethod IsRaised (codes_in p) target) (IsEscapeFrom n call target)

-- from what the statement c at the place brings into the local x within the frame
abbrev pub IsBrought : Node → ℕ → Place → Code → Edge → Type 0
IsBrought n x from c e = IsFrom from e.kind n (λ v. Brings c x v e.kind) e

-- from the stores into the static field that the statement c loads into the local x
abbrev pub IsJump : LinkedProgram → Node → ℕ → Code → Edge → Type 0
IsJump p n x c = Over (λ field. LoadsStatic c field (Local x)) (IsJumpOf p n)

-- from what the methods return whose result the statement c at the place takes into the local x
abbrev pub IsReturned : LinkedProgram → Node → ℕ → Place → Code → Edge → Type 0
IsReturned p n x from c = Over (TakesFrom c x) (IsReturnOf p n from)

-- from what the statement c at the place assigns to the local x
abbrev pub IsAssigned : LinkedProgram → Node → ℕ → Place → Code → Edge → Type 0
IsAssigned p n x from c e = (IsBrought n x from c e ⊎ IsJump p n x c e) ⊎ IsReturned p n x from c e

-- from what the statement at t, behind which the node stands, assigns to the local x
pub record IsIntoLocal (p : LinkedProgram) (n : Node) (x : ℕ) (e : Edge) : Type 0 where
  pub t : ℕ
  pub behind : t + 1 ≡ n.place.index
  pub assigned : HasCode p n.place.method t (λ c. IsAssigned p n x (before n.place.method t) c e)

-- the same, of the local that the node's variable is
abbrev pub IsFromBehind : LinkedProgram → Node → Edge → Type 0
IsFromBehind p n e = (x : ℕ) × (n.var ≡ Local x) × IsIntoLocal p n x e

-- from what calls pass, where the method begins
abbrev pub IsPassedIn : LinkedProgram → Node → Edge → Type 0
IsPassedIn p n e = (n.place.index ≡ 0) × IsPassed p n e

-- from what a handler finds as the node's variable
abbrev pub IsHandledIn : LinkedProgram → Node → Edge → Type 0
IsHandledIn p n = Over (λ v. IsCaughtAs v n.var) (IsHandled p n)

-- the edges into a node at an unraised place
abbrev pub IsIntoUnraised : LinkedProgram → Node → Edge → Type 0
IsIntoUnraised p n e = ((IsKept p n e ⊎ IsFromBehind p n e) ⊎ IsPassedIn p n e) ⊎ IsHandledIn p n e

-- from what the statement c throws, and from the exceptions that leave the methods which it may run
abbrev pub IsThrown : LinkedProgram → Node → Place → Code → Edge → Type 0
IsThrown p n here c e = IsFrom here Flow n (IsThrownBy c) e ⊎ Over (λ target. Calls target c) (IsEscapeOf p n here) e

-- from what the node's statement puts in flight
abbrev pub IsThrownAt : LinkedProgram → Node → Edge → Type 0
IsThrownAt p n e = HasCode p n.place.method n.place.index (λ c. IsThrown p n (before n.place.method n.place.index) c e)

-- the same, into the exception there
abbrev pub IsThrownIn : LinkedProgram → Node → Edge → Type 0
IsThrownIn p n e = (n.var ≡ Thrown) × IsThrownAt p n e

-- from a variable of the frame, into flight
abbrev pub IsTakenAlong : Node → Edge → Type 0
IsTakenAlong n = IsFrom (before n.place.method n.place.index) Flow n (λ v. IsOfFrame n.var × (v ≡ n.var))

-- the edges into a node at a raised place
abbrev pub IsIntoRaised : LinkedProgram → Node → Edge → Type 0
IsIntoRaised p n e = IsThrownIn p n e ⊎ IsTakenAlong n e
