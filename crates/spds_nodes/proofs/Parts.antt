-- The edges into a node, part by part.
use Rattle.std.proofs.Common.{◌≡◌, ℕ, ◌+◌, ◌↔◌, ◌⊎◌, List, Some, None, refl, sym, ap, subst, ◌∙◌, inl, inr, arith}
use Rattle.std.proofs.lemmas.Option.{same_Some}
use Rattle.link_rules.specs.declared.code.Code.{Code}
use Rattle.link_rules.specs.declared.code.Code.TheVariants as code
use Rattle.link_rules.specs.Linked.{LinkedProgram}
use Rattle.link_sites.specs.declared.place.Place.{Place}
use Rattle.link_sites.specs.Places.{CodeAt, HasCode, before}
use Rattle.spds_rules.specs.declared.edge.Edge.{Edge}
use Rattle.spds_rules.specs.declared.edge.EdgeKind.{EdgeKind}
use Rattle.spds_rules.specs.declared.node.Node.{Node}
use Rattle.spds_rules.specs.declared.node.Var.{Var}
use Rattle.spds_rules.specs.declared.node.Var.TheVariants.{This, Param}
use Rattle.spds_rules.specs.Formals.{IsPosition}
use Rattle.spds_nodes.specs.declared.flows.Source.{Source}
use Rattle.spds_nodes.specs.Added.{IsAdded, Over}
use Rattle.spds_nodes.specs.Codes.{Brings, HandlesAt, PassesAs}
use Rattle.spds_nodes.specs.Into.{IsAssigned, IsBrought, IsFrom, IsHandledIn, IsIntoLocal, IsPassedIn}
use Rattle.spds_nodes.proofs.Joined.{IsAdded-none, IsAdded-same, IsAdded-then}
use Rattle.spds_nodes.proofs.Statements.{CodeAt-one}

-- edges from variables with one fact, and then with another
pub IsFrom-then : (place : Place) (kind : EdgeKind) (to : Node) (P Q R : Var → Type 0) (old mid new : List Edge) → ((v : Var) → P v → Q v → ⊥)
    → ((v : Var) → (P v ⊎ Q v) ↔ R v) → IsAdded (IsFrom place kind to P) old mid → IsAdded (IsFrom place kind to Q) mid new → IsAdded (IsFrom place kind to R) old new
IsFrom-then place kind to P Q R old mid new apart same first second =
    IsAdded-same (λ e. IsFrom place kind to P e ⊎ IsFrom place kind to Q e) (IsFrom place kind to R) old new
    (λ e. (
      (λ either. elim either [
        | inl from ↦ record { holds = (same e.from.var).0 (inl from.holds); at = from.at; is_kind = from.is_kind; ends = from.ends }
        | inr from ↦ record { holds = (same e.from.var).0 (inr from.holds); at = from.at; is_kind = from.is_kind; ends = from.ends }
      ]),
      (λ from. elim ((same e.from.var).1 from.holds) [
        | inl holds ↦ inl (record { holds = holds; at = from.at; is_kind = from.is_kind; ends = from.ends })
        | inr holds ↦ inr (record { holds = holds; at = from.at; is_kind = from.is_kind; ends = from.ends })
      ]),
    ))
    (IsAdded-then (IsFrom place kind to P) (IsFrom place kind to Q) old mid new (λ e a b. apart e.from.var a.holds b.holds) first second)

module _ {A X : Type 0} (Q : A → Type 0) (Gives : A → X → Type 0) where
  -- what the only thing gives
  pub Over-some : (a : A) (old new : List X) → ((b : A) → (Some a ≡ Some b) ↔ Q b) → IsAdded (Gives a) old new → IsAdded (Over Q Gives) old new
  Over-some a old new only added =
      IsAdded-same (Gives a) (Over Q Gives) old new
      (λ x. (
        (λ gives. (a, (only a).0 refl, gives)),
        (λ over. subst (λ b. Gives b x) (sym (same_Some a over.0 ((only over.0).1 over.1))) over.2),
      ))
      added

  -- what no thing gives
  pub Over-none : (old : List X) → ((b : A) → (None ≡ Some b) ↔ Q b) → IsAdded (Over Q Gives) old old
  Over-none old none = IsAdded-none (Over Q Gives) old (λ x over. not over.0 ((none over.0).1 over.1))
    where
      not : (b : A) → None ≡ Some b → ⊥
      not b same = cc (same)

  -- what things give that are named otherwise
  pub Over-same : (P : A → Type 0) (old new : List X) → ((a : A) → P a ↔ Q a) → IsAdded (Over P Gives) old new → IsAdded (Over Q Gives) old new
  Over-same P old new same added =
      IsAdded-same (Over P Gives) (Over Q Gives) old new
      (λ x. ((λ over. (over.0, (same over.0).0 over.1, over.2)), (λ over. (over.0, (same over.0).1 over.1, over.2))))
      added

module _ {X : Type 0} (p : LinkedProgram) (number index : ℕ) (Gives : Code → X → Type 0) where
  -- what the statement at a place gives
  pub HasCode-some : (c : Code) (old new : List X) → CodeAt p number index c → IsAdded (Gives c) old new → IsAdded (λ x. HasCode p number index (λ c. Gives c x)) old new
  HasCode-some c old new there added =
      IsAdded-same (Gives c) (λ x. HasCode p number index (λ c. Gives c x)) old new
      (λ x. (
        (λ gives. record { code = c; at = there; is_so = gives }),
        (λ has. subst (λ d. Gives d x) (CodeAt-one p number index has.code c has.at there) has.is_so),
      ))
      added

  -- what no statement gives
  pub HasCode-none : (old : List X) → ((c : Code) → CodeAt p number index c → ⊥) → IsAdded (λ x. HasCode p number index (λ c. Gives c x)) old old
  HasCode-none old none = IsAdded-none (λ x. HasCode p number index (λ c. Gives c x)) old (λ x has. none has.code has.at)

-- an edge from what a statement brings into a local
pub IsBrought-some : (n : Node) (x : ℕ) (place : Place) (c : Code) (source : Source) (old new : List Edge)
    → ((s : Source) → (Some source ≡ Some s) ↔ Brings c x s.var s.kind)
    → IsAdded (IsFrom place source.kind n (λ v. Some source.var ≡ Some v)) old new → IsAdded (IsBrought n x place c) old new
IsBrought-some n x place c source old new only added =
    IsAdded-same (IsFrom place source.kind n (λ v. Some source.var ≡ Some v)) (IsBrought n x place c) old new
    (λ e. (
      (λ from.
          let var : source.var ≡ e.from.var = same_Some source.var e.from.var from.holds in
          let first : source ≡ record { var = e.from.var; kind = source.kind } = ap (λ (v : Var). record { var = v; kind = source.kind }) var in
          let second : record { var = e.from.var; kind = source.kind } ≡ record { var = e.from.var; kind = e.kind } = ap (λ (k : EdgeKind). record { var = e.from.var; kind = k }) (sym from.is_kind) in
          record { holds = (only (record { var = e.from.var; kind = e.kind })).0 (ap Some (first ∙ second)); at = from.at; is_kind = refl; ends = from.ends }),
      (λ from.
          let same = same_Some source (record { var = e.from.var; kind = e.kind }) ((only (record { var = e.from.var; kind = e.kind })).1 from.holds) in
          record { holds = ap Some (ap (λ (s : Source). s.var) same); at = from.at; is_kind = sym (ap (λ (s : Source). s.kind) same); ends = from.ends }),
    ))
    added

pub IsBrought-none : (n : Node) (x : ℕ) (place : Place) (c : Code) (old : List Edge) → ((s : Source) → (None ≡ Some s) ↔ Brings c x s.var s.kind)
    → IsAdded (IsBrought n x place c) old old
IsBrought-none n x place c old none =
    IsAdded-none (IsBrought n x place c) old (λ e from. not (record { var = e.from.var; kind = e.kind }) ((none (record { var = e.from.var; kind = e.kind })).1 from.holds))
  where
    not : (s : Source) → None ≡ Some s → ⊥
    not s same = cc (same)

-- what the statement behind which the node stands assigns to a local
pub IsIntoLocal-at : (p : LinkedProgram) (n : Node) (x t : ℕ) (old new : List Edge) → t + 1 ≡ n.place.index
    → IsAdded (λ e. HasCode p n.place.method t (λ c. IsAssigned p n x (before n.place.method t) c e)) old new → IsAdded (IsIntoLocal p n x) old new
IsIntoLocal-at p n x t old new behind added =
    IsAdded-same (λ e. HasCode p n.place.method t (λ c. IsAssigned p n x (before n.place.method t) c e)) (IsIntoLocal p n x) old new
    (λ e. (
      (λ has. record { t = t; behind = behind; assigned = has }),
      (λ local.
          let same : local.t ≡ t = omega (arith, local.behind, behind) in
          subst (λ t. HasCode p n.place.method t (λ c. IsAssigned p n x (before n.place.method t) c e)) same local.assigned),
    ))
    added

-- a handler covers some statement
pub some_covered : (p : LinkedProgram) (n : Node) (e : Edge) → IsHandledIn p n e → (t : ℕ) × HandlesAt p n.place.method t n.place.index
some_covered p n e handled = (handled.2.0, handled.2.2.holds.0)

-- what a call passes is a receiver or a parameter
passed_is_position : (c : Code) (v w : Var) → PassesAs c v w → IsPosition w
passed_is_position (code.Call to mode class key receiver args targets) v This h = tt
passed_is_position (code.Call to mode class key receiver args targets) v (Param number) h = tt
passed_is_position (code.Call to mode class key receiver args targets) v _ h = h
passed_is_position _ v w h = absurd h

pub passed_in_position : (p : LinkedProgram) (n : Node) (e : Edge) → IsPassedIn p n e → IsPosition n.var
passed_in_position p n e passed = let holds = passed.1.2.holds in passed_is_position holds.code e.from.var n.var holds.is_so
