-- What is known of a method's statements, when one more is looked at.
use Rattle.std.proofs.Common.{◌≡◌, ℕ, ◌⊎◌, ◌++◌, Option, None, Some, List, [], ◌∷◌, refl, sym, ap, subst, inl, inr}
use Rattle.std.specs.Prelude.{◌↔◌, IsSomeAnd, OnOk, Result, Ok, Err}
use Rattle.lists.specs.Lists.{Has}
use Rattle.lists.proofs.Joined.{Has-either, Has-left, Has-right}
use Rattle.jim_ast.specs.declared.names.NameId.{NameId}
use Rattle.jim_ast.specs.declared.syntax.Stmt.{Stmt}
use Rattle.link_rules.specs.Classes.{DeclaredClass, IsNamed}
use Rattle.link_rules.specs.Names.{text_of}
use Rattle.link_rules.specs.World.{World}
use Rattle.link_faults.specs.declared.callees.Callee.{Callee}
use Rattle.link_faults.specs.declared.parts.Called.{Called}
use Rattle.link_faults.specs.declared.site.Site.{Site}
use Rattle.link_faults.specs.AtSite.{HasTargetHere, IsSite, Keeps, names_of, world_of}
use Rattle.link_faults.specs.Callees.{IsCalleeIf}
use Rattle.link_faults.specs.Progress.{AsksForClass, AsksForName}
use Rattle.link_faults.specs.Parts.{plain_call, seen_call}
use Rattle.link_faults.specs.Sites.{RunsRow}
use Rattle.link_faults.proofs.Named.{LooksUp, only_named, named}
use Rattle.link_faults.proofs.Placed.{runs_row, site_call, site_callee}
use Rattle.link_faults.proofs.StmtParts.{Has-one, and_some}

-- what is in a list with more behind it
pub grows : {X : Type 0} (old more new : List X) (P : X → Type 0) → new ≡ old ++ more → ((x : X) → Has more x ↔ P x) → (x : X) → Has new x ↔ (Has old x ⊎ P x)
grows {X} old more new P is says x = (
  λ (h : Has new x). elim (Has-either old more x (subst (λ (xs : List X). Has xs x) is h)) [ inl a ↦ inl a | inr b ↦ inr ((says x).0 b) ],
  λ h. subst (λ (xs : List X). Has xs x) (sym is) (elim h [ inl a ↦ Has-left old more x a | inr p ↦ Has-right old more x ((says x).1 p) ]),
)

-- nothing more
pub stays : {X : Type 0} (old : List X) (P : X → Type 0) → ((x : X) → P x → ⊥) → (x : X) → Has old x ↔ (Has old x ⊎ P x)
stays old P none x = (λ h. inl h, λ h. elim h [ inl a ↦ a | inr p ↦ absurd (none x p) ])

-- the class that was found, put last
pub named_last : (classes : List DeclaredClass) (text : List ℕ) (n : ℕ) → LooksUp classes text (Some n) → (k : ℕ) → Has (n ∷ []) k ↔ IsNamed classes text k
named_last classes text n says k = (
  λ h. subst (IsNamed classes text) (sym (Has-one n k h)) (named classes text n says),
  λ h. let same = only_named classes text n says k h in (0, ap Some same),
)

-- the class that a statement asks for, by its name
pub asks_by : (w : World) (names : List (List ℕ)) (s : Stmt) (o : Option NameId) (name : NameId) → ((class : NameId) → (o ≡ Some class) ↔ AsksForName s class) → o ≡ Some name
    → (class : ℕ) → IsNamed w.classes (text_of names name) class ↔ AsksForClass w names s class
asks_by w names s o name says is class = (
  λ h. (name, (says name).0 is, h),
  λ (h : AsksForClass w names s class). let other = (says h.0).1 h.1 in let same : h.0 ≡ name = cc (other, is) in subst (λ n. IsNamed w.classes (text_of names n) class) same h.2,
)

pub asks_none : (w : World) (names : List (List ℕ)) (s : Stmt) (o : Option NameId) → ((class : NameId) → (o ≡ Some class) ↔ AsksForName s class) → o ≡ None
    → (class : ℕ) → AsksForClass w names s class → ⊥
asks_none w names s o says is class h = let other = (says h.0).1 h.1 in cc (other, is)

-- the rows of a site's callee are its targets, unless a rule takes them
module _ (x : Site) (s : IsSite x) (k : Callee) (is : x.callee ≡ Some k) where
  has_call : (o : Option Called) → x.call ≡ o → (c : Called) × (x.call ≡ Some c)
  has_call (Some c) at = (c, at)
  has_call None at = let none = subst (λ (o : Option Called). IsCalleeIf (world_of x) (names_of x) o x.callee) at s.callee in cc (none, is)

  pub targets_by : Keeps x → (row : ℕ) → Has k.rows.items row ↔ HasTargetHere x row
  targets_by keeps row =
      let c = has_call x.call refl in
      let callee = site_callee x s c.0 k c.1 is in
      let call = site_call x s c.0 c.1 in
      let runs = runs_row (world_of x) (names_of x) (seen_call c.0) k callee row in (
        λ h. (and_some (plain_call x.stmt.now) (λ c. RunsRow (world_of x) (names_of x) c row) (seen_call c.0) call (runs.0 h), keeps),
        λ (h : HasTargetHere x row). runs.1 (subst (λ o. IsSomeAnd o (λ c. RunsRow (world_of x) (names_of x) c row)) call h.0),
      )

-- what is said of an outcome that is good
pub on_ok : {T E P Q : Type 0} (r : Result T E) → (P → Q) → OnOk r P → OnOk r Q
on_ok (Ok v) then h = then h
on_ok (Err e) then h = tt

-- lists that have one more fact's elements, by facts that are one
pub both_ways : {X : Type 0} (old new : List X) (P Q : X → Type 0) → ((x : X) → P x ↔ Q x) → ((x : X) → Has new x ↔ (Has old x ⊎ P x)) → (x : X) → Has new x ↔ (Has old x ⊎ Q x)
both_ways {X} old new P Q same says x = (
  λ h. elim ((says x).0 h) [ inl a ↦ inl a | inr p ↦ inr ((same x).0 p) ],
  λ h. (says x).1 (elim h [ inl a ↦ inl a | inr q ↦ inr ((same x).1 q) ]),
)
