-- The bodies of what is linked are bodies as they are read.
use Rattle.std.proofs.Common.{◌≡◌, ◌≢◌, ℕ, zero, suc, ◌⊎◌, Some, None, List, [], ◌∷◌, map, slice_get, sym, ap, ◌∙◌, subst, inl, inr, arith, true≢false, is_some}
use Rattle.std.specs.List.{enumerate_from}
use Rattle.std.proofs.lemmas.Option.{same_Some}
use Rattle.lists.specs.Lists.{Has}
use Rattle.lists.proofs.Places.{slice_get-pushed}
use Rattle.lists.proofs.Joined.{slice_get-appended}
use Rattle.jim_ast.specs.declared.names.NameId.{NameId}
use Rattle.jim_ast.specs.declared.syntax.Body.{Body}
use Rattle.jim_ast.specs.declared.syntax.Class.{Class}
use Rattle.jim_ast.specs.declared.syntax.MethodDecl.{MethodDecl}
use Rattle.jim_ast.specs.declared.syntax.Program.{Program}
use Rattle.jim_ast.specs.declared.syntax.Mode.TheVariants.{Static}
use Rattle.jim_ast.specs.declared.syntax.Stmt.{Stmt}
use Rattle.jim_ast.specs.declared.syntax.Stmt.TheVariants as stmt
use Rattle.link_rules.specs.Classes.{DeclaredClass, DeclaredField, DeclaredMethod, IsCompleted, classes_of, comes, ends, fields_of, fields_in, is_left_out, methods_in, methods_of}
use Rattle.link_rules.specs.Conditions.{IsRead, IsReadBody, IsReadStmt}
use Rattle.link_rules.specs.Keys.{is_static_mode}
use Rattle.link_rules.specs.Root.{initializer_call, main_call, root_of, root_stmts}
use Rattle.link_rules.specs.Statements.{HasBody}
use Rattle.link_rules.specs.World.{IsWorld, World}
use Rattle.link_laws.proofs.Lists.{all_at, at_enumerate, at_map, in_flat_map}

-- a method is one of the class whose number it has
pub record IsMethodOf (classes : List DeclaredClass) (m : DeclaredMethod) : Type 0 where
  pub class : DeclaredClass
  pub there : slice_get classes m.class ≡ Some class
  pub has : Has class.class.methods m.decl

-- a method stands in the class whose number it has
pub method_of : (classes : List DeclaredClass) (m : DeclaredMethod) → Has (methods_of classes) m → IsMethodOf classes m
method_of classes m h =
    let piece = in_flat_map (λ (c : ℕ × DeclaredClass). methods_in c.0 c.1) (enumerate_from 0 classes) h.0 m h.1 in
    let class = at_enumerate 0 classes piece.1.0 piece.0 piece.1.1 in
    let found = at_map _ piece.0.1.class.methods piece.2.0 m piece.2.1 in
    let number : m.class ≡ piece.0.0 = ap (λ (m : DeclaredMethod). m.class) found.2 in
    let decl : m.decl ≡ found.0 = ap (λ (m : DeclaredMethod). m.decl) found.2 in
    let place : piece.1.0 ≡ m.class = omega (arith, class.0, number) in
    record {
      class = piece.0.1;
      there = subst (λ i. slice_get classes i ≡ Some piece.0.1) place class.1;
      has = (piece.2.0, found.1 ∙ ap Some (sym decl));
    }

-- the class of a field is there
pub field_of : (classes : List DeclaredClass) (f : DeclaredField) → Has (fields_of classes) f
    → (class : DeclaredClass) × (slice_get classes f.class ≡ Some class)
field_of classes f h =
    let piece = in_flat_map (λ (c : ℕ × DeclaredClass). fields_in c.0 c.1) (enumerate_from 0 classes) h.0 f h.1 in
    let class = at_enumerate 0 classes piece.1.0 piece.0 piece.1.1 in
    let found = at_map _ piece.0.1.class.fields piece.2.0 f piece.2.1 in
    let number : f.class ≡ piece.0.0 = ap (λ (f : DeclaredField). f.class) found.2 in
    let place : piece.1.0 ≡ f.class = omega (arith, class.0, number) in
    (piece.0.1, subst (λ i. slice_get classes i ≡ Some piece.0.1) place class.1)

-- a class of the completed list was there or is one of those that complete it
from_either : {so_far rest all : List DeclaredClass} → IsCompleted so_far rest all → (c : DeclaredClass) → Has all c → Has so_far c ⊎ Has rest c
from_either ends = λ c h. inl h
from_either (comes {so_far} {rest} {all} {c = d} new more) = λ c h. elim (from_either more c h) [
  | inl a ↦ elim (slice_get-pushed so_far d a.0 c a.1) [ inl b ↦ inl (a.0, b) | inr b ↦ inr (0, ap Some (sym b.1)) ]
  | inr a ↦ inr (suc a.0, a.1)
]
from_either (is_left_out old more) = λ c h. elim (from_either more c h) [ inl a ↦ inl a | inr a ↦ inr (suc a.0, a.1) ]

module _ (input prelude : Program) (entry : List ℕ) (w : World) (is : IsWorld input prelude entry w) (read : IsRead input) (read_too : IsRead prelude) where
  -- the body of a method of a program that is read
  by_program : (program : Program) → IsRead program → (c : DeclaredClass) → Has (classes_of program) c → (m : MethodDecl) (body : Body)
      → Has c.class.methods m → m.body ≡ Some body → IsReadBody body
  by_program program ok c h m body has e =
      let found = at_map _ program.classes h.0 c h.1 in
      let same : c.class ≡ found.0 = ap (λ (c : DeclaredClass). c.class) found.2 in
      ok.bodies found.0 m body (h.0, found.1) (subst (λ (x : Class). Has x.methods m) same has) e

  -- the body of a method
  pub read_method : (m : DeclaredMethod) (body : Body) → Has (methods_of w.classes) m → HasBody m body → IsReadBody body
  read_method m body h e =
      let of = method_of w.classes m h in
      elim (from_either is.order of.class (m.class, of.there)) [
        | inl a ↦ by_program input read of.class a m.decl body of.has e
        | inr a ↦ by_program prelude read_too of.class a m.decl body of.has e
      ]

-- a statement that is another is read as it is
read_as : (a s : Stmt) → Some a ≡ Some s → IsReadStmt a → IsReadStmt s
read_as a s e h = subst IsReadStmt (same_Some a s e) h

-- a static call without a receiver is read so
static_read : is_some {T = NameId} None ≢ is_static_mode Static
static_read e = true≢false (sym e)

-- the statements of the root
root_stmt_read : (initialized : List ℕ) (i : ℕ) (s : Stmt) → slice_get (root_stmts initialized) i ≡ Some s → IsReadStmt s
root_stmt_read initialized zero s e = read_as _ s e tt
root_stmt_read initialized (suc zero) s e = read_as _ s e tt
root_stmt_read initialized (suc (suc zero)) s e = read_as _ s e tt
root_stmt_read initialized (suc (suc (suc i))) s e = elim (slice_get-appended (map initializer_call initialized) (main_call ∷ stmt.Return None ∷ []) i s e) [
  | inl a ↦ let found = at_map initializer_call initialized i s a in read_as (initializer_call found.0) s (ap Some (sym found.2)) static_read
  | inr a ↦ last a.0 a.2
]
  where
    last : (j : ℕ) → slice_get (main_call ∷ stmt.Return None ∷ []) j ≡ Some s → IsReadStmt s
    last zero e = read_as main_call s e static_read
    last (suc zero) e = read_as _ s e tt
    last (suc (suc j)) e = cc

-- the body of the root
pub read_root : (w : World) (initialized : List ℕ) (body : Body) → HasBody (root_of w initialized) body → IsReadBody body
read_root w initialized body e =
    subst IsReadBody (same_Some _ body e) (record {
      stmts = all_at IsReadStmt (root_stmts initialized) (root_stmt_read initialized);
      labels = λ k d below. absurd (omega arith);
    })
