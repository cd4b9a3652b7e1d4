-- Each method of a linked program, with what it was linked from.
use Rattle.std.proofs.Common.{◌≡◌, ℕ, ◌⊎◌, Some, List, length, slice_get, refl, sym, subst, inl, inr, ◌+◌, ap, arith, length-append, ◌∙◌, [], ◌∷◌, ◌++◌}
use Rattle.lists.specs.Lists.{Has}
use Rattle.lists.proofs.Places.{slice_get-append_left, slice_get-push, slice_get-pushed}
use Rattle.jim_ast.specs.declared.syntax.Body.{Body}
use Rattle.link_rules.specs.declared.refusal.LinkKind.{LinkKind}
use Rattle.link_rules.specs.Classes.{DeclaredMethod, methods_of}
use Rattle.link_rules.specs.Conditions.{IsReadBody}
use Rattle.link_rules.specs.Linked.{IsLinkOf, IsLinkedMethod, IsLinkedRow, LinkedMethod, LinkedProgram}
use Rattle.link_rules.specs.Reach.{RefusesAt}
use Rattle.link_rules.specs.Refusals.{IsReachedAs, within}
use Rattle.link_rules.specs.Root.{root_number, root_of}
use Rattle.link_rules.specs.Statements.{HasBody}
use Rattle.link_rules.specs.World.{AreRows, World}
use Rattle.link_laws.proofs.Lists.{each_right}
use Rattle.link_laws.proofs.Read.{read_root}

-- a method of the linked program comes from a declared one, which is read as it is and which no rule refuses
pub record Stands (w : World) (p : LinkedProgram) (m : DeclaredMethod) (l : LinkedMethod) : Type 0 where
  pub text : List ℕ
  pub linked : IsLinkedMethod w p text m l
  pub read : IsReadBody linked.body
  pub allowed : (index : ℕ) (kind : LinkKind) → RefusesAt w m index kind → ⊥

-- a linked program of a world whose bodies are read as they are
pub record IsMade (w : World) (p : LinkedProgram) : Type 0 where
  pub link : IsLinkOf w p
  pub rows : AreRows w.classes w.rows
  pub reads : (m : DeclaredMethod) (body : Body) → Has (methods_of w.classes) m → HasBody m body → IsReadBody body

module _ (w : World) (p : LinkedProgram) (made : IsMade w p) where
  -- a method that is reached stands so
  stands : (number : ℕ) (text : List ℕ) (m : DeclaredMethod) (l : LinkedMethod) (linked : IsLinkedMethod w p text m l) → IsReadBody linked.body
      → IsReachedAs w number m → Stands w p m l
  stands number text m l linked read reached =
      record { text = text; linked = linked; read = read; allowed = λ index kind refuses. made.link.accepted (within number index kind) (m, reached, refuses) }

  -- the method of a row that is kept, with what was linked from it
  pub stands_row : (number row : ℕ) (l : LinkedMethod) → slice_get p.method_rows number ≡ Some row → IsLinkedRow w p row l
      → (m : DeclaredMethod) × (slice_get (methods_of w.classes) row ≡ Some m) × Stands w p m l
  stands_row number row l there of =
      let reached = (made.link.methods.reached row).0 (number, there) in
      (of.method, of.there, stands row _ of.method l of.linked (made.reads of.method of.linked.body (row, of.there) of.linked.in_body) (inl (reached.1, of.there)))

  -- the root, with what was linked as it
  pub stands_root : Stands w p (root_of w made.link.initialized) made.link.methods.root
  stands_root =
      let classes = made.link.initialized in
      let linked = made.link.methods.is_root in
      stands (root_number w) _ (root_of w classes) made.link.methods.root linked (read_root w classes linked.body linked.in_body)
      (inr (refl, classes, made.link.are_initialized, refl))

  -- the root is the one method without a row
  pub methods_many : length p.method_rows + 1 ≡ length p.methods
  methods_many =
      let rows = made.link.methods.each.as_many in
      let all = ap (length {A = LinkedMethod}) made.link.methods.all ∙ length-append made.link.methods.before (made.link.methods.root ∷ []) in
      omega (arith, rows, all)

  -- the method of a row stands at its number
  pub row_at : (number : ℕ) (l : LinkedMethod) → slice_get made.link.methods.before number ≡ Some l → slice_get p.methods number ≡ Some l
  row_at number l e =
      let methods = made.link.methods in
      subst (λ ms. slice_get ms number ≡ Some l) (sym methods.all) (slice_get-append_left methods.before (methods.root ∷ []) number l e)

  -- the root stands behind the methods of rows
  pub root_at : slice_get p.methods (length p.method_rows) ≡ Some made.link.methods.root
  root_at =
      let methods = made.link.methods in
      let last = subst (λ n. slice_get (methods.before ++ methods.root ∷ []) n ≡ Some methods.root) (sym methods.each.as_many) (slice_get-push methods.before methods.root) in
      subst (λ ms. slice_get ms (length p.method_rows) ≡ Some methods.root) (sym methods.all) last

  -- a method of the linked program is that of a row or the root
  pub method_at : (number : ℕ) (l : LinkedMethod) → slice_get p.methods number ≡ Some l
      → (slice_get made.link.methods.before number ≡ Some l) ⊎ ((number ≡ length made.link.methods.before) × (l ≡ made.link.methods.root))
  method_at number l e =
      let methods = made.link.methods in
      slice_get-pushed methods.before methods.root number l (subst (λ ms. slice_get ms number ≡ Some l) methods.all e)

  -- each method, with what was linked as it
  pub stands_at : (number : ℕ) (l : LinkedMethod) → slice_get p.methods number ≡ Some l → (m : DeclaredMethod) × Stands w p m l
  stands_at number l e = elim (method_at number l e) [
    | inl a ↦
        let row = each_right (IsLinkedRow w p) p.method_rows made.link.methods.before number l made.link.methods.each a in
        let m = stands_row number row.0 l row.1 row.2 in
        (m.0, m.2)
    | inr a ↦ (root_of w made.link.initialized, subst (Stands w p (root_of w made.link.initialized)) (sym a.1) stands_root)
  ]
