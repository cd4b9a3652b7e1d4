-- The parts of a statement fit the method and the program.
use Rattle.std.proofs.Common.{◌≡◌, ℕ, ◌<◌, true, false, not, Option, Some, None, List, length, slice_get, All, IfSome, refl, ap, ◌∙◌, inl, inr, arith}
use Rattle.std.proofs.lemmas.Bool.{false_from_ne_true}
use Rattle.std.proofs.lemmas.List.{length-map}
use Rattle.std.proofs.lemmas.List.Sums.{length-filter}
use Rattle.lists.proofs.Places.{slice_get-below}
use Rattle.jim_ast.specs.declared.names.NameId.{NameId}
use Rattle.jim_ast.specs.declared.syntax.Expr.TheVariants as expr
use Rattle.jim_ast.specs.declared.syntax.FieldSig.{FieldSig}
use Rattle.jim_ast.specs.declared.syntax.Imm.{Imm}
use Rattle.jim_ast.specs.declared.syntax.Imm.TheVariants as imm
use Rattle.jim_ast.specs.declared.syntax.Stmt.TheVariants as stmt
use Rattle.link_rules.specs.declared.code.Arg.{Arg}
use Rattle.link_rules.specs.declared.code.Arg.TheVariants as arg
use Rattle.link_rules.specs.declared.refusal.LinkKind.TheVariants as rule
use Rattle.link_rules.specs.Classes.{DeclaredClass, DeclaredField, DeclaredMethod, IsNamed, fields_of}
use Rattle.link_rules.specs.Codes.{IsArg, IsField, IsLocal, IsStatic}
use Rattle.link_rules.specs.Keys.{FieldKey, accessed_key}
use Rattle.link_rules.specs.Linked.{IsLinkedClass, LinkedClass, LinkedField, LinkedMethod, LinkedProgram, linked_field_of, scope_of}
use Rattle.lists.specs.Lists.{BothOrNone, Each}
use Rattle.link_rules.specs.Names.{text_of}
use Rattle.link_rules.specs.Statements.{StmtAt}
use Rattle.link_rules.specs.Targets.{IsInstantiable}
use Rattle.link_rules.specs.WellLinked.{FitsArg, IsFieldOf, IsInstantiableIn, IsLocalOf}
use Rattle.link_rules.specs.World.{World}
use Rattle.link_laws.proofs.Lists.{all_at, each_left, each_right}
use Rattle.link_laws.proofs.Members.{field_found, instance_number-le, static_number-lt}
use Rattle.link_laws.proofs.Stands.{IsMade, Stands}

-- what each of two options beside each other has
some_of : {X Y : Type 0} (R : X → Y → Type 0) (P : Y → Type 0) (x : Option X) (y : Option Y) → ((a : X) (b : Y) → R a b → P b) → BothOrNone R x y → IfSome y P
some_of R P (Some x) (Some y) f h = f x y h
some_of R P None None f h = tt
some_of R P (Some x) None f h = tt
some_of R P None (Some y) f h = elim h [ ]

module _ (w : World) (p : LinkedProgram) (made : IsMade w p) where
  -- a class by its number
  pub linked_class : (c : DeclaredClass) (n : ℕ) → slice_get w.classes n ≡ Some c → (l : LinkedClass) × (slice_get p.classes n ≡ Some l) × IsLinkedClass c l
  linked_class c n e = each_left IsLinkedClass w.classes p.classes n c made.link.classes e

  -- a class that is named is one of the program
  pub class_fits : (name : List ℕ) (n : ℕ) → IsNamed w.classes name n → n < length p.classes
  class_fits name n named = let below = slice_get-below w.classes n named.class named.there in let same = made.link.classes.as_many in omega (arith, below, same)

module _ (w : World) (p : LinkedProgram) (made : IsMade w p) (m : DeclaredMethod) (l : LinkedMethod) (st : Stands w p m l) where
  -- a local is one of the method
  pub local_fits : (x : NameId) (to : ℕ) → IsLocal (scope_of w p m st.linked.body) x to → IsLocalOf l to
  local_fits x to h =
      let below = slice_get-below st.linked.body.locals to x h in
      let same = ap (length {A = List ℕ}) st.linked.locals ∙ length-map st.linked.body.locals (text_of m.names) in
      omega (arith, below, same)

  -- an operand is in range
  pub arg_fits : (a : Imm) (b : Arg) → IsArg (scope_of w p m st.linked.body) a b → FitsArg p l b
  arg_fits (imm.Local x) (arg.Local to) h = local_fits x to h
  arg_fits imm.Number arg.Number h = tt
  arg_fits imm.Null arg.Null h = tt
  arg_fits (imm.Text name) (arg.Text n) h = slice_get-below p.texts n (text_of m.names name) h
  arg_fits (imm.ClassConst name) (arg.Class n) h = slice_get-below p.class_texts n (text_of m.names name) h
  arg_fits a b h = elim h [ ]

  -- so are operands in a list
  pub args_fit : (xs : List Imm) (bs : List Arg) → Each (IsArg (scope_of w p m st.linked.body)) xs bs → All (FitsArg p l) bs
  args_fit xs bs each = all_at (FitsArg p l) bs (λ i b e. let a = each_right (IsArg (scope_of w p m st.linked.body)) xs bs i b each e in arg_fits a.0 b a.2)

  -- so is an operand that may be left out
  pub maybe_arg_fits : (a : Option Imm) (b : Option Arg) → BothOrNone (IsArg (scope_of w p m st.linked.body)) a b → IfSome b (FitsArg p l)
  maybe_arg_fits a b h = some_of (IsArg (scope_of w p m st.linked.body)) (FitsArg p l) a b arg_fits h

  -- a receiver is a local
  pub receiver_fits : (y : Option NameId) (r : Option ℕ) → BothOrNone (IsLocal (scope_of w p m st.linked.body)) y r → IfSome r (IsLocalOf l)
  receiver_fits y r h = some_of (IsLocal (scope_of w p m st.linked.body)) (IsLocalOf l) y r local_fits h

  -- an instance field is in range
  pub field_fits : (sig : FieldSig) (number : ℕ) → IsField (scope_of w p m st.linked.body) sig number → IsFieldOf p number
  field_fits sig number h =
      let f = field_found w made.rows (accessed_key m.names false sig) h.1.class h.1.key h.0 h.1.finds h.1.is_key in
      let most = instance_number-le (fields_of w.classes) h.0 f.0 f.1 (ap (λ (k : FieldKey). k.is_static) f.2) in
      let many = ap (length {A = LinkedField}) made.link.fields ∙ length-map _ linked_field_of ∙ length-filter (λ (f : DeclaredField). not f.decl.is_static) (fields_of w.classes) in
      let is = h.2 in
      (omega (arith, is), omega (arith, is, most, many))

  -- a static field is in range
  pub static_fits : (sig : FieldSig) (number : ℕ) → IsStatic (scope_of w p m st.linked.body) sig number → number < p.static_count
  static_fits sig number h =
      let f = field_found w made.rows (accessed_key m.names true sig) h.1.class h.1.key h.0 h.1.finds h.1.is_key in
      let most = static_number-lt (fields_of w.classes) h.0 f.0 f.1 (ap (λ (k : FieldKey). k.is_static) f.2) in
      let is = h.2 in
      let count = made.link.static_count in
      omega (arith, is, most, count)

  -- the class of a `new` that no rule refuses
  pub new_instantiable : (index : ℕ) (x class : NameId) (number : ℕ) → StmtAt m index (stmt.Assign x (expr.New class))
      → IsNamed w.classes (text_of m.names class) number → IsInstantiableIn p number
  new_instantiable index x class number here named =
      let makes = λ (not_concrete : _). st.allowed index rule.AbstractNew (record {
        name = text_of m.names class;
        makes = record { stmt = stmt.Assign x (expr.New class); here = here; class = class; makes = refl; named = refl };
        number = number;
        named = named;
        not_concrete = not_concrete;
      }) in
      let concrete : IsInstantiable named.class = inl (
        false_from_ne_true named.class.class.interface (λ e. makes (inl e)),
        false_from_ne_true named.class.class.is_abstract (λ e. makes (inr e)),
      ) in
      let l = linked_class w p made named.class number named.there in
      (l.0, l.1, l.2.instantiable.1 concrete)
