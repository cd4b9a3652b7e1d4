-- The parts of a linked program beside its methods.
use Rattle.std.proofs.Common.{◌≡◌, ℕ, zero, suc, ◌<◌, Bool, true, false, not, cond, Some, List, [], ◌∷◌, ◌++◌, length, filter, slice_get, All, refl, sym, ap, ◌∙◌, subst, inr, arith}
use Rattle.lists.specs.Lists.{Has}
use Rattle.lists.proofs.Places.{slice_get-append_left, slice_get-below, slice_get-push}
use Rattle.jim_ast.specs.declared.syntax.Program.{Program}
use Rattle.link_rules.specs.Classes.{DeclaredClass, DeclaredField, IsCompleted, IsDeclared, class_name, comes, ends, fields_of, is_left_out}
use Rattle.link_rules.specs.Conditions.{DeclaresNine}
use Rattle.link_rules.specs.Linked.{IsLinkedClass, LinkedField, LinkedMethod, LinkedProgram, linked_field_of}
use Rattle.link_rules.specs.Root.{root_of}
use Rattle.link_rules.specs.Targets.{nine_names}
use Rattle.link_rules.specs.WellLinked.{FitsMethod, HasClass, IsInForm, IsInstantiableWhereNamed, IsRoot, IsWellLinkedCode}
use Rattle.link_rules.specs.World.{IsWorld, World}
use Rattle.link_laws.proofs.Calls.{has_code}
use Rattle.link_laws.proofs.Lists.{all_at, at_map, each_left, each_right, first_seen_apart}
use Rattle.link_laws.proofs.Methods.{codes_well, method_fits}
use Rattle.link_laws.proofs.Read.{field_of}
use Rattle.link_laws.proofs.Stands.{IsMade, methods_many, root_at, stands_at, stands_root}

-- ---- the class order

-- classes stay
kept : {so_far rest all : List DeclaredClass} → IsCompleted so_far rest all → (name : List ℕ) → IsDeclared so_far name → IsDeclared all name
kept ends = λ name d. d
kept (comes {so_far} {rest} {all} {c} new more) = λ name d. kept more name (d.0, record { class = d.1.class; there = slice_get-append_left so_far (c ∷ []) d.0 d.1.class d.1.there; named = d.1.named })
kept (is_left_out old more) = λ name d. kept more name d

-- the name of each class that completes is declared
completing : {so_far rest all : List DeclaredClass} → IsCompleted so_far rest all → (name : List ℕ) (i : ℕ) (c : DeclaredClass)
    → slice_get rest i ≡ Some c → class_name c ≡ name → IsDeclared all name
completing ends = λ name i c e is. cc
completing (comes {so_far} {rest} {all} {c = d} new more) = on (kept more) (λ name i c. completing more name i c)
  where
    on : ((name : List ℕ) → IsDeclared (so_far ++ d ∷ []) name → IsDeclared all name) → ((name : List ℕ) (i : ℕ) (c : DeclaredClass) → slice_get rest i ≡ Some c → class_name c ≡ name → IsDeclared all name)
        → (name : List ℕ) (i : ℕ) (c : DeclaredClass) → slice_get (d ∷ rest) i ≡ Some c → class_name c ≡ name → IsDeclared all name
    on keeps later name zero c e is = keeps name (length so_far, record { class = c; there = slice_get-push so_far d ∙ e; named = is })
    on keeps later name (suc i) c e is = later name i c e is
completing (is_left_out {so_far} {rest} {all} {c = d} old more) = on (kept more) (λ name i c. completing more name i c)
  where
    on : ((name : List ℕ) → IsDeclared so_far name → IsDeclared all name) → ((name : List ℕ) (i : ℕ) (c : DeclaredClass) → slice_get rest i ≡ Some c → class_name c ≡ name → IsDeclared all name)
        → (name : List ℕ) (i : ℕ) (c : DeclaredClass) → slice_get (d ∷ rest) i ≡ Some c → class_name c ≡ name → IsDeclared all name
    on keeps later name zero c e is = let same : d ≡ c = cc in keeps name (subst (IsDeclared so_far) (ap (λ c. class_name c) same ∙ is) old)
    on keeps later name (suc i) c e is = later name i c e is

-- the nine classes are declared
pub nine_declared : (input prelude : Program) (entry : List ℕ) (w : World) → IsWorld input prelude entry w → DeclaresNine prelude
    → All (IsDeclared w.classes) nine_names
nine_declared input prelude entry w is nine = λ k d below. let declared = nine k d below in completing is.order _ declared.0 declared.1.class declared.1.there declared.1.named

-- what passes a test was there
in_filter : {X : Type 0} (t : X → Bool) (xs : List X) (i : ℕ) (x : X) → slice_get (filter t xs) i ≡ Some x → Has xs x
in_filter t [] i x e = cc
in_filter {X = X} t (y ∷ xs) i x e = by (t y) i e (in_filter t xs)
  where
    later : Has xs x → Has (y ∷ xs) x
    later h = (suc h.0, h.1)

    by : (b : Bool) (i : ℕ) → slice_get (cond b (y ∷ filter t xs) (filter t xs)) i ≡ Some x → ((i : ℕ) (x : X) → slice_get (filter t xs) i ≡ Some x → Has xs x) → Has (y ∷ xs) x
    by true zero e rest = (0, e)
    by true (suc i) e rest = later (rest i x e)
    by false i e rest = later (rest i x e)

module _ (w : World) (p : LinkedProgram) (made : IsMade w p) where
  -- the root is as it should be
  root_is : IsRoot p (length p.method_rows) made.link.methods.root
  root_is =
      record {
        last = methods_many w p made;
        there = root_at w p made;
        has_statements = has_code w p made (root_of w made.link.initialized) made.link.methods.root (stands_root w p made);
        no_params = made.link.methods.is_root.params;
        no_receiver = made.link.methods.is_root.has_this;
      }

  -- each class has its row
  tree_same : length p.rows.classes ≡ length p.classes
  tree_same = ap (λ rows. length rows.classes) made.link.rows ∙ sym made.rows.class_rows.as_many ∙ made.link.classes.as_many

  -- the class of a field is one
  field_below : (i : ℕ) (field : LinkedField) → slice_get p.fields i ≡ Some field → field.class < length p.classes
  field_below i field e =
      let e2 = subst (λ fields. slice_get fields i ≡ Some field) made.link.fields e in
      let f = at_map linked_field_of (filter (λ (f : DeclaredField). not f.decl.is_static) (fields_of w.classes)) i field e2 in
      let h = in_filter (λ (f : DeclaredField). not f.decl.is_static) (fields_of w.classes) i f.0 f.1 in
      let c = field_of w.classes f.0 h in
      let below = slice_get-below w.classes f.0.class c.0 c.1 in
      let same = made.link.classes.as_many in
      let is = ap (λ (f : LinkedField). f.class) f.2 in
      omega (arith, below, same, is)

  -- a declared class is one of the program
  class_there : (name : List ℕ) → IsDeclared w.classes name → HasClass p name
  class_there name d =
      let l = each_left IsLinkedClass w.classes p.classes d.0 d.1.class made.link.classes d.1.there in
      (d.0, l.0, l.1, l.2.name ∙ d.1.named)

  -- the form
  pub in_form : All (IsDeclared w.classes) nine_names → IsInForm p
  in_form nine =
      record {
        methods = all_at (FitsMethod p) p.methods (λ i l e. let m = stands_at w p made i l e in method_fits w p made m.0 l m.1);
        rows = methods_many w p made;
        ordered = made.link.methods.ordered;
        tree = tree_same;
        fields = all_at (λ (f : LinkedField). f.class < length p.classes) p.fields field_below;
        texts = first_seen_apart made.link.constants.texts;
        class_texts = first_seen_apart made.link.constants.class_texts;
        number = length p.method_rows;
        root = made.link.methods.root;
        is_root = root_is;
        nine = λ k d below. class_there _ (nine k d below);
      }

  -- the number of the root in the form
  pub form_number : (nine : All (IsDeclared w.classes) nine_names) → (in_form nine).number ≡ length p.method_rows
  unfolding in_form
  form_number nine = refl

  -- the code of each method is well linked
  pub all_well : All (λ m. All (IsWellLinkedCode p) m.code) p.methods
  all_well = all_at (λ (m : LinkedMethod). All (IsWellLinkedCode p) m.code) p.methods (λ i l e. let m = stands_at w p made i l e in codes_well w p made m.0 l m.1)

  -- the nine classes are instantiable
  pub nine_instantiable : All (IsInstantiableWhereNamed p) nine_names
  nine_instantiable = all_at (IsInstantiableWhereNamed p) nine_names (λ i name e number class there named.
      let c = each_right IsLinkedClass w.classes p.classes number class made.link.classes there in
      c.2.instantiable.1 (inr (i, e ∙ ap Some (sym named ∙ c.2.name))))
