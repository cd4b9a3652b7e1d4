-- What is linked is determined: each relation that says what it is has one answer.
use Rattle.std.proofs.Common.{◌≡◌, ℕ, Bool, ◌<◌, ◌++◌, Option, Some, None, List, [], ◌∷◌, length, refl, sym, ap, subst, ◌∙◌, inl, inr}
use Rattle.std.proofs.lemmas.Bool.{cases_order}
use Rattle.class_rules.specs.Rows.{Rows, rows_of}
use Rattle.class_rules.specs.declared.rows.BodyKind.{BodyKind}
use Rattle.class_rules.specs.declared.rows.ClassRow.{ClassRow}
use Rattle.class_rules.specs.declared.rows.FieldRow.{FieldRow}
use Rattle.class_rules.specs.declared.rows.MethodRow.{MethodRow}
use Rattle.lists.proofs.Places.{slice_get-below, slice_get-extensional, slice_get-there}
use Rattle.jim_ast.specs.declared.names.NameId.{NameId}
use Rattle.link_rules.specs.Classes.{DeclaredClass, DeclaredField, DeclaredMethod, IsCompleted, IsDeclared, IsDefaultParent, IsNamed, IsParentBy, NamedInterface, class_name, comes, ends, fields_of, is_left_out, methods_of, named_interfaces}
use Rattle.link_rules.specs.Keys.{HasFieldKey, HasMethodKey, field_key, method_key}
use Rattle.link_rules.specs.Laws.{HasOneWorld, IsNotBoth}
use Rattle.link_rules.specs.Refusals.{IsAccepted}
use Rattle.lists.specs.Lists.{Each, IsFirstOr}
use Rattle.lists.proofs.Joined.{first_one}
use Rattle.link_rules.specs.World.{AreRows, IsClassRow, IsFieldRow, IsInterfacePair, IsMethodRow, IsParentRow, World}

-- a class order is completed in one way
completed_one : {so_far rest one two : List DeclaredClass} → IsCompleted so_far rest one → IsCompleted so_far rest two → one ≡ two
completed_one ends p = on p
  where
    on : {so_far two : List DeclaredClass} → IsCompleted so_far [] two → so_far ≡ two
    on ends = refl
completed_one (comes new rest) p = on p new (λ two q. completed_one rest q)
  where
    on : {so_far rest one two : List DeclaredClass} {c : DeclaredClass} → IsCompleted so_far (c ∷ rest) two → (IsDeclared so_far (class_name c) → ⊥)
        → ((two : List DeclaredClass) → IsCompleted (so_far ++ c ∷ []) rest two → one ≡ two) → one ≡ two
    on (comes {all} also further) new ih = ih all further
    on (is_left_out old further) new ih = absurd (new old)
completed_one (is_left_out old rest) p = on p old (λ two q. completed_one rest q)
  where
    on : {so_far rest one two : List DeclaredClass} {c : DeclaredClass} → IsCompleted so_far (c ∷ rest) two → IsDeclared so_far (class_name c)
        → ((two : List DeclaredClass) → IsCompleted so_far rest two → one ≡ two) → one ≡ two
    on (comes new further) old ih = absurd (new old)
    on (is_left_out {all} also further) old ih = ih all further

-- lists beside one list, by a relation with one answer, are one
each_one : {X Y : Type 0} (R : X → Y → Type 0) (xs : List X) (ys zs : List Y) → ((x : X) (y z : Y) → R x y → R x z → y ≡ z) → Each R xs ys → Each R xs zs → ys ≡ zs
each_one R xs ys zs one p q =
    slice_get-extensional ys zs (sym p.as_many ∙ q.as_many)
    (λ i y z here there. let at = slice_get-there xs i (subst (λ n. i < n) (sym p.as_many) (slice_get-below ys i y here)) in
    one at.0 y z (p.each i at.0 y at.1 here) (q.each i at.0 z at.1 there))

-- the name of a parent is one
default_one : (name : List ℕ) (a b : Option (List ℕ)) → IsDefaultParent name a → IsDefaultParent name b → a ≡ b
default_one name a b p q = elim p [
  | inl top ↦ elim q [ inl also ↦ top.1 ∙ sym also.1 | inr other ↦ absurd (other.0 top.0) ]
  | inr below ↦ elim q [ inl other ↦ absurd (below.0 other.0) | inr also ↦ below.1 ∙ sym also.1 ]
]

parent_by_one : (names : List (List ℕ)) (name : List ℕ) (extended : Option NameId) (a b : Option (List ℕ)) → IsParentBy names name extended a → IsParentBy names name extended b → a ≡ b
parent_by_one names name (Some e) a b p q = p ∙ sym q
parent_by_one names name None a b p q = default_one name a b p q

-- the number of a parent is one
parent_row_one : (classes : List DeclaredClass) (name : Option (List ℕ)) (a b : Option ℕ) → IsParentRow classes name a → IsParentRow classes name b → a ≡ b
parent_row_one classes (Some name) (Some a) (Some b) p q = ap Some (first_one (length classes) (IsNamed classes name) a b p q)
parent_row_one classes None None None p q = refl
parent_row_one classes (Some name) None b p q = elim p [ ]
parent_row_one classes (Some name) (Some a) None p q = elim q [ ]
parent_row_one classes None (Some a) b p q = elim p [ ]
parent_row_one classes None None (Some b) p q = elim q [ ]

class_row_one : (classes : List DeclaredClass) (c : DeclaredClass) (a b : ClassRow) → IsClassRow classes c a → IsClassRow classes c b → a ≡ b
class_row_one classes c a b p q =
    let named = parent_by_one c.names (class_name c) c.class.parent p.parent_name q.parent_name p.is_parent q.is_parent in
    let parents = parent_row_one classes q.parent_name a.parent b.parent (subst (λ n. IsParentRow classes n a.parent) named p.parent) q.parent in
    let flags = p.interface ∙ sym q.interface in
    let made : Option ℕ → Bool → ClassRow = λ parent flag. record { parent = parent; interface = flag } in
    ap (λ x. made x a.interface) parents ∙ ap (made b.parent) flags

pair_one : (classes : List DeclaredClass) (named : NamedInterface) (a b : ℕ × ℕ) → IsInterfacePair classes named a → IsInterfacePair classes named b → a ≡ b
pair_one classes named a b p q =
    let firsts = p.0 ∙ sym q.0 in
    let seconds = first_one (length classes) (IsNamed classes named.name) a.1 b.1 p.1 q.1 in
    let made : ℕ → ℕ → ℕ × ℕ = λ x y. (x, y) in
    ap (λ x. made x a.1) firsts ∙ ap (made b.0) seconds

method_row_one : (methods : List DeclaredMethod) (m : DeclaredMethod) (a b : MethodRow) → IsMethodRow methods m a → IsMethodRow methods m b → a ≡ b
method_row_one methods m a b p q =
    let classes = p.class ∙ sym q.class in
    let bodies = p.body ∙ sym q.body in
    let keys = first_one (length methods) (HasMethodKey methods (method_key m)) a.key b.key p.key q.key in
    let made : ℕ → ℕ → BodyKind → MethodRow = λ class key body. record { class = class; key = key; body = body } in
    ap (λ x. made x a.key a.body) classes ∙ ap (λ x. made b.class x a.body) keys ∙ ap (made b.class b.key) bodies

field_row_one : (fields : List DeclaredField) (f : DeclaredField) (a b : FieldRow) → IsFieldRow fields f a → IsFieldRow fields f b → a ≡ b
field_row_one fields f a b p q =
    let classes = p.class ∙ sym q.class in
    let keys = first_one (length fields) (HasFieldKey fields (field_key f)) a.key b.key p.key q.key in
    let made : ℕ → ℕ → FieldRow = λ class key. record { class = class; key = key } in
    ap (λ x. made x a.key) classes ∙ ap (made b.class) keys

-- the rows of classes are one
rows_one : (classes : List DeclaredClass) (a b : Rows) → AreRows classes a → AreRows classes b → a ≡ b
rows_one classes a b p q =
    let class_rows = each_one (IsClassRow classes) classes a.classes b.classes (class_row_one classes) p.class_rows q.class_rows in
    let pairs = each_one (IsInterfacePair classes) (named_interfaces classes) a.implements b.implements (pair_one classes) p.interface_pairs q.interface_pairs in
    let method_rows = each_one (IsMethodRow (methods_of classes)) (methods_of classes) a.methods b.methods (method_row_one (methods_of classes)) p.method_rows q.method_rows in
    let field_rows = each_one (IsFieldRow (fields_of classes)) (fields_of classes) a.fields b.fields (field_row_one (fields_of classes)) p.field_rows q.field_rows in
    ap (λ x. rows_of x a.implements a.methods a.fields) class_rows ∙ ap (λ x. rows_of b.classes x a.methods a.fields) pairs
    ∙ ap (λ x. rows_of b.classes b.implements x a.fields) method_rows ∙ ap (rows_of b.classes b.implements b.methods) field_rows

pub world_one : HasOneWorld
world_one input prelude entry v w p q =
    let classes = completed_one p.order q.order in
    let rows = rows_one w.classes v.rows w.rows (subst (λ cs. AreRows cs v.rows) classes p.rows) q.rows in
    let entries = p.begins ∙ sym q.begins in
    let made : List DeclaredClass → Rows → List ℕ → World = λ classes rows entry. record { classes = classes; rows = rows; entry = entry } in
    ap (λ x. made x v.rows v.entry) classes ∙ ap (λ x. made w.classes x v.entry) rows ∙ ap (made w.classes w.rows) entries

pub not_both : IsNotBoth
not_both input prelude entry p kind place index links refused =
    let accepted = subst IsAccepted (world_one input prelude entry links.world refused.world links.is_world refused.is_world) links.linked.accepted in
    accepted refused.refusal refused.first.refuses
