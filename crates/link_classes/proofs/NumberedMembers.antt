-- The members that are listed class by class name classes that are there.
use Rattle.std.proofs.Common.{◌≡◌, ℕ, zero, suc, ◌+◌, ◌<◌, ◌⊎◌, ◌++◌, List, [], ◌∷◌, Some, length, map, slice_get, flat_map, sym, ap, inl, inr, arith}
use Rattle.std.specs.List.{enumerate_from}
use Rattle.std.proofs.lemmas.List.{length-map}
use Rattle.std.proofs.lemmas.List.Elements.{All-contains}
use Rattle.std.proofs.lemmas.Option.{slice_get-get_or}
use Rattle.class_rules.specs.Rows.{NameClasses, Rows, Step}
use Rattle.lists.proofs.Places.{slice_get-below, slice_get-there}
use Rattle.jim_ast.specs.declared.names.NameId.{NameId}
use Rattle.jim_ast.specs.declared.syntax.FieldDecl.{FieldDecl}
use Rattle.jim_ast.specs.declared.syntax.MethodDecl.{MethodDecl}
use Rattle.link_rules.specs.Classes.{DeclaredClass, DeclaredField, DeclaredMethod, NamedInterface, class_name, fields_in, fields_of, interfaces_in, methods_in, methods_of, named_interfaces}
use Rattle.link_rules.specs.Names.{text_of}
use Rattle.link_rules.specs.World.{AreRows}
use Rattle.link_classes.specs.declared.order.ClassOrder.{ClassOrder}
use Rattle.link_classes.specs.declared.row_tables.RowTables.{RowTables}
use Rattle.link_classes.specs.RowTables.{AreRowTables, rows_in}
use Rattle.link_classes.specs.Seen.{seen_class, seen_classes}

-- an element of two lists behind one another
slice_get-either : {X : Type 0} (xs ys : List X) (i : ℕ) (x : X) → slice_get (xs ++ ys) i ≡ Some x → (slice_get xs i ≡ Some x) ⊎ ((j : ℕ) × (slice_get ys j ≡ Some x))
slice_get-either [] ys i x h = inr (i, h)
slice_get-either (y ∷ xs) ys zero x h = inl h
slice_get-either (y ∷ xs) ys (suc i) x h = slice_get-either xs ys i x h

-- an element of what is made of a list
slice_get-made : {X Y : Type 0} (f : X → Y) (xs : List X) (i : ℕ) (y : Y) → slice_get (map f xs) i ≡ Some y → (x : X) × (f x ≡ y)
slice_get-made f [] i y h = cc (h)
slice_get-made f (x ∷ xs) zero y h = let same : f x ≡ y = cc (h) in (x, same)
slice_get-made f (x ∷ xs) (suc i) y h = slice_get-made f xs i y h

-- what the element with a number makes has that number
numbered-below : {X Y : Type 0} (f : ℕ × X → List Y) (number : Y → ℕ) → ((n : ℕ) (x : X) (i : ℕ) (y : Y) → slice_get (f (n, x)) i ≡ Some y → number y ≡ n)
    → (n : ℕ) (xs : List X) (i : ℕ) (y : Y) → slice_get (flat_map f (enumerate_from n xs)) i ≡ Some y → number y < n + length xs
numbered-below f number has n [] i y h = cc (h)
numbered-below f number has n (x ∷ xs) i y h =
    elim (slice_get-either (f (n, x)) (flat_map f (enumerate_from (n + 1) xs)) i y h) [
      | inl here ↦ omega (arith, has n x i y here)
      | inr later ↦ omega (arith, numbered-below f number has (n + 1) xs later.0 y later.1)
    ]

pub method_class : (classes : List DeclaredClass) (i : ℕ) (m : DeclaredMethod) → slice_get (methods_of classes) i ≡ Some m → m.class < length classes
method_class classes i m h =
    omega (
      arith,
      numbered-below (λ k. methods_in k.0 k.1) (λ (m : DeclaredMethod). m.class)
          (λ n c i m h. ap (λ (m : DeclaredMethod). m.class) (sym (slice_get-made (λ (d : MethodDecl). record { class = n; owner = class_name c; names = c.names; decl = d }) c.class.methods i m h).1))
          0 classes i m h,
    )

pub field_class : (classes : List DeclaredClass) (i : ℕ) (f : DeclaredField) → slice_get (fields_of classes) i ≡ Some f → f.class < length classes
field_class classes i f h =
    omega (
      arith,
      numbered-below (λ k. fields_in k.0 k.1) (λ (f : DeclaredField). f.class)
          (λ n c i f h. ap (λ (f : DeclaredField). f.class) (sym (slice_get-made (λ (d : FieldDecl). record { class = n; names = c.names; decl = d }) c.class.fields i f h).1))
          0 classes i f h,
    )

pub interface_class : (classes : List DeclaredClass) (i : ℕ) (p : NamedInterface) → slice_get (named_interfaces classes) i ≡ Some p → p.class < length classes
interface_class classes i p h =
    omega (
      arith,
      numbered-below (λ k. interfaces_in k.0 k.1) (λ (p : NamedInterface). p.class)
          (λ n c i p h. ap (λ (p : NamedInterface). p.class) (sym (slice_get-made (λ (d : NameId). record { class = n; name = text_of c.names d }) c.class.interfaces i p h).1))
          0 classes i p h,
    )

-- the rows of classes name classes that are there
pub names_classes : (classes : List DeclaredClass) (rows : Rows) → AreRows classes rows → NameClasses rows
names_classes classes rows r = record {
  implements = λ k d below.
      let named = slice_get-there (named_interfaces classes) k (omega (arith, below, r.interface_pairs.as_many)) in
      let pair = r.interface_pairs.each k named.0 _ named.1 (slice_get-get_or rows.implements k d below) in
      omega (arith, pair.0, interface_class classes k named.0 named.1, r.class_rows.as_many);
  methods = λ k d below.
      let declared = slice_get-there (methods_of classes) k (omega (arith, below, r.method_rows.as_many)) in
      let row = r.method_rows.each k declared.0 _ declared.1 (slice_get-get_or rows.methods k d below) in
      omega (arith, row.class, method_class classes k declared.0 declared.1, r.class_rows.as_many);
  fields = λ k d below.
      let declared = slice_get-there (fields_of classes) k (omega (arith, below, r.field_rows.as_many)) in
      let row = r.field_rows.each k declared.0 _ declared.1 (slice_get-get_or rows.fields k d below) in
      omega (arith, row.class, field_class classes k declared.0 declared.1, r.class_rows.as_many);
}

-- a class that names a parent or an interface is there
pub step_below : (rows : Rows) → NameClasses rows → (a b : ℕ) → Step rows.classes rows.implements a b → a < length rows.classes
step_below rows named a b step = elim step [
  | inl parent ↦ slice_get-below rows.classes a parent.row parent.there
  | inr interface ↦ All-contains (λ (p : ℕ × ℕ). p.0 < length rows.classes) rows.implements (a, b) named.implements interface
]

pub step_within : (o : ClassOrder) (t : RowTables) → AreRowTables o t → (a b : ℕ) → Step t.classes.items t.implements.items a b → a < length o.classes.items
step_within o t tables a b step =
    let below = step_below (rows_in t) (names_classes (seen_classes o.classes.items) (rows_in t) tables.rows) a b step in
    omega (arith, below, tables.rows.class_rows.as_many, length-map o.classes.items seen_class)
