-- The tables that `build` makes say what the rows say.
use Rattle.std.proofs.Common.{◌≡◌, ℕ, zero, suc, ◌<◌, ◌≤◌, ◌⊎◌, ◌↔◌, ◌==◌, ◌&&◌, true, Option, Some, None, List, [], ◌∷◌, length, get_or, slice_get, map, refl, sym, ap, subst, ◌∙◌, inl, inr, arith, eqb-true, eq-eqb}
use Rattle.std.specs.List.{Contains, All}
use Rattle.std.specs.Option.{is_some}
use Rattle.std.proofs.lemmas.Bool.{and_parts, and_from}
use Rattle.std.proofs.lemmas.List.Elements.{All-contains}
use Rattle.std.proofs.lemmas.Option.{slice_get-get_or}
use Rattle.class_tree.specs.declared.first_rows.Member.{Member}
use Rattle.class_tree.specs.declared.owners.Owners.{Owners}
use Rattle.class_rules.specs.declared.rows.ClassRow.{ClassRow}
use Rattle.class_rules.specs.declared.rows.MethodRow.{MethodRow}
use Rattle.class_rules.specs.declared.rows.FieldRow.{FieldRow}
use Rattle.class_order.specs.declared.spans.Span.{Span}
use Rattle.class_order.specs.Groups.{group}
use Rattle.class_tree.specs.Indexed.{HasFieldNear, TellsOf}
use Rattle.class_tree.specs.KeySpans.{HoldsKey, member_of_method, member_of_field}
use Rattle.class_tree.specs.Owners.{AreServed, HoldsOwner}
use Rattle.class_rules.specs.Lookups.{own_field, Declared}
use Rattle.class_rules.specs.Paths.{Path, here, step, ProperPath}
use Rattle.lists.specs.Lists.{IsLeast}
use Rattle.class_rules.specs.Rows.{Rows, HasInterface, NamesUnknown, NameClasses, Step}
use Rattle.class_order.specs.Spans.{Holds}
use Rattle.class_order.specs.Tables.{Under, IsFinishing, IsReach}
use Rattle.lists.proofs.Elements.{Contains-at}
use Rattle.class_order.proofs.Reached.{path_map}
use Rattle.class_rules.proofs.Parents.{parent-below}
use Rattle.class_order.proofs.Positions.{found_at, found_from}

-- ---- the steps of the rows

below_or : (a n : ℕ) → (a < n) ⊎ (n ≤ a)
below_or a n = grind arith

pub step-below : (classes : List ClassRow) (implements : List (ℕ × ℕ)) (a b : ℕ) → All (λ (p : ℕ × ℕ). p.0 < length classes) implements → Step classes implements a b → a < length classes
step-below classes implements a b named (inl p) = parent-below classes a b p
step-below classes implements a b named (inr m) = All-contains (λ (p : ℕ × ℕ). p.0 < length classes) implements (a, b) named m

pub interfaces_known : (classes : List ClassRow) (implements : List (ℕ × ℕ)) → ((a : ℕ) → NamesUnknown classes implements a → ⊥) → All (λ (p : ℕ × ℕ). p.1 < length classes) implements
interfaces_known classes implements known k d h = elim (below_or (get_or implements k d).1 (length classes)) [
  | inl lt ↦ lt
  | inr past ↦ absurd (known (get_or implements k d).0 ((get_or implements k d).1, inr (Contains-at implements k (get_or implements k d) (slice_get-get_or implements k d h)), past))
]

-- ---- from one relation to another

pub least_map : (P Q : ℕ → Type 0) → ((a : ℕ) → P a → Q a) → ((a : ℕ) → Q a → P a) → (n : ℕ) → IsLeast P n → IsLeast Q n
least_map P Q to from n s = record { holds = to n s.holds; first = λ m h q. s.first m h (from m q) }

-- with fewer steps the order serves too
pub finishing_fewer : (below fewer : List (List ℕ)) (order : List ℕ) → length fewer ≡ length below → ((a b : ℕ) → Under fewer a b → Under below a b) → IsFinishing below order → IsFinishing fewer order
finishing_fewer below fewer order len to f = record {
  settled = record {
    within = λ c m. omega (arith, f.settled.within c m, len);
    after = λ i c d e u. f.settled.after i c d e (to d c u);
    once = f.settled.once;
  };
  all = λ c h. f.all c (omega (arith, h, len));
}

pub reach_map : (S T : ℕ → ℕ → Type 0) (count n : ℕ) (places : List ℕ) (table : List (List Span)) → ((a b : ℕ) → S a b → T a b) → ((a b : ℕ) → T a b → S a b) → count ≡ n → IsReach S count places table → IsReach T n places table
reach_map S T count n places table to from e r = record {
  len = r.len ∙ e;
  apart = r.apart;
  exact = λ a b ha hb. let same = r.exact a b (omega (arith, ha, e)) (omega (arith, hb, e)) in (λ h. path_map S T to (same.0 h), λ q. same.1 (path_map T S from q));
}

-- a place falls along a path, so no class comes back to itself
pub acyclic_from_places : (Go : ℕ → ℕ → Type 0) (places : List ℕ) → ((a b : ℕ) → Go a b → get_or places b 0 < get_or places a 0) → (a : ℕ) → ProperPath Go a a → ⊥
acyclic_from_places Go places falls a (b, st, p) = absurd (omega (arith, falls a b st, on p))
  where
    on : {b c : ℕ} → Path Go b c → get_or places c 0 ≤ get_or places b 0
    on here = omega arith
    on (step {a} {b} {c} st p) = omega (arith, falls a b st, on p)

-- ---- the members of a key

pub Contains-map : {X Y : Type 0} (f : X → Y) (xs : List X) (y : Y) → Contains (map f xs) y → (i : ℕ) × (x : X) × (slice_get xs i ≡ Some x) × (f x ≡ y)
Contains-map f [] y m = absurd (omega (arith, m.1))
Contains-map f (x ∷ xs) y (zero, h, e) = (0, x, refl, e)
Contains-map f (x ∷ xs) y (suc k, h, e) = let p = Contains-map f xs y (k, omega (arith, h), e) in (suc p.0, p.1, p.2, p.3)

pub Contains-mapped : {X Y : Type 0} (f : X → Y) (xs : List X) (i : ℕ) (x : X) → slice_get xs i ≡ Some x → Contains (map f xs) (f x)
Contains-mapped f [] i x e = cc
Contains-mapped f (y ∷ ys) zero x e = let same : y ≡ x = cc in (0, omega arith, ap f same)
Contains-mapped f (y ∷ ys) (suc i) x e = let m = Contains-mapped f ys i x e in (suc m.0, omega (arith, m.1), m.2)

module _ (rows : Rows) (places : List ℕ) (table : List (List Span)) (o : Owners) (served : AreServed table o) (named : NameClasses rows) where
  method_owner : (i : ℕ) (m : MethodRow) → slice_get rows.methods i ≡ Some m → m.class < length rows.classes
  method_owner i m e = All-contains (λ (m : MethodRow). m.class < length rows.classes) rows.methods m named.methods (Contains-at rows.methods i m e)

  pub tells_declared : IsReach (Step rows.classes rows.implements) (length rows.classes) places table → ((k p : ℕ) → HoldsOwner table o k p ↔ HoldsKey (map member_of_method rows.methods) table k p) → TellsOf (Declared rows) (length rows.classes) places table o
  tells_declared r held = record {
    served = served;
    exact = λ a k h. (
      λ q.
          let m = (held k (get_or places a 0)).0 q in
          let p = Contains-map member_of_method rows.methods m.0 m.1 in
          let class : p.1.class ≡ m.0.class = ap (λ (x : Member). x.class) p.3 in
          let key : p.1.key ≡ m.0.key = ap (λ (x : Member). x.key) p.3 in
          record {
            owner = m.0.class;
            reached = (r.exact a m.0.class h (omega (arith, method_owner p.0 p.1 p.2, class))).0 m.3;
            row = p.0;
            method = p.1;
            there = p.2;
            in_owner = class;
            has_key = key ∙ m.2;
          },
      λ d. (held k (get_or places a 0)).1 (
        member_of_method d.method,
        Contains-mapped member_of_method rows.methods d.row d.method d.there,
        d.has_key,
        subst (λ c. Holds (group table c) (get_or places a 0)) (sym d.in_owner) ((r.exact a d.owner h (omega (arith, method_owner d.row d.method d.there, d.in_owner))).1 d.reached),
      ),
    );
  }

  field_owner : (i : ℕ) (f : FieldRow) → slice_get rows.fields i ≡ Some f → f.class < length rows.classes
  field_owner i f e = All-contains (λ (f : FieldRow). f.class < length rows.classes) rows.fields f named.fields (Contains-at rows.fields i f e)

  -- a field of the class with this key
  field_row : (class key row : ℕ) → own_field rows.fields class key ≡ Some row → (i : ℕ) × (f : FieldRow) × (slice_get rows.fields i ≡ Some f) × (f.class ≡ class) × (f.key ≡ key)
  field_row class key row e =
      let p = found_at (λ f. (f.class == class) && (f.key == key)) 0 rows.fields (ap is_some e) in
      let parts = and_parts (p.1.class == class) (p.1.key == key) p.3 in
      (p.0, p.1, p.2, eqb-true p.1.class class parts.0, eqb-true p.1.key key parts.1)

  -- what owns a field is a class with a member
  pub field_member : (class key row : ℕ) → own_field rows.fields class key ≡ Some row → (m : Member) × Contains (map member_of_field rows.fields) m × (m.key ≡ key) × (m.class ≡ class) × (class < length rows.classes)
  field_member class key row e =
      let f = field_row class key row e in
      (member_of_field f.1, Contains-mapped member_of_field rows.fields f.0 f.1 f.2, f.4, f.3, omega (arith, field_owner f.0 f.1 f.2, f.3))

  row_field : (i : ℕ) (f : FieldRow) → slice_get rows.fields i ≡ Some f → (row : ℕ) × (own_field rows.fields f.class f.key ≡ Some row)
  row_field i f e = by (own_field rows.fields f.class f.key) refl
    where
      some : is_some (own_field rows.fields f.class f.key) ≡ true
      some = found_from (λ g. (g.class == f.class) && (g.key == f.key)) 0 rows.fields i f e (and_from (f.class == f.class) (f.key == f.key) (eq-eqb f.class f.class refl) (eq-eqb f.key f.key refl))

      by : (o : Option ℕ) → own_field rows.fields f.class f.key ≡ o → (row : ℕ) × (own_field rows.fields f.class f.key ≡ Some row)
      by None none = let t = sym (ap is_some none) ∙ some in cc
      by (Some row) is = (row, is)

  pub tells_near : IsReach (HasInterface rows.implements) (length rows.classes) places table → ((k p : ℕ) → HoldsOwner table o k p ↔ HoldsKey (map member_of_field rows.fields) table k p) → TellsOf (HasFieldNear rows) (length rows.classes) places table o
  tells_near r held = record {
    served = served;
    exact = λ a k h. (
      λ q.
          let m = (held k (get_or places a 0)).0 q in
          let p = Contains-map member_of_field rows.fields m.0 m.1 in
          let class : p.1.class ≡ m.0.class = ap (λ (x : Member). x.class) p.3 in
          let key : p.1.key ≡ k = ap (λ (x : Member). x.key) p.3 ∙ m.2 in
          let row = row_field p.0 p.1 p.2 in
          record {
            owner = m.0.class;
            reached = (r.exact a m.0.class h (omega (arith, field_owner p.0 p.1 p.2, class))).0 m.3;
            row = row.0;
            own = sym (ap (λ c. own_field rows.fields c p.1.key) class ∙ ap (own_field rows.fields m.0.class) key) ∙ row.1;
          },
      λ d.
          let f = field_row d.owner k d.row d.own in
          (held k (get_or places a 0)).1 (
            member_of_field f.1,
            Contains-mapped member_of_field rows.fields f.0 f.1 f.2,
            f.4,
            subst (λ c. Holds (group table c) (get_or places a 0)) (sym f.3) ((r.exact a d.owner h (omega (arith, field_owner f.0 f.1 f.2, f.3))).1 d.reached),
          ),
    );
  }
