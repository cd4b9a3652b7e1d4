-- What the look-ups of a tree rest on.
use Rattle.std.proofs.Common.{◌≡◌, ℕ, suc, ◌<◌, ◌≤◌, ◌⊎◌, ◌↔◌, Bool, Option, Some, None, IsTrue, IfSome, List, [], ◌∷◌, ◌++◌, length, get_or, slice_get, take, drop, refl, sym, ap, subst, ◌∙◌, inl, inr, arith}
use Rattle.std.specs.List.{Contains, All}
use Rattle.std.specs.Option.{option_or}
use Rattle.std.proofs.lemmas.List.{take-append-drop}
use Rattle.std.proofs.Common.{drop-cons}
use Rattle.std.proofs.lemmas.List.Elements.{All-contains, Contains-append_left, Contains-append_right}
use Rattle.std.proofs.lemmas.Option.{slice_get_within, get_or_from_slice_get}
use Rattle.class_tree.specs.declared.owners.Owners.{Owners}
use Rattle.class_rules.specs.declared.rows.ClassRow.{ClassRow}
use Rattle.class_order.specs.declared.spans.Span.{Span}
use Rattle.class_order.specs.Groups.{group}
use Rattle.class_tree.specs.Indexed.{HasFieldNear, AreRanked, TellsOf, IsHierarchy}
use Rattle.class_tree.specs.Owners.{HoldsOwner}
use Rattle.class_rules.specs.Lookups.{own_field, FieldHere}
use Rattle.class_rules.specs.Orders.{Orders, class_first, each, first_found}
use Rattle.class_rules.specs.Paths.{Path, here, step}
use Rattle.class_rules.specs.Rows.{Rows, HasParent, HasNoParent, HasInterface, Step, interfaces_of}
use Rattle.class_order.specs.Spans.{Holds}
use Rattle.class_order.specs.Tables.{IsReach}
use Rattle.lists.proofs.Elements.{same_read}
use Rattle.class_rules.proofs.OrderFacts.{order_misses, order_exists, orders_exist, orders_append, orders_miss, first_found-append}
use Rattle.class_order.proofs.Placed.{taken_at}
use Rattle.class_rules.proofs.Parents.{parent_from, no_parent_from, interface_named, interface_listed}

-- ---- the parent in a row

pub row_parent : (rows shown : Rows) (a p : ℕ) (d : ClassRow) → shown ≡ rows → a < length rows.classes → d ≡ get_or shown.classes a d → d.parent ≡ Some p → HasParent rows.classes a p
row_parent rows shown a p d e h is names = parent_from rows.classes a p d h (ap (λ r. r.parent) (sym (is ∙ ap (λ rs. get_or rs.classes a d) e)) ∙ names)

pub row_no_parent : (rows shown : Rows) (a : ℕ) (d : ClassRow) → shown ≡ rows → a < length rows.classes → d ≡ get_or shown.classes a d → d.parent ≡ None → HasNoParent rows.classes a
row_no_parent rows shown a d e h is names = no_parent_from rows.classes a d h (ap (λ r. r.parent) (sym (is ∙ ap (λ rs. get_or rs.classes a d) e)) ∙ names)

below_or : (a b : ℕ) → (a < b) ⊎ (b ≤ a)
below_or a b = grind arith

-- a class one step above is one
pub step-above : (rows : Rows) → IsHierarchy rows → (a b : ℕ) → Step rows.classes rows.implements a b → b < length rows.classes
step-above rows s a b st = elim (below_or b (length rows.classes)) [ inl h ↦ h | inr h ↦ absurd (s.known a (b, st, h)) ]

-- the parent of a class is one
pub known_parent : (rows shown : Rows) (a : ℕ) (d : ClassRow) → IsHierarchy rows → shown ≡ rows → a < length rows.classes → d ≡ get_or shown.classes a d → (r : Option ℕ) → d.parent ≡ r → IfSome r (λ b. b < length rows.classes)
known_parent rows shown a d s e h is (Some p) names = step-above rows s a p (inl (row_parent rows shown a p d e h is names))
known_parent rows shown a d s e h is None names = cc

-- ---- what the spans tell

-- a test of the place of a class
pub place_read : (places : List ℕ) (a place : ℕ) → a < length places → place ≡ get_or places a place → place ≡ get_or places a 0
place_read places a place h e = e ∙ same_read places a place 0 h

pub tells : (P : ℕ → ℕ → Type 0) (count : ℕ) (places : List ℕ) (table : List (List Span)) (o : Owners) (answer : Bool) (a k place : ℕ) → TellsOf P count places table o → a < count → place ≡ get_or places a 0
    → IsTrue answer ↔ HoldsOwner table o k place → IsTrue answer ↔ P a k
tells P count places table o answer a k place t h e test = let at = subst (λ (x : ℕ). IsTrue answer ↔ HoldsOwner table o k x) e test in
    (λ y. (t.exact a k h).0 (at.0 y), λ p. at.1 ((t.exact a k h).1 p))

pub tells_path : (Go : ℕ → ℕ → Type 0) (count : ℕ) (places : List ℕ) (table : List (List Span)) (answer : Bool) (a b place : ℕ) → IsReach Go count places table → a < count → b < count → place ≡ get_or places a 0
    → IsTrue answer ↔ Holds (group table b) place → IsTrue answer ↔ Path Go a b
tells_path Go count places table answer a b place t ha hb e test = let at = subst (λ (x : ℕ). IsTrue answer ↔ Holds (group table b) x) e test in
    (λ y. (t.exact a b ha hb).0 (at.0 y), λ p. at.1 ((t.exact a b ha hb).1 p))

-- ---- fields

-- the first of a list, and what stands before and after it
split_at : {X : Type 0} (xs : List X) (j : ℕ) (x : X) → slice_get xs j ≡ Some x → xs ≡ take j xs ++ (x ∷ drop (suc j) xs)
split_at xs j x e = sym (take-append-drop j xs) ∙ ap (λ ys. take j xs ++ ys) (drop-cons xs j x (slice_get_within xs j x e) ∙ ap (λ y. y ∷ drop (suc j) xs) (get_or_from_slice_get xs j x x e))

module _ (rows : Rows) (ranks : List ℕ) (p : AreRanked rows ranks) where
  pub falls : (c i : ℕ) → Contains (interfaces_of rows.implements c) i → get_or ranks i 0 < get_or ranks c 0
  falls c i m = p.falls c i (inr (interface_named rows.implements c i m))

  -- paths of interfaces, by the rows and by the lists
  pub to_lists : {c d : ℕ} → Path (HasInterface rows.implements) c d → Path (λ a b. Contains (interfaces_of rows.implements a) b) c d
  to_lists here = here
  to_lists (step {a} {b} m q) = step (interface_listed rows.implements a b m) (to_lists q)

  pub to_rows : {c d : ℕ} → Path (λ a b. Contains (interfaces_of rows.implements a) b) c d → Path (HasInterface rows.implements) c d
  to_rows here = here
  to_rows (step {a} {b} m q) = step (interface_named rows.implements a b m) (to_rows q)

  -- the class has the field itself
  pub field_in_class : (class key row : ℕ) → Some row ≡ own_field rows.fields class key → FieldHere rows key class (Some row)
  field_in_class class key row found =
      let o = orders_exist (interfaces_of rows.implements) (λ c. get_or ranks c 0) falls (get_or ranks class 0) (interfaces_of rows.implements class) (falls class) in
      (class ∷ o.0, class_first o.1, sym (ap (λ r. option_or r (first_found (λ b. own_field rows.fields b key) o.0)) (sym found)))

  missing : (class key : ℕ) → (HasFieldNear rows class key → ⊥) → (d : ℕ) → Path (λ a b. Contains (interfaces_of rows.implements a) b) class d → own_field rows.fields d key ≡ None
  missing class key none d q = by (own_field rows.fields d key) refl
    where
      by : (r : Option ℕ) → own_field rows.fields d key ≡ r → own_field rows.fields d key ≡ None
      by None e = e
      by (Some row) e = absurd (none (record { owner = d; reached = to_rows q; row = row; own = e }))

  -- no class that is reached by interfaces has it
  pub field_nowhere : (class key : ℕ) → (HasFieldNear rows class key → ⊥) → FieldHere rows key class None
  field_nowhere class key none =
      let o = order_exists (interfaces_of rows.implements) (λ c. get_or ranks c 0) falls class in
      (o.0, o.1, sym (order_misses (interfaces_of rows.implements) (λ b. own_field rows.fields b key) class o.0 o.1 (missing class key none)))

  -- where neither the class nor its interfaces have it near, it hasn't
  pub not_near : (class key : ℕ) → None ≡ own_field rows.fields class key → All (λ i. HasFieldNear rows i key → ⊥) (interfaces_of rows.implements class) → HasFieldNear rows class key → ⊥
  not_near class key none others near = by class near.reached refl near.own
    where
      by : (c : ℕ) {d : ℕ} → Path (HasInterface rows.implements) c d → c ≡ class → own_field rows.fields d key ≡ Some near.row → ⊥
      by c here e own = let own' = ap (λ k. own_field rows.fields k key) e in cc (own, own', none)
      by c (step {a} {b} m q) e own = All-contains (λ i. HasFieldNear rows i key → ⊥) (interfaces_of rows.implements class) b others
          (interface_listed rows.implements class b (subst (λ k. HasInterface rows.implements k b) e m)) (record { owner = _; reached = q; row = near.row; own = own })

  -- the first interface that has it near has what the class has
  pub field_from_interface : (class key i j row : ℕ) → None ≡ own_field rows.fields class key → slice_get (interfaces_of rows.implements class) j ≡ Some i
      → ((k c : ℕ) → k < j → slice_get (interfaces_of rows.implements class) k ≡ Some c → HasFieldNear rows c key → ⊥) → FieldHere rows key i (Some row) → FieldHere rows key class (Some row)
  field_from_interface class key i j row none at before (zs, o, found) = (
    class ∷ (first.0 ++ (zs ++ last.0)),
    class_first (subst (λ cs. Orders (interfaces_of rows.implements) cs (first.0 ++ (zs ++ last.0))) (sym split) (orders_append (interfaces_of rows.implements) first.1 (each o last.1))),
    sym (ap (λ r. option_or r (first_found own (first.0 ++ (zs ++ last.0)))) (sym none) ∙ first_found-append own first.0 (zs ++ last.0) ∙ ap (λ r. option_or r (first_found own (zs ++ last.0))) nothing
        ∙ first_found-append own zs last.0 ∙ ap (λ r. option_or r (first_found own last.0)) (sym found)),
  )
    where
      all : List ℕ
      all = interfaces_of rows.implements class

      own : ℕ → Option ℕ
      own = λ b. own_field rows.fields b key

      split : all ≡ take j all ++ (i ∷ drop (suc j) all)
      split = split_at all j i at

      within : (cs : List ℕ) → ((c : ℕ) → Contains cs c → Contains all c) → (c : ℕ) → Contains cs c → get_or ranks c 0 < get_or ranks class 0
      within cs some c m = falls class c (some c m)

      first : (xs : List ℕ) × Orders (interfaces_of rows.implements) (take j all) xs
      first = orders_exist (interfaces_of rows.implements) (λ c. get_or ranks c 0) falls (get_or ranks class 0) (take j all)
          (within (take j all) (λ c m. subst (λ xs. Contains xs c) (sym split) (Contains-append_left (take j all) _ c m)))

      last : (xs : List ℕ) × Orders (interfaces_of rows.implements) (drop (suc j) all) xs
      last = orders_exist (interfaces_of rows.implements) (λ c. get_or ranks c 0) falls (get_or ranks class 0) (drop (suc j) all)
          (within (drop (suc j) all) (λ c m. subst (λ xs. Contains xs c) (sym split) (Contains-append_right (take j all) _ c (Contains-append_right (i ∷ []) _ c m))))

      nothing : first_found own first.0 ≡ None
      nothing = orders_miss (interfaces_of rows.implements) own (take j all) first.0 first.1 (λ c d m q.
          let k = taken_at all j c (omega (arith, slice_get_within all j i at)) m in missing c key (before k.0 c k.1 k.2) d q)
