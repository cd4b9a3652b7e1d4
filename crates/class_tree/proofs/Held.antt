-- The interfaces that have a method of a key.
use Rattle.std.proofs.Common.{◌≡◌, ℕ, ◌+◌, ◌<◌, ◌↔◌, ◌==◌, ◌&&◌, Bool, true, false, true≢false, Option, Some, None, List, [], ◌∷◌, ◌++◌, length, map, get_or, take, slice_get, refl, sym, ap, subst, ◌∙◌, inl, inr, eqb-true, eq-eqb}
use Rattle.std.specs.List.{Contains, All, position}
use Rattle.std.specs.Option.{is_some}
use Rattle.std.proofs.lemmas.Bool.{and_from}
use Rattle.std.proofs.lemmas.List.Elements.{Contains-push, Contains-push_cases, Contains-append_left, All-contains}
use Rattle.std.proofs.lemmas.Option.{slice_get-get_or, get_or_from_slice_get}
use Rattle.class_tree.specs.declared.first_rows.Member.{Member}
use Rattle.class_tree.specs.declared.holders.Holders.{Holders}
use Rattle.class_rules.specs.declared.rows.ClassRow.{ClassRow}
use Rattle.class_rules.specs.declared.rows.MethodRow.{MethodRow}
use Rattle.class_tree.specs.Holders.{AreHolders, IsInterface, holders_of}
use Rattle.class_tree.specs.Indexed.{HoldsMethod}
use Rattle.class_tree.specs.KeySpans.{AreClassesByKey, list_at, member_of_method}
use Rattle.class_rules.specs.Lookups.{own_row}
use Rattle.class_rules.specs.Rows.{Rows}
use Rattle.class_tree.proofs.Building.{Contains-map, Contains-mapped}
use Rattle.class_tree.proofs.KeyLists.{key_found, key_same}
use Rattle.lists.proofs.Elements.{Contains-nil, Contains-take_more, Contains-take_kept, Contains-take_last}
use Rattle.class_order.proofs.Positions.{found_from}
use Rattle.class_rules.proofs.Selected.{owned_row}

-- ---- interfaces

pub interface_at : (classes : List ClassRow) (c : ℕ) (d : ClassRow) → c < length classes → (get_or classes c d).interface ≡ true → IsInterface classes c
interface_at classes c d h e = record { class_row = get_or classes c d; there = slice_get-get_or classes c d h; is_interface = e }

pub no_interface_at : (classes : List ClassRow) (c : ℕ) (d : ClassRow) → (get_or classes c d).interface ≡ false → IsInterface classes c → ⊥
no_interface_at classes c d e i =
    let same : get_or classes c d ≡ i.class_row = get_or_from_slice_get classes c i.class_row d i.there in
    true≢false (sym (ap (λ (r : ClassRow). r.interface) same ∙ i.is_interface) ∙ e)

-- what a class that is no interface has isn't of this interface
pub in_another : (classes : List ClassRow) (class key c k : ℕ) → (IsInterface classes class → ⊥) → IsInterface classes c → ((class == c) && (key == k)) ≡ false
in_another classes class key c k apart i = by (class == c) refl
  where
    by : (b : Bool) → (class == c) ≡ b → (b && (key == k)) ≡ false
    by true e = absurd (apart (subst (IsInterface classes) (sym (eqb-true class c e)) i))
    by false e = refl

-- ---- some of the members, one after the other

module _ (In : Member → Type 0) (members found : List Member) (i : ℕ) (d : Member) (h : i < length members)
    (so_far : (m : Member) → Contains found m ↔ Contains (take i members) m × In m) where
  pub one_more : In (get_or members i d)
      → (m : Member) → Contains (found ++ get_or members i d ∷ []) m ↔ Contains (take (i + 1) members) m × In m
  one_more here m = (
    λ c. elim (Contains-push_cases found (get_or members i d) m c) [
      | inl old ↦ let p = (so_far m).0 old in (Contains-take_kept members i d m h p.0, p.1)
      | inr new ↦ (subst (Contains (take (i + 1) members)) new (Contains-take_last members i d h), subst In new here)
    ],
    λ p. elim (Contains-take_more members i d m h p.0) [
      | inl old ↦ Contains-append_left found _ m ((so_far m).1 (old, p.1))
      | inr is ↦ subst (Contains (found ++ get_or members i d ∷ [])) is (Contains-push found (get_or members i d))
    ],
  )

  pub one_skipped : (In (get_or members i d) → ⊥) → (m : Member) → Contains found m ↔ Contains (take (i + 1) members) m × In m
  one_skipped apart m = (
    λ c. let p = (so_far m).0 c in (Contains-take_kept members i d m h p.0, p.1),
    λ p. elim (Contains-take_more members i d m h p.0) [
      | inl old ↦ (so_far m).1 (old, p.1)
      | inr is ↦ absurd (apart (subst In (sym is) p.1))
    ],
  )

-- ---- the interfaces of each key

pub holders_exact : (classes : List ClassRow) (members found : List Member) (keys : List ℕ) (interfaces : List (List ℕ))
    → ((m : Member) → Contains found m ↔ Contains members m × IsInterface classes m.class) → All (λ (m : Member). Contains keys m.key) found → AreClassesByKey found keys interfaces
    → (k b : ℕ) → Contains (list_at interfaces (position (λ x. k == x) keys)) b ↔ IsInterface classes b × Contains members (record { class = b; key = k })
holders_exact classes members found keys interfaces only known s k b = by (position (λ x. k == x) keys) refl
  where
    member : Member
    member = record { class = b; key = k }

    by : (o : Option ℕ) → position (λ x. k == x) keys ≡ o → Contains (list_at interfaces o) b ↔ IsInterface classes b × Contains members member
    by None none = (
      λ h. absurd (Contains-nil b h),
      λ p. absurd (key_found keys k (All-contains (λ (m : Member). Contains keys m.key) found member known ((only member).1 (p.1, p.0))) none),
    )
    by (Some i) at = (
      λ h.
          let m = s.some i b h in
          let f = (only m.0).0 m.1 in
          let key : m.0.key ≡ k = sym (key_same keys k m.0.key i at m.2) in
          let same : m.0 ≡ member = λ j. record { class = m.3 j; key = key j } in
          (subst (IsInterface classes) m.3 f.1, subst (Contains members) same f.0),
      λ p. s.all member i ((only member).1 (p.1, p.0)) at,
    )

-- a method of the class with this key makes a first row
row_of_member : (methods : List MethodRow) (b k : ℕ) → Contains (map member_of_method methods) (record { class = b; key = k }) → (row : ℕ) × (own_row methods b k ≡ Some row)
row_of_member methods b k c = by (own_row methods b k) refl
  where
    p : (i : ℕ) × (m : MethodRow) × (slice_get methods i ≡ Some m) × (member_of_method m ≡ record { class = b; key = k })
    p = Contains-map member_of_method methods (record { class = b; key = k }) c

    some : is_some (own_row methods b k) ≡ true
    some = found_from (λ m. (m.class == b) && (m.key == k)) 0 methods p.0 p.1 p.2
        (and_from (p.1.class == b) (p.1.key == k) (eq-eqb p.1.class b (ap (λ (x : Member). x.class) p.3)) (eq-eqb p.1.key k (ap (λ (x : Member). x.key) p.3)))

    by : (o : Option ℕ) → own_row methods b k ≡ o → (row : ℕ) × (own_row methods b k ≡ Some row)
    by None none = let t = sym (ap is_some none) ∙ some in cc
    by (Some row) is = (row, is)

member_of_row : (rows : Rows) (b k row : ℕ) → own_row rows.methods b k ≡ Some row → Contains (map member_of_method rows.methods) (record { class = b; key = k })
member_of_row rows b k row e =
    let m = owned_row rows b k row e in
    let same : member_of_method m.0 ≡ record { class = b; key = k } = λ j. record { class = m.2 j; key = m.3 j } in
    subst (Contains (map member_of_method rows.methods)) same (Contains-mapped member_of_method rows.methods row m.0 m.1)

pub tells_holders : (rows : Rows) (h : Holders) → AreHolders rows.classes (map member_of_method rows.methods) h → (b k : ℕ) → Contains (holders_of h k) b ↔ HoldsMethod rows b k
tells_holders rows h are b k = (
  λ c.
      let p = (are.exact k b).0 c in
      let row = row_of_member rows.methods b k p.1 in
      record { is_interface = p.0; row = row.0; own = row.1 },
  λ held. (are.exact k b).1 (held.is_interface, member_of_row rows b k held.row held.own),
)
