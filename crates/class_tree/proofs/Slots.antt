-- For each class its first rows, and look-ups along the parents by slots.
use Rattle.std.proofs.Common.{◌≡◌, ℕ, zero, suc, ◌+◌, ◌<◌, ◌≤◌, ◌⊎◌, ◌↔◌, ◌==◌, ◌&&◌, Option, Some, None, List, [], ◌∷◌, ◌++◌, length, get_or, map, set, slice_get, replicate, refl, sym, ap, subst, ◌∙◌, inl, inr, arith, eqb-true, get_or-set_same, get_or-set_other}
use Rattle.std.specs.List.{All, Contains, position}
use Rattle.std.specs.List.Sorted.{IsNonDecreasingBy}
use Rattle.std.proofs.lemmas.Bool.{and_parts, cases_eq}
use Rattle.std.proofs.lemmas.List.Elements.{All-contains, Contains-append_left, Contains-get_or, Contains-push, Contains-push_cases}
use Rattle.std.proofs.lemmas.List.Quantifiers.{position-Some}
use Rattle.std.proofs.lemmas.Option.{slice_get_within}
use Rattle.class_rules.specs.Bodies.{has_body}
use Rattle.class_tree.specs.declared.first_rows.Member.{Member}
use Rattle.class_tree.specs.declared.numbering.Numbering.{Numbering}
use Rattle.class_tree.specs.declared.own_rows.Own.{Own}
use Rattle.class_rules.specs.declared.rows.ClassRow.{ClassRow}
use Rattle.class_rules.specs.declared.rows.FieldRow.{FieldRow}
use Rattle.class_rules.specs.declared.rows.MethodRow.{MethodRow}
use Rattle.class_tree.specs.declared.turns.Turn.{Turn}
use Rattle.class_order.specs.Groups.{group}
use Rattle.class_tree.specs.KeySpans.{list_at, member_of_field, member_of_method}
use Rattle.class_rules.specs.Lookups.{Upwards, found, further, ended, own_body, own_field}
use Rattle.class_rules.specs.Rows.{HasParent}
use Rattle.class_tree.specs.Turns.{AreOwn, AreRowsOf, HaveOneRow, IsForest, IsNumbering, OwnAt, SlotPath, turned}
use Rattle.class_tree.proofs.KeyLists.{key_found, key_same}
use Rattle.class_rules.proofs.LawFacts.{position_first}
use Rattle.class_order.proofs.Listed.{group-replicate}
use Rattle.lists.proofs.Elements.{Contains-at, Contains-nil}

-- ---- the members of rows

-- what a list has at an index it gives a mapped list
slice_get-map : {X Y : Type 0} (f : X → Y) (xs : List X) (i : ℕ) (x : X) → slice_get xs i ≡ Some x → slice_get (map f xs) i ≡ Some (f x)
slice_get-map f [] i x e = cc
slice_get-map f (y ∷ ys) zero x e = let same : y ≡ x = cc in ap (λ z. Some (f z)) same
slice_get-map f (y ∷ ys) (suc i) x e = slice_get-map f ys i x e

-- the first row that a class has for a key is that of a method of both
pub body_rows : (methods : List MethodRow) → AreRowsOf (own_body methods) (map member_of_method methods)
body_rows methods class key row e =
    let m = position_first (λ m. (m.class == class) && (m.key == key) && has_body m.body) methods row (sym e) in
    let parts = and_parts ((m.0.class == class) && (m.0.key == key)) (has_body m.0.body) m.2 in
    let both = and_parts (m.0.class == class) (m.0.key == key) parts.0 in
    let same : member_of_method m.0 ≡ record { class = class; key = key } = λ j. record { class = eqb-true m.0.class class both.0 j; key = eqb-true m.0.key key both.1 j } in
    slice_get-map member_of_method methods row m.0 m.1 ∙ ap Some same

-- and the same of fields
pub field_rows : (fields : List FieldRow) → AreRowsOf (own_field fields) (map member_of_field fields)
field_rows fields class key row e =
    let f = position_first (λ f. (f.class == class) && (f.key == key)) fields row (sym e) in
    let both = and_parts (f.0.class == class) (f.0.key == key) f.2 in
    let same : member_of_field f.0 ≡ record { class = class; key = key } = λ j. record { class = eqb-true f.0.class class both.0 j; key = eqb-true f.0.key key both.1 j } in
    slice_get-map member_of_field fields row f.0 f.1 ∙ ap Some same

-- two functions of a class and a key that give the same are one
pub same_rows : {f g : ℕ → ℕ → Option ℕ} → ((c k : ℕ) → f c k ≡ g c k) → f ≡ g
same_rows same j c k = same c k j

-- ---- the rows of the first members

-- those of the first members alone
pub AreOwnOf : (ℕ → ℕ → Option ℕ) → List ℕ → ℕ → List (List Own) → Type 0
AreOwnOf own keys count owns = (c : ℕ) (o : Own) → Contains (group owns c) o
    ↔ ((key : ℕ) × (position (λ x. key == x) keys ≡ Some o.slot) × (own c key ≡ Some o.row) × (o.row < count))

module _ (own_of : ℕ → ℕ → Option ℕ) (members : List Member) (are_rows : AreRowsOf own_of members) (keys : List ℕ) where
  pub owns_none : (n : ℕ) → AreOwnOf own_of keys 0 (replicate n [])
  unfolding AreOwnOf
  owns_none n c o = (λ m. absurd (Contains-nil o (subst (λ xs. Contains xs o) (group-replicate n c) m)), λ p. absurd (omega (arith, p.3)))

  -- all of them, where all members were looked at
  pub owns_all : (count : ℕ) (owns : List (List Own)) → length members ≤ count → AreOwnOf own_of keys count owns → AreOwn own_of keys owns
  unfolding AreOwnOf
  owns_all count owns past are c o = (
    λ m. let p = (are c o).0 m in (p.0, p.1, p.2),
    λ p.
        let within = slice_get_within members o.row (record { class = c; key = p.0 }) (are_rows c p.0 o.row p.2) in
        (are c o).1 (p.0, p.1, p.2, omega (arith, within, past)),
  )

  module _ (row : ℕ) (m : Member) (there : slice_get members row ≡ Some m) (owns : List (List Own)) (are : AreOwnOf own_of keys row owns) where
    same_member : (c key : ℕ) → own_of c key ≡ Some row → (m.class ≡ c) × (m.key ≡ key)
    same_member c key e =
        let at = are_rows c key row e in
        let same : m ≡ record { class = c; key = key } = cc (at, there) in
        (ap (λ (x : Member). x.class) same, ap (λ (x : Member). x.key) same)

    -- the next member isn't a first one
    pub owns_same : (own_of m.class m.key ≡ Some row → ⊥) → AreOwnOf own_of keys (row + 1) owns
    unfolding AreOwnOf
    owns_same apart c o = (
      λ u. let p = (are c o).0 u in (p.0, p.1, p.2, omega (arith, p.3)),
      λ p. elim (cases_eq o.row row) [
        | inl e ↦
            let is : own_of c p.0 ≡ Some row = p.2 ∙ ap Some e in
            let same = same_member c p.0 is in
            absurd (apart (ap (λ k. own_of k m.key) same.0 ∙ ap (own_of c) same.1 ∙ is))
        | inr ne ↦ (are c o).1 (p.0, p.1, p.2, omega (arith, p.3, ne))
      ],
    )

    -- it is one
    module _ (slot : ℕ) (first : own_of m.class m.key ≡ Some row) (at : position (λ x. m.key == x) keys ≡ Some slot) (h : m.class < length owns) where
      abbrev pub own : Own
      own = record { slot = slot; row = row }

      abbrev pub owns_then : List (List Own)
      owns_then = set owns m.class (group owns m.class ++ own ∷ [])

      in_class : group owns_then m.class ≡ group owns m.class ++ own ∷ []
      in_class = get_or-set_same owns m.class (group owns m.class ++ own ∷ []) [] h

      in_other : (c : ℕ) → (c ≡ m.class → ⊥) → group owns_then c ≡ group owns c
      in_other c apart = get_or-set_other owns m.class c (group owns m.class ++ own ∷ []) [] apart

      kept : (c : ℕ) (o : Own) → Contains (group owns c) o → Contains (group owns_then c) o
      kept c o u = elim (cases_eq c m.class) [
        | inl e ↦ subst (λ k. Contains (group owns_then k) o) (sym e) (subst (λ xs. Contains xs o) (sym in_class) (Contains-append_left (group owns m.class) (own ∷ []) o (subst (λ k. Contains (group owns k) o) e u)))
        | inr apart ↦ subst (λ xs. Contains xs o) (sym (in_other c apart)) u
      ]

      added : Contains (group owns_then m.class) own
      added = subst (λ xs. Contains xs own) (sym in_class) (Contains-push (group owns m.class) own)

      old_or_own : (c : ℕ) (o : Own) → Contains (group owns_then c) o → Contains (group owns c) o ⊎ ((c ≡ m.class) × (own ≡ o))
      old_or_own c o u = elim (cases_eq c m.class) [
        | inl e ↦ elim (Contains-push_cases (group owns m.class) own o (subst (λ xs. Contains xs o) in_class (subst (λ k. Contains (group owns_then k) o) e u))) [
          | inl old ↦ inl (subst (λ k. Contains (group owns k) o) (sym e) old)
          | inr is ↦ inr (e, is)
        ]
        | inr apart ↦ inl (subst (λ xs. Contains xs o) (in_other c apart) u)
      ]

      pub owns_more : AreOwnOf own_of keys (row + 1) owns_then
      unfolding AreOwnOf
      owns_more c o = (
        λ u. elim (old_or_own c o u) [
          | inl old ↦ let p = (are c o).0 old in (p.0, p.1, p.2, omega (arith, p.3))
          | inr new ↦ (
            m.key,
            at ∙ ap (λ (x : Own). Some x.slot) new.1,
            ap (λ k. own_of k m.key) new.0 ∙ first ∙ ap (λ (x : Own). Some x.row) new.1,
            let r : row ≡ o.row = ap (λ (x : Own). x.row) new.1 in omega (arith, r),
          )
        ],
        λ p. elim (cases_eq o.row row) [
          | inl e ↦
              let same = same_member c p.0 (p.2 ∙ ap Some e) in
              let slots : Some slot ≡ Some o.slot = sym at ∙ ap (λ k. position (λ x. k == x) keys) same.1 ∙ p.1 in
              let slot_is : slot ≡ o.slot = cc (slots) in
              let is : own ≡ o = λ j. record { slot = slot_is j; row = sym e j } in
              subst (λ k. Contains (group owns_then k) o) same.0 (subst (Contains (group owns_then m.class)) is added)
          | inr ne ↦ kept c o ((are c o).1 (p.0, p.1, p.2, omega (arith, p.3, ne)))
        ],
      )

-- ---- what these lists are

-- a look-up upwards, by another fact of what each class gives
pub upwards_map : (classes : List ClassRow) (A B : ℕ → Option ℕ → Type 0) → ((c : ℕ) (r : Option ℕ) → A c r → B c r) → {c : ℕ} {r : Option ℕ} → Upwards classes A c r → Upwards classes B c r
upwards_map classes A B to (found {c} {r} a) = found (to c (Some r) a)
upwards_map classes A B to (further {c} {p} {r} n h u) = further (to c None n) h (upwards_map classes A B to u)
upwards_map classes A B to (ended {c} n h) = ended (to c None n) h

module _ (own_of : ℕ → ℕ → Option ℕ) (keys : List ℕ) (owns : List (List Own)) (are : AreOwn own_of keys owns) where
  pub own_slots : (c : ℕ) → All (λ (o : Own). o.slot < length keys) (group owns c)
  own_slots c k d h = let p = (are c (get_or (group owns c) k d)).0 (Contains-get_or (group owns c) k d h) in (position-Some (λ x. p.0 == x) keys _ 0 p.1).0

  pub own_one : (c : ℕ) → HaveOneRow (group owns c)
  own_one c a b u v e =
      let p = (are c a).0 u in
      let q = (are c b).0 v in
      let same : p.0 ≡ q.0 = key_same keys p.0 q.0 b.slot (p.1 ∙ ap Some e) q.1 in
      let rows : Some a.row ≡ Some b.row = sym p.2 ∙ ap (own_of c) same ∙ q.2 in
      cc (rows)

  -- what a class gives for a slot is its first row of the key
  own_is : (key s c : ℕ) (r : Option ℕ) → position (λ x. key == x) keys ≡ Some s → OwnAt owns s c r → r ≡ own_of c key
  own_is key s c None at none = by (own_of c key) refl
    where
      by : (o : Option ℕ) → own_of c key ≡ o → None ≡ own_of c key
      by None e = sym e
      by (Some row) e = absurd (none (record { slot = s; row = row }) ((are c (record { slot = s; row = row })).1 (key, at, e)) refl)
  own_is key s c (Some row) at here =
      let p = (are c (record { slot = s; row = row })).0 here in
      let same : p.0 ≡ key = key_same keys p.0 key s p.1 at in
      sym (sym (ap (own_of c) same) ∙ p.2)

  pub slot_path : (classes : List ClassRow) (key s c : ℕ) (r : Option ℕ) → position (λ x. key == x) keys ≡ Some s → SlotPath classes owns s c r
      → Upwards classes (λ c r. r ≡ own_of c key) c r
  slot_path classes key s c r at u = upwards_map classes (OwnAt owns s) (λ c r. r ≡ own_of c key) (λ c r here. own_is key s c r at here) u

-- ---- a key that no member has

row_there : (classes : List ClassRow) (c : ℕ) → c < length classes → (row : ClassRow) × (slice_get classes c ≡ Some row)
row_there [] c h = absurd (omega arith)
row_there (x ∷ xs) zero h = (x, refl)
row_there (x ∷ xs) (suc c) h = row_there xs c (omega arith)

pub unknown_key : (own_of : ℕ → ℕ → Option ℕ) (members : List Member) (keys : List ℕ) (key : ℕ) → AreRowsOf own_of members → All (λ (m : Member). Contains keys m.key) members
    → position (λ x. key == x) keys ≡ None → (c : ℕ) → None ≡ own_of c key
unknown_key own_of members keys key are_rows known none c = by (own_of c key) refl
  where
    by : (o : Option ℕ) → own_of c key ≡ o → None ≡ own_of c key
    by None e = sym e
    by (Some row) e =
        let member : Member = record { class = c; key = key } in
        absurd (key_found keys key (All-contains (λ (m : Member). Contains keys m.key) members member known (Contains-at members row member (are_rows c key row e))) none)

-- nothing is found above, since the numbers fall
pub none_above : (classes : List ClassRow) (numbers : List ℕ) (At : ℕ → Option ℕ → Type 0) → ((a b : ℕ) → HasParent classes a b → get_or numbers b 0 < get_or numbers a 0)
    → ((a b : ℕ) → HasParent classes a b → b < length classes) → ((c : ℕ) → At c None) → (n c : ℕ) → c < length classes → get_or numbers c 0 < n → Upwards classes At c None
none_above classes numbers At falls known none zero c h less = absurd (omega arith)
none_above classes numbers At falls known none (suc n) c h less = by (row_there classes c h)
    (λ p named. none_above classes numbers At falls known none n p (known c p named) (let lower = falls c p named in omega (arith, lower, less)))
  where
    by : (row : ClassRow) × (slice_get classes c ≡ Some row) → ((p : ℕ) → HasParent classes c p → Upwards classes At p None) → Upwards classes At c None
    by r rest = on r.0.parent refl
      where
        on : (o : Option ℕ) → r.0.parent ≡ o → Upwards classes At c None
        on None e = ended (none c) (record { row = r.0; there = r.1; names = e })
        on (Some p) e = let named : HasParent classes c p = record { row = r.0; there = r.1; names = e } in further (none c) named (rest p named)

-- ---- what look-ups of all keys give

module _ (classes : List ClassRow) (own_of : ℕ → ℕ → Option ℕ) (members : List Member) (keys numbers : List ℕ) (owns : List (List Own)) (turns : List (List Turn)) (are_rows : AreRowsOf own_of members)
    (are : AreOwn own_of keys owns) (known : All (λ (m : Member). Contains keys m.key) members) (f : IsForest classes owns numbers (length keys)) where
  pub slot_rising : ((s : ℕ) → IsNonDecreasingBy (λ (t : Turn). t.at) (group turns s)) → (o : Option ℕ) → IsNonDecreasingBy (λ (t : Turn). t.at) (list_at turns o)
  slot_rising rising None = λ i j d le h. absurd (omega (arith, h))
  slot_rising rising (Some s) = rising s

  pub key_path : ((c s : ℕ) → c < length classes → SlotPath classes owns s c (turned None (group turns s) (get_or numbers c 0)))
      → (c key : ℕ) → c < length classes → Upwards classes (λ c r. r ≡ own_of c key) c (turned None (list_at turns (position (λ x. key == x) keys)) (get_or numbers c 0))
  key_path told c key h = by (position (λ x. key == x) keys) refl
    where
      by : (o : Option ℕ) → position (λ x. key == x) keys ≡ o → Upwards classes (λ c r. r ≡ own_of c key) c (turned None (list_at turns o) (get_or numbers c 0))
      by None none = none_above classes numbers (λ c r. r ≡ own_of c key) f.falls f.known (unknown_key own_of members keys key are_rows known none) (get_or numbers c 0 + 1) c h (omega arith)
      by (Some s) at = slot_path own_of keys owns are classes key s c _ at (told c s h)

-- the numbers of a search over parents
pub forest_of : (classes : List ClassRow) (own_of : ℕ → ℕ → Option ℕ) (keys numbers : List ℕ) (n : Numbering) (owns : List (List Own)) → AreOwn own_of keys owns
    → length owns ≡ length classes → numbers ≡ n.numbers.items → IsNumbering classes n → IsForest classes owns numbers (length keys)
forest_of classes own_of keys numbers n owns are owns_len copied is = subst (λ xs. IsForest classes owns xs (length keys)) (sym copied) (record {
  owns_len = owns_len;
  slots = own_slots own_of keys owns are;
  one = own_one own_of keys owns are;
  len = is.own.len;
  apart = is.own.own;
  falls = is.falls;
  known = is.known;
})
