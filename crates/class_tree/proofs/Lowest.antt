-- Default methods, one interface after the other.
use Rattle.std.proofs.Common.{◌≡◌, ◌≢◌, ℕ, zero, suc, ◌+◌, ◌<◌, ◌≤◌, ◌⊎◌, ◌↔◌, Bool, true, true≢false, Option, Some, None, List, [], ◌∷◌, slice_get, get_or, drop, length, refl, sym, ap, subst, ◌∙◌, inl, inr, arith}
use Rattle.std.specs.List.{Contains}
use Rattle.std.specs.Option.{is_some}
use Rattle.std.proofs.lemmas.Bool.{cases_eq}
use Rattle.std.proofs.lemmas.List.Elements.{Contains-get_or}
use Rattle.std.proofs.lemmas.Option.{slice_get_within, slice_get-get_or, get_or_from_slice_get}
use Rattle.class_tree.specs.declared.holders.Holders.{Holders}
use Rattle.class_rules.specs.Bodies.{has_body}
use Rattle.class_rules.specs.declared.rows.MethodRow.{MethodRow}
use Rattle.class_tree.specs.declared.tree.Defaults.{Defaults}
use Rattle.class_tree.specs.declared.tree.Defaults.TheVariants.{Nothing, One, Several}
use Rattle.class_tree.specs.Defaults.{AreDefaults, HasDefault, HasTwo, IsDefaultFrom}
use Rattle.class_tree.specs.Holders.{holders_of}
use Rattle.class_tree.specs.Indexed.{AreReached, HoldsMethod}
use Rattle.class_rules.specs.Lookups.{IsAmbiguous, IsDefault, IsHolder, IsLowestHolder, OnPath, Resolve, ambiguous, by_default, nowhere, own_row}
use Rattle.class_rules.specs.Rows.{Rows, Sub}
use Rattle.class_rules.proofs.LawFacts.{path_one}
use Rattle.class_rules.proofs.Selected.{owned_row}

-- ---- holders

-- what is left of a list when the first are dropped
Contains-dropped : (n : ℕ) (xs : List ℕ) (x : ℕ) → Contains (drop n xs) x → Contains xs x
Contains-dropped zero xs x c = c
Contains-dropped (suc n) [] x c = c
Contains-dropped (suc n) (y ∷ xs) x c = let m = Contains-dropped n xs x c in (suc m.0, omega (arith, m.1), m.2)

Contains-drop_from : (n : ℕ) (xs : List ℕ) (i x : ℕ) → n ≤ i → i < length xs → get_or xs i x ≡ x → Contains (drop n xs) x
Contains-drop_from zero xs i x le h e = (i, h, e)
Contains-drop_from (suc n) [] i x le h e = absurd (omega arith)
Contains-drop_from (suc n) (y ∷ xs) zero x le h e = absurd (omega arith)
Contains-drop_from (suc n) (y ∷ xs) (suc i) x le h e = Contains-drop_from n xs i x (omega arith) (omega arith) e

pub holder_from : (rows : Rows) (class key b : ℕ) → Sub rows class b → HoldsMethod rows b key → IsHolder rows class key b
holder_from rows class key b s h = record {
  reached = s;
  class_row = h.is_interface.class_row;
  there = h.is_interface.there;
  is_interface = h.is_interface.is_interface;
  row = h.row;
  holds = h.own;
}

pub held_by : (rows : Rows) (class key b : ℕ) → IsHolder rows class key b → HoldsMethod rows b key
held_by rows class key b h = record {
  is_interface = record { class_row = h.class_row; there = h.there; is_interface = h.is_interface };
  row = h.row;
  own = h.holds;
}

pub held_within : (rows : Rows) (b key : ℕ) → HoldsMethod rows b key → b < length rows.classes
held_within rows b key h = slice_get_within rows.classes b h.is_interface.class_row h.is_interface.there

-- the list kept for the key has them
pub listed : (rows : Rows) (h : Holders) (key : ℕ) (interfaces : List ℕ) → interfaces ≡ holders_of h key → ((b k : ℕ) → Contains (holders_of h k) b ↔ HoldsMethod rows b k)
    → (b : ℕ) → Contains interfaces b ↔ HoldsMethod rows b key
listed rows h key interfaces e all b = subst (λ xs. Contains xs b ↔ HoldsMethod rows b key) (sym e) (all b key)

pub listed_held : (rows : Rows) (key : ℕ) (interfaces : List ℕ) → ((b : ℕ) → Contains interfaces b ↔ HoldsMethod rows b key) → (i : ℕ) → i < length interfaces → HoldsMethod rows (get_or interfaces i 0) key
listed_held rows key interfaces all i h = (all (get_or interfaces i 0)).0 (Contains-get_or interfaces i 0 h)

-- those from the first on that the class reaches are all that it reaches
pub reached_from : (rows : Rows) (class key from : ℕ) (interfaces : List ℕ) → ((b : ℕ) → Contains interfaces b ↔ HoldsMethod rows b key)
    → ((k b : ℕ) → k < from → slice_get interfaces k ≡ Some b → Sub rows class b → ⊥) → AreReached rows class key (drop from interfaces)
reached_from rows class key from interfaces all before = record {
  held = λ b m. (all b).0 (Contains-dropped from interfaces b m);
  all = λ b h.
      let m = (all b).1 (held_by rows class key b h) in
      elim (below_or m.0 from) [
        | inl less ↦ absurd (before m.0 b less (slice_get-get_or interfaces m.0 b m.1 ∙ ap Some m.2) h.reached)
        | inr more ↦ Contains-drop_from from interfaces m.0 b more m.1 m.2
      ];
}
  where
    below_or : (a b : ℕ) → (a < b) ⊎ (b ≤ a)
    below_or a b = grind arith

pub reached_at : (rows : Rows) (class key : ℕ) (interfaces : List ℕ) → AreReached rows class key interfaces → (i : ℕ) → i < length interfaces → HoldsMethod rows (get_or interfaces i 0) key
reached_at rows class key interfaces r i h = r.held (get_or interfaces i 0) (Contains-get_or interfaces i 0 h)

-- ---- no default method, one, or more

pub same_defaults : (P Q : ℕ → Type 0) → ((row : ℕ) → P row → Q row) → ((row : ℕ) → Q row → P row) → (d : Defaults) → AreDefaults P d → AreDefaults Q d
same_defaults P Q to from Nothing none = λ row q. none row (from row q)
same_defaults P Q to from (One row) one = (to row one.0, λ other q. one.1 other (from other q))
same_defaults P Q to from Several two = record { one = two.one; other = two.other; is_one = to two.one two.is_one; is_other = to two.other two.is_other; apart = two.apart }

-- the row comes from one of the first interfaces of a list
pub record IsDefaultOf (rows : Rows) (class key : ℕ) (interfaces : List ℕ) (count row : ℕ) : Type 0 where
  pub index : ℕ
  pub interface : ℕ
  pub within : index < count
  pub there : slice_get interfaces index ≡ Some interface
  pub default : IsDefaultFrom rows class key interface row

module _ (rows : Rows) (class key : ℕ) (interfaces : List ℕ) where
  pub none_of : (row : ℕ) → IsDefaultOf rows class key interfaces 0 row → ⊥
  none_of row d = absurd (omega (arith, d.within))

  default_of : (count row : ℕ) → IsDefaultOf rows class key interfaces count row → IsDefault rows class key row
  default_of count row d =
      record { interface = d.interface; lowest = d.default.lowest; first = d.default.first; method = d.default.method; there = d.default.there; bodied = d.default.bodied }

  module _ (reached : AreReached rows class key interfaces) where
    of_default : (count row : ℕ) → length interfaces ≤ count → IsDefault rows class key row → IsDefaultOf rows class key interfaces count row
    of_default count row past d =
        let m = reached.all d.interface d.lowest.holder in
        record {
          index = m.0;
          interface = d.interface;
          within = omega (arith, m.1, past);
          there = slice_get-get_or interfaces m.0 d.interface m.1 ∙ ap Some m.2;
          default = record { lowest = d.lowest; first = d.first; method = d.method; there = d.there; bodied = d.bodied };
        }

    -- those of all the interfaces are all
    pub all_defaults : (count : ℕ) → length interfaces ≤ count → (d : Defaults) → AreDefaults (IsDefaultOf rows class key interfaces count) d → AreDefaults (IsDefault rows class key) d
    all_defaults count past d are = same_defaults (IsDefaultOf rows class key interfaces count) (IsDefault rows class key) (λ row. default_of count row) (λ row. of_default count row past) d are

  -- one more interface, and the row that it gives
  module _ (count interface : ℕ) (given : Option ℕ) (there : slice_get interfaces count ≡ Some interface)
      (gives : (row : ℕ) → (given ≡ Some row) ↔ IsDefaultFrom rows class key interface row) where
    kept : (row : ℕ) → IsDefaultOf rows class key interfaces count row → IsDefaultOf rows class key interfaces (count + 1) row
    kept row d = record { index = d.index; interface = d.interface; within = omega (arith, d.within); there = d.there; default = d.default }

    added : (row : ℕ) → given ≡ Some row → IsDefaultOf rows class key interfaces (count + 1) row
    added row e = record { index = count; interface = interface; within = omega arith; there = there; default = (gives row).0 e }

    old_or_given : (row : ℕ) → IsDefaultOf rows class key interfaces (count + 1) row → IsDefaultOf rows class key interfaces count row ⊎ (given ≡ Some row)
    old_or_given row d = elim (cases_eq d.index count) [
      | inl e ↦
          let same : d.interface ≡ interface = cc (d.there, there, ap (slice_get interfaces) e) in
          inr ((gives row).1 (subst (λ b. IsDefaultFrom rows class key b row) same d.default))
      | inr apart ↦ inl (record { index = d.index; interface = d.interface; within = omega (arith, d.within, apart); there = d.there; default = d.default })
    ]

    pub nothing_more : given ≡ None → (d : Defaults) → AreDefaults (IsDefaultOf rows class key interfaces count) d → AreDefaults (IsDefaultOf rows class key interfaces (count + 1)) d
    nothing_more none d are = same_defaults (IsDefaultOf rows class key interfaces count) (IsDefaultOf rows class key interfaces (count + 1)) kept back d are
      where
        back : (row : ℕ) → IsDefaultOf rows class key interfaces (count + 1) row → IsDefaultOf rows class key interfaces count row
        back row d = elim (old_or_given row d) [ inl old ↦ old | inr e ↦ cc (e, none) ]

    -- the first one
    pub first_one : (row : ℕ) → given ≡ Some row → AreDefaults (IsDefaultOf rows class key interfaces count) Nothing → AreDefaults (IsDefaultOf rows class key interfaces (count + 1)) (One row)
    first_one row e none = (added row e, λ other d. elim (old_or_given other d) [ inl old ↦ absurd (none other old) | inr f ↦ cc (e, f) ])

    -- the one there was, once more
    pub one_again : (first row : ℕ) → given ≡ Some row → first ≡ row → AreDefaults (IsDefaultOf rows class key interfaces count) (One first) → AreDefaults (IsDefaultOf rows class key interfaces (count + 1)) (One first)
    one_again first row e same one = (kept first one.0, λ other d. elim (old_or_given other d) [ inl old ↦ one.1 other old | inr f ↦ cc (e, f, same) ])

    -- another
    pub two_defaults : (first row : ℕ) → given ≡ Some row → first ≢ row → AreDefaults (IsDefaultOf rows class key interfaces count) (One first) → HasTwo (IsDefault rows class key)
    two_defaults first row e apart one = record {
      one = first;
      other = row;
      is_one = default_of count first one.0;
      is_other = default_of (count + 1) row (added row e);
      apart = apart;
    }

-- two are neither none nor one
pub two_are_several : (P : ℕ → Type 0) (d : Defaults) → AreDefaults P d → HasTwo P → d ≡ Several
two_are_several P Nothing none two = absurd (none two.one two.is_one)
two_are_several P (One row) one two = absurd (two.apart (one.1 two.one two.is_one ∙ sym (one.1 two.other two.is_other)))
two_are_several P Several are two = refl

-- ---- the lowest

-- no other of the holders is below the interface
pub is_lowest_of : (rows : Rows) (class key interface : ℕ) (interfaces : List ℕ) → AreReached rows class key interfaces → IsHolder rows class key interface
    → ((k b : ℕ) → k < length interfaces → slice_get interfaces k ≡ Some b → Sub rows class b → Sub rows b interface → b ≡ interface) → IsLowestHolder rows class key interface
is_lowest_of rows class key interface interfaces reached holder none = record {
  holder = holder;
  lowest = λ other h s.
      let m = reached.all other h in
      none m.0 other m.1 (slice_get-get_or interfaces m.0 other m.1 ∙ ap Some m.2) h.reached s;
}

-- a fact of one more element
pub each_more : (P : ℕ → Type 0) (xs : List ℕ) (i : ℕ) → i < length xs → ((k b : ℕ) → k < i → slice_get xs k ≡ Some b → P b) → P (get_or xs i 0)
    → (k b : ℕ) → k < i + 1 → slice_get xs k ≡ Some b → P b
each_more P xs i h before here k b lt there = elim (cases_eq k i) [
  | inl e ↦ let same : get_or xs i 0 ≡ b = get_or_from_slice_get xs i b 0 (sym (ap (slice_get xs) e) ∙ there) in subst P same here
  | inr apart ↦ before k b (omega (arith, lt, apart)) there
]

-- ---- the row of an interface

-- what is read in a row tells of its body
pub body_read : (rows shown : Rows) (row : ℕ) (m d : MethodRow) (b : Bool) → shown ≡ rows → slice_get rows.methods row ≡ Some m → d ≡ get_or shown.methods row d → b ≡ has_body d.body
    → has_body m.body ≡ b
body_read rows shown row m d b e there is body =
    let same : d ≡ m = is ∙ ap (λ (r : Rows). get_or r.methods row d) e ∙ get_or_from_slice_get rows.methods row m d there in
    ap (λ (x : MethodRow). has_body x.body) (sym same) ∙ sym body

module _ (rows : Rows) (key interface row : ℕ) (own : own_row rows.methods interface key ≡ Some row) where
  pub row_within : row < length rows.methods
  row_within = let m = owned_row rows interface key row own in slice_get_within rows.methods row m.0 m.1

  -- with a body it is the interface's default method
  pub default_had : (m : MethodRow) → slice_get rows.methods row ≡ Some m → has_body m.body ≡ true → (r : ℕ) → (Some row ≡ Some r) ↔ HasDefault rows interface key r
  default_had m there bodied r = (
    λ e.
        let same : row ≡ r = cc in
        subst (HasDefault rows interface key) same (record { first = own; method = m; there = there; bodied = bodied }),
    λ d. sym own ∙ d.first,
  )

-- without one it gives none
pub none_given : (rows : Rows) (class key interface : ℕ) → ((row : ℕ) → (None ≡ Some row) ↔ HasDefault rows interface key row)
    → (r : ℕ) → (None ≡ Some r) ↔ IsDefaultFrom rows class key interface r
none_given rows class key interface none r = (λ e. absurd (cc (e)), λ d. (none r).1 (record { first = d.first; method = d.method; there = d.there; bodied = d.bodied }))

-- and where no other is below the interface, one of those that the class reaches
pub default_given : (rows : Rows) (class key interface row : ℕ) → HasDefault rows interface key row → IsLowestHolder rows class key interface
    → (r : ℕ) → (Some row ≡ Some r) ↔ IsDefaultFrom rows class key interface r
default_given rows class key interface row has lowest r = (
  λ e.
      let same : row ≡ r = cc in
      subst (IsDefaultFrom rows class key interface) same (record { lowest = lowest; first = has.first; method = has.method; there = has.there; bodied = has.bodied }),
  λ d. sym has.first ∙ d.first,
)

-- ---- what is selected

pub two_ambiguous : (rows : Rows) (class key : ℕ) → OnPath rows class key None → HasTwo (IsDefault rows class key) → IsAmbiguous rows class key
two_ambiguous rows class key off two = record { off_path = off; one = two.one; other = two.other; is_one = two.is_one; is_other = two.is_other; apart = two.apart }

pub selected_one : (rows : Rows) (class key row : ℕ) → OnPath rows class key None → AreDefaults (IsDefault rows class key) (One row) → Resolve rows class key (Some row)
selected_one rows class key row off one = by_default off one.0 one.1

pub selected_none : (rows : Rows) (class key : ℕ) (d : Defaults) → OnPath rows class key None → AreDefaults (IsDefault rows class key) d → (d ≡ Nothing) ⊎ (d ≡ Several) → Resolve rows class key None
selected_none rows class key d off are (inl e) = nowhere off (subst (AreDefaults (IsDefault rows class key)) e are)
selected_none rows class key d off are (inr e) = ambiguous (two_ambiguous rows class key off (subst (AreDefaults (IsDefault rows class key)) e are))

pub ambiguous_two : (rows : Rows) (class key : ℕ) → IsAmbiguous rows class key → HasTwo (IsDefault rows class key)
ambiguous_two rows class key two = record { one = two.one; other = two.other; is_one = two.is_one; is_other = two.is_other; apart = two.apart }

-- what is found along the parents leaves no doubt
pub found_not_ambiguous : (rows : Rows) (class key : ℕ) (r : Option ℕ) → OnPath rows class key r → is_some r ≡ true → IsAmbiguous rows class key → ⊥
found_not_ambiguous rows class key r p some two = let same = path_one rows class key r None p two.off_path in true≢false (sym some ∙ ap is_some same)
