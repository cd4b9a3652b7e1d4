-- What reaches an owner of a key.
use Rattle.std.proofs.Common.{◌≡◌, ℕ, ◌+◌, ◌<◌, ◌⊎◌, ◌↔◌, Bool, true, false, true≢false, nat_eq, Decides, cond, leb, Option, Some, None, List, [], length, get_or, slice_get, take, refl, sym, ap, subst, ◌∙◌, inl, inr, arith}
use Rattle.std.specs.List.{Contains, IsAnyAnswer}
use Rattle.std.specs.Option.{option_or, unwrap_or}
use Rattle.std.proofs.lemmas.List.Elements.{Contains-get_or, contains_decides, Decides-contains}
use Rattle.std.proofs.lemmas.Option.{slice_get_within}
use Rattle.std.specs.Cmp.{unsigned_Decides}
use Rattle.class_tree.specs.declared.first_rows.Member.{Member}
use Rattle.class_tree.specs.declared.holders.Holders.{Holders}
use Rattle.class_tree.specs.declared.owners.KeyOwners.{KeyOwners}
use Rattle.class_tree.specs.declared.owners.Owners.{Owners}
use Rattle.class_rules.specs.declared.rows.ClassRow.{ClassRow}
use Rattle.class_order.specs.declared.spans.Span.{Span}
use Rattle.class_order.specs.Groups.{group}
use Rattle.class_order.specs.Spans.{Holds, HoldsAny}
use Rattle.class_tree.specs.Holders.{AreHolders, IsInterface, few_of, holders_of}
use Rattle.class_tree.specs.KeySpans.{HoldsKey, spans_of}
use Rattle.class_tree.specs.Owners.{AreOwners, HoldsOther, HoldsOwner, IsSole}
use Rattle.class_tree.specs.Runs.{IsLastHeld}
use Rattle.class_order.proofs.Placed.{taken_at}
use Rattle.lists.proofs.Elements.{Contains-at, Contains-nil, Contains-take_more, Contains-take_kept, Contains-take_last}

-- ---- owners that are interfaces, and others

interface_or : (classes : List ClassRow) (c : ℕ) → IsInterface classes c ⊎ (IsInterface classes c → ⊥)
interface_or classes c = by (slice_get classes c) refl
  where
    kind : (row : ClassRow) (b : Bool) → slice_get classes c ≡ Some row → row.interface ≡ b → IsInterface classes c ⊎ (IsInterface classes c → ⊥)
    kind row true e is = inl (record { class_row = row; there = e; is_interface = is })
    kind row false e is = inr (λ i.
        let there = i.there in
        let same : row ≡ i.class_row = cc (e, there) in
        true≢false (sym (ap (λ (r : ClassRow). r.interface) same ∙ i.is_interface) ∙ is))

    by : (o : Option ClassRow) → slice_get classes c ≡ o → IsInterface classes c ⊎ (IsInterface classes c → ⊥)
    by None e = inr (λ i. let there = i.there in cc (e, there))
    by (Some row) e = kind row row.interface e refl

-- an interface of the key is one of few, or these are none
few_or : (h : Holders) (k : ℕ) → (few_of h k ≡ holders_of h k) ⊎ (few_of h k ≡ [])
few_or h k = by (leb (length (holders_of h k)) 4)
  where
    by : (b : Bool) → (cond b (holders_of h k) [] ≡ holders_of h k) ⊎ (cond b (holders_of h k) [] ≡ [])
    by true = inl refl
    by false = inr refl

pub few_held : (h : Holders) (k c : ℕ) → Contains (few_of h k) c → Contains (holders_of h k) c
few_held h k c m = elim (few_or h k) [
  | inl same ↦ subst (λ xs. Contains xs c) same m
  | inr none ↦ absurd (Contains-nil c (subst (λ xs. Contains xs c) none m))
]

-- where a place is that of a class that reaches an owner, the spans of others hold it, or the owner is one of few interfaces
pub owner_or : (classes : List ClassRow) (members : List Member) (table : List (List Span)) (o : Owners) → AreOwners classes members table o → (k p : ℕ) (m : Member) → Contains members m → m.key ≡ k → Holds (group table m.class) p
    → Holds (spans_of o.others k) p ⊎ Contains (few_of o.interfaces k) m.class
owner_or classes members table o are k p m u e held = elim (few_or o.interfaces k) [
  | inl same ↦ elim (interface_or classes m.class) [
    | inl is ↦
        let member : m ≡ record { class = m.class; key = k } = λ j. record { class = m.class; key = e j } in
        inr (subst (λ xs. Contains xs m.class) (sym same) ((are.interfaces.exact k m.class).1 (is, subst (Contains members) member u)))
    | inr isnt ↦ inl ((are.others k p).1 (m, u, e, (λ few. isnt ((are.interfaces.exact k m.class).0 (few_held o.interfaces k m.class few)).0), held))
  ]
  | inr none ↦ inl ((are.others k p).1 (m, u, e, (λ few. Contains-nil m.class (subst (λ xs. Contains xs m.class) none few)), held))
]

-- all together hold for a key what its members do
pub owners_exact : (classes : List ClassRow) (members : List Member) (table : List (List Span)) (o : Owners) → AreOwners classes members table o → (k p : ℕ) → HoldsOwner table o k p ↔ HoldsKey members table k p
owners_exact classes members table o are k p = (to, from)
  where
    to : HoldsOwner table o k p → HoldsKey members table k p
    to (inl held) = let m = (are.others k p).0 held in (m.0, m.1, m.2, m.4)
    to (inr (c, listed, held)) = (record { class = c; key = k }, ((are.interfaces.exact k c).0 (few_held o.interfaces k c listed)).1, refl, held)

    from : HoldsKey members table k p → HoldsOwner table o k p
    from (m, u, e, held) = elim (owner_or classes members table o are k p m u e held) [ inl other ↦ inl other | inr few ↦ inr (m.class, few, held) ]

-- the spans of the members that are in none of few interfaces
pub others_exact : (members found : List Member) (table : List (List Span)) (h : Holders) (k p : ℕ) → ((m : Member) → Contains found m ↔ Contains members m × (Contains (few_of h m.key) m.class → ⊥))
    → HoldsKey found table k p ↔ HoldsOther members table h k p
others_exact members found table h k p only = (
  λ (m, u, e, held). let s = (only m).0 u in (m, s.0, e, (λ few. s.1 (subst (λ q. Contains (few_of h q) m.class) (sym e) few)), held),
  λ (m, u, e, isnt, held). (m, (only m).1 (u, (λ few. isnt (subst (λ q. Contains (few_of h q) m.class) e few))), e, held),
)

pub few_known : (classes : List ClassRow) (members : List Member) (h : Holders) → AreHolders classes members h → (n k c : ℕ) → n ≡ length classes → Contains (few_of h k) c → c < n
few_known classes members h are n k c len few =
    let i = ((are.exact k c).0 (few_held h k c few)).0 in
    omega (arith, len, slice_get_within classes c i.class_row i.there)

-- a test finds what stands in a list
contained : (xs : List ℕ) (x : ℕ) (r : Bool) → IsAnyAnswer (λ y b. nat_eq y x ≡ b) xs r → Decides r (Contains xs x)
contained xs x r test = Decides-contains xs x r (contains_decides nat_eq unsigned_Decides xs x r test)

pub few_with : (h : Holders) (k c : ℕ) (xs : List ℕ) (r : Bool) → xs ≡ few_of h k → IsAnyAnswer (λ y b. nat_eq y c ≡ b) xs r → r ≡ true → Contains (few_of h k) c
few_with h k c xs r are test is = subst (λ ys. Contains ys c) are ((contained xs c r test).0 is)

pub few_without : (h : Holders) (k c : ℕ) (xs : List ℕ) (r : Bool) → xs ≡ few_of h k → IsAnyAnswer (λ y b. nat_eq y c ≡ b) xs r → r ≡ false → Contains (few_of h k) c → ⊥
few_without h k c xs r are test is few = true≢false (sym ((contained xs c r test).1 (subst (λ ys. Contains ys c) (sym are) few)) ∙ is)

-- ---- one interface more

pub any_more : (table : List (List Span)) (classes : List ℕ) (i d p : ℕ) → i < length classes → HoldsAny table (take (i + 1) classes) p ↔ (HoldsAny table (take i classes) p ⊎ Holds (group table (get_or classes i d)) p)
any_more table classes i d p h = (
  λ (c, u, held). elim (Contains-take_more classes i d c h u) [
    | inl old ↦ inl (c, old, held)
    | inr is ↦ inr (subst (λ k. Holds (group table k) p) (sym is) held)
  ],
  λ either. elim either [
    | inl (c, u, held) ↦ (c, Contains-take_kept classes i d c h u, held)
    | inr held ↦ (get_or classes i d, Contains-take_last classes i d h, held)
  ],
)

-- ---- the last place held

pub last_map : (At To : ℕ → Type 0) → ((p : ℕ) → At p → To p) → ((p : ℕ) → To p → At p) → (from to : ℕ) (r : Option ℕ) → IsLastHeld At from to r → IsLastHeld To from to r
last_map At To on back from to (Some p) (ge, le, held, none) = (ge, le, on p held, λ q gt most h. none q gt most (back q h))
last_map At To on back from to None none = λ q ge le h. none q ge le (back q h)

-- where more places are held, the last one is found from the last one so far on
pub last_more : (At More : ℕ → Type 0) (from to : ℕ) (last found : Option ℕ) → IsLastHeld At from to last → IsLastHeld More (unwrap_or last from) to found → IsLastHeld (λ p. At p ⊎ More p) from to (option_or found last)
last_more At More from to None (Some q) none (ge, le, held, later) = (ge, le, inr held, λ r gt most h. elim h [ inl old ↦ none r (omega (arith, ge, gt)) most old | inr new ↦ later r gt most new ])
last_more At More from to None None none nothing = λ r ge le h. elim h [ inl old ↦ none r ge le old | inr new ↦ nothing r ge le new ]
last_more At More from to (Some p) (Some q) (ge, le, held, none) (ge', le', held', later) = (
  omega (arith, ge, ge'),
  le',
  inr held',
  λ r gt most h. elim h [ inl old ↦ none r (omega (arith, ge', gt)) most old | inr new ↦ later r gt most new ],
)
last_more At More from to (Some p) None (ge, le, held, none) nothing = (
  ge,
  le,
  inl held,
  λ r gt most h. elim h [ inl old ↦ none r gt most old | inr new ↦ nothing r (omega (arith, gt)) most new ],
)

pub last_begun : (At : ℕ → Type 0) (table : List (List Span)) (from to : ℕ) (r : Option ℕ) → IsLastHeld At from to r → IsLastHeld (λ p. At p ⊎ HoldsAny table [] p) from to r
last_begun At table from to r last = last_map At (λ p. At p ⊎ HoldsAny table [] p) (λ p h. inl h) (λ p h. elim h [ inl held ↦ held | inr (c, m, held) ↦ absurd (Contains-nil c m) ]) from to r last

pub last_next : (At : ℕ → Type 0) (table : List (List Span)) (classes : List ℕ) (i d from to : ℕ) (last found : Option ℕ) → i < length classes → IsLastHeld (λ p. At p ⊎ HoldsAny table (take i classes) p) from to last
    → IsLastHeld (Holds (group table (get_or classes i d))) (unwrap_or last from) to found → IsLastHeld (λ p. At p ⊎ HoldsAny table (take (i + 1) classes) p) from to (option_or found last)
last_next At table classes i d from to last found h so_far one = last_map (λ p. (At p ⊎ HoldsAny table (take i classes) p) ⊎ Holds (group table (get_or classes i d)) p) (λ p. At p ⊎ HoldsAny table (take (i + 1) classes) p) on back
    from to (option_or found last) (last_more (λ p. At p ⊎ HoldsAny table (take i classes) p) (Holds (group table (get_or classes i d))) from to last found so_far one)
  where
    on : (p : ℕ) → (At p ⊎ HoldsAny table (take i classes) p) ⊎ Holds (group table (get_or classes i d)) p → At p ⊎ HoldsAny table (take (i + 1) classes) p
    on p (inl (inl held)) = inl held
    on p (inl (inr any)) = inr ((any_more table classes i d p h).1 (inl any))
    on p (inr new) = inr ((any_more table classes i d p h).1 (inr new))

    back : (p : ℕ) → At p ⊎ HoldsAny table (take (i + 1) classes) p → (At p ⊎ HoldsAny table (take i classes) p) ⊎ Holds (group table (get_or classes i d)) p
    back p (inl held) = inl (inl held)
    back p (inr any) = elim ((any_more table classes i d p h).0 any) [ inl old ↦ inl (inr old) | inr new ↦ inr new ]

-- ---- the one owner that is reached

-- the one of the classes whose spans hold the place, if any
abbrev pub IsSoleOf : List (List Span) → List ℕ → ℕ → Option ℕ → Type 0
IsSoleOf table classes p None = (c : ℕ) → Contains classes c → Holds (group table c) p → ⊥
IsSoleOf table classes p (Some b) = Contains classes b × Holds (group table b) p × ((c : ℕ) → Contains classes c → Holds (group table c) p → c ≡ b)

module _ (table : List (List Span)) (classes : List ℕ) (i d p : ℕ) (h : i < length classes) where
  -- one more that doesn't hold it
  pub sole_kept : (r : Option ℕ) → IsSoleOf table (take i classes) p r → (Holds (group table (get_or classes i d)) p → ⊥) → IsSoleOf table (take (i + 1) classes) p r
  sole_kept None none isnt = λ c m held. elim (Contains-take_more classes i d c h m) [
    | inl old ↦ none c old held
    | inr is ↦ isnt (subst (λ k. Holds (group table k) p) (sym is) held)
  ]
  sole_kept (Some b) (listed, at, only) isnt = (
    Contains-take_kept classes i d b h listed,
    at,
    λ c m held. elim (Contains-take_more classes i d c h m) [
      | inl old ↦ only c old held
      | inr is ↦ absurd (isnt (subst (λ k. Holds (group table k) p) (sym is) held))
    ],
  )

  -- one more that does, where it was none or the same
  pub sole_more : (r : Option ℕ) → IsSoleOf table (take i classes) p r → Holds (group table (get_or classes i d)) p → ((b : ℕ) → r ≡ Some b → b ≡ get_or classes i d) → IsSoleOf table (take (i + 1) classes) p (Some (get_or classes i d))
  sole_more None none held same = (
    Contains-take_last classes i d h,
    held,
    λ c m at. elim (Contains-take_more classes i d c h m) [
      | inl old ↦ absurd (none c old at)
      | inr is ↦ sym is
    ],
  )
  sole_more (Some b) (listed, there, only) held same = (
    Contains-take_last classes i d h,
    held,
    λ c m at. elim (Contains-take_more classes i d c h m) [
      | inl old ↦ only c old at ∙ same b refl
      | inr is ↦ sym is
    ],
  )

-- where two hold it, there is no sole owner
pub sole_two : (o : KeyOwners) (i d p first : ℕ) → i < length o.few.now → (r : Option ℕ) → r ≡ Some first → IsSoleOf o.table.now (take i o.few.now) p r → Holds (group o.table.now (get_or o.few.now i d)) p
    → (first ≡ get_or o.few.now i d → ⊥) → (owner : ℕ) → (None ≡ Some owner) ↔ IsSole o p owner
sole_two o i d p first h r is so_far held apart owner = (λ e. cc, λ s. absurd (by (subst (IsSoleOf o.table.now (take i o.few.now) p) is so_far) s))
  where
    by : IsSoleOf o.table.now (take i o.few.now) p (Some first) → IsSole o p owner → ⊥
    by (listed, there, only) s =
        let t = taken_at o.few.now i first (omega (arith, h)) listed in
        apart (s.only first (Contains-at o.few.now t.0 first t.2) there ∙ sym (s.only _ (Contains-get_or o.few.now i d h) held))

-- what is found among all of them is the sole owner
pub sole_is : (o : KeyOwners) (p : ℕ) → (Holds o.united.now p → ⊥) → (r : Option ℕ) → IsSoleOf o.table.now o.few.now p r → (owner : ℕ) → (r ≡ Some owner) ↔ IsSole o p owner
sole_is o p no_other None none owner = (λ e. cc, λ s. absurd (none owner s.listed s.held))
sole_is o p no_other (Some b) (listed, held, only) owner = (
  λ e. subst (IsSole o p) (some_is e) (record { no_other = no_other; listed = listed; held = held; only = only }),
  λ s. ap Some (s.only b listed held),
)
  where
    some_is : Some b ≡ Some owner → b ≡ owner
    some_is e = cc
