-- The parent that a row names.
use Rattle.std.proofs.Common.{◌≡◌, ℕ, zero, suc, ◌+◌, ◌<◌, ◌≤◌, ◌⊎◌, ◌==◌, Bool, true, false, cond, map, List, [], ◌∷◌, length, get_or, Some, None, refl, sym, ap, subst, ◌∙◌, inl, inr, arith, take, eqb-true, eq-eqb}
use Rattle.std.specs.List.{Contains, All, filter}
use Rattle.std.proofs.lemmas.List.Elements.{All-contains, Contains-get_or}
use Rattle.std.proofs.lemmas.Option.{slice_get-get_or, slice_get_within}
use Rattle.class_rules.specs.declared.rows.ClassRow.{ClassRow}
use Rattle.class_rules.specs.Rows.{HasParent, HasNoParent, NamesUnknown, interfaces_of}
use Rattle.lists.proofs.Elements.{Contains-take_more, Contains-nil}

pub parent-below : (classes : List ClassRow) (a b : ℕ) → HasParent classes a b → a < length classes
parent-below classes a b p = slice_get_within classes a p.row p.there

pub parent_at : (classes : List ClassRow) (a b : ℕ) (d : ClassRow) → HasParent classes a b → (get_or classes a d).parent ≡ Some b
parent_at classes a b d p = let h = parent-below classes a b p in let e = slice_get-get_or classes a d h in let same : p.row ≡ get_or classes a d = cc (e, p.there) in ap (λ r. r.parent) (sym same) ∙ p.names

pub parent_from : (classes : List ClassRow) (a b : ℕ) (d : ClassRow) → a < length classes → (get_or classes a d).parent ≡ Some b → HasParent classes a b
parent_from classes a b d h e = record { row = get_or classes a d; there = slice_get-get_or classes a d h; names = e }

pub no_parent_from : (classes : List ClassRow) (a : ℕ) (d : ClassRow) → a < length classes → (get_or classes a d).parent ≡ None → HasNoParent classes a
no_parent_from classes a d h e = record { row = get_or classes a d; there = slice_get-get_or classes a d h; names = e }

-- one more pair is looked at
pub names-more : (classes : List ClassRow) (implements : List (ℕ × ℕ)) (i : ℕ) (d : ℕ × ℕ) (a : ℕ) → i < length implements
    → NamesUnknown classes (take (i + 1) implements) a
    → NamesUnknown classes (take i implements) a ⊎ (((get_or implements i d).0 ≡ a) × (length classes ≤ (get_or implements i d).1))
names-more classes implements i d a h (b, s, past) = elim s [
  | inl p ↦ inl (b, inl p, past)
  | inr c ↦ elim (Contains-take_more implements i d (a, b) h c) [
    | inl old ↦ inl (b, inr old, past)
    | inr e ↦ inr (ap (λ p. p.0) e, subst (λ k. length classes ≤ k) (sym (ap (λ p. p.1) e)) past)
  ]
]

pub names-none : (classes : List ClassRow) (a : ℕ) → NamesUnknown classes [] a → (b : ℕ) × HasParent classes a b × (length classes ≤ b)
names-none classes a (b, s, past) = elim s [ inl p ↦ (b, p, past) | inr c ↦ absurd (Contains-nil (a, b) c) ]

pub parent_same : (classes : List ClassRow) (a b b' : ℕ) (d : ClassRow) → HasParent classes a b → (get_or classes a d).parent ≡ Some b' → b ≡ b'
parent_same classes a b b' d p e = let named = parent_at classes a b d p in cc

-- the pair at i names an unknown interface
pub names_at : (classes : List ClassRow) (implements : List (ℕ × ℕ)) (i : ℕ) (d : ℕ × ℕ) (a : ℕ) → i < length implements
    → length classes ≤ (get_or implements i d).1 → a ≡ (get_or implements i d).0 → NamesUnknown classes implements a
names_at classes implements i d a h past e = ((get_or implements i d).1, inr (subst (λ k. Contains implements (k, (get_or implements i d).1)) (sym e) (Contains-get_or implements i d h)), past)

pub names-below : (classes : List ClassRow) (implements : List (ℕ × ℕ)) (a : ℕ) → All (λ (p : ℕ × ℕ). p.0 < length classes) implements
    → NamesUnknown classes implements a → a < length classes
names-below classes implements a named (b, s, past) = elim s [
  | inl p ↦ parent-below classes a b p
  | inr c ↦ All-contains (λ (p : ℕ × ℕ). p.0 < length classes) implements (a, b) named c
]

-- ---- the interfaces of a class

Contains-cons_cases : (p : ℕ) (xs : List ℕ) (q k : ℕ) → k < length (p ∷ xs) → get_or (p ∷ xs) k q ≡ q → (p ≡ q) ⊎ Contains xs q
Contains-cons_cases p xs q zero h e = inl e
Contains-cons_cases p xs q (suc k) h e = inr (k, omega arith, e)

pub interface_named : (implements : List (ℕ × ℕ)) (c i : ℕ) → Contains (interfaces_of implements c) i → Contains implements (c, i)
interface_named [] c i m = absurd (omega (arith, m.1))
interface_named (p ∷ ps) c i m = by (p.0 == c) refl m (interface_named ps c i)
  where
    later : Contains ps (c, i) → Contains (p ∷ ps) (c, i)
    later (k, h, e) = (suc k, omega (arith, h), e)

    by : (t : Bool) → (p.0 == c) ≡ t → Contains (map (λ (q : ℕ × ℕ). q.1) (cond t (p ∷ filter (λ (q : ℕ × ℕ). q.0 == c) ps) (filter (λ (q : ℕ × ℕ). q.0 == c) ps))) i
        → (Contains (interfaces_of ps c) i → Contains ps (c, i)) → Contains (p ∷ ps) (c, i)
    by true e m rest = elim (Contains-cons_cases p.1 (interfaces_of ps c) i m.0 m.1 m.2) [
      | inl at ↦ let first = eqb-true p.0 c e in (0, omega arith, λ j. (first j, at j))
      | inr old ↦ later (rest old)
    ]
    by false e m rest = later (rest m)

pub interface_listed : (implements : List (ℕ × ℕ)) (c i : ℕ) → Contains implements (c, i) → Contains (interfaces_of implements c) i
interface_listed [] c i m = absurd (omega (arith, m.1))
interface_listed (p ∷ ps) c i (k, h, e) = by k h e (interface_listed ps c i)
  where
    front : (t : Bool) (xs : List (ℕ × ℕ)) → Contains (map (λ (q : ℕ × ℕ). q.1) xs) i → Contains (map (λ (q : ℕ × ℕ). q.1) (cond t (p ∷ xs) xs)) i
    front true xs m = (suc m.0, omega (arith, m.1), m.2)
    front false xs m = m

    by : (k : ℕ) → k < length (p ∷ ps) → get_or (p ∷ ps) k (c, i) ≡ (c, i) → (Contains ps (c, i) → Contains (interfaces_of ps c) i) → Contains (interfaces_of (p ∷ ps) c) i
    by zero h e rest =
        let is : (p.0 == c) ≡ true = eq-eqb p.0 c (ap (λ (q : ℕ × ℕ). q.0) e) in
        subst (λ t. Contains (map (λ (q : ℕ × ℕ). q.1) (cond t (p ∷ filter (λ (q : ℕ × ℕ). q.0 == c) ps) (filter (λ (q : ℕ × ℕ). q.0 == c) ps))) i) (sym is) (0, omega arith, ap (λ (q : ℕ × ℕ). q.1) e)
    by (suc k) h e rest = front (p.0 == c) (filter (λ (q : ℕ × ℕ). q.0 == c) ps) (rest (k, omega arith, e))
