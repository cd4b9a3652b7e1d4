-- Relations on sixteen states are a lawful domain.
use Rattle.std.proofs.Common.{◌≡◌, ℕ, zero, suc, ◌+◌, ◌-◌, ◌*◌, ◌<◌, ◌≤◌, ◌^◌, ◌⊎◌, inl, inr, max, Bool, true, false, cond, eqb, refl, ap, sym, subst, ◌∙◌, rules, arith, List, [], ◌∷◌, length, get_or, take, add-one}
use Rattle.std.specs.Int.{bit_at}
use Rattle.std.specs.Int.RustNames.{bit_or}
use Rattle.std.proofs.lemmas.Nat.{or_lt, le_or_l, pow_below}
use Rattle.std.proofs.lemmas.Nat.Bits.{bit_at_or, bit_at-lt, bit_at-zero, same_from_bits, bit_at-pow_same, bit_at-pow_other, bit_at_above}
use Rattle.std.proofs.lemmas.List.FromFn.{get_or-map-range_with_len, length-map-range_with_len, fill_by_all}
use Rattle.std.proofs.lemmas.List.{get_or_past}
use Rattle.weight_laws.specs.declared.rel.Rel.{Rel}
use Rattle.weight_laws.specs.contracts.rel.RelPartialEq.TheImpl.{eq-value}
use Rattle.weight_laws.specs.Law.{IsLawful}
use Rattle.weight_laws.specs.Rel.{words, reached, IsRelation, room, rel_domain}

-- ---- bits

one_or_other : (x y : ℕ) → x < 2 → y < 2 → (x ≡ 1 → y ≡ 1) → (y ≡ 1 → x ≡ 1) → x ≡ y
one_or_other x y h k p q = grind arith

max_one : (x y : ℕ) → x < 2 → y < 2 → max x y ≡ 1 → (x ≡ 1) ⊎ (y ≡ 1)
max_one x y h k e = grind arith

max_left : (x y : ℕ) → y < 2 → x ≡ 1 → max x y ≡ 1
max_left x y h e = omega arith

max_right : (x y : ℕ) → x < 2 → y ≡ 1 → max x y ≡ 1
max_right x y h e = omega arith

-- the bit k of the number is one
abbrev Bit : ℕ → ℕ → Type 0
Bit n k = bit_at n k ≡ 1

same_bits : (a b : ℕ) → ((k : ℕ) → Bit a k → Bit b k) → ((k : ℕ) → Bit b k → Bit a k) → a ≡ b
same_bits a b p q = same_from_bits a b (λ k. one_or_other _ _ (bit_at-lt a k) (bit_at-lt b k) (p k) (q k))

pub or_cases : (a b k : ℕ) → Bit (bit_or a b) k → Bit a k ⊎ Bit b k
or_cases a b k h = max_one _ _ (bit_at-lt a k) (bit_at-lt b k) (sym (bit_at_or a b k) ∙ h)

pub or_left : (a b k : ℕ) → Bit a k → Bit (bit_or a b) k
or_left a b k h = bit_at_or a b k ∙ max_left _ _ (bit_at-lt b k) h

pub or_right : (a b k : ℕ) → Bit b k → Bit (bit_or a b) k
or_right a b k h = bit_at_or a b k ∙ max_right _ _ (bit_at-lt a k) h

pub no_bit : (k : ℕ) → Bit 0 k → ⊥
no_bit k h = let e : bit_at 0 k ≡ 0 = bit_at-zero k in omega arith

pub or_assoc : (a b c : ℕ) → bit_or (bit_or a b) c ≡ bit_or a (bit_or b c)
or_assoc a b c = same_bits _ _
    (λ k h. elim (or_cases (bit_or a b) c k h) [
      | inl x ↦ elim (or_cases a b k x) [ inl y ↦ or_left a _ k y | inr y ↦ or_right a _ k (or_left b c k y) ]
      | inr x ↦ or_right a _ k (or_right b c k x)
    ])
    (λ k h. elim (or_cases a (bit_or b c) k h) [
      | inl x ↦ or_left _ c k (or_left a b k x)
      | inr x ↦ elim (or_cases b c k x) [ inl y ↦ or_left _ c k (or_right a b k y) | inr y ↦ or_right _ c k y ]
    ])

pub or_comm : (a b : ℕ) → bit_or a b ≡ bit_or b a
or_comm a b = same_bits _ _
    (λ k h. elim (or_cases a b k h) [ inl x ↦ or_right b a k x | inr x ↦ or_left b a k x ])
    (λ k h. elim (or_cases b a k h) [ inl x ↦ or_right a b k x | inr x ↦ or_left a b k x ])

or_self : (a : ℕ) → bit_or a a ≡ a
or_self a = same_bits _ _ (λ k h. elim (or_cases a a k h) [ inl x ↦ x | inr x ↦ x ]) (λ k h. or_left a a k h)

pub or_none : (a : ℕ) → bit_or a 0 ≡ a
or_none a = same_bits _ _ (λ k h. elim (or_cases a 0 k h) [ inl x ↦ x | inr x ↦ absurd (no_bit k x) ]) (λ k h. or_left a 0 k h)

-- ---- what a word reaches

-- a state below n is in the word, and its word in the relation has the state k
pub record Way (word : ℕ) (r : List ℕ) (n k : ℕ) : Type 0 where
  pub state : ℕ
  pub below : state < n
  pub first : Bit word state
  pub second : Bit (get_or r state 0) k

way_more : (word : ℕ) (r : List ℕ) (n k : ℕ) → Way word r n k → Way word r (suc n) k
way_more word r n k w = record { state = w.state; below = (let h = w.below in omega arith); first = w.first; second = w.second }

pub to_way : (word : ℕ) (r : List ℕ) (n k : ℕ) → Bit (reached word r n) k → Way word r n k
to_way word r zero k h = absurd (no_bit k h)
to_way word r (suc n) k h = by (eqb (bit_at word n) 1) refl (or_cases (reached word r n) (cond (eqb (bit_at word n) 1) (get_or r n 0) 0) k h) (to_way word r n k)
  where
    test_one : (x : ℕ) → eqb x 1 ≡ true → x ≡ 1
    test_one x e = grind (arith, rules)

    by : (b : Bool) → eqb (bit_at word n) 1 ≡ b → Bit (reached word r n) k ⊎ Bit (cond (eqb (bit_at word n) 1) (get_or r n 0) 0) k
        → (Bit (reached word r n) k → Way word r n k) → Way word r (suc n) k
    by b e (inl x) before = way_more word r n k (before x)
    by true e (inr x) before = record { state = n; below = omega arith; first = test_one _ e; second = subst (λ (t : Bool). Bit (cond t (get_or r n 0) 0) k) e x }
    by false e (inr x) before = absurd (no_bit k (subst (λ (t : Bool). Bit (cond t (get_or r n 0) 0) k) e x))

pub from_way : (word : ℕ) (r : List ℕ) (n k : ℕ) → Way word r n k → Bit (reached word r n) k
from_way word r zero k w = let h = w.below in absurd (omega arith)
from_way word r (suc n) k w = elim (last w.state n w.below) [
  | inl lt ↦ or_left (reached word r n) _ k (from_way word r n k (record { state = w.state; below = lt; first = w.first; second = w.second }))
  | inr e ↦ or_right (reached word r n) _ k (subst (λ (t : Bool). Bit (cond t (get_or r n 0) 0) k) (sym (one_test _ (subst (λ (s : ℕ). Bit word s) e w.first))) (subst (λ (s : ℕ). Bit (get_or r s 0) k) e w.second))
]
  where
    last : (s n : ℕ) → s < suc n → (s < n) ⊎ (s ≡ n)
    last s n h = grind arith

    one_test : (x : ℕ) → x ≡ 1 → eqb x 1 ≡ true
    one_test x e = grind (arith, rules)

reached_fits : (word : ℕ) (r : List ℕ) → ((i : ℕ) → get_or r i 0 < 2 ^ 16) → (n : ℕ) → reached word r n < 2 ^ 16
reached_fits word r h zero = omega arith
reached_fits word r h (suc n) = or_lt 16 _ _ (reached_fits word r h n) (by (eqb (bit_at word n) 1))
  where
    by : (b : Bool) → cond b (get_or r n 0) 0 < 2 ^ 16
    by true = h n
    by false = omega arith

-- ---- sixteen words

pub at_words : (f : ℕ → ℕ) (i : ℕ) → i < 16 → get_or (words f) i 0 ≡ f i
at_words f i h = get_or-map-range_with_len f 0 16 i i 0 h (omega arith)

words_same : (f g : ℕ → ℕ) → ((i : ℕ) → i < 16 → f i ≡ g i) → words f ≡ words g
words_same f g e = fill_by_all g (words f) 16 0 (length-map-range_with_len f 0 16) (λ k h. at_words f k h ∙ e k h)

words_are : (f : ℕ → ℕ) (r : List ℕ) → IsRelation r → ((i : ℕ) → i < 16 → f i ≡ get_or r i 0) → words f ≡ r
words_are f r m e = sym (fill_by_all f r 16 0 m.sixteen (λ k h. sym (e k h)))

words_meant : (f : ℕ → ℕ) → ((i : ℕ) → i < 16 → f i < 2 ^ 16) → IsRelation (words f)
words_meant f h = record {
  sixteen = length-map-range_with_len f 0 16;
  fits = λ i. elim (below i) [
    | inl k ↦ rw (at_words f i k) (h i k)
    | inr k ↦ rw (get_or_past (words f) i 0 (rw (length-map-range_with_len f 0 16) k)) (omega arith)
  ];
}
  where
    below : (i : ℕ) → (i < 16) ⊎ (16 ≤ i)
    below i = grind arith

-- ---- the laws, word by word

reached_assoc : (w : ℕ) (y z : List ℕ) → reached (reached w y 16) z 16 ≡ reached w (words (λ m. reached (get_or y m 0) z 16)) 16
reached_assoc w y z = same_bits _ _ there back
  where
    there : (k : ℕ) → Bit (reached (reached w y 16) z 16) k → Bit (reached w (words (λ m. reached (get_or y m 0) z 16)) 16) k
    there k h =
        let p = to_way (reached w y 16) z 16 k h in
        let q = to_way w y 16 p.state p.first in
        from_way w (words (λ m. reached (get_or y m 0) z 16)) 16 k (record {
          state = q.state;
          below = q.below;
          first = q.first;
          second = subst (λ (t : ℕ). Bit t k) (sym (at_words (λ m. reached (get_or y m 0) z 16) q.state q.below)) (from_way (get_or y q.state 0) z 16 k (record { state = p.state; below = p.below; first = q.second; second = p.second }));
        })

    back : (k : ℕ) → Bit (reached w (words (λ m. reached (get_or y m 0) z 16)) 16) k → Bit (reached (reached w y 16) z 16) k
    back k h =
        let p = to_way w (words (λ m. reached (get_or y m 0) z 16)) 16 k h in
        let q = to_way (get_or y p.state 0) z 16 k (subst (λ (t : ℕ). Bit t k) (at_words (λ m. reached (get_or y m 0) z 16) p.state p.below) p.second) in
        from_way (reached w y 16) z 16 k (record {
          state = q.state;
          below = q.below;
          first = from_way w y 16 q.state (record { state = p.state; below = p.below; first = p.first; second = q.first });
          second = q.second;
        })

pub pow_bit : (i k : ℕ) → Bit (2 ^ i) k → k ≡ i
pow_bit i k h = by (decide k i)
  where
    decide : (a b : ℕ) → (a ≡ b) ⊎ (a ≡ b → ⊥)
    decide a b = grind arith

    by : (k ≡ i) ⊎ (k ≡ i → ⊥) → k ≡ i
    by (inl e) = e
    by (inr n) = let z : bit_at (2 ^ i) k ≡ 0 = bit_at-pow_other i k n in absurd (omega arith)

reached_one : (w : ℕ) → w < 2 ^ 16 → reached w (words (λ i. 2 ^ i)) 16 ≡ w
reached_one w fits = same_bits _ _ there back
  where
    there : (k : ℕ) → Bit (reached w (words (λ i. 2 ^ i)) 16) k → Bit w k
    there k h =
        let p = to_way w (words (λ i. 2 ^ i)) 16 k h in
        subst (λ (s : ℕ). Bit w s) (sym (pow_bit p.state k (subst (λ (t : ℕ). Bit t k) (at_words (λ i. 2 ^ i) p.state p.below) p.second))) p.first

    below : (k : ℕ) → Bit w k → (k < 16) ⊎ (16 ≤ k) → k < 16
    below k h (inl b) = b
    below k h (inr b) = let z : bit_at w k ≡ 0 = bit_at_above w 16 k fits b in absurd (omega arith)

    either : (k : ℕ) → (k < 16) ⊎ (16 ≤ k)
    either k = grind arith

    back : (k : ℕ) → Bit w k → Bit (reached w (words (λ i. 2 ^ i)) 16) k
    back k h =
        let b = below k h (either k) in
        from_way w (words (λ i. 2 ^ i)) 16 k (record { state = k; below = b; first = h; second = subst (λ (t : ℕ). Bit t k) (sym (at_words (λ i. 2 ^ i) k b)) (bit_at-pow_same k) })

one_reached : (i : ℕ) → i < 16 → (r : List ℕ) → reached (2 ^ i) r 16 ≡ get_or r i 0
one_reached i b r = same_bits _ _ there back
  where
    there : (k : ℕ) → Bit (reached (2 ^ i) r 16) k → Bit (get_or r i 0) k
    there k h = let p = to_way (2 ^ i) r 16 k h in subst (λ (s : ℕ). Bit (get_or r s 0) k) (pow_bit i p.state p.first) p.second

    back : (k : ℕ) → Bit (get_or r i 0) k → Bit (reached (2 ^ i) r 16) k
    back k h = from_way (2 ^ i) r 16 k (record { state = i; below = b; first = bit_at-pow_same i; second = h })

reached_or : (w : ℕ) (y z : List ℕ) → reached w (words (λ i. bit_or (get_or y i 0) (get_or z i 0))) 16 ≡ bit_or (reached w y 16) (reached w z 16)
reached_or w y z = same_bits _ _ there back
  where
    there : (k : ℕ) → Bit (reached w (words (λ i. bit_or (get_or y i 0) (get_or z i 0))) 16) k → Bit (bit_or (reached w y 16) (reached w z 16)) k
    there k h =
        let p = to_way w (words (λ i. bit_or (get_or y i 0) (get_or z i 0))) 16 k h in
        elim (or_cases (get_or y p.state 0) (get_or z p.state 0) k (subst (λ (t : ℕ). Bit t k) (at_words (λ i. bit_or (get_or y i 0) (get_or z i 0)) p.state p.below) p.second)) [
          | inl x ↦ or_left _ _ k (from_way w y 16 k (record { state = p.state; below = p.below; first = p.first; second = x }))
          | inr x ↦ or_right _ _ k (from_way w z 16 k (record { state = p.state; below = p.below; first = p.first; second = x }))
        ]

    back : (k : ℕ) → Bit (bit_or (reached w y 16) (reached w z 16)) k → Bit (reached w (words (λ i. bit_or (get_or y i 0) (get_or z i 0))) 16) k
    back k h = elim (or_cases (reached w y 16) (reached w z 16) k h) [
      | inl x ↦ let p = to_way w y 16 k x in from_way w (words (λ i. bit_or (get_or y i 0) (get_or z i 0))) 16 k (record {
        state = p.state;
        below = p.below;
        first = p.first;
        second = subst (λ (t : ℕ). Bit t k) (sym (at_words (λ i. bit_or (get_or y i 0) (get_or z i 0)) p.state p.below)) (or_left _ _ k p.second);
      })
      | inr x ↦ let p = to_way w z 16 k x in from_way w (words (λ i. bit_or (get_or y i 0) (get_or z i 0))) 16 k (record {
        state = p.state;
        below = p.below;
        first = p.first;
        second = subst (λ (t : ℕ). Bit t k) (sym (at_words (λ i. bit_or (get_or y i 0) (get_or z i 0)) p.state p.below)) (or_right _ _ k p.second);
      })
    ]

or_reached : (v w : ℕ) (z : List ℕ) → reached (bit_or v w) z 16 ≡ bit_or (reached v z 16) (reached w z 16)
or_reached v w z = same_bits _ _ there back
  where
    there : (k : ℕ) → Bit (reached (bit_or v w) z 16) k → Bit (bit_or (reached v z 16) (reached w z 16)) k
    there k h =
        let p = to_way (bit_or v w) z 16 k h in
        elim (or_cases v w p.state p.first) [
          | inl x ↦ or_left _ _ k (from_way v z 16 k (record { state = p.state; below = p.below; first = x; second = p.second }))
          | inr x ↦ or_right _ _ k (from_way w z 16 k (record { state = p.state; below = p.below; first = x; second = p.second }))
        ]

    back : (k : ℕ) → Bit (bit_or (reached v z 16) (reached w z 16)) k → Bit (reached (bit_or v w) z 16) k
    back k h = elim (or_cases (reached v z 16) (reached w z 16) k h) [
      | inl x ↦ let p = to_way v z 16 k x in from_way (bit_or v w) z 16 k (record { state = p.state; below = p.below; first = or_left v w p.state p.first; second = p.second })
      | inr x ↦ let p = to_way w z 16 k x in from_way (bit_or v w) z 16 k (record { state = p.state; below = p.below; first = or_right v w p.state p.first; second = p.second })
    ]

reached_none : (w : ℕ) → reached w (words (λ _. 0)) 16 ≡ 0
reached_none w = same_bits _ _
    (λ k h. let p = to_way w (words (λ _. 0)) 16 k h in absurd (no_bit k (subst (λ (t : ℕ). Bit t k) (at_words (λ _. 0) p.state p.below) p.second)))
    (λ k h. absurd (no_bit k h))

none_reached : (r : List ℕ) → reached 0 r 16 ≡ 0
none_reached r = same_bits _ _ (λ k h. let p = to_way 0 r 16 k h in absurd (no_bit p.state p.first)) (λ k h. absurd (no_bit k h))

-- ---- the height

room_no_rise : (a b : List ℕ) → length a ≡ length b → ((i : ℕ) → i < length a → get_or a i 0 ≤ get_or b i 0) → room b ≤ room a
room_no_rise [] [] e h = omega arith
room_no_rise [] (q ∷ b) e h = absurd (omega arith)
room_no_rise (p ∷ a) [] e h = absurd (omega arith)
room_no_rise (p ∷ a) (q ∷ b) e h =
    let first : p ≤ q = h 0 (omega arith) in
    let rest : room b ≤ room a = room_no_rise a b (omega arith) (λ i k. h (suc i) (omega arith)) in
    omega arith

room_falls : (a b : List ℕ) → length a ≡ length b → ((i : ℕ) → i < length a → get_or a i 0 ≤ get_or b i 0) → ((i : ℕ) → get_or b i 0 < 2 ^ 16) → (a ≡ b → ⊥) → room b < room a
room_falls [] [] e h f n = absurd (n refl)
room_falls [] (q ∷ b) e h f n = absurd (omega arith)
room_falls (p ∷ a) [] e h f n = absurd (omega arith)
room_falls (p ∷ a) (q ∷ b) e h f n = elim (less p q (h 0 (omega arith))) [
  | inl lt ↦
      let rest : room b ≤ room a = room_no_rise a b (omega arith) (λ i k. h (suc i) (omega arith)) in
      let fits : q < 2 ^ 16 = f 0 in
      omega arith
  | inr s ↦
      let rest : room b < room a = room_falls a b (omega arith) (λ i k. h (suc i) (omega arith)) (λ i. f (suc i)) (λ t. n (cc)) in
      omega arith
]
  where
    less : (p q : ℕ) → p ≤ q → (p < q) ⊎ (p ≡ q)
    less p q h = grind arith

pub room-take : (r : List ℕ) (i : ℕ) → i < length r → room (take (i + 1) r) ≡ room (take i r) + (65535 - get_or r i 0)
room-take [] i h = absurd (omega arith)
room-take (w ∷ r) zero h = omega arith
room-take (w ∷ r) (suc i) h =
    let e : room (take (suc i) r) ≡ room (take i r) + (65535 - get_or r i 0) = subst (λ (n : ℕ). room (take n r) ≡ room (take i r) + (65535 - get_or r i 0)) (add-one i) (room-take r i (omega arith)) in
    subst (λ (n : ℕ). room (take n (w ∷ r)) ≡ room (take (suc i) (w ∷ r)) + (65535 - get_or r i 0)) (sym (add-one (suc i))) (omega arith)

room_low : (a : List ℕ) → room a ≤ 65535 * length a
room_low [] = omega arith
room_low (p ∷ a) = let rest : room a ≤ 65535 * length a = room_low a in omega arith

-- ---- together

abbrev pub rel : List ℕ → Rel
rel r = record { 0 = r }

grows : (x y : List ℕ) → IsRelation x → IsRelation y → words (λ i. bit_or (get_or x i 0) (get_or y i 0)) ≡ y → (i : ℕ) → i < length x → get_or x i 0 ≤ get_or y i 0
grows x y mx my e i h =
    let low : i < 16 = (let s = mx.sixteen in omega arith) in
    let same : get_or y i 0 ≡ bit_or (get_or x i 0) (get_or y i 0) = sym (ap (λ (r : List ℕ). get_or r i 0) e) ∙ at_words (λ i. bit_or (get_or x i 0) (get_or y i 0)) i low in
    let up : get_or x i 0 ≤ bit_or (get_or x i 0) (get_or y i 0) = le_or_l _ _ in
    omega arith

pub rel_lawful : IsLawful Rel rel_domain
rel_lawful = record {
  zero_meant = words_meant (λ _. 0) (λ i h. omega arith);
  one_meant = words_meant (λ i. 2 ^ i) (λ i h. pow_below i 16 h);
  combine_meant = λ x y h k. words_meant (λ i. bit_or (get_or x.0 i 0) (get_or y.0 i 0)) (λ i b. or_lt 16 _ _ (h.fits i) (k.fits i));
  extend_meant = λ x y h k. words_meant (λ i. reached (get_or x.0 i 0) y.0 16) (λ i b. reached_fits (get_or x.0 i 0) y.0 k.fits 16);
  combine_assoc = λ x y z _ _ _. ap rel (words_same (λ i. bit_or (get_or (words (λ i. bit_or (get_or x.0 i 0) (get_or y.0 i 0))) i 0) (get_or z.0 i 0)) (λ i. bit_or (get_or x.0 i 0) (get_or (words (λ i. bit_or (get_or y.0 i 0) (get_or z.0 i 0))) i 0)) (λ i b. ap (λ (t : ℕ). bit_or t (get_or z.0 i 0)) (at_words (λ i. bit_or (get_or x.0 i 0) (get_or y.0 i 0)) i b) ∙ or_assoc (get_or x.0 i 0) (get_or y.0 i 0) (get_or z.0 i 0) ∙ sym (ap (bit_or (get_or x.0 i 0)) (at_words (λ i. bit_or (get_or y.0 i 0) (get_or z.0 i 0)) i b))));
  combine_comm = λ x y _ _. ap rel (words_same (λ i. bit_or (get_or x.0 i 0) (get_or y.0 i 0)) (λ i. bit_or (get_or y.0 i 0) (get_or x.0 i 0)) (λ i b. or_comm (get_or x.0 i 0) (get_or y.0 i 0)));
  combine_self = λ x h. ap rel (words_are (λ i. bit_or (get_or x.0 i 0) (get_or x.0 i 0)) x.0 h (λ i b. or_self (get_or x.0 i 0)));
  combine_zero = λ x h. ap rel (words_are (λ i. bit_or (get_or x.0 i 0) (get_or (words (λ _. 0)) i 0)) x.0 h (λ i b. ap (bit_or (get_or x.0 i 0)) (at_words (λ _. 0) i b) ∙ or_none (get_or x.0 i 0)));
  extend_assoc = λ x y z _ _ _. ap rel (words_same (λ i. reached (get_or (words (λ i. reached (get_or x.0 i 0) y.0 16)) i 0) z.0 16) (λ i. reached (get_or x.0 i 0) (words (λ i. reached (get_or y.0 i 0) z.0 16)) 16) (λ i b. ap (λ (t : ℕ). reached t z.0 16) (at_words (λ i. reached (get_or x.0 i 0) y.0 16) i b) ∙ reached_assoc (get_or x.0 i 0) y.0 z.0));
  extend_one = λ x h. ap rel (words_are (λ i. reached (get_or x.0 i 0) (words (λ i. 2 ^ i)) 16) x.0 h (λ i b. reached_one (get_or x.0 i 0) (h.fits i)));
  one_extend = λ x h. ap rel (words_are (λ i. reached (get_or (words (λ i. 2 ^ i)) i 0) x.0 16) x.0 h (λ i b. ap (λ (t : ℕ). reached t x.0 16) (at_words (λ i. 2 ^ i) i b) ∙ one_reached i b x.0));
  extend_combine = λ x y z _ _ _. ap rel (words_same (λ i. reached (get_or x.0 i 0) (words (λ i. bit_or (get_or y.0 i 0) (get_or z.0 i 0))) 16) (λ i. bit_or (get_or (words (λ i. reached (get_or x.0 i 0) y.0 16)) i 0) (get_or (words (λ i. reached (get_or x.0 i 0) z.0 16)) i 0)) (λ i b. reached_or (get_or x.0 i 0) y.0 z.0 ∙ sym (ap (λ (t : ℕ). bit_or t (get_or (words (λ i. reached (get_or x.0 i 0) z.0 16)) i 0)) (at_words (λ i. reached (get_or x.0 i 0) y.0 16) i b) ∙ ap (bit_or (reached (get_or x.0 i 0) y.0 16)) (at_words (λ i. reached (get_or x.0 i 0) z.0 16) i b))));
  combine_extend = λ x y z _ _ _. ap rel (words_same (λ i. reached (get_or (words (λ i. bit_or (get_or x.0 i 0) (get_or y.0 i 0))) i 0) z.0 16) (λ i. bit_or (get_or (words (λ i. reached (get_or x.0 i 0) z.0 16)) i 0) (get_or (words (λ i. reached (get_or y.0 i 0) z.0 16)) i 0)) (λ i b. ap (λ (t : ℕ). reached t z.0 16) (at_words (λ i. bit_or (get_or x.0 i 0) (get_or y.0 i 0)) i b) ∙ or_reached (get_or x.0 i 0) (get_or y.0 i 0) z.0 ∙ sym (ap (λ (t : ℕ). bit_or t (get_or (words (λ i. reached (get_or y.0 i 0) z.0 16)) i 0)) (at_words (λ i. reached (get_or x.0 i 0) z.0 16) i b) ∙ ap (bit_or (reached (get_or x.0 i 0) z.0 16)) (at_words (λ i. reached (get_or y.0 i 0) z.0 16) i b))));
  extend_zero = λ x _. ap rel (words_same (λ i. reached (get_or x.0 i 0) (words (λ _. 0)) 16) (λ _. 0) (λ i b. reached_none (get_or x.0 i 0)));
  zero_extend = λ x _. ap rel (words_same (λ i. reached (get_or (words (λ _. 0)) i 0) x.0 16) (λ _. 0) (λ i b. ap (λ (t : ℕ). reached t x.0 16) (at_words (λ _. 0) i b) ∙ none_reached x.0));
  falls = λ x y h k e n.
      let e0 : words (λ i. bit_or (get_or x.0 i 0) (get_or y.0 i 0)) ≡ y.0 = ap (λ (r : Rel). r.0) e in
      room_falls x.0 y.0 (h.sixteen ∙ sym k.sixteen) (grows x.0 y.0 h k e0) k.fits (λ s. n (ap rel s));
}

pub rel_same : (x y : Rel) → rel_domain.IsMeant x → rel_domain.IsMeant y → (eq-value).it x y ≡ true → x ≡ y
rel_same x y _ _ e = search rules

pub rel_small : (x : Rel) → rel_domain.IsMeant x → rel_domain.height x ≤ 2 ^ 62
rel_small x h = let low : room x.0 ≤ 65535 * length x.0 = room_low x.0 in let s = h.sixteen in omega arith
