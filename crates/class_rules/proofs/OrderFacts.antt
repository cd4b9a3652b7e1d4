-- What is found first in the order in which the fields of a class are looked for.
use Rattle.std.proofs.Common.{◌≡◌, ℕ, zero, suc, ◌+◌, ◌<◌, ◌⊎◌, Option, Some, None, List, [], ◌∷◌, ◌++◌, length, get_or, refl, sym, ap, subst, ◌∙◌, inl, inr, arith}
use Rattle.std.specs.List.{Contains}
use Rattle.std.specs.Option.{option_or}
use Rattle.std.proofs.lemmas.List.Elements.{Contains-append_left, Contains-append_right, Contains-append_cases}
use Rattle.std.proofs.lemmas.List.{append_assoc}
use Rattle.class_rules.specs.Orders.{Order, Orders, class_first, no_more, each, first_found}
use Rattle.class_rules.specs.Paths.{Path, here, step}
use Rattle.lists.proofs.Elements.{Contains-nil}

-- ---- what is found first

none_left : (a b : Option ℕ) → option_or a b ≡ None → a ≡ None
none_left None b h = refl
none_left (Some x) b h = h

none_right : (a b : Option ℕ) → option_or a b ≡ None → b ≡ None
none_right None b h = h
none_right (Some x) b h = cc

option_or_assoc : (a b c : Option ℕ) → option_or a (option_or b c) ≡ option_or (option_or a b) c
option_or_assoc None b c = refl
option_or_assoc (Some x) b c = refl

pub first_found-append : (f : ℕ → Option ℕ) (xs ys : List ℕ) → first_found f (xs ++ ys) ≡ option_or (first_found f xs) (first_found f ys)
first_found-append f [] ys = refl
first_found-append f (x ∷ xs) ys = ap (option_or (f x)) (first_found-append f xs ys) ∙ option_or_assoc (f x) (first_found f xs) (first_found f ys)

-- nothing is found at an element of a list in which nothing is found
first_found-at : (f : ℕ → Option ℕ) (xs : List ℕ) (k x : ℕ) → k < length xs → get_or xs k x ≡ x → first_found f xs ≡ None → f x ≡ None
first_found-at f [] k x h e none = absurd (omega arith)
first_found-at f (y ∷ ys) zero x h e none = ap f (sym e) ∙ none_left (f y) (first_found f ys) none
first_found-at f (y ∷ ys) (suc k) x h e none = first_found-at f ys k x (omega arith) e (none_right (f y) (first_found f ys) none)

-- nothing is found where there is nothing at any element
first_found-none : (f : ℕ → Option ℕ) (xs : List ℕ) → ((x : ℕ) → Contains xs x → f x ≡ None) → first_found f xs ≡ None
first_found-none f [] none = refl
first_found-none f (x ∷ xs) none = ap (λ o. option_or o (first_found f xs)) (none x (0, omega arith, refl)) ∙ first_found-none f xs (λ y m. none y (suc m.0, omega (arith, m.1), m.2))

Contains-cons_cases : (p : ℕ) (xs : List ℕ) (q k : ℕ) → k < length (p ∷ xs) → get_or (p ∷ xs) k q ≡ q → (p ≡ q) ⊎ Contains xs q
Contains-cons_cases p xs q zero h e = inl e
Contains-cons_cases p xs q (suc k) h e = inr (k, omega arith, e)

Contains-later : (p : ℕ) (xs : List ℕ) (q : ℕ) → Contains xs q → Contains (p ∷ xs) q
Contains-later p xs q m = (suc m.0, omega (arith, m.1), m.2)

module _ (interfaces : ℕ → List ℕ) where
  -- i is one of the interfaces of c
  abbrev Is : ℕ → ℕ → Type 0
  Is c i = Contains (interfaces c) i

  -- ---- the classes of an order

  mutual
    pub order_reached : {c : ℕ} {xs : List ℕ} → Order interfaces c xs → (d : ℕ) → Contains xs d → Path Is c d
    order_reached (class_first {c} {xs} os) d m = elim (Contains-cons_cases c xs d m.0 m.1 m.2) [
      | inl e ↦ subst (Path Is c) e here
      | inr rest ↦ let p = orders_reached os d rest in step p.1 p.2
    ]

    orders_reached : {cs xs : List ℕ} → Orders interfaces cs xs → (d : ℕ) → Contains xs d → (i : ℕ) × Contains cs i × Path Is i d
    orders_reached no_more d m = absurd (Contains-nil d m)
    orders_reached (each {c} {cs} {xs} {ys} o os) d m = elim (Contains-append_cases xs ys d m) [
      | inl first ↦ (c, (0, omega arith, refl), order_reached o d first)
      | inr rest ↦ let p = orders_reached os d rest in (p.0, Contains-later c cs p.0 p.1, p.2)
    ]

  -- the order of one of several classes is a part of theirs
  order_within : {cs xs : List ℕ} → Orders interfaces cs xs → (i : ℕ) → Contains cs i → (ys : List ℕ) × Order interfaces i ys × ((d : ℕ) → Contains ys d → Contains xs d)
  order_within no_more i m = absurd (Contains-nil i m)
  order_within (each {c} {cs} {xs} {ys} o os) i m = elim (Contains-cons_cases c cs i m.0 m.1 m.2) [
    | inl e ↦ (xs, subst (λ k. Order interfaces k xs) e o, λ d n. Contains-append_left xs ys d n)
    | inr rest ↦ let p = order_within os i rest in (p.0, p.1, λ d n. Contains-append_right xs ys d (p.2 d n))
  ]

  pub order_has : {c d : ℕ} → Path Is c d → (xs : List ℕ) → Order interfaces c xs → Contains xs d
  order_has here xs o = head o
    where
      head : {c : ℕ} {xs : List ℕ} → Order interfaces c xs → Contains xs c
      head (class_first os) = (0, omega arith, refl)
  order_has (step {b = i} {c = d} m p) xs o = tail o m (order_has p)
    where
      tail : {c : ℕ} {xs : List ℕ} → Order interfaces c xs → Contains (interfaces c) i → ((ys : List ℕ) → Order interfaces i ys → Contains ys d) → Contains xs d
      tail (class_first {c} {xs} os) m rest = let q = order_within os i m in Contains-later c xs d (q.2 d (rest q.0 q.1))

  -- something is found in the order where something is reached
  pub order_finds : (f : ℕ → Option ℕ) (c d row : ℕ) (xs : List ℕ) → Order interfaces c xs → Path Is c d → f d ≡ Some row → first_found f xs ≡ None → ⊥
  order_finds f c d row xs o p found none = let m = order_has p xs o in let e = first_found-at f xs m.0 d m.1 m.2 none in cc

  -- nothing is found where nothing is reached
  pub order_misses : (f : ℕ → Option ℕ) (c : ℕ) (xs : List ℕ) → Order interfaces c xs → ((d : ℕ) → Path Is c d → f d ≡ None) → first_found f xs ≡ None
  order_misses f c xs o none = first_found-none f xs (λ d m. none d (order_reached o d m))

  pub orders_miss : (f : ℕ → Option ℕ) (cs xs : List ℕ) → Orders interfaces cs xs → ((i d : ℕ) → Contains cs i → Path Is i d → f d ≡ None) → first_found f xs ≡ None
  orders_miss f cs xs os none = first_found-none f xs (λ d m. let p = orders_reached os d m in none p.0 d p.1 p.2)

  -- ---- an order of each class

  pub orders_append : {cs ds xs ys : List ℕ} → Orders interfaces cs xs → Orders interfaces ds ys → Orders interfaces (cs ++ ds) (xs ++ ys)
  orders_append no_more q = q
  orders_append {ys = zs} (each {c} {cs} {xs} {ys} o os) q = subst (Orders interfaces (c ∷ (cs ++ _))) (sym (append_assoc xs ys zs)) (each o (orders_append os q))

  module _ (height : ℕ → ℕ) (falls : (c i : ℕ) → Contains (interfaces c) i → height i < height c) where
    orders_from : (n : ℕ) → ((c : ℕ) → height c < n → (xs : List ℕ) × Order interfaces c xs) → (cs : List ℕ) → ((i : ℕ) → Contains cs i → height i < n) → (xs : List ℕ) × Orders interfaces cs xs
    orders_from n one [] h = ([], no_more)
    orders_from n one (c ∷ cs) h =
        let first = one c (h c (0, omega arith, refl)) in
        let rest = orders_from n one cs (λ i m. h i (Contains-later c cs i m)) in
        (first.0 ++ rest.0, each first.1 rest.1)

    order_below : (n c : ℕ) → height c < n → (xs : List ℕ) × Order interfaces c xs
    order_below zero c h = absurd (omega arith)
    order_below (suc n) c h = let p = orders_from n (order_below n) (interfaces c) (λ i m. omega (arith, falls c i m, h)) in (c ∷ p.0, class_first p.1)

    pub order_exists : (c : ℕ) → (xs : List ℕ) × Order interfaces c xs
    order_exists c = order_below (height c + 1) c (omega arith)

    pub orders_exist : (n : ℕ) (cs : List ℕ) → ((i : ℕ) → Contains cs i → height i < n) → (xs : List ℕ) × Orders interfaces cs xs
    orders_exist n cs h = orders_from n (order_below n) cs h
