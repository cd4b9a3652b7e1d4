-- Cells that are found by their keys: one is written, one is put last into its row, and rows come in.
use Rattle.std.proofs.Common.{◌≡◌, ◌≢◌, ◌⊎◌, inl, inr, ℕ, zero, suc, ◌+◌, ◌-◌, ◌<◌, List, [], ◌∷◌, ◌++◌, length, slice_get, Some, refl, sym, ap, ◌∙◌, subst, arith, length-append}
use Rattle.std.specs.List.{slice_set}
use Rattle.lists.specs.Lists.{Has}
use Rattle.lists.proofs.Places.{IsApart-push, slice_get-append_left, slice_get-below, slice_get-push, slice_get-pushed, slice_get-set_other, slice_get-set_same}
use Rattle.std.proofs.lemmas.List.{length-set}
use Rattle.auto_table.specs.Grids.{HasPlace, IsFiled, IsFound, IsPlaced, row_at}
use Rattle.auto_table.proofs.Found.{one_or_other}

module _ {X : Type 0} where
  -- a row that has a cell is there
  pub row_within : (rows : List (List X)) (i j : ℕ) (x : X) → slice_get (row_at rows i) j ≡ Some x → i < length rows
  row_within [] i j x h = cc
  row_within (r ∷ rows) zero j x h = omega arith
  row_within (r ∷ rows) (suc i) j x h = let rest : i < length rows = row_within rows i j x h in omega arith

  pub row_at-grown : (rows : List (List X)) (i : ℕ) → row_at (rows ++ [] ∷ []) i ≡ row_at rows i
  row_at-grown [] zero = refl
  row_at-grown [] (suc i) = refl
  row_at-grown (r ∷ rows) zero = refl
  row_at-grown (r ∷ rows) (suc i) = row_at-grown rows i

  pub row_at-beyond : (rows : List (List X)) (i : ℕ) → length rows ≡ i → row_at rows i ≡ []
  row_at-beyond [] i e = refl
  row_at-beyond (r ∷ rows) zero e = absurd (omega (arith, e))
  row_at-beyond (r ∷ rows) (suc i) e = row_at-beyond rows i (omega (arith, e))

  pub row_at-set_same : (rows : List (List X)) (i : ℕ) (r : List X) → i < length rows → row_at (slice_set rows i r) i ≡ r
  row_at-set_same [] i r h = absurd (omega arith)
  row_at-set_same (q ∷ rows) zero r h = refl
  row_at-set_same (q ∷ rows) (suc i) r h = row_at-set_same rows i r (omega arith)

  pub row_at-set_other : (rows : List (List X)) (i : ℕ) (r : List X) (k : ℕ) → k ≢ i → row_at (slice_set rows i r) k ≡ row_at rows k
  row_at-set_other [] i r k n = refl
  row_at-set_other (q ∷ rows) zero r zero n = absurd (n refl)
  row_at-set_other (q ∷ rows) zero r (suc k) n = refl
  row_at-set_other (q ∷ rows) (suc i) r zero n = refl
  row_at-set_other (q ∷ rows) (suc i) r (suc k) n = row_at-set_other rows i r k (λ e. n (ap suc e))

  -- a row that comes in with cells is one that came in empty and got them
  pub rows-new : (rows : List (List X)) (r : List X) → rows ++ r ∷ [] ≡ slice_set (rows ++ [] ∷ []) (length rows) r
  rows-new [] r = refl
  rows-new (q ∷ rows) r = ap (λ (rs : List (List X)). q ∷ rs) (rows-new rows r)

-- the number of rows stays
pub rows-set : {X : Type 0} (rows : List (List X)) (i : ℕ) (r : List X) → length (slice_set rows i r) ≡ length rows
rows-set rows i r = length-set rows i r

-- ---- what cells stand in rows of which one is another
module _ {X : Type 0} (rows : List (List X)) (i : ℕ) (there : i < length rows) (y : X) where
  -- a cell is written
  module _ (j : ℕ) (within : j < length (row_at rows i)) where
    abbrev pub written : List (List X)
    written = slice_set rows i (slice_set (row_at rows i) j y)

    pub written-here : slice_get (row_at written i) j ≡ Some y
    written-here = ap (λ (r : List X). slice_get r j) (row_at-set_same rows i _ there) ∙ slice_get-set_same (row_at rows i) j y within

    pub written-elsewhere : (k l : ℕ) → (k ≡ i → l ≡ j → ⊥) → slice_get (row_at written k) l ≡ slice_get (row_at rows k) l
    written-elsewhere k l n = by (one_or_other k i)
      where
        by : (k ≡ i) ⊎ (k ≢ i) → slice_get (row_at written k) l ≡ slice_get (row_at rows k) l
        by (inl e) = ap (λ (m : ℕ). slice_get (row_at written m) l) e ∙ ap (λ (r : List X). slice_get r l) (row_at-set_same rows i _ there)
            ∙ slice_get-set_other (row_at rows i) j l y (n e) ∙ ap (λ (m : ℕ). slice_get (row_at rows m) l) (sym e)
        by (inr d) = ap (λ (r : List X). slice_get r l) (row_at-set_other rows i _ k d)

    -- each cell is the written one, or was there
    pub written-cell : (k l : ℕ) (z : X) → slice_get (row_at written k) l ≡ Some z → ((k ≡ i) × (l ≡ j) × (z ≡ y)) ⊎ (slice_get (row_at rows k) l ≡ Some z)
    written-cell k l z h = by (one_or_other k i) (one_or_other l j)
      where
        by : (k ≡ i) ⊎ (k ≢ i) → (l ≡ j) ⊎ (l ≢ j) → ((k ≡ i) × (l ≡ j) × (z ≡ y)) ⊎ (slice_get (row_at rows k) l ≡ Some z)
        by (inl a) (inl b) = let g : slice_get (row_at written i) j ≡ Some z = subst (λ (m : ℕ). slice_get (row_at written i) m ≡ Some z) b (subst (λ (m : ℕ). slice_get (row_at written m) l ≡ Some z) a h) in
            let one : Some z ≡ Some y = sym g ∙ written-here in inl (a, b, cc)
        by (inr n) b = inr (sym (written-elsewhere k l (λ a c. n a)) ∙ h)
        by (inl a) (inr n) = inr (sym (written-elsewhere k l (λ c b. n b)) ∙ h)

  -- a cell is put last
  abbrev pub pushed : List (List X)
  pushed = slice_set rows i (row_at rows i ++ y ∷ [])

  pub pushed-here : slice_get (row_at pushed i) (length (row_at rows i)) ≡ Some y
  pushed-here = ap (λ (r : List X). slice_get r (length (row_at rows i))) (row_at-set_same rows i _ there) ∙ slice_get-push (row_at rows i) y

  pub pushed-kept : (k l : ℕ) (z : X) → slice_get (row_at rows k) l ≡ Some z → slice_get (row_at pushed k) l ≡ Some z
  pushed-kept k l z h = by (one_or_other k i)
    where
      by : (k ≡ i) ⊎ (k ≢ i) → slice_get (row_at pushed k) l ≡ Some z
      by (inl e) = ap (λ (m : ℕ). slice_get (row_at pushed m) l) e ∙ ap (λ (r : List X). slice_get r l) (row_at-set_same rows i _ there)
          ∙ slice_get-append_left (row_at rows i) _ l z (subst (λ (m : ℕ). slice_get (row_at rows m) l ≡ Some z) e h)
      by (inr n) = ap (λ (r : List X). slice_get r l) (row_at-set_other rows i _ k n) ∙ h

  -- each cell is the new one, or was there
  pub pushed-cell : (k l : ℕ) (z : X) → slice_get (row_at pushed k) l ≡ Some z → ((k ≡ i) × (l ≡ length (row_at rows i)) × (z ≡ y)) ⊎ (slice_get (row_at rows k) l ≡ Some z)
  pushed-cell k l z h = by (one_or_other k i)
    where
      by : (k ≡ i) ⊎ (k ≢ i) → ((k ≡ i) × (l ≡ length (row_at rows i)) × (z ≡ y)) ⊎ (slice_get (row_at rows k) l ≡ Some z)
      by (inl e) = elim (slice_get-pushed (row_at rows i) y l z (sym (ap (λ (r : List X). slice_get r l) (row_at-set_same rows i _ there)) ∙ subst (λ (m : ℕ). slice_get (row_at pushed m) l ≡ Some z) e h)) [
        | inl p ↦ inr (subst (λ (m : ℕ). slice_get (row_at rows m) l ≡ Some z) (sym e) p)
        | inr q ↦ inl (e, q.0, q.1)
      ]
      by (inr n) = inr (sym (ap (λ (r : List X). slice_get r l) (row_at-set_other rows i _ k n)) ∙ h)

-- ---- each cell is found by its key
module _ {S X K : Type 0} (row_of : S → ℕ) (of : S → K) (one : (s t : S) → row_of s ≡ row_of t → of s ≡ of t → s ≡ t) (is_of : X → K) where
  pub filed-none : (rows : List (List X)) (keys : List S) (places : List ℕ) → rows ≡ [] → keys ≡ [] → places ≡ [] → IsFiled row_of of is_of rows keys places
  filed-none rows keys places r k p = rw (r, k, p) (record { as_many = refl; apart = λ i j x h g. cc; placed = λ n s j h g. cc; found = λ i j x h. cc })

  module _ (rows : List (List X)) (keys : List S) (places : List ℕ) (f : IsFiled row_of of is_of rows keys places) where
    -- a key leads to the cell that is of it
    pub filed-cell : (s : S) (j : ℕ) → HasPlace keys places s j → IsPlaced row_of of is_of rows s j
    filed-cell s j h = f.placed h.0 s j h.1 h.2

    pub filed-row : (s : S) (j : ℕ) → HasPlace keys places s j → row_of s < length rows
    filed-row s j at = let c = filed-cell s j at in row_within rows (row_of s) j c.cell c.there

    pub filed-place : (s : S) (j : ℕ) → HasPlace keys places s j → j < length (row_at rows (row_of s))
    filed-place s j at = let c = filed-cell s j at in slice_get-below (row_at rows (row_of s)) j c.cell c.there

    -- the cells of a row are of different keys
    pub filed-apart : (i j k : ℕ) (x y : X) → slice_get (row_at rows i) j ≡ Some x → slice_get (row_at rows i) k ≡ Some y → is_of x ≡ is_of y → j ≡ k
    filed-apart i j k x y h g e =
        let a = f.found i j x h in
        let b = f.found i k y g in
        let same : a.key ≡ b.key = one a.key b.key (a.in_row ∙ sym b.in_row) (a.same ∙ e ∙ sym b.same) in
        let number : a.number ≡ b.number = f.apart a.number b.number b.key (a.there ∙ ap Some same) b.there in
        let place : Some j ≡ Some k = sym a.at ∙ ap (slice_get places) number ∙ b.at in cc

    -- a key that has no place is that of no cell
    pub filed-missed : (s : S) → (Has keys s → ⊥) → (j : ℕ) (x : X) → slice_get (row_at rows (row_of s)) j ≡ Some x → is_of x ≢ of s
    filed-missed s miss j x h e = let a = f.found (row_of s) j x h in miss (a.number, a.there ∙ ap Some (one a.key s a.in_row (a.same ∙ e)))

    pub filed-grown : IsFiled row_of of is_of (rows ++ [] ∷ []) keys places
    filed-grown = record {
      as_many = f.as_many;
      apart = f.apart;
      placed = λ n s j h g. let c = f.placed n s j h g in record { cell = c.cell; there = ap (λ (r : List X). slice_get r j) (row_at-grown rows (row_of s)) ∙ c.there; same = c.same };
      found = λ i j x h. f.found i j x (sym (ap (λ (r : List X). slice_get r j) (row_at-grown rows i)) ∙ h);
    }

    -- a cell in the place of the one of its key
    module _ (s : S) (j : ℕ) (at : HasPlace keys places s j) (y : X) (is : is_of y ≡ of s) where
      abbrev others : List (List X)
      others = slice_set rows (row_of s) (slice_set (row_at rows (row_of s)) j y)

      low : row_of s < length rows
      low = filed-row s j at

      within : j < length (row_at rows (row_of s))
      within = filed-place s j at

      pub filed-written : IsFiled row_of of is_of others keys places
      filed-written = record { as_many = f.as_many; apart = f.apart; placed = placed; found = found }
        where
          placed : (n : ℕ) (t : S) (k : ℕ) → slice_get keys n ≡ Some t → slice_get places n ≡ Some k → IsPlaced row_of of is_of others t k
          placed n t k h g = by (one_or_other (row_of t) (row_of s)) (one_or_other k j)
            where
              c : IsPlaced row_of of is_of rows t k
              c = f.placed n t k h g

              by : (row_of t ≡ row_of s) ⊎ (row_of t ≢ row_of s) → (k ≡ j) ⊎ (k ≢ j) → IsPlaced row_of of is_of others t k
              by (inl a) (inl b) =
                  let d = filed-cell s j at in
                  let same : Some c.cell ≡ Some d.cell = sym c.there ∙ ap (λ (m : ℕ). slice_get (row_at rows m) k) a ∙ ap (slice_get (row_at rows (row_of s))) b ∙ d.there in
                  let cell : c.cell ≡ d.cell = cc in
                  record { cell = y; there = ap (λ (m : ℕ). slice_get (row_at others m) k) a ∙ ap (slice_get (row_at others (row_of s))) b ∙ written-here rows (row_of s) low y j within; same = is ∙ sym d.same ∙ ap is_of (sym cell) ∙ c.same }
              by (inr q) b = record { cell = c.cell; there = written-elsewhere rows (row_of s) low y j within (row_of t) k (λ a z. q a) ∙ c.there; same = c.same }
              by (inl a) (inr q) = record { cell = c.cell; there = written-elsewhere rows (row_of s) low y j within (row_of t) k (λ z b. q b) ∙ c.there; same = c.same }

          found : (i l : ℕ) (x : X) → slice_get (row_at others i) l ≡ Some x → IsFound row_of of is_of keys places i l x
          found i l x h = elim (written-cell rows (row_of s) low y j within i l x h) [
            | inl e ↦ record { key = s; in_row = sym e.0; same = sym is ∙ ap is_of (sym e.2); number = at.0; there = at.1; at = at.2 ∙ ap Some (sym e.1) }
            | inr o ↦ f.found i l x o
          ]

    -- a cell of a new key behind the others of its row
    module _ (s : S) (new : Has keys s → ⊥) (y : X) (is : is_of y ≡ of s) (low : row_of s < length rows) where
      abbrev more : List (List X)
      more = slice_set rows (row_of s) (row_at rows (row_of s) ++ y ∷ [])

      abbrev place : ℕ
      place = length (row_at rows (row_of s))

      pub filed-pushed : IsFiled row_of of is_of more (keys ++ s ∷ []) (places ++ place ∷ [])
      filed-pushed = record { as_many = omega (arith, f.as_many, length-append keys (s ∷ []), length-append places (place ∷ [])); apart = IsApart-push keys s f.apart new; placed = placed; found = found }
        where
          placed : (n : ℕ) (t : S) (k : ℕ) → slice_get (keys ++ s ∷ []) n ≡ Some t → slice_get (places ++ place ∷ []) n ≡ Some k → IsPlaced row_of of is_of more t k
          placed n t k h g = by (slice_get-pushed keys s n t h) (slice_get-pushed places place n k g)
            where
              by : (slice_get keys n ≡ Some t) ⊎ ((n ≡ length keys) × (t ≡ s)) → (slice_get places n ≡ Some k) ⊎ ((n ≡ length places) × (k ≡ place)) → IsPlaced row_of of is_of more t k
              by (inl a) (inl b) = let c = f.placed n t k a b in record { cell = c.cell; there = pushed-kept rows (row_of s) low y (row_of t) k c.cell c.there; same = c.same }
              by (inr a) (inr b) = record {
                cell = y;
                there = ap (λ (z : S). slice_get (row_at more (row_of z)) k) a.1 ∙ ap (slice_get (row_at more (row_of s))) b.1 ∙ pushed-here rows (row_of s) low y;
                same = is ∙ ap of (sym a.1);
              }
              by (inl a) (inr b) = absurd (omega (arith, slice_get-below keys n t a, f.as_many, b.0))
              by (inr a) (inl b) = absurd (omega (arith, slice_get-below places n k b, f.as_many, a.0))

          found : (i l : ℕ) (x : X) → slice_get (row_at more i) l ≡ Some x → IsFound row_of of is_of (keys ++ s ∷ []) (places ++ place ∷ []) i l x
          found i l x h = elim (pushed-cell rows (row_of s) low y i l x h) [
            | inl e ↦ record {
              key = s;
              in_row = sym e.0;
              same = sym is ∙ ap is_of (sym e.2);
              number = length keys;
              there = slice_get-push keys s;
              at = ap (slice_get (places ++ place ∷ [])) (sym f.as_many) ∙ slice_get-push places place ∙ ap Some (sym e.1);
            }
            | inr o ↦ let c = f.found i l x o in record {
              key = c.key;
              in_row = c.in_row;
              same = c.same;
              number = c.number;
              there = slice_get-append_left keys (s ∷ []) c.number c.key c.there;
              at = slice_get-append_left places (place ∷ []) c.number l c.at;
            }
          ]

-- the room that is left
pub less_room : (cap len cap' len' : ℕ) → cap' ≡ cap → len' ≡ len + 1 → cap' - len' ≡ cap - len - 1
less_room cap len cap' len' a b = omega (arith, a, b)

-- as many stay as many
pub length_push : {X Y : Type 0} (xs : List X) (ys : List Y) (x : X) (y : Y) → length xs ≡ length ys → length (xs ++ x ∷ []) ≡ length (ys ++ y ∷ [])
length_push xs ys x y e = omega (arith, e, length-append xs (x ∷ []), length-append ys (y ∷ []))

-- a row in its own place
pub set_row-same : {X : Type 0} (rows : List (List X)) (i : ℕ) → slice_set rows i (row_at rows i) ≡ rows
set_row-same [] i = refl
set_row-same (r ∷ rows) zero = refl
set_row-same {X} (r ∷ rows) (suc i) = ap (λ (rs : List (List X)). r ∷ rs) (set_row-same rows i)
