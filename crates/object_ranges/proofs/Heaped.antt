-- The binary tree of minima: what its nodes say of the list.
use Rattle.std.proofs.Common.{◌≡◌, ℕ, zero, suc, ◌+◌, ◌-◌, ◌/◌, ◌<◌, ◌≤◌, ◌⊎◌, min, Option, Some, None, List, [], ◌∷◌, length, drop, get_or, refl, sym, ap, subst, ◌∙◌, inl, inr, arith, get_or-drop, length-drop}
use Rattle.std.proofs.lemmas.Bool.{cases_eq}
use Rattle.std.proofs.lemmas.Option.{get_or_from_slice_get, slice_get_within}
use Rattle.object_ranges.specs.Marks.{IsLeastOf, Stands, StandsIn, earlier}
use Rattle.object_ranges.specs.Minima.{AreLesser}
use Rattle.object_ranges.proofs.Leasts.{least_both, least_one, least_same, least_under, earlier_assoc, earlier_first, earlier_of, earlier_second}

-- ---- what stands at a place

pub stands_read : (marks : List (Option ℕ)) (i n : ℕ) → get_or marks i None ≡ Some n → Stands marks i n
stands_read [] i n e = cc
stands_read (x ∷ xs) zero n e = ap Some e
stands_read (x ∷ xs) (suc i) n e = stands_read xs i n e

pub read_stands : (marks : List (Option ℕ)) (i n : ℕ) → Stands marks i n → get_or marks i None ≡ Some n
read_stands marks i n e = get_or_from_slice_get marks i (Some n) None e

-- no number stands between two places of which the later comes first
pub least_nowhere : (marks : List (Option ℕ)) (from to : ℕ) → to ≤ from → IsLeastOf (StandsIn marks from to) None
least_nowhere marks from to h = λ n p. absurd (omega (arith, h, p.1, p.2))

-- ---- one step upwards

-- a number is twice another, or one more
halved : (j : ℕ) → (i : ℕ) × ((j ≡ i + i) ⊎ (j ≡ i + i + 1))
halved zero = (0, inl refl)
halved (suc j) = let p = halved j in elim p.1 [ inl e ↦ (p.0, inr (omega (arith, e))) | inr e ↦ (suc p.0, inl (omega (arith, e))) ]

module _ (count : ℕ) (nodes : List (Option ℕ)) (lesser : AreLesser 1 count nodes) where
  abbrev left : ℕ → Option ℕ
  left i = get_or nodes (i + i) None

  abbrev right : ℕ → Option ℕ
  right i = get_or nodes (i + i + 1) None

  -- the least of what stands below nodes is theirs
  under_nodes : (a b : ℕ) → 1 ≤ a → b ≤ count → (o : Option ℕ) → IsLeastOf (StandsIn nodes a b) o → IsLeastOf (StandsIn nodes (a + a) (b + b)) o
  under_nodes a b some within o is = least_under (StandsIn nodes a b) (StandsIn nodes (a + a) (b + b)) down up o is
    where
      down : (n : ℕ) → StandsIn nodes a b n → StandsIn nodes (a + a) (b + b) n
      down n (i, low, high, e) =
          let is = sym (lesser i (omega (arith, some, low)) (omega (arith, within, high))) ∙ read_stands nodes i n e in
          elim (earlier_of (left i) (right i) n is) [
            | inl l ↦ (i + i, omega (arith, low), omega (arith, high), stands_read nodes (i + i) n l)
            | inr r ↦ (i + i + 1, omega (arith, low), omega (arith, high), stands_read nodes (i + i + 1) n r)
          ]

      up : (n : ℕ) → StandsIn nodes (a + a) (b + b) n → (m : ℕ) × (m ≤ n) × StandsIn nodes a b m
      up n (j, low, high, e) =
          let h = halved j in
          elim h.1 [
            | inl even ↦
                let p = earlier_first (left h.0) (right h.0) n (ap (λ k. get_or nodes k None) (sym even) ∙ read_stands nodes j n e) in (
                  p.0,
                  p.1,
                  (
                    h.0,
                    omega (arith, even, low),
                    omega (arith, even, high),
                    stands_read nodes h.0 p.0 (lesser h.0 (omega (arith, even, low, some)) (omega (arith, even, high, within)) ∙ p.2),
                  ),
                )
            | inr odd ↦
                let p = earlier_second (left h.0) (right h.0) n (ap (λ k. get_or nodes k None) (sym odd) ∙ read_stands nodes j n e) in (
                  p.0,
                  p.1,
                  (
                    h.0,
                    omega (arith, odd, low),
                    omega (arith, odd, high),
                    stands_read nodes h.0 p.0 (lesser h.0 (omega (arith, odd, low, some)) (omega (arith, odd, high, within)) ∙ p.2),
                  ),
                )
          ]

  -- the first and the last node, and what stands below the nodes between their halves
  module _ (low high : ℕ) (some : 1 ≤ low) (apart : low < high) (within : high ≤ count + count) where
    abbrev first_last : Option ℕ
    first_last = earlier (get_or nodes low None) (get_or nodes (high - 1) None)

    abbrev AtEnds : ℕ → Type 0
    AtEnds n = (get_or nodes low None ≡ Some n) ⊎ (get_or nodes (high - 1) None ≡ Some n)

    at_ends : IsLeastOf AtEnds first_last
    at_ends = least_both (λ n. get_or nodes low None ≡ Some n) (λ n. get_or nodes (high - 1) None ≡ Some n) AtEnds (λ n r. r) (λ n p. inl p) (λ n q. inr q)
        (get_or nodes low None) (get_or nodes (high - 1) None) (least_one (get_or nodes low None)) (least_one (get_or nodes (high - 1) None))

    abbrev Between : ℕ → Type 0
    Between = StandsIn nodes ((low + 1) / 2 + (low + 1) / 2) (high / 2 + high / 2)

    pub least_halved : (o : Option ℕ) → IsLeastOf (StandsIn nodes ((low + 1) / 2) (high / 2)) o → IsLeastOf (StandsIn nodes low high) (earlier first_last o)
    least_halved o is = least_both AtEnds Between (StandsIn nodes low high) split ends between first_last o at_ends
        (under_nodes ((low + 1) / 2) (high / 2) (omega (arith, some)) (omega (arith, within)) o is)
      where
        split : (n : ℕ) → StandsIn nodes low high n → AtEnds n ⊎ Between n
        split n (i, l, h, e) = elim (cases_eq i low) [
          | inl first ↦ inl (inl (ap (λ k. get_or nodes k None) (sym first) ∙ read_stands nodes i n e))
          | inr not_first ↦ elim (cases_eq i (high - 1)) [
            | inl last ↦ inl (inr (ap (λ k. get_or nodes k None) (sym last) ∙ read_stands nodes i n e))
            | inr not_last ↦ inr (i, omega (arith, l, not_first), omega (arith, h, not_last), e)
          ]
        ]

        ends : (n : ℕ) → AtEnds n → StandsIn nodes low high n
        ends n (inl e) = (low, omega arith, apart, stands_read nodes low n e)
        ends n (inr e) = (high - 1, omega (arith, apart), omega (arith, apart), stands_read nodes (high - 1) n e)

        between : (n : ℕ) → Between n → StandsIn nodes low high n
        between n (i, l, h, e) = (i, omega (arith, l), omega (arith, h), e)

    -- with what was found before
    pub least_further : (old now : Option ℕ) (P : ℕ → Type 0) → now ≡ earlier old first_last
        → ((o : Option ℕ) → IsLeastOf (StandsIn nodes low high) o → IsLeastOf P (earlier old o))
        → (o : Option ℕ) → IsLeastOf (StandsIn nodes ((low + 1) / 2) (high / 2)) o → IsLeastOf P (earlier now o)
    least_further old now P e told o is = subst (IsLeastOf P) (sym (ap (λ x. earlier x o) e ∙ earlier_assoc old first_last o)) (told (earlier first_last o) (least_halved o is))

-- the places of the list as nodes
pub least_placed : (count : ℕ) (nodes : List (Option ℕ)) (from to low high : ℕ) → length nodes ≡ count + count → low ≡ count + min from count → high ≡ count + min to count → (o : Option ℕ)
    → IsLeastOf (StandsIn nodes low high) o → IsLeastOf (StandsIn (drop count nodes) from to) o
least_placed count nodes from to low high len first last o is = least_same _ _ shown back o is
  where
    shown : (n : ℕ) → StandsIn nodes low high n → StandsIn (drop count nodes) from to n
    shown n (i, above, below, e) =
        let at : count + (i - count) ≡ i = omega (arith, above, first) in (
          i - count,
          omega (arith, above, below, first, last),
          omega (arith, above, below, first, last),
          stands_read (drop count nodes) (i - count) n (get_or-drop count nodes (i - count) None ∙ ap (λ k. get_or nodes k None) at ∙ read_stands nodes i n e),
        )

    back : (n : ℕ) → StandsIn (drop count nodes) from to n → StandsIn nodes low high n
    back n (p, above, below, e) =
        let lt = slice_get_within (drop count nodes) p (Some n) e in
        let within : p < count = omega (arith, lt, length-drop count nodes, len) in (
          count + p,
          omega (arith, above, within, first),
          omega (arith, below, within, last),
          stands_read nodes (count + p) n (sym (get_or-drop count nodes p None) ∙ read_stands (drop count nodes) p n e),
        )
