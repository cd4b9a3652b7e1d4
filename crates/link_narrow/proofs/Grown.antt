-- Lists that grow by the targets that stay.
use Rattle.std.proofs.Common.{◌≡◌, ℕ, ◌+◌, ◌≤◌, ◌⊎◌, List, Some, length, slice_get, sym, subst, inl, inr, arith}
use Rattle.std.proofs.lemmas.Bool.{cases_order}
use Rattle.lists.specs.Grown.{IsGrownBy}
use Rattle.lists.specs.Lists.{Adds}
use Rattle.lists.proofs.Grown.{grown_one, grown_same, grown_then}
use Rattle.jim_ast.specs.declared.syntax.Mode.{Mode}
use Rattle.lists.proofs.Places.{slice_get-below}
use Rattle.link_rules.specs.declared.code.Code.{Code}
use Rattle.narrow_rules.specs.declared.kept.Kept.{Kept}
use Rattle.narrow_rules.specs.Narrowed.{IsKept, StaysIn}
use Rattle.link_narrow.specs.Reaching.{StaysAmong, StaysBefore, StaysFrom}

module _ (kept : List Kept) (number index : ℕ) (mode : Mode) (targets : List ℕ) where
  pub among_none : (x : ℕ) → StaysAmong kept number index mode targets 0 x → ⊥
  among_none x h = let w = h.within in omega (arith, w)

  pub among_all : (count x : ℕ) → StaysAmong kept number index mode targets count x → StaysAmong kept number index mode targets (length targets) x
  among_all count x h = record { at = h.at; within = slice_get-below targets h.at x h.there; there = h.there; stays = h.stays }

  pub among_end : (count x : ℕ) → length targets ≤ count → StaysAmong kept number index mode targets (length targets) x
      → StaysAmong kept number index mode targets count x
  among_end count x end h = let w = h.within in record { at = h.at; within = omega (arith, w, end); there = h.there; stays = h.stays }

  pub among_more : (count x : ℕ) → StaysAmong kept number index mode targets count x → StaysAmong kept number index mode targets (count + 1) x
  among_more count x h = let w = h.within in record { at = h.at; within = omega (arith, w); there = h.there; stays = h.stays }

  pub among_split : (count target : ℕ) → slice_get targets count ≡ Some target → (x : ℕ) → StaysAmong kept number index mode targets (count + 1) x
      → StaysAmong kept number index mode targets count x ⊎ ((x ≡ target) × StaysIn mode (IsKept kept number index target))
  among_split count target there x h = elim (cases_order h.at count) [
    | inl same ↦
        let is : x ≡ target = let a = h.there in cc (a, there, same) in
        inr (is, subst (λ y. StaysIn mode (IsKept kept number index y)) is h.stays)
    | inr apart ↦ elim apart [
      | inl below ↦ inl (record { at = h.at; within = below; there = h.there; stays = h.stays })
      | inr above ↦ (let w = h.within in absurd (omega (arith, w, above)))
    ]
  ]

  -- one more target that stays
  pub grown_target : (count target : ℕ) (a b c : List ℕ) → slice_get targets count ≡ Some target → StaysIn mode (IsKept kept number index target)
      → IsGrownBy (StaysAmong kept number index mode targets count) a b → Adds b target c
      → IsGrownBy (StaysAmong kept number index mode targets (count + 1)) a c
  grown_target count target a b c there stays g adds =
      grown_then (StaysAmong kept number index mode targets count) (λ y. y ≡ target) (StaysAmong kept number index mode targets (count + 1)) a b c g
      (grown_one target b c adds) (among_more count)
      (λ x is. record { at = count; within = omega arith; there = subst (λ y. slice_get targets count ≡ Some y) (sym is) there; stays = subst (λ y. StaysIn mode (IsKept kept number index y)) (sym is) stays })
      (λ x h. elim (among_split count target there x h) [ inl old ↦ inl old | inr last ↦ inr last.0 ])

  -- one more that doesn't
  pub grown_other : (count target : ℕ) (a b : List ℕ) → slice_get targets count ≡ Some target → (StaysIn mode (IsKept kept number index target) → ⊥)
      → IsGrownBy (StaysAmong kept number index mode targets count) a b → IsGrownBy (StaysAmong kept number index mode targets (count + 1)) a b
  grown_other count target a b there stays g =
      grown_same (StaysAmong kept number index mode targets count) (StaysAmong kept number index mode targets (count + 1)) a b g (among_more count)
      (λ x h. elim (among_split count target there x h) [ inl old ↦ old | inr last ↦ absurd (stays last.1) ])

  pub grown_targets : (count : ℕ) (a b : List ℕ) → length targets ≤ count → IsGrownBy (StaysAmong kept number index mode targets count) a b
      → IsGrownBy (StaysAmong kept number index mode targets (length targets)) a b
  grown_targets count a b end g = grown_same (StaysAmong kept number index mode targets count) (StaysAmong kept number index mode targets (length targets)) a b g
      (among_all count) (λ x h. among_end count x end h)

module _ (kept : List Kept) (number : ℕ) (codes : List Code) where
  pub before_none : (x : ℕ) → StaysBefore kept number codes 0 x → ⊥
  before_none x h = let w = h.within in omega (arith, w)

  before_more : (count x : ℕ) → StaysBefore kept number codes count x → StaysBefore kept number codes (count + 1) x
  before_more count x h = let w = h.within in record { index = h.index; within = omega (arith, w); code = h.code; here = h.here; stays = h.stays }

  before_split : (count : ℕ) (c : Code) → slice_get codes count ≡ Some c → (x : ℕ) → StaysBefore kept number codes (count + 1) x
      → StaysBefore kept number codes count x ⊎ StaysFrom kept number count c x
  before_split count c there x h = elim (cases_order h.index count) [
    | inl same ↦
        let is : h.code ≡ c = let a = h.here in cc (a, there, same) in
        inr (subst (λ i. StaysFrom kept number i c x) same (subst (λ d. StaysFrom kept number h.index d x) is h.stays))
    | inr apart ↦ elim apart [
      | inl below ↦ inl (record { index = h.index; within = below; code = h.code; here = h.here; stays = h.stays })
      | inr above ↦ (let w = h.within in absurd (omega (arith, w, above)))
    ]
  ]

  -- one more statement
  pub grown_code : (count : ℕ) (code : Code) (a b c : List ℕ) → slice_get codes count ≡ Some code → IsGrownBy (StaysBefore kept number codes count) a b
      → IsGrownBy (StaysFrom kept number count code) b c → IsGrownBy (StaysBefore kept number codes (count + 1)) a c
  grown_code count code a b c there g more =
      grown_then (StaysBefore kept number codes count) (StaysFrom kept number count code) (StaysBefore kept number codes (count + 1)) a b c g more
      (before_more count) (λ x h. record { index = count; within = omega arith; code = code; here = there; stays = h }) (before_split count code there)

  pub grown_codes : (count : ℕ) (a b : List ℕ) → length codes ≤ count → IsGrownBy (StaysBefore kept number codes count) a b
      → IsGrownBy (StaysBefore kept number codes (length codes)) a b
  grown_codes count a b end g = grown_same (StaysBefore kept number codes count) (StaysBefore kept number codes (length codes)) a b g
      (λ x h. record { index = h.index; within = slice_get-below codes h.index h.code h.here; code = h.code; here = h.here; stays = h.stays })
      (λ x h. let w = h.within in record { index = h.index; within = omega (arith, w, end); code = h.code; here = h.here; stays = h.stays })
