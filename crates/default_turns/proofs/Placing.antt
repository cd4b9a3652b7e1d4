-- The holders at their places, one after the other.
use Rattle.std.proofs.Common.{◌≡◌, ◌↔◌, ℕ, ◌+◌, ◌<◌, List, [], ◌∷◌, ◌++◌, length, get_or, take, refl, sym, subst, inl, inr}
use Rattle.std.specs.List.{Contains}
use Rattle.std.specs.List.Sorted.{IsNonDecreasingBy, IsPermutation}
use Rattle.std.proofs.lemmas.List.Elements.{Contains-append_left, Contains-push, Contains-push_cases}
use Rattle.std.proofs.lemmas.List.Sorted.{Contains-permutation, IsPermutation-sym}
use Rattle.lists.proofs.Elements.{Contains-nil, Contains-take_kept, Contains-take_last, Contains-take_more}
use Rattle.class_rules.specs.Rows.{Rows}
use Rattle.class_tree.proofs.Lowest.{held_within}
use Rattle.class_tree.specs.Indexed.{HoldsMethod}
use Rattle.default_turns.specs.declared.holders.Holder.{Holder}
use Rattle.default_turns.specs.Holders.{AreHoldersOf, ArePlaced}

-- each of the interfaces at its place
pub record ArePlacedOf (places interfaces : List ℕ) (holders : List Holder) : Type 0 where
  pub from : (h : Holder) → Contains holders h → Contains interfaces h.interface × (h.place ≡ get_or places h.interface 0)
  pub all : (b : ℕ) → Contains interfaces b → (h : Holder) × Contains holders h × (h.interface ≡ b)

pub placed_none : (places interfaces : List ℕ) → ArePlacedOf places (take 0 interfaces) []
placed_none places interfaces = record { from = λ h m. absurd (Contains-nil h m); all = λ b m. absurd (Contains-nil b m) }

pub placed_more : (places interfaces : List ℕ) (holders : List Holder) (i d : ℕ) → i < length interfaces → ArePlacedOf places (take i interfaces) holders
    → ArePlacedOf places (take (i + 1) interfaces) (holders ++ record { interface = get_or interfaces i d; place = get_or places (get_or interfaces i d) 0 } ∷ [])
placed_more places interfaces holders i d lt a = record {
  from = λ h m. elim (Contains-push_cases holders one h m) [
    | inl was ↦ let p = a.from h was in (Contains-take_kept interfaces i d h.interface lt p.0, p.1)
    | inr is ↦ subst (λ (u : Holder). Contains (take (i + 1) interfaces) u.interface × (u.place ≡ get_or places u.interface 0)) is (Contains-take_last interfaces i d lt, refl)
  ];
  all = λ b m. elim (Contains-take_more interfaces i d b lt m) [
    | inl was ↦ let h = a.all b was in (h.0, Contains-append_left holders (one ∷ []) h.0 h.1, h.2)
    | inr is ↦ (one, Contains-push holders one, is)
  ];
}
  where
    one : Holder
    one = record { interface = get_or interfaces i d; place = get_or places (get_or interfaces i d) 0 }

-- what is in a list made of those with a method of the key
pub held_as : (rows : Rows) (key : ℕ) (holders set items : List ℕ) → ((b : ℕ) → Contains holders b ↔ HoldsMethod rows b key) → ((b : ℕ) → Contains set b ↔ Contains holders b) → items ≡ set
    → (b : ℕ) → Contains items b ↔ HoldsMethod rows b key
held_as rows key holders set items held same is b = subst (λ xs. Contains xs b ↔ HoldsMethod rows b key) (sym is) (
  λ m. (held b).0 ((same b).0 m),
  λ h. (same b).1 ((held b).1 h),
)

-- those with a method of the key, in another order
module _ (rows : Rows) (places : List ℕ) (key : ℕ) (interfaces : List ℕ) (held : (b : ℕ) → Contains interfaces b ↔ HoldsMethod rows b key) (holders sorted : List Holder)
    (a : ArePlacedOf places interfaces holders) (perm : IsPermutation holders sorted) where
  back : (h : Holder) → Contains sorted h → Contains holders h
  back h m = Contains-permutation sorted holders h (IsPermutation-sym holders sorted perm) m

  pub placed_sorted : IsNonDecreasingBy (λ (h : Holder). h.place) sorted → ArePlaced rows places sorted
  placed_sorted up = record {
    known = λ h m. held_within rows h.interface key ((held h.interface).0 (a.from h (back h m)).0);
    placed = λ h m. (a.from h (back h m)).1;
    sorted = up;
  }

  pub holders_are : AreHoldersOf rows key sorted
  holders_are b = (
    λ (h, m, e). subst (λ x. HoldsMethod rows x key) e ((held h.interface).0 (a.from h (back h m)).0),
    λ h. let o = a.all b ((held b).1 h) in (o.0, Contains-permutation holders sorted o.0 perm o.1, o.2),
  )
