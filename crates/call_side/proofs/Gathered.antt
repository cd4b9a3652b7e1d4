-- Lists that are gathered element by element.
use Rattle.std.proofs.Common.{◌≡◌, ℕ, ◌+◌, ◌<◌, ◌↔◌, ◌⊎◌, List, [], length, get_or, take, refl, subst, inl, inr, arith}
use Rattle.std.proofs.lemmas.List.{take_all}
use Rattle.lists.specs.Lists.{Has}
use Rattle.call_side.specs.Gathered.{AreGathered}
use Rattle.call_side.proofs.Lists.{Has-take_more}

module _ {X Y : Type 0} (R : X → Y → Type 0) where
  -- nothing is gathered from no elements
  pub gathered_none : (xs : List X) → AreGathered R (take 0 xs) []
  gathered_none xs y = ((λ has. cc has.1), (λ h. cc h.1.1))

  -- one more element was looked at
  pub gathered_more : (xs : List X) (i : ℕ) (d : X) (old new : List Y) → i < length xs → AreGathered R (take i xs) old
      → ((y : Y) → Has new y ↔ (Has old y ⊎ R (get_or xs i d) y)) → AreGathered R (take (i + 1) xs) new
  gathered_more xs i d old new below was now y = (
    (λ has. elim ((now y).0 has) [
      | inl o ↦ let g = (was y).0 o in (g.0, (Has-take_more xs i d g.0 below).1 (inl g.1), g.2)
      | inr r ↦ (get_or xs i d, (Has-take_more xs i d (get_or xs i d) below).1 (inr refl), r)
    ]),
    (λ g. elim ((Has-take_more xs i d g.0 below).0 g.1) [
      | inl h ↦ (now y).1 (inl ((was y).1 (g.0, h, g.2)))
      | inr e ↦ (now y).1 (inr (subst (λ (x : X). R x y) e g.2))
    ]),
  )

  -- all were
  pub gathered_all : (xs : List X) (n : ℕ) (ys : List Y) → n ≡ length xs → AreGathered R (take n xs) ys → AreGathered R xs ys
  gathered_all xs n ys e h = subst (λ (zs : List X). AreGathered R zs ys) (take_all n xs (omega arith)) h
