-- Facts of what stands at an index of a list that grows at its end.
use Rattle.std.proofs.Common.{◌≡◌, ◌≢◌, ℕ, ◌+◌, ◌<◌, ◌↔◌, ◌⊎◌, List, [], ◌∷◌, ◌++◌, length, take, slice_get, Some, sym, subst, inl, inr, arith, length-take}
use Rattle.lists.proofs.Places.{length-taken, slice_get-append_left, slice_get-below, slice_get-push, slice_get-pushed, take-next}

-- an element that has the fact stands at the index
abbrev pub StandsAt : {X : Type 0} → (X → ℕ → Type 0) → List X → ℕ → Type 0
StandsAt {X} Q xs i = (x : X) × (slice_get xs i ≡ Some x) × Q x i

module _ {X : Type 0} where
  -- what stands at an index of a list that was added to
  pub StandsAt-push : (Q : X → ℕ → Type 0) (xs : List X) (x : X) (i : ℕ) → StandsAt Q (xs ++ x ∷ []) i ↔ (StandsAt Q xs i ⊎ ((i ≡ length xs) × Q x (length xs)))
  StandsAt-push Q xs x i = (
    (λ at. elim (slice_get-pushed xs x i at.0 at.1) [ inl a ↦ inl (at.0, a, at.2) | inr b ↦ inr (b.0, subst (λ k. Q x k) b.0 (subst (λ z. Q z i) b.1 at.2)) ]),
    (λ either. elim either [
      | inl at ↦ (at.0, slice_get-append_left xs _ i at.0 at.1, at.2)
      | inr b ↦ subst (λ k. StandsAt Q (xs ++ x ∷ []) k) (sym b.0) (x, slice_get-push xs x, b.1)
    ]),
  )

  -- what stands at an index of the front up to behind an element
  pub StandsAt-next : (Q : X → ℕ → Type 0) (xs : List X) (at : ℕ) (x : X) → slice_get xs at ≡ Some x → (i : ℕ)
      → StandsAt Q (take (at + 1) xs) i ↔ (StandsAt Q (take at xs) i ⊎ ((i ≡ at) × Q x at))
  StandsAt-next Q xs at x there i =
      subst (λ n. StandsAt Q (take (at + 1) xs) i ↔ (StandsAt Q (take at xs) i ⊎ ((i ≡ n) × Q x n))) (length-taken xs at x there)
      (rw (take-next xs at x there) (StandsAt-push Q (take at xs) x i))

  -- what stands in the front stands below its end
  pub StandsAt-below : (Q : X → ℕ → Type 0) (xs : List X) (at i : ℕ) → StandsAt Q (take at xs) i → i < at
  StandsAt-below Q xs at i stands = omega (arith, slice_get-below (take at xs) i stands.0 stands.1, length-take at xs)

  -- the last place
  pub StandsAt-last : (Q : X → ℕ → Type 0) (xs : List X) (x : X) (i : ℕ) → i ≡ length xs → StandsAt Q (xs ++ x ∷ []) i ↔ Q x i
  StandsAt-last Q xs x i last = (
    (λ at. elim ((StandsAt-push Q xs x i).0 at) [
      | inl old ↦ absurd (let below : i < length xs = slice_get-below xs i old.0 old.1 in omega arith)
      | inr b ↦ subst (λ k. Q x k) (sym last) b.1
    ]),
    (λ fact. (StandsAt-push Q xs x i).1 (inr (last, subst (λ k. Q x k) last fact))),
  )

  -- another place
  pub StandsAt-other : (Q : X → ℕ → Type 0) (xs : List X) (x : X) (i : ℕ) → i ≢ length xs → StandsAt Q (xs ++ x ∷ []) i ↔ StandsAt Q xs i
  StandsAt-other Q xs x i other = (
    (λ at. elim ((StandsAt-push Q xs x i).0 at) [ inl old ↦ old | inr b ↦ absurd (other b.0) ]),
    (λ old. (StandsAt-push Q xs x i).1 (inl old)),
  )
