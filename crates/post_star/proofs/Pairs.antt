-- A node of an entry and a link, as pairs: two are one, or they differ.
use Rattle.std.proofs.Common.{◌≡◌, ◌⊎◌, inl, inr, ℕ, ap}
use Rattle.auto_table.specs.declared.entry.Entry.{Entry}
use Rattle.auto_table.proofs.Raises as of

abbrev pub spot_of : Entry → ℕ → Entry × ℕ
spot_of e n = (e, n)

abbrev pub link_of : Entry → Entry → Entry × Entry
link_of c p = (c, p)

pub spot_or : (x y : Entry × ℕ) → (x ≡ y) ⊎ (x ≡ y → ⊥)
spot_or x y = elim (of.spot_or x.0 y.0 x.1 y.1) [
  | inl h ↦ inl (λ i. (h.0 i, h.1 i))
  | inr h ↦ inr (λ e. h (ap (λ (z : Entry × ℕ). z.0) e) (ap (λ (z : Entry × ℕ). z.1) e))
]

pub link_or : (x y : Entry × Entry) → (x ≡ y) ⊎ (x ≡ y → ⊥)
link_or x y = elim (of.link_or x.0 y.0 x.1 y.1) [
  | inl h ↦ inl (λ i. (h.0 i, h.1 i))
  | inr h ↦ inr (λ e. h (ap (λ (z : Entry × Entry). z.0) e) (ap (λ (z : Entry × Entry). z.1) e))
]
