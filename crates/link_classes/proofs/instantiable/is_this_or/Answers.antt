use Rattle.std.proofs.Common.{◌≡◌, ◌∷◌, ℕ, List, zero, suc, Some, sym, ◌∙◌, true≢false, slice_get}
use Rattle.std.proofs.lemmas.Bool.Decides.{Decides-eqb}
use Rattle.std.proofs.lemmas.Slice.Eq.{slice_eq-Decides}
use Rattle.lists.specs.Lists.{Has}
use Rattle.link_classes.proofs.instantiable.is_this_or.Goals as goal

-- an element that isn't the first stands behind it
behind : {X : Type 0} (y x : X) (xs : List X) → (x ≡ y → ⊥) → Has (y ∷ xs) x → Has xs x
behind y x xs other h = at h.0 h.1
  where
    at : (i : ℕ) → slice_get (y ∷ xs) i ≡ Some x → Has xs x
    at zero e = let same : x ≡ y = cc (e) in absurd (other same)
    at (suc i) e = (i, e)

pub returns-else-eq : goal.returns-else-eq
returns-else-eq c = λ names before.
    let by_bytes = slice_eq-Decides Decides-eqb _ _ _ c.eq.ensures in
    let other : c.args.name.now ≡ c.args.this.now → ⊥ = λ same. true≢false (sym (by_bytes.1 same) ∙ c.if-eq.false) in
    (λ t. let h = before.0 t in (suc h.0, h.1), λ h. before.1 (behind c.args.this.now c.args.name.now names other h))
