use Rattle.std.proofs.Common.{◌≡◌, ◌∙◌, ℕ, zero, suc, [], ◌∷◌, slice_get, Some, sym, ap}
use Rattle.post_star.specs.declared.bases.Start.{Start}
use Rattle.post_star.specs.Derivations.{IsNamed, by_start, by_base, by_below}
use Rattle.weight_rows.proofs.saturation.from_node_0.Goals as goal

one_at : {X : Type 0} (x y : X) (i : ℕ) → slice_get (x ∷ []) i ≡ Some y → x ≡ y
one_at x y zero h = cc
one_at x y (suc i) h = cc

only_start : {W : Type 0} (s : Start W) (b : ℕ) → IsNamed (s ∷ []) [] b → b ≡ s.base
only_start s b (by_start q h e) = sym e ∙ sym (ap (λ (z : Start _). z.base) (one_at s q h.0 h.1))
only_start s b (by_base q h e) = let p = h.1 in cc
only_start s b (by_below q h e) = let p = h.1 in cc

pub saturate-requires : goal.saturate-requires
saturate-requires g c = rw (c.deref.ensures.value, c.in_ok-push.ensures.items, c.new-starts.ensures.items) (record { led = λ b n. ([], only_start _ b n) })
