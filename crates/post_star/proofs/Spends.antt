-- Each rise takes more from the work that is left than the item that it puts there.
use Rattle.std.proofs.Common.{◌≡◌, ◌≢◌, ◌⊎◌, inl, inr, ℕ, zero, suc, ◌<◌, ◌≤◌, List, [], ◌∷◌, length, slice_get, Some, sym, ap, ◌∙◌, subst, arith}
use Rattle.auto_table.specs.declared.entry.Entry.{Entry}
use Rattle.lists.specs.Lists.{Has}
use Rattle.auto_table.specs.Cells.{Cells, weight_at, link_at}
use Rattle.lists.proofs.Places.{slice_get-pushed}
use Rattle.post_star.specs.declared.bases.BaseStep.{BaseStep}
use Rattle.post_star.specs.declared.rise.Item.{Item}
use Rattle.post_star.specs.declared.rise.Item.TheVariants.{At, Between}
use Rattle.post_star.specs.Measures.{Scope, IsWithin, total, room_left, work_left}
use Rattle.post_star.specs.Works.{IsPaid, rose, stayed, IsRisen, IsRisenLink}
use Rattle.post_star.proofs.Rises.{grown, nm, link_grown, link_meant_new}
use Rattle.weight_laws.specs.Law.{Domain, IsLawful, Leq}
use Rattle.weight_laws.proofs.Orders.{leq_left}
use Rattle.post_star.proofs.Scopes.{length_pushed}

module _ {X : Type 0} (f g : X → ℕ) (low : (x : X) → f x ≤ g x) where
  pub total_le : (xs : List X) → total f xs ≤ total g xs
  total_le [] = omega arith
  total_le (x ∷ xs) = let here : f x ≤ g x = low x in let rest : total f xs ≤ total g xs = total_le xs in omega arith

  pub total_lt : (xs : List X) (i : ℕ) (x : X) → slice_get xs i ≡ Some x → f x < g x → total f xs < total g xs
  total_lt [] i x h k = cc
  total_lt (y ∷ xs) zero x h k =
      let same : y ≡ x = cc in
      let here : f y < g y = subst (λ (z : X). f z < g z) (sym same) k in
      let rest : total f xs ≤ total g xs = total_le xs in
      omega arith
  total_lt (y ∷ xs) (suc i) x h k = let here : f y ≤ g y = low y in let rest : total f xs < total g xs = total_lt xs i x h k in omega arith

not_above : (a b : ℕ) → (a < b → ⊥) → b ≤ a
not_above a b n = grind arith

module _ {W : Type 0} {d : Domain W} (l : IsLawful W d) where
  -- a weight above has no larger height
  height_le : (x y : W) → d.IsMeant x → d.IsMeant y → Leq d x y → d.height y ≤ d.height x
  height_le x y mx my h = not_above (d.height x) (d.height y) (λ lt.
      let apart : x ≡ y → ⊥ = λ e. (let same : d.height x ≡ d.height y = ap d.height e in absurd (omega arith)) in
      let falls : d.height y < d.height x = l.falls x y mx my h apart in
      absurd (omega arith))

  -- a weight that was combined with one that isn't below has a smaller height
  height_lt : (x w : W) → d.IsMeant x → d.IsMeant w → (d.combine w x ≡ x → ⊥) → d.height (d.combine x w) < d.height x
  height_lt x w mx mw n = l.falls x (d.combine x w) mx (l.combine_meant x w mx mw) (leq_left l x w mx mw) (λ e. n (l.combine_comm w x mw mx ∙ sym e))

  module _ (steps : List BaseStep) (old new : Cells W) (before after : List Item) (wm : (e : Entry) (n : ℕ) → d.IsMeant (weight_at d old e n)) (lm : (c p : Entry) → d.IsMeant (link_at d old c p)) (u : Scope) where
    module _ (e : Entry) (n : ℕ) (w : W) (mw : d.IsMeant w) (r : IsRisen d old new before after e n w) (he : Has u.entries e) (hn : Has u.nodes n) where
      weight_low : (x : Entry) (m : ℕ) → d.height (weight_at d new x m) ≤ d.height (weight_at d old x m)
      weight_low x m = height_le _ _ (wm x m) (nm l steps old new before after wm lm e n w mw r x m) (grown l steps old new before after wm lm e n w mw r x m)

      link_low : (c p : Entry) → d.height (link_at d new c p) ≤ d.height (link_at d old c p)
      link_low c p = let same : d.height (link_at d new c p) ≡ d.height (link_at d old c p) = ap d.height (r.raised.links c p) in omega arith

      room_fell : (d.combine w (weight_at d old e n) ≡ weight_at d old e n → ⊥) → room_left d u new < room_left d u old
      room_fell not =
          let here : d.height (weight_at d new e n) < d.height (weight_at d old e n) = subst (λ (z : W). d.height z < d.height (weight_at d old e n)) (sym r.raised.here) (height_lt _ w (wm e n) mw not) in
          let row : total (λ m. d.height (weight_at d new e m)) u.nodes < total (λ m. d.height (weight_at d old e m)) u.nodes = total_lt _ _ (weight_low e) u.nodes hn.0 n hn.1 here in
          let weights : total (λ x. total (λ m. d.height (weight_at d new x m)) u.nodes) u.entries < total (λ x. total (λ m. d.height (weight_at d old x m)) u.nodes) u.entries =
          total_lt (λ x. total (λ m. d.height (weight_at d new x m)) u.nodes) (λ x. total (λ m. d.height (weight_at d old x m)) u.nodes) (λ x. total_le _ _ (weight_low x) u.nodes) u.entries he.0 e he.1 row in
          let links : total (λ c. total (λ p. d.height (link_at d new c p)) u.entries) u.entries ≤ total (λ c. total (λ p. d.height (link_at d old c p)) u.entries) u.entries =
          total_le (λ c. total (λ p. d.height (link_at d new c p)) u.entries) (λ c. total (λ p. d.height (link_at d old c p)) u.entries) (λ c. total_le _ _ (link_low c) u.entries) u.entries in
          omega arith

      pub risen_spent : IsWithin d u old before → IsWithin d u new after × (work_left d u new after ≤ work_left d u old before)
      risen_spent h = by r.paid
        where
          by : IsPaid d old new before after (At e n) (weight_at d old e n) w → IsWithin d u new after × (work_left d u new after ≤ work_left d u old before)
          by (stayed s q) = (
            subst (λ (t : Cells W). IsWithin d u t after) (sym s) (subst (λ (xs : List Item). IsWithin d u old xs) (sym q) h),
            subst (λ (t : Cells W). work_left d u t after ≤ work_left d u old before) (sym s) (subst (λ (xs : List Item). work_left d u old xs ≤ work_left d u old before) (sym q) (omega arith)),
          )
          by (rose not q) = (
            record {
              links = λ c p k. h.links c p (λ z. k (r.raised.links c p ∙ z));
              at = λ x m k. let j = subst (λ (xs : List Item). Has xs (At x m)) q k in elim (slice_get-pushed before (At e n) j.0 (At x m) j.1) [
                | inl i ↦ h.at x m (j.0, i)
                | inr i ↦ let is = i.1 in let same : e ≡ x = cc in subst (λ (y : Entry). Has u.entries y) same he
              ];
              between = λ c p k. let j = subst (λ (xs : List Item). Has xs (Between c p)) q k in elim (slice_get-pushed before (At e n) j.0 (Between c p) j.1) [
                | inl i ↦ h.between c p (j.0, i)
                | inr i ↦ let is = i.1 in cc
              ];
            },
            (let less : room_left d u new < room_left d u old = room_fell not in
                let long : length after ≡ suc (length before) = ap length q ∙ length_pushed before (At e n) in
                omega arith),
          )

    module _ (c p : Entry) (w : W) (mw : d.IsMeant w) (r : IsRisenLink d old new before after c p w) (hc : Has u.entries c) (hp : Has u.entries p) where
      weight_stays : (x : Entry) (m : ℕ) → d.height (weight_at d new x m) ≤ d.height (weight_at d old x m)
      weight_stays x m = let same : d.height (weight_at d new x m) ≡ d.height (weight_at d old x m) = ap d.height (r.raised.weights x m) in omega arith

      link_falls : (x y : Entry) → d.height (link_at d new x y) ≤ d.height (link_at d old x y)
      link_falls x y = height_le _ _ (lm x y) (link_meant_new l steps old new before after wm lm c p w mw r x y) (link_grown l steps old new before after wm lm c p w mw r x y)

      links_fell : (d.combine w (link_at d old c p) ≡ link_at d old c p → ⊥) → room_left d u new < room_left d u old
      links_fell not =
          let here : d.height (link_at d new c p) < d.height (link_at d old c p) = subst (λ (z : W). d.height z < d.height (link_at d old c p)) (sym r.raised.here) (height_lt _ w (lm c p) mw not) in
          let row : total (λ y. d.height (link_at d new c y)) u.entries < total (λ y. d.height (link_at d old c y)) u.entries = total_lt _ _ (link_falls c) u.entries hp.0 p hp.1 here in
          let links : total (λ x. total (λ y. d.height (link_at d new x y)) u.entries) u.entries < total (λ x. total (λ y. d.height (link_at d old x y)) u.entries) u.entries =
          total_lt (λ x. total (λ y. d.height (link_at d new x y)) u.entries) (λ x. total (λ y. d.height (link_at d old x y)) u.entries) (λ x. total_le _ _ (link_falls x) u.entries) u.entries hc.0 c hc.1 row in
          let weights : total (λ x. total (λ m. d.height (weight_at d new x m)) u.nodes) u.entries ≤ total (λ x. total (λ m. d.height (weight_at d old x m)) u.nodes) u.entries =
          total_le (λ x. total (λ m. d.height (weight_at d new x m)) u.nodes) (λ x. total (λ m. d.height (weight_at d old x m)) u.nodes) (λ x. total_le _ _ (weight_stays x) u.nodes) u.entries in
          omega arith

      -- where the link rose or not, its parent is in the scope
      parent_within : (x y : Entry) → link_at d new x y ≢ d.zero → IsWithin d u old before → (link_at d new x y ≡ link_at d old x y) ⊎ (y ≡ p) → Has u.entries y
      parent_within x y k h (inl e) = h.links x y (λ z. k (e ∙ z))
      parent_within x y k h (inr e) = subst (λ (z : Entry). Has u.entries z) (sym e) hp

      pub risen_link_spent : ((x y : Entry) → (link_at d new x y ≡ link_at d old x y) ⊎ (y ≡ p)) → IsWithin d u old before → IsWithin d u new after × (work_left d u new after ≤ work_left d u old before)
      risen_link_spent same_or h = by r.paid
        where
          by : IsPaid d old new before after (Between c p) (link_at d old c p) w → IsWithin d u new after × (work_left d u new after ≤ work_left d u old before)
          by (stayed s q) = (
            subst (λ (t : Cells W). IsWithin d u t after) (sym s) (subst (λ (xs : List Item). IsWithin d u old xs) (sym q) h),
            subst (λ (t : Cells W). work_left d u t after ≤ work_left d u old before) (sym s) (subst (λ (xs : List Item). work_left d u old xs ≤ work_left d u old before) (sym q) (omega arith)),
          )
          by (rose not q) = (
            record {
              links = λ x y k. parent_within x y k h (same_or x y);
              at = λ x m k. let j = subst (λ (xs : List Item). Has xs (At x m)) q k in elim (slice_get-pushed before (Between c p) j.0 (At x m) j.1) [
                | inl i ↦ h.at x m (j.0, i)
                | inr i ↦ let is = i.1 in cc
              ];
              between = λ x y k. let j = subst (λ (xs : List Item). Has xs (Between x y)) q k in elim (slice_get-pushed before (Between c p) j.0 (Between x y) j.1) [
                | inl i ↦ h.between x y (j.0, i)
                | inr i ↦ let is = i.1 in let same : p ≡ y = cc in subst (λ (z : Entry). Has u.entries z) same hp
              ];
            },
            (let less : room_left d u new < room_left d u old = links_fell not in
                let long : length after ≡ suc (length before) = ap length q ∙ length_pushed before (Between c p) in
                omega arith),
          )
