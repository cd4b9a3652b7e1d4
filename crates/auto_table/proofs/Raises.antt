-- One weight is combined into a table.
use Rattle.std.proofs.Common.{◌≡◌, ◌≢◌, ℕ, ◌⊎◌, inl, inr, List, [], refl, sym, ap, subst, ◌∙◌}
use Rattle.auto_table.specs.declared.entry.Entry.{Entry}
use Rattle.lists.specs.Lists.{Has, Adds}
use Rattle.auto_table.specs.Cells.{Cells, weight_at, link_at, IsUsed, by_weight, by_child, by_parent, IsListed, AreMeant, IsBlank, IsRaised, IsRaisedLink}
use Rattle.auto_table.proofs.Found.{one_entry, one_or_other}
use Rattle.lists.proofs.Places.{IsApart-adds, Has-adds_itself, slice_get-adds, slice_get-added}
use Rattle.weight_laws.specs.Law.{Domain, IsLawful}
use Rattle.weight_laws.proofs.Orders.{raised_nonzero}

-- two places are one, or they differ
pub spot_or : (x e : Entry) (m n : ℕ) → ((x ≡ e) × (m ≡ n)) ⊎ (x ≡ e → m ≡ n → ⊥)
spot_or x e m n = elim (one_entry x e) [
  | inr q ↦ inr (λ h g. q.0 h)
  | inl p ↦ elim (one_or_other m n) [ inl k ↦ inl (p.0, k) | inr k ↦ inr (λ h g. k g) ]
]

pub link_or : (x c y p : Entry) → ((x ≡ c) × (y ≡ p)) ⊎ (x ≡ c → y ≡ p → ⊥)
link_or x c y p = elim (one_entry x c) [
  | inr q ↦ inr (λ h g. q.0 h)
  | inl k ↦ elim (one_entry y p) [ inl j ↦ inl (k.0, j.0) | inr j ↦ inr (λ h g. j.0 g) ]
]

module _ {W : Type 0} (d : Domain W) where
  pub listed_blank : (t : Cells W) → IsBlank d t → (es : List Entry) → es ≡ [] → IsListed d t es
  listed_blank t b es e = record {
    used = λ x h. absurd (none x (subst (λ (xs : List Entry). Has xs x) e h));
    all = λ x u. absurd (unused x u);
    apart = λ i j x h k. absurd (none x (subst (λ (xs : List Entry). Has xs x) e (i, h)));
  }
    where
      none : (x : Entry) → Has [] x → ⊥
      none x h = let p = h.1 in cc

      unused : (x : Entry) → IsUsed d t x → ⊥
      unused x (by_weight n h) = h (b.weights x n)
      unused x (by_child p h) = h (b.links x p)
      unused x (by_parent c h) = h (b.links c x)

  -- nothing moves where the weight lay below
  pub raised_none : (t : Cells W) (e : Entry) (n : ℕ) (w : W) → weight_at d t e n ≡ d.combine (weight_at d t e n) w → IsRaised d t t e n w
  raised_none t e n w h = record { here = h; others = λ x m apart. refl; links = λ c p. refl }

  pub raised_link_none : (t : Cells W) (c p : Entry) (w : W) → link_at d t c p ≡ d.combine (link_at d t c p) w → IsRaisedLink d t t c p w
  raised_link_none t c p w h = record { here = h; others = λ x y apart. refl; weights = λ x n. refl }

  module _ (l : IsLawful W d) where
    pub listed_raised : (old new : Cells W) (e : Entry) (n : ℕ) (w : W) (es fs : List Entry) → IsListed d old es → IsRaised d old new e n w
        → d.IsMeant (weight_at d old e n) → d.IsMeant w → (d.combine w (weight_at d old e n) ≡ weight_at d old e n → ⊥) → Adds es e fs → IsListed d new fs
    listed_raised old new e n w es fs s r mo mw not adds = record {
      used = λ x h. elim (slice_get-added es fs e adds h.0 x h.1) [
        | inl p ↦ kept x (s.used x (h.0, p))
        | inr q ↦ subst (λ (y : Entry). IsUsed d new y) (sym q) fresh
      ];
      all = λ x u. elim (only x u) [
        | inl v ↦ let p = s.all x v in (p.0, slice_get-adds es fs e adds p.0 x p.1)
        | inr q ↦ subst (λ (y : Entry). Has fs y) (sym q) (Has-adds_itself es fs e adds)
      ];
      apart = IsApart-adds es fs e s.apart adds;
    }
      where
        nonzero : weight_at d new e n ≢ d.zero
        nonzero h = raised_nonzero l (weight_at d old e n) w mo mw not (sym r.here ∙ h)

        fresh : IsUsed d new e
        fresh = by_weight n nonzero

        weight_kept : (x : Entry) (m : ℕ) → weight_at d old x m ≢ d.zero → ((x ≡ e) × (m ≡ n)) ⊎ (x ≡ e → m ≡ n → ⊥) → IsUsed d new x
        weight_kept x m h (inl q) = subst (λ (y : Entry). IsUsed d new y) (sym q.0) fresh
        weight_kept x m h (inr q) = by_weight m (λ z. h (sym (r.others x m q) ∙ z))

        kept : (x : Entry) → IsUsed d old x → IsUsed d new x
        kept x (by_weight m h) = weight_kept x m h (spot_or x e m n)
        kept x (by_child p h) = by_child p (λ z. h (sym (r.links x p) ∙ z))
        kept x (by_parent c h) = by_parent c (λ z. h (sym (r.links c x) ∙ z))

        weight_only : (x : Entry) (m : ℕ) → weight_at d new x m ≢ d.zero → ((x ≡ e) × (m ≡ n)) ⊎ (x ≡ e → m ≡ n → ⊥) → IsUsed d old x ⊎ (x ≡ e)
        weight_only x m h (inl q) = inr q.0
        weight_only x m h (inr q) = inl (by_weight m (λ z. h (r.others x m q ∙ z)))

        only : (x : Entry) → IsUsed d new x → IsUsed d old x ⊎ (x ≡ e)
        only x (by_weight m h) = weight_only x m h (spot_or x e m n)
        only x (by_child p h) = inl (by_child p (λ z. h (r.links x p ∙ z)))
        only x (by_parent c h) = inl (by_parent c (λ z. h (r.links c x ∙ z)))

    pub listed_raised_link : (old new : Cells W) (c p : Entry) (w : W) (es fs gs : List Entry) → IsListed d old es → IsRaisedLink d old new c p w
        → d.IsMeant (link_at d old c p) → d.IsMeant w → (d.combine w (link_at d old c p) ≡ link_at d old c p → ⊥) → Adds es c fs → Adds fs p gs → IsListed d new gs
    listed_raised_link old new c p w es fs gs s r mo mw not adds more = record {
      used = λ x h. elim (slice_get-added fs gs p more h.0 x h.1) [
        | inl k ↦ elim (slice_get-added es fs c adds h.0 x k) [
          | inl j ↦ kept x (s.used x (h.0, j))
          | inr q ↦ subst (λ (y : Entry). IsUsed d new y) (sym q) (by_child p nonzero)
        ]
        | inr q ↦ subst (λ (y : Entry). IsUsed d new y) (sym q) (by_parent c nonzero)
      ];
      all = λ x u. elim (only x u) [
        | inl v ↦ let k = s.all x v in later x (k.0, slice_get-adds es fs c adds k.0 x k.1)
        | inr q ↦ elim q [
          | inl k ↦ subst (λ (y : Entry). Has gs y) (sym k) (later c (Has-adds_itself es fs c adds))
          | inr k ↦ subst (λ (y : Entry). Has gs y) (sym k) (Has-adds_itself fs gs p more)
        ]
      ];
      apart = IsApart-adds fs gs p (IsApart-adds es fs c s.apart adds) more;
    }
      where
        nonzero : link_at d new c p ≢ d.zero
        nonzero h = raised_nonzero l (link_at d old c p) w mo mw not (sym r.here ∙ h)

        later : (x : Entry) → Has fs x → Has gs x
        later x h = (h.0, slice_get-adds fs gs p more h.0 x h.1)

        same_here : (x y : Entry) → (x ≡ c → y ≡ p → ⊥) → link_at d new x y ≡ link_at d old x y
        same_here x y q = r.others x y q

        child_kept : (x y : Entry) → link_at d old x y ≢ d.zero → ((x ≡ c) × (y ≡ p)) ⊎ (x ≡ c → y ≡ p → ⊥) → link_at d new x y ≢ d.zero
        child_kept x y h (inl q) z = nonzero (ap (λ (u : Entry). link_at d new u p) (sym q.0) ∙ ap (link_at d new x) (sym q.1) ∙ z)
        child_kept x y h (inr q) z = h (sym (same_here x y q) ∙ z)

        kept : (x : Entry) → IsUsed d old x → IsUsed d new x
        kept x (by_weight m h) = by_weight m (λ z. h (sym (r.weights x m) ∙ z))
        kept x (by_child y h) = by_child y (child_kept x y h (link_or x c y p))
        kept x (by_parent y h) = by_parent y (child_kept y x h (link_or y c x p))

        child_only : (x y : Entry) → link_at d new x y ≢ d.zero → ((x ≡ c) × (y ≡ p)) ⊎ (x ≡ c → y ≡ p → ⊥) → IsUsed d old x ⊎ ((x ≡ c) ⊎ (x ≡ p))
        child_only x y h (inl q) = inr (inl q.0)
        child_only x y h (inr q) = inl (by_child y (λ z. h (same_here x y q ∙ z)))

        parent_only : (x y : Entry) → link_at d new y x ≢ d.zero → ((y ≡ c) × (x ≡ p)) ⊎ (y ≡ c → x ≡ p → ⊥) → IsUsed d old x ⊎ ((x ≡ c) ⊎ (x ≡ p))
        parent_only x y h (inl q) = inr (inr q.1)
        parent_only x y h (inr q) = inl (by_parent y (λ z. h (same_here y x q ∙ z)))

        only : (x : Entry) → IsUsed d new x → IsUsed d old x ⊎ ((x ≡ c) ⊎ (x ≡ p))
        only x (by_weight m h) = inl (by_weight m (λ z. h (r.weights x m ∙ z)))
        only x (by_child y h) = child_only x y h (link_or x c y p)
        only x (by_parent y h) = parent_only x y h (link_or y c x p)

    pub meant_blank : (t : Cells W) → IsBlank d t → AreMeant d t
    meant_blank t b = record {
      weights = λ e n. subst (λ (x : W). d.IsMeant x) (sym (b.weights e n)) l.zero_meant;
      links = λ c p. subst (λ (x : W). d.IsMeant x) (sym (b.links c p)) l.zero_meant;
    }

    pub meant_raised : (old new : Cells W) (e : Entry) (n : ℕ) (w : W) → AreMeant d old → d.IsMeant w → IsRaised d old new e n w → AreMeant d new
    meant_raised old new e n w m mw r = record {
      weights = λ x k. by x k (spot_or x e k n);
      links = λ c p. subst (λ (x : W). d.IsMeant x) (sym (r.links c p)) (m.links c p);
    }
      where
        by : (x : Entry) (k : ℕ) → ((x ≡ e) × (k ≡ n)) ⊎ (x ≡ e → k ≡ n → ⊥) → d.IsMeant (weight_at d new x k)
        by x k (inl q) = subst (λ (z : Entry). d.IsMeant (weight_at d new z k)) (sym q.0) (subst (λ (z : ℕ). d.IsMeant (weight_at d new e z)) (sym q.1) (subst (λ (z : W). d.IsMeant z) (sym r.here) (l.combine_meant _ _ (m.weights e n) mw)))
        by x k (inr q) = subst (λ (z : W). d.IsMeant z) (sym (r.others x k q)) (m.weights x k)

    pub meant_raised_link : (old new : Cells W) (c p : Entry) (w : W) → AreMeant d old → d.IsMeant w → IsRaisedLink d old new c p w → AreMeant d new
    meant_raised_link old new c p w m mw r = record {
      weights = λ x k. subst (λ (z : W). d.IsMeant z) (sym (r.weights x k)) (m.weights x k);
      links = λ x y. by x y (link_or x c y p);
    }
      where
        by : (x y : Entry) → ((x ≡ c) × (y ≡ p)) ⊎ (x ≡ c → y ≡ p → ⊥) → d.IsMeant (link_at d new x y)
        by x y (inl q) = subst (λ (z : Entry). d.IsMeant (link_at d new z y)) (sym q.0) (subst (λ (z : Entry). d.IsMeant (link_at d new c z)) (sym q.1) (subst (λ (z : W). d.IsMeant z) (sym r.here) (l.combine_meant _ _ (m.links c p) mw)))
        by x y (inr q) = subst (λ (z : W). d.IsMeant z) (sym (r.others x y q)) (m.links x y)
