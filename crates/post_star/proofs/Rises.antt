-- One rise of a weight keeps what was done.
use Rattle.std.proofs.Common.{◌≡◌, ◌⊎◌, inl, inr, ℕ, List, length, sym, ap, ◌∙◌, subst}
use Rattle.auto_table.specs.declared.rule.Rule.{Rule}
use Rattle.auto_table.specs.declared.rule.Rule.TheVariants.{Flow, Push, Pop}
use Rattle.auto_table.specs.declared.entry.Entry.{Entry}
use Rattle.auto_table.specs.declared.entry.Entry.TheVariants.{Base, Pushed}
use Rattle.lists.specs.Lists.{Has}
use Rattle.auto_table.specs.Cells.{Cells, weight_at, link_at, IsRaised, IsRaisedLink}
use Rattle.lists.proofs.Places.{slice_get-append_left, slice_get-push}
use Rattle.post_star.proofs.Pairs.{link_of, link_or, spot_of, spot_or}
use Rattle.post_star.specs.declared.bases.Start.{Start}
use Rattle.post_star.specs.declared.bases.BaseStep.{BaseStep}
use Rattle.post_star.specs.declared.rise.Item.{Item}
use Rattle.post_star.specs.declared.rise.Item.TheVariants.{At, Between}
use Rattle.post_star.specs.Derivations.{Combines, both}
use Rattle.post_star.specs.Works.{weight_of, EntryRuns, LinkRuns, IsSound, IsDone, Waits, IsPaid, rose, stayed, IsRisen, IsRisenLink, IsKept}
use Rattle.weight_laws.specs.Law.{Domain, IsLawful, Leq}
use Rattle.weight_laws.proofs.Orders.{leq_self, leq_trans, leq_left, leq_right}

-- what waited still waits
pub paid_stays : {W : Type 0} {d : Domain W} {old new : Cells W} {before after : List Item} {item : Item} {here w : W} → IsPaid d old new before after item here w → (i : Item) → Has before i → Has after i
paid_stays {before} {after} {item} (rose n e) i h = subst (λ (xs : List Item). Has xs i) (sym e) (h.0, slice_get-append_left before _ h.0 i h.1)
paid_stays (stayed s e) i h = subst (λ (xs : List Item). Has xs i) (sym e) h

-- the item waits, or the table is as before
pub paid_moved : {W : Type 0} {d : Domain W} {old new : Cells W} {before after : List Item} {item : Item} {here w : W} → IsPaid d old new before after item here w → Has after item ⊎ (new ≡ old)
paid_moved {before} {after} {item} (rose n e) = inl (subst (λ (xs : List Item). Has xs item) (sym e) (length before, slice_get-push before item))
paid_moved (stayed s e) = inr s

module _ {W : Type 0} {d : Domain W} {rules : List (Rule W)} {starts : List (Start W)} {steps : List BaseStep} where
  pub sound_risen : {old new : Cells W} {e : Entry} {n : ℕ} {w : W} → IsSound d rules starts steps old → IsRaised d old new e n w → Combines d (EntryRuns d rules starts steps e n) w → IsSound d rules starts steps new
  sound_risen {old} {new} {e} {n} {w} s r c = record {
    weights = λ x m. by x m (spot_or (spot_of x m) (spot_of e n));
    links = λ x y. subst (λ (z : W). Combines d (LinkRuns d rules starts steps x y) z) (sym (r.links x y)) (s.links x y);
  }
    where
      by : (x : Entry) (m : ℕ) → (spot_of x m ≡ spot_of e n) ⊎ (spot_of x m ≡ spot_of e n → ⊥) → Combines d (EntryRuns d rules starts steps x m) (weight_at d new x m)
      by x m (inl q) = subst (λ (z : Entry × ℕ). Combines d (EntryRuns d rules starts steps z.0 z.1) (weight_at d new z.0 z.1)) (sym q)
          (subst (λ (z : W). Combines d (EntryRuns d rules starts steps e n) z) (sym r.here) (both (s.weights e n) c))
      by x m (inr q) = subst (λ (z : W). Combines d (EntryRuns d rules starts steps x m) z) (sym (r.others x m (λ a b. q (λ i. (a i, b i))))) (s.weights x m)

  pub sound_risen_link : {old new : Cells W} {c p : Entry} {w : W} → IsSound d rules starts steps old → IsRaisedLink d old new c p w → Combines d (LinkRuns d rules starts steps c p) w → IsSound d rules starts steps new
  sound_risen_link {old} {new} {c} {p} {w} s r k = record {
    weights = λ x m. subst (λ (z : W). Combines d (EntryRuns d rules starts steps x m) z) (sym (r.weights x m)) (s.weights x m);
    links = λ x y. by x y (link_or (link_of x y) (link_of c p));
  }
    where
      by : (x y : Entry) → (link_of x y ≡ link_of c p) ⊎ (link_of x y ≡ link_of c p → ⊥) → Combines d (LinkRuns d rules starts steps x y) (link_at d new x y)
      by x y (inl q) = subst (λ (z : Entry × Entry). Combines d (LinkRuns d rules starts steps z.0 z.1) (link_at d new z.0 z.1)) (sym q)
          (subst (λ (z : W). Combines d (LinkRuns d rules starts steps c p) z) (sym r.here) (both (s.links c p) k))
      by x y (inr q) = subst (λ (z : W). Combines d (LinkRuns d rules starts steps x y) z) (sym (r.others x y (λ a b. q (λ i. (a i, b i))))) (s.links x y)

module _ {W : Type 0} {d : Domain W} (l : IsLawful W d) (steps : List BaseStep) (old new : Cells W) (before after : List Item)
    (wm : (e : Entry) (n : ℕ) → d.IsMeant (weight_at d old e n)) (lm : (c p : Entry) → d.IsMeant (link_at d old c p)) where
  module _ (e : Entry) (n : ℕ) (w : W) (mw : d.IsMeant w) (r : IsRisen d old new before after e n w) where
    -- the weight stays, or the place waits
    pub weight_same : (x : Entry) (m : ℕ) → Has after (At x m) ⊎ (weight_at d new x m ≡ weight_at d old x m)
    weight_same x m = by (paid_moved r.paid) (spot_or (spot_of x m) (spot_of e n))
      where
        by : Has after (At e n) ⊎ (new ≡ old) → (spot_of x m ≡ spot_of e n) ⊎ (spot_of x m ≡ spot_of e n → ⊥) → Has after (At x m) ⊎ (weight_at d new x m ≡ weight_at d old x m)
        by (inr q) b = inr (ap (λ (t : Cells W). weight_at d t x m) q)
        by (inl h) (inl q) = inl (subst (λ (z : Entry × ℕ). Has after (At z.0 z.1)) (sym q) h)
        by (inl h) (inr q) = inr (r.raised.others x m (λ a b. q (λ i. (a i, b i))))

    pub reached : Leq d w (weight_at d new e n)
    reached = subst (λ (z : W). Leq d w z) (sym r.raised.here) (leq_right l (weight_at d old e n) w (wm e n) mw)

    pub grown : (x : Entry) (m : ℕ) → Leq d (weight_at d old x m) (weight_at d new x m)
    grown x m = by (spot_or (spot_of x m) (spot_of e n))
      where
        by : (spot_of x m ≡ spot_of e n) ⊎ (spot_of x m ≡ spot_of e n → ⊥) → Leq d (weight_at d old x m) (weight_at d new x m)
        by (inl q) = subst (λ (z : Entry × ℕ). Leq d (weight_at d old z.0 z.1) (weight_at d new z.0 z.1)) (sym q)
            (subst (λ (z : W). Leq d (weight_at d old e n) z) (sym r.raised.here) (leq_left l (weight_at d old e n) w (wm e n) mw))
        by (inr q) = subst (λ (z : W). Leq d (weight_at d old x m) z) (sym (r.raised.others x m (λ a b. q (λ i. (a i, b i))))) (leq_self l _ (wm x m))

    pub nm : (x : Entry) (m : ℕ) → d.IsMeant (weight_at d new x m)
    nm x m = by (spot_or (spot_of x m) (spot_of e n))
      where
        by : (spot_of x m ≡ spot_of e n) ⊎ (spot_of x m ≡ spot_of e n → ⊥) → d.IsMeant (weight_at d new x m)
        by (inl q) = subst (λ (z : Entry × ℕ). d.IsMeant (weight_at d new z.0 z.1)) (sym q) (subst (λ (z : W). d.IsMeant z) (sym r.raised.here) (l.combine_meant _ _ (wm e n) mw))
        by (inr q) = subst (λ (z : W). d.IsMeant z) (sym (r.raised.others x m (λ a b. q (λ i. (a i, b i))))) (wm x m)

    -- a weight below the old one at a place is below the new one
    up : (x : Entry) (m : ℕ) (a : W) → d.IsMeant a → Leq d a (weight_at d old x m) → Leq d a (weight_at d new x m)
    up x m a ma h = leq_trans l a (weight_at d old x m) (weight_at d new x m) ma (wm x m) (nm x m) h (grown x m)

    pub risen_kept : IsKept d steps old new before after
    risen_kept = record { stays = paid_stays r.paid; done = done; grows = grown }
      where
        done : (rule : Rule W) → d.IsMeant (weight_of rule) → (x y : Entry) → IsDone d steps old rule x y → Waits after rule x y ⊎ IsDone d steps new rule x y
        done (Flow from to v) mv x y h = by (weight_same x from)
          where
            by : Has after (At x from) ⊎ (weight_at d new x from ≡ weight_at d old x from) → Waits after (Flow from to v) x y ⊎ IsDone d steps new (Flow from to v) x y
            by (inl k) = inl (inl k)
            by (inr q) = inr (subst (λ (z : W). Leq d (d.extend z v) (weight_at d new x to)) (sym q) (up x to _ (l.extend_meant _ _ (wm x from) mv) h))
        done (Push from to mark v) mv x y h = by (weight_same x from)
          where
            entry : weight_at d new x from ≡ weight_at d old x from → (weight_at d old x from ≡ d.zero) ⊎ Leq d d.one (weight_at d old (Pushed to mark) to)
                → (weight_at d new x from ≡ d.zero) ⊎ Leq d d.one (weight_at d new (Pushed to mark) to)
            entry q (inl z) = inl (q ∙ z)
            entry q (inr o) = inr (up (Pushed to mark) to d.one l.one_meant o)

            by : Has after (At x from) ⊎ (weight_at d new x from ≡ weight_at d old x from) → Waits after (Push from to mark v) x y ⊎ IsDone d steps new (Push from to mark v) x y
            by (inl k) = inl (inl k)
            by (inr q) = inr (
              entry q h.0,
              subst (λ (z : W). Leq d (d.extend z v) (link_at d new (Pushed to mark) x)) (sym q)
                  (subst (λ (z : W). Leq d (d.extend (weight_at d old x from) v) z) (sym (r.raised.links (Pushed to mark) x)) h.1),
            )
        done (Pop from mark to v) mv (Base b) y h = by (weight_same (Base b) from)
          where
            by : Has after (At (Base b) from) ⊎ (weight_at d new (Base b) from ≡ weight_at d old (Base b) from) → Waits after (Pop from mark to v) (Base b) y ⊎ IsDone d steps new (Pop from mark to v) (Base b) y
            by (inl k) = inl (inl k)
            by (inr q) = inr (λ below e s. subst (λ (z : W). Leq d (d.extend z v) (weight_at d new (Base below) to)) (sym q) (up (Base below) to _ (l.extend_meant _ _ (wm (Base b) from) mv) (h below e s)))
        done (Pop from mark to v) mv (Pushed node top) y h = by (weight_same (Pushed node top) from)
          where
            by : Has after (At (Pushed node top) from) ⊎ (weight_at d new (Pushed node top) from ≡ weight_at d old (Pushed node top) from)
                → Waits after (Pop from mark to v) (Pushed node top) y ⊎ IsDone d steps new (Pop from mark to v) (Pushed node top) y
            by (inl k) = inl (inl k)
            by (inr q) = inr (λ e. subst (λ (z : W). Leq d (d.extend (d.extend (link_at d new (Pushed node top) y) z) v) (weight_at d new y to)) (sym q)
                (subst (λ (z : W). Leq d (d.extend (d.extend z (weight_at d old (Pushed node top) from)) v) (weight_at d new y to)) (sym (r.raised.links (Pushed node top) y))
                (up y to _ (l.extend_meant _ _ (l.extend_meant _ _ (lm _ _) (wm _ _)) mv) (h e))))

  module _ (c p : Entry) (w : W) (mw : d.IsMeant w) (r : IsRisenLink d old new before after c p w) where
    -- the link's weight stays, or the link waits
    pub link_same : (x y : Entry) → Has after (Between x y) ⊎ (link_at d new x y ≡ link_at d old x y)
    link_same x y = by (paid_moved r.paid) (link_or (link_of x y) (link_of c p))
      where
        by : Has after (Between c p) ⊎ (new ≡ old) → (link_of x y ≡ link_of c p) ⊎ (link_of x y ≡ link_of c p → ⊥) → Has after (Between x y) ⊎ (link_at d new x y ≡ link_at d old x y)
        by (inr q) b = inr (ap (λ (t : Cells W). link_at d t x y) q)
        by (inl h) (inl q) = inl (subst (λ (z : Entry × Entry). Has after (Between z.0 z.1)) (sym q) h)
        by (inl h) (inr q) = inr (r.raised.others x y (λ a b. q (λ i. (a i, b i))))

    pub link_reached : Leq d w (link_at d new c p)
    link_reached = subst (λ (z : W). Leq d w z) (sym r.raised.here) (leq_right l (link_at d old c p) w (lm c p) mw)

    pub link_grown : (x y : Entry) → Leq d (link_at d old x y) (link_at d new x y)
    link_grown x y = by (link_or (link_of x y) (link_of c p))
      where
        by : (link_of x y ≡ link_of c p) ⊎ (link_of x y ≡ link_of c p → ⊥) → Leq d (link_at d old x y) (link_at d new x y)
        by (inl q) = subst (λ (z : Entry × Entry). Leq d (link_at d old z.0 z.1) (link_at d new z.0 z.1)) (sym q)
            (subst (λ (z : W). Leq d (link_at d old c p) z) (sym r.raised.here) (leq_left l (link_at d old c p) w (lm c p) mw))
        by (inr q) = subst (λ (z : W). Leq d (link_at d old x y) z) (sym (r.raised.others x y (λ a b. q (λ i. (a i, b i))))) (leq_self l _ (lm x y))

    pub link_meant_new : (x y : Entry) → d.IsMeant (link_at d new x y)
    link_meant_new x y = by (link_or (link_of x y) (link_of c p))
      where
        by : (link_of x y ≡ link_of c p) ⊎ (link_of x y ≡ link_of c p → ⊥) → d.IsMeant (link_at d new x y)
        by (inl q) = subst (λ (z : Entry × Entry). d.IsMeant (link_at d new z.0 z.1)) (sym q) (subst (λ (z : W). d.IsMeant z) (sym r.raised.here) (l.combine_meant _ _ (lm c p) mw))
        by (inr q) = subst (λ (z : W). d.IsMeant z) (sym (r.raised.others x y (λ a b. q (λ i. (a i, b i))))) (lm x y)

    same : (x : Entry) (m : ℕ) → weight_at d new x m ≡ weight_at d old x m
    same x m = r.raised.weights x m

    -- both weights stay
    moves : (x y : Entry) (m k : ℕ) (v : W) → Leq d (d.extend (weight_at d old x m) v) (weight_at d old y k) → Leq d (d.extend (weight_at d new x m) v) (weight_at d new y k)
    moves x y m k v h = subst (λ (z : W). Leq d (d.extend z v) (weight_at d new y k)) (sym (same x m)) (subst (λ (z : W). Leq d (d.extend (weight_at d old x m) v) z) (sym (same y k)) h)

    pub risen_link_kept : IsKept d steps old new before after
    risen_link_kept = record { stays = paid_stays r.paid; done = done; grows = λ x m. subst (λ (z : W). Leq d (weight_at d old x m) z) (sym (same x m)) (leq_self l _ (wm x m)) }
      where
        done : (rule : Rule W) → d.IsMeant (weight_of rule) → (x y : Entry) → IsDone d steps old rule x y → Waits after rule x y ⊎ IsDone d steps new rule x y
        done (Flow from to v) mv x y h = inr (moves x x from to v h)
        done (Push from to mark v) mv x y h = inr (
          entry h.0,
          subst (λ (z : W). Leq d (d.extend z v) (link_at d new (Pushed to mark) x)) (sym (same x from))
              (leq_trans l _ (link_at d old (Pushed to mark) x) _ (l.extend_meant _ _ (wm x from) mv) (lm _ _) (link_meant_new _ _) h.1 (link_grown (Pushed to mark) x)),
        )
          where
            entry : (weight_at d old x from ≡ d.zero) ⊎ Leq d d.one (weight_at d old (Pushed to mark) to) → (weight_at d new x from ≡ d.zero) ⊎ Leq d d.one (weight_at d new (Pushed to mark) to)
            entry (inl z) = inl (same x from ∙ z)
            entry (inr o) = inr (subst (λ (z : W). Leq d d.one z) (sym (same (Pushed to mark) to)) o)
        done (Pop from mark to v) mv (Base b) y h = inr (λ below e s. moves (Base b) (Base below) from to v (h below e s))
        done (Pop from mark to v) mv (Pushed node top) y h = by (link_same (Pushed node top) y)
          where
            by : Has after (Between (Pushed node top) y) ⊎ (link_at d new (Pushed node top) y ≡ link_at d old (Pushed node top) y)
                → Waits after (Pop from mark to v) (Pushed node top) y ⊎ IsDone d steps new (Pop from mark to v) (Pushed node top) y
            by (inl k) = inl (inr (tt, k))
            by (inr q) = inr (λ e. subst (λ (z : W). Leq d (d.extend (d.extend z (weight_at d new (Pushed node top) from)) v) (weight_at d new y to)) (sym q)
                (subst (λ (z : W). Leq d (d.extend (d.extend (link_at d old (Pushed node top) y) z) v) (weight_at d new y to)) (sym (same (Pushed node top) from))
                (subst (λ (z : W). Leq d (d.extend (d.extend (link_at d old (Pushed node top) y) (weight_at d old (Pushed node top) from)) v) z) (sym (same y to)) (h e))))

pub waits_stays : {W : Type 0} → (v w : List Item) → ((i : Item) → Has v i → Has w i) → (rule : Rule W) (x y : Entry) → Waits v rule x y → Waits w rule x y
waits_stays v w s rule x y (inl h) = inl (s _ h)
waits_stays v w s rule x y (inr h) = inr (h.0, s _ h.1)

module _ {W : Type 0} {d : Domain W} (l : IsLawful W d) {steps : List BaseStep} where
  pub kept_none : (t : Cells W) (work : List Item) → ((e : Entry) (n : ℕ) → d.IsMeant (weight_at d t e n)) → IsKept d steps t t work work
  kept_none t work wm = record { stays = λ i h. h; done = λ rule m x y h. inr h; grows = λ x m. leq_self l _ (wm x m) }

  pub kept_more : {a b c : Cells W} {u v w : List Item} → ((e : Entry) (n : ℕ) → d.IsMeant (weight_at d a e n)) → ((e : Entry) (n : ℕ) → d.IsMeant (weight_at d b e n)) → ((e : Entry) (n : ℕ) → d.IsMeant (weight_at d c e n))
      → IsKept d steps a b u v → IsKept d steps b c v w → IsKept d steps a c u w
  kept_more {a} {b} {c} {u} {v} {w} ma mb mc f g = record {
    stays = λ i h. g.stays i (f.stays i h);
    done = λ rule m x y h. elim (f.done rule m x y h) [ inl k ↦ inl (waits_stays v w g.stays rule x y k) | inr k ↦ g.done rule m x y k ];
    grows = λ x m. leq_trans l (weight_at d a x m) (weight_at d b x m) (weight_at d c x m) (ma x m) (mb x m) (mc x m) (f.grows x m) (g.grows x m);
  }

  -- what was done or waited still is or does
  pub applied_kept : {a b : Cells W} {u v : List Item} (rule : Rule W) (e e' : Entry) → d.IsMeant (weight_of rule) → IsKept d steps a b u v → Waits u rule e e' ⊎ IsDone d steps a rule e e' → Waits v rule e e' ⊎ IsDone d steps b rule e e'
  applied_kept {a} {b} {u} {v} rule e e' m k (inl h) = inl (waits_stays u v k.stays rule e e' h)
  applied_kept {a} {b} {u} {v} rule e e' m k (inr h) = k.done rule m e e' h
