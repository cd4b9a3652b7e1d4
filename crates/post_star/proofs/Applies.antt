-- A rule is applied at an entry.
use Rattle.std.proofs.Common.{◌≡◌, ◌⊎◌, inl, inr, ℕ, ◌+◌, ◌<◌, ◌≤◌, List, length, slice_get, Some, refl, sym, ap, ◌∙◌, subst, arith, Bool, true, false, true≢false}
use Rattle.auto_table.specs.declared.rule.Rule.{Rule}
use Rattle.auto_table.specs.declared.rule.Rule.TheVariants.{Flow, Push, Pop}
use Rattle.auto_table.specs.declared.entry.Entry.{Entry}
use Rattle.auto_table.specs.declared.row.Linked.{Linked}
use Rattle.post_star.proofs.Pairs.{link_of, link_or}
use Rattle.auto_table.specs.declared.entry.Entry.TheVariants.{Base, Pushed}
use Rattle.lists.specs.Lists.{Has}
use Rattle.auto_table.specs.Cells.{Cells, weight_at, link_at, IsRaisedLink, AreParents}
use Rattle.lists.proofs.Places.{slice_get-below}
use Rattle.post_star.specs.declared.bases.Start.{Start}
use Rattle.post_star.specs.declared.bases.BaseStep.{BaseStep}
use Rattle.post_star.specs.declared.rise.Item.{Item}
use Rattle.post_star.specs.declared.rise.Item.TheVariants.{At}
use Rattle.post_star.specs.Derivations.{step_of, Combines}
use Rattle.post_star.specs.Works.{EntryRuns, LinkRuns, IsTold, IsSound, IsDone, Waits, IsRisen, IsRisenLink, IsApplied, IsProgress, GoesBetween}
use Rattle.post_star.proofs.Combinations.{combines_meant}
use Rattle.post_star.proofs.Joins.{entry_meant, link_meant}
use Rattle.post_star.proofs.Sounds.{weight_meant, link_meant_at, flow_sound, push_entry_sound, push_link_sound, pop_sound, pop_base_sound}
use Rattle.post_star.specs.Measures.{Scope, IsScope, IsWithin, work_left}
use Rattle.post_star.proofs.Spends.{risen_spent, risen_link_spent}
use Rattle.post_star.proofs.Rises.{paid_stays, sound_risen, sound_risen_link, weight_same, reached, risen_kept, link_reached, risen_link_kept, kept_none, kept_more}
use Rattle.weight_laws.specs.Law.{Domain, IsLawful, Leq}
use Rattle.weight_laws.proofs.Orders.{leq_trans, zero_leq}

at_most : (a b c : ℕ) → a ≤ b → b ≤ c → a ≤ c
at_most a b c h k = omega arith

pub below_or_last : (i t : ℕ) → i < t + 1 → (i < t) ⊎ (i ≡ t)
below_or_last i t h = grind arith

-- a rise of a link moves no other
link_moves : {W : Type 0} {d : Domain W} {old new : Cells W} (c p : Entry) (w : W) → IsRaisedLink d old new c p w → (x y : Entry) → (link_at d new x y ≡ link_at d old x y) ⊎ (y ≡ p)
link_moves {W} {d} {old} {new} c p w r x y = by (link_or (link_of x y) (link_of c p))
  where
    by : (link_of x y ≡ link_of c p) ⊎ (link_of x y ≡ link_of c p → ⊥) → (link_at d new x y ≡ link_at d old x y) ⊎ (y ≡ p)
    by (inl q) = inr (ap (λ (k : Entry × Entry). k.1) q)
    by (inr n) = inl (r.others x y (λ a b. n (λ i. (a i, b i))))

-- ---- a pop at a base, up to a step
pub record IsBaseGone {W : Type 0} (d : Domain W) (rules : List (Rule W)) (starts : List (Start W)) (steps : List BaseStep) (group : List BaseStep) (start now : Cells W) (u w : List Item) (base from mark to : ℕ) (r : W) (t : ℕ) : Type 0 where
  pub progress : IsProgress d rules starts steps start now u w (Base base)
  pub left : Has w (At (Base base) from) ⊎ (weight_at d now (Base base) from ≡ weight_at d start (Base base) from)
  pub above : (i below : ℕ) → i < t → slice_get group i ≡ Some (step_of base mark below) → Leq d r (weight_at d now (Base below) to)

-- ---- a pop at a pushed entry, up to a parent
pub record IsPushedGone {W : Type 0} (d : Domain W) (rules : List (Rule W)) (starts : List (Start W)) (steps : List BaseStep) (start now : Cells W) (u w : List Item) (parents : List (Linked W)) (node from mark to : ℕ) (v : W) (t : ℕ) : Type 0 where
  pub progress : IsProgress d rules starts steps start now u w (Pushed node mark)
  pub left : Has w (At (Pushed node mark) from) ⊎ (weight_at d now (Pushed node mark) from ≡ weight_at d start (Pushed node mark) from)
  pub links : (c p : Entry) → link_at d now c p ≡ link_at d start c p
  pub above : (i : ℕ) (x : Linked W) → i < t → slice_get parents i ≡ Some x
      → Leq d (d.extend (d.extend x.weight (weight_at d start (Pushed node mark) from)) v) (weight_at d now x.parent to)

module _ {W : Type 0} {d : Domain W} {rules : List (Rule W)} {starts : List (Start W)} (l : IsLawful W d) (steps : List BaseStep) (told : IsTold d rules starts) where
  pub progress_none : {e : Entry} (t : Cells W) (work : List Item) → IsSound d rules starts steps t → IsProgress d rules starts steps t t work work e
  progress_none t work s = record { sound = s; kept = kept_none l t work (weight_meant l steps told s); spent = λ u c h w. (w, omega arith) }

  pub progress_more : {a b c : Cells W} {u v w : List Item} {e : Entry} → IsSound d rules starts steps a → IsProgress d rules starts steps a b u v e → IsProgress d rules starts steps b c v w e → IsProgress d rules starts steps a c u w e
  progress_more {a} {b} {c} {u} {v} {w} s p q = record {
    sound = q.sound;
    kept = kept_more l (weight_meant l steps told s) (weight_meant l steps told p.sound) (weight_meant l steps told q.sound) p.kept q.kept;
    spent = λ o i h k.
        let first = p.spent o i h k in
        let next = q.spent o i h first.0 in
        (next.0, at_most (work_left d o c w) (work_left d o b v) (work_left d o a u) next.1 first.1);
  }

  module _ {old : Cells W} (s : IsSound d rules starts steps old) where
    flow_runs : (e : Entry) (from to : ℕ) (v w : W) → Has rules (Flow from to v) → w ≡ d.extend (weight_at d old e from) v → Combines d (EntryRuns d rules starts steps e to) w
    flow_runs e from to v w h q = subst (λ (z : W). Combines d (EntryRuns d rules starts steps e to) z) (sym q) (flow_sound l steps told s e from to v h)

    link_runs : (p : Entry) (node from mark to : ℕ) (v w : W) → Has rules (Pop from mark to v) → w ≡ d.extend (d.extend (link_at d old (Pushed node mark) p) (weight_at d old (Pushed node mark) from)) v
        → Combines d (EntryRuns d rules starts steps p to) w
    link_runs p node from mark to v w h q = subst (λ (z : W). Combines d (EntryRuns d rules starts steps p to) z) (sym q) (pop_sound l steps told s p node from to mark v h)

  module _ {old new : Cells W} {before after : List Item} (s : IsSound d rules starts steps old) where
    -- a weight that stands for derivations rose
    pub progress_risen : {f : Entry} (e : Entry) (n : ℕ) (w : W) → ((u : Scope) → IsScope rules steps u → Has u.entries f → IsWithin d u old before → Has u.entries e × Has u.nodes n)
        → Combines d (EntryRuns d rules starts steps e n) w → IsRisen d old new before after e n w → IsProgress d rules starts steps old new before after f
    progress_risen e n w inside c r = record {
      sound = sound_risen s r.raised c;
      kept = risen_kept l steps old new before after (weight_meant l steps told s) (link_meant_at l steps told s) e n w (combines_meant l (entry_meant l steps told e n) c) r;
      spent = λ u i h k. let there = inside u i h k in
          risen_spent l steps old new before after (weight_meant l steps told s) (link_meant_at l steps told s) u e n w (combines_meant l (entry_meant l steps told e n) c) r there.0 there.1 k;
    }

    pub progress_risen_link : {f : Entry} (e p : Entry) (w : W) → ((u : Scope) → IsScope rules steps u → Has u.entries f → Has u.entries e × Has u.entries p)
        → Combines d (LinkRuns d rules starts steps e p) w → IsRisenLink d old new before after e p w → IsProgress d rules starts steps old new before after f
    progress_risen_link e p w inside c r = record {
      sound = sound_risen_link s r.raised c;
      kept = risen_link_kept l steps old new before after (weight_meant l steps told s) (link_meant_at l steps told s) e p w (combines_meant l (link_meant l steps told e p) c) r;
      spent = λ u i h k. let there = inside u i h in
          risen_link_spent l steps old new before after (weight_meant l steps told s) (link_meant_at l steps told s) u e p w (combines_meant l (link_meant l steps told e p) c) r there.0 there.1 (link_moves e p w r.raised) k;
    }

    same_or_waits : (e : Entry) (n : ℕ) (w : W) → Combines d (EntryRuns d rules starts steps e n) w → IsRisen d old new before after e n w → (x : Entry) (m : ℕ) → Has after (At x m) ⊎ (weight_at d new x m ≡ weight_at d old x m)
    same_or_waits e n w c r x m = weight_same l steps old new before after (weight_meant l steps told s) (link_meant_at l steps told s) e n w (combines_meant l (entry_meant l steps told e n) c) r x m

    pub risen_reached : (e : Entry) (n : ℕ) (w : W) → Combines d (EntryRuns d rules starts steps e n) w → IsRisen d old new before after e n w → Leq d w (weight_at d new e n)
    risen_reached e n w c r = reached l steps old new before after (weight_meant l steps told s) (link_meant_at l steps told s) e n w (combines_meant l (entry_meant l steps told e n) c) r

    -- ---- a flow
    pub flow_progress : (e : Entry) (from to : ℕ) (v w : W) → Has rules (Flow from to v) → w ≡ d.extend (weight_at d old e from) v → IsRisen d old new before after e to w → IsProgress d rules starts steps old new before after e
    flow_progress e from to v w h q r = progress_risen e to w (λ u i f k. (f, i.flows from to v h)) (flow_runs s e from to v w h q) r

    pub flow_applied : (e : Entry) (from to : ℕ) (v w : W) → Has rules (Flow from to v) → w ≡ d.extend (weight_at d old e from) v → IsRisen d old new before after e to w → IsApplied d steps new after (Flow from to v) e
    flow_applied e from to v w h q r e' = by (same_or_waits e to w (flow_runs s e from to v w h q) r e from)
      where
        by : Has after (At e from) ⊎ (weight_at d new e from ≡ weight_at d old e from) → Waits after (Flow from to v) e e' ⊎ IsDone d steps new (Flow from to v) e e'
        by (inl k) = inl (inl k)
        by (inr p) = inr (subst (λ (z : W). Leq d z (weight_at d new e to)) (q ∙ ap (λ (z : W). d.extend z v) (sym p)) (risen_reached e to w (flow_runs s e from to v w h q) r))

    -- ---- a pop at a link
    pub link_progress : (p : Entry) (node from mark to : ℕ) (v w : W) → Has rules (Pop from mark to v) → w ≡ d.extend (d.extend (link_at d old (Pushed node mark) p) (weight_at d old (Pushed node mark) from)) v
        → IsRisen d old new before after p to w → IsProgress d rules starts steps old new before after p
    link_progress p node from mark to v w h q r = progress_risen p to w (λ u i f k. (f, i.pops from mark to v h)) (link_runs s p node from mark to v w h q) r

    pub link_applied : (p : Entry) (node from mark to : ℕ) (v w : W) → Has rules (Pop from mark to v) → w ≡ d.extend (d.extend (link_at d old (Pushed node mark) p) (weight_at d old (Pushed node mark) from)) v
        → IsRisen d old new before after p to w → Waits after (Pop from mark to v) (Pushed node mark) p ⊎ IsDone d steps new (Pop from mark to v) (Pushed node mark) p
    link_applied p node from mark to v w h q r = by (same_or_waits p to w (link_runs s p node from mark to v w h q) r (Pushed node mark) from)
      where
        by : Has after (At (Pushed node mark) from) ⊎ (weight_at d new (Pushed node mark) from ≡ weight_at d old (Pushed node mark) from)
            → Waits after (Pop from mark to v) (Pushed node mark) p ⊎ IsDone d steps new (Pop from mark to v) (Pushed node mark) p
        by (inl k) = inl (inl k)
        by (inr e) = inr (λ _. subst (λ (z : W). Leq d z (weight_at d new p to))
            (q ∙ ap (λ (z : W). d.extend (d.extend z (weight_at d old (Pushed node mark) from)) v) (sym (r.raised.links (Pushed node mark) p))
            ∙ ap (λ (z : W). d.extend (d.extend (link_at d new (Pushed node mark) p) z) v) (sym e))
            (risen_reached p to w (link_runs s p node from mark to v w h q) r))

  -- ---- a push
  module _ {old mid new : Cells W} {u v w : List Item} (s : IsSound d rules starts steps old) (e : Entry) (from to mark : ℕ) (a b c : W) (h : Has rules (Push from to mark a))
      (q : b ≡ d.extend (weight_at d old e from) a) (o : c ≡ d.one) (r : IsRisen d old mid u v (Pushed to mark) to c) (k : IsRisenLink d mid new v w (Pushed to mark) e b) where
    begins : Combines d (EntryRuns d rules starts steps (Pushed to mark) to) c
    begins = subst (λ (z : W). Combines d (EntryRuns d rules starts steps (Pushed to mark) to) z) (sym o) (push_entry_sound l steps told s to mark)

    first : IsProgress d rules starts steps old mid u v e
    first = progress_risen s (Pushed to mark) to c (λ o i f k. i.pushes from to mark a h) begins r

    leads : Combines d (LinkRuns d rules starts steps (Pushed to mark) e) b
    leads = subst (λ (z : W). Combines d (LinkRuns d rules starts steps (Pushed to mark) e) z) (sym q) (push_link_sound l steps told s e from to mark a h)

    pub push_progress : IsProgress d rules starts steps old new u w e
    push_progress = progress_more s first (progress_risen_link first.sound (Pushed to mark) e b (λ o i f. ((i.pushes from to mark a h).0, f)) leads k)

    pub push_applied : IsApplied d steps new w (Push from to mark a) e
    push_applied e' = by (same_or_waits s (Pushed to mark) to c begins r e from)
      where
        by : Has v (At e from) ⊎ (weight_at d mid e from ≡ weight_at d old e from) → Waits w (Push from to mark a) e e' ⊎ IsDone d steps new (Push from to mark a) e e'
        by (inl p) = inl (inl (paid_stays k.paid _ p))
        by (inr p) = inr (
          inr (subst (λ (z : W). Leq d d.one z) (sym (k.raised.weights (Pushed to mark) to)) (subst (λ (z : W). Leq d z (weight_at d mid (Pushed to mark) to)) o (risen_reached s (Pushed to mark) to c begins r))),
          subst (λ (z : W). Leq d z (link_at d new (Pushed to mark) e)) (q ∙ ap (λ (z : W). d.extend z a) (sym (k.raised.weights e from ∙ p)))
              (link_reached l steps mid new v w (weight_meant l steps told first.sound) (link_meant_at l steps told first.sound) (Pushed to mark) e b (combines_meant l (link_meant l steps told (Pushed to mark) e) leads) k),
        )

  module _ {start : Cells W} (s : IsSound d rules starts steps start) where
    module _ (base from mark to : ℕ) (v r : W) (h : Has rules (Pop from mark to v)) (q : r ≡ d.extend (weight_at d start (Base base) from) v)
        (group : List BaseStep) (listed : (step : BaseStep) → Has group step → Has steps step) (all_there : (below : ℕ) → Has steps (step_of base mark below) → Has group (step_of base mark below)) where
      base_runs : (below : ℕ) → Has steps (step_of base mark below) → Combines d (EntryRuns d rules starts steps (Base below) to) r
      base_runs below p = subst (λ (z : W). Combines d (EntryRuns d rules starts steps (Base below) to) z) (sym q) (pop_base_sound l steps told s base below from to mark v h p)

      r_meant : d.IsMeant r
      r_meant = subst (λ (z : W). d.IsMeant z) (sym q) (l.extend_meant _ _ (weight_meant l steps told s (Base base) from) (told.rule _ h))

      pub base_begins : (u : List Item) → IsBaseGone d rules starts steps group start start u u base from mark to r 0
      base_begins u = record { progress = progress_none start u s; left = inr refl; above = λ i below k p. absurd (omega arith) }

      pub base_skips : {now : Cells W} {u w : List Item} (t : ℕ) (step : BaseStep) → slice_get group t ≡ Some step → ((step.base ≡ base) × (step.mark ≡ mark) → ⊥)
          → IsBaseGone d rules starts steps group start now u w base from mark to r t → IsBaseGone d rules starts steps group start now u w base from mark to r (t + 1)
      base_skips t step at not g = record {
        progress = g.progress;
        left = g.left;
        above = λ i below k p. elim (below_or_last i t k) [
          | inl lt ↦ g.above i below lt p
          | inr e ↦ let same : step ≡ step_of base mark below = cc (at, p, ap (slice_get group) e) in absurd (not (ap (λ (z : BaseStep). z.base) same, ap (λ (z : BaseStep). z.mark) same))
        ];
      }

      pub base_goes : {now new : Cells W} {u w x : List Item} (t : ℕ) (step : BaseStep) → slice_get group t ≡ Some step → (step.base ≡ base) × (step.mark ≡ mark)
          → IsBaseGone d rules starts steps group start now u w base from mark to r t → IsRisen d now new w x (Base step.below) to r → IsBaseGone d rules starts steps group start new u x base from mark to r (t + 1)
      base_goes {now} {new} {u} {w} {x} t step at is g k = record {
        progress = progress_more s g.progress more;
        left = left g.left (same_or_waits g.progress.sound (Base step.below) to r runs k (Base base) from);
        above = λ i below lt p. elim (below_or_last i t lt) [
          | inl b ↦ leq_trans l r (weight_at d now (Base below) to) (weight_at d new (Base below) to) r_meant (weight_meant l steps told g.progress.sound _ _) (weight_meant l steps told more.sound _ _)
              (g.above i below b p) (more.kept.grows (Base below) to)
          | inr e ↦ let same : step ≡ step_of base mark below = cc (at, p, ap (slice_get group) e) in
              subst (λ (z : ℕ). Leq d r (weight_at d new (Base z) to)) (ap (λ (z : BaseStep). z.below) same) (risen_reached g.progress.sound (Base step.below) to r runs k)
        ];
      }
        where
          runs : Combines d (EntryRuns d rules starts steps (Base step.below) to) r
          runs = base_runs step.below (listed _ (t, at ∙ ap Some (λ i. record { base = is.0 i; mark = is.1 i; below = step.below })))

          more : IsProgress d rules starts steps now new w x (Base base)
          more = progress_risen g.progress.sound (Base step.below) to r (λ o i f q. (i.below step (listed step (t, at)), i.pops from mark to v h)) runs k

          left : Has w (At (Base base) from) ⊎ (weight_at d now (Base base) from ≡ weight_at d start (Base base) from) → Has x (At (Base base) from) ⊎ (weight_at d new (Base base) from ≡ weight_at d now (Base base) from)
              → Has x (At (Base base) from) ⊎ (weight_at d new (Base base) from ≡ weight_at d start (Base base) from)
          left (inl a) b = inl (paid_stays k.paid _ a)
          left (inr a) (inl b) = inl b
          left (inr a) (inr b) = inr (b ∙ a)

      pub base_applied : {now : Cells W} {u w : List Item} (t : ℕ) → length group ≤ t → IsBaseGone d rules starts steps group start now u w base from mark to r t → IsApplied d steps now w (Pop from mark to v) (Base base)
      base_applied {now} {u} {w} t all g e' = by g.left
        where
          by : Has w (At (Base base) from) ⊎ (weight_at d now (Base base) from ≡ weight_at d start (Base base) from) → Waits w (Pop from mark to v) (Base base) e' ⊎ IsDone d steps now (Pop from mark to v) (Base base) e'
          by (inl k) = inl (inl k)
          by (inr k) = inr (λ below e p. let o = all_there below p in
              subst (λ (z : W). Leq d z (weight_at d now (Base below) to)) (q ∙ ap (λ (z : W). d.extend z v) (sym k)) (g.above o.0 below (omega (arith, slice_get-below group o.0 _ o.1)) o.1))

    module _ (node from mark to : ℕ) (v : W) (h : Has rules (Pop from mark to v)) (parents : List (Linked W)) (listed : AreParents d start (Pushed node mark) parents) where
      abbrev over : W → W
      over a = d.extend (d.extend a (weight_at d start (Pushed node mark) from)) v

      over_meant : (p : Entry) → d.IsMeant (over (link_at d start (Pushed node mark) p))
      over_meant p = l.extend_meant _ _ (l.extend_meant _ _ (link_meant_at l steps told s _ _) (weight_meant l steps told s _ _)) (told.rule _ h)

      pub pushed_begins : (u : List Item) → IsPushedGone d rules starts steps start start u u parents node from mark to v 0
      pushed_begins u = record { progress = progress_none start u s; left = inr refl; links = λ c p. refl; above = λ i p k q. absurd (omega arith) }

      pub pushed_goes : {now new : Cells W} {u w x : List Item} (t : ℕ) (p : Linked W) (f r : W) → slice_get parents t ≡ Some p → f ≡ weight_at d start (Pushed node mark) from
          → r ≡ d.extend (d.extend p.weight f) v
          → IsPushedGone d rules starts steps start now u w parents node from mark to v t → IsRisen d now new w x p.parent to r → IsPushedGone d rules starts steps start new u x parents node from mark to v (t + 1)
      pushed_goes {now} {new} {u} {w} {x} t p f r at ef er g k = record {
        progress = progress_more s g.progress more;
        left = left g.left (same_or_waits g.progress.sound p.parent to r runs k (Pushed node mark) from);
        links = λ c e. k.raised.links c e ∙ g.links c e;
        above = λ i e lt q. elim (below_or_last i t lt) [
          | inl b ↦ leq_trans l (over e.weight) (weight_at d now e.parent to) (weight_at d new e.parent to)
              (subst (λ (a : W). d.IsMeant (over a)) (sym (listed.weight e (i, q))) (over_meant e.parent)) (weight_meant l steps told g.progress.sound _ _) (weight_meant l steps told more.sound _ _)
              (g.above i e b q) (more.kept.grows e.parent to)
          | inr z ↦ let same : p ≡ e = cc (at, q, ap (slice_get parents) z) in
              subst (λ (y : Linked W). Leq d (over y.weight) (weight_at d new y.parent to)) same (subst (λ (a : W). Leq d a (weight_at d new p.parent to)) is (risen_reached g.progress.sound p.parent to r runs k))
        ];
      }
        where
          is : r ≡ over p.weight
          is = er ∙ ap (λ (a : W). d.extend (d.extend p.weight a) v) ef

          runs : Combines d (EntryRuns d rules starts steps p.parent to) r
          runs = link_runs s p.parent node from mark to v r h (is ∙ ap over (listed.weight p (t, at)))

          -- the parent is in the scope, since its link is there
          inside : (o : Scope) → IsWithin d o now w → Has o.entries p.parent
          inside o i = i.links (Pushed node mark) p.parent (λ z. listed.some p (t, at) (listed.weight p (t, at) ∙ sym (g.links (Pushed node mark) p.parent) ∙ z))

          more : IsProgress d rules starts steps now new w x (Pushed node mark)
          more = progress_risen g.progress.sound p.parent to r (λ o i f q. (inside o q, i.pops from mark to v h)) runs k

          left : Has w (At (Pushed node mark) from) ⊎ (weight_at d now (Pushed node mark) from ≡ weight_at d start (Pushed node mark) from)
              → Has x (At (Pushed node mark) from) ⊎ (weight_at d new (Pushed node mark) from ≡ weight_at d now (Pushed node mark) from)
              → Has x (At (Pushed node mark) from) ⊎ (weight_at d new (Pushed node mark) from ≡ weight_at d start (Pushed node mark) from)
          left (inl a) b = inl (paid_stays k.paid _ a)
          left (inr a) (inl b) = inl b
          left (inr a) (inr b) = inr (b ∙ a)

      pub pushed_applied : {now : Cells W} {u w : List Item} (t : ℕ) → length parents ≤ t → ((a b : W) → d.IsMeant a → d.IsMeant b → (a ≡ b) ⊎ (a ≡ b → ⊥))
          → IsPushedGone d rules starts steps start now u w parents node from mark to v t → IsApplied d steps now w (Pop from mark to v) (Pushed node mark)
      pushed_applied {now} {u} {w} t all decide g e = by g.left
        where
          reaches : (link_at d start (Pushed node mark) e ≡ d.zero) ⊎ (link_at d start (Pushed node mark) e ≡ d.zero → ⊥) → Leq d (over (link_at d start (Pushed node mark) e)) (weight_at d now e to)
          reaches (inl z) = subst (λ (a : W). Leq d a (weight_at d now e to))
              (sym (ap over z ∙ ap (λ (a : W). d.extend a v) (l.zero_extend _ (weight_meant l steps told s _ _)) ∙ l.zero_extend v (told.rule _ h)))
              (zero_leq l _ (weight_meant l steps told g.progress.sound e to))
          reaches (inr n) = let p = listed.all e n in g.above p.0 _ (omega (arith, slice_get-below parents p.0 _ p.1)) p.1

          by : Has w (At (Pushed node mark) from) ⊎ (weight_at d now (Pushed node mark) from ≡ weight_at d start (Pushed node mark) from)
              → Waits w (Pop from mark to v) (Pushed node mark) e ⊎ IsDone d steps now (Pop from mark to v) (Pushed node mark) e
          by (inl k) = inl (inl k)
          by (inr k) = inr (λ _. subst (λ (a : W). Leq d a (weight_at d now e to))
              (ap over (sym (g.links (Pushed node mark) e)) ∙ ap (λ (a : W). d.extend (d.extend (link_at d now (Pushed node mark) e) a) v) (sym k))
              (reaches (decide (link_at d start (Pushed node mark) e) d.zero (link_meant_at l steps told s _ _) l.zero_meant)))

-- the product of three, from the calls that made it
pub product_of : {W : Type 0} (f : W → W → W) {a a' b b' c s r : W} → r ≡ f s c → s ≡ f a b → a ≡ a' → b ≡ b' → r ≡ f (f a' b') c
product_of f {a} {a'} {b} {b'} {c} p q e g = p ∙ ap (λ x. f x c) (q ∙ ap (λ x. f x b) e ∙ ap (f a') g)

-- a rule that is no pop doesn't go over links
pub not_between : {W : Type 0} (rule : Rule W) (e : Entry) → ((from mark to : ℕ) (v : W) → rule ≡ Pop from mark to v → ⊥) → GoesBetween rule e → ⊥
not_between (Flow from to v) e n h = h
not_between (Push from to mark v) e n h = h
not_between (Pop from mark to v) e n h = n from mark to v refl

pub not_between_base : {W : Type 0} (rule : Rule W) (e : Entry) → ((node top : ℕ) → e ≡ Pushed node top → ⊥) → GoesBetween rule e → ⊥
not_between_base (Flow from to v) e n h = h
not_between_base (Push from to mark v) e n h = h
not_between_base (Pop from mark to v) (Base b) n h = h
not_between_base (Pop from mark to v) (Pushed node top) n h = n node top refl

module _ {W : Type 0} {d : Domain W} {rules : List (Rule W)} {starts : List (Start W)} (l : IsLawful W d) (steps : List BaseStep) (told : IsTold d rules starts)
    {old new : Cells W} {before after : List Item} (s : IsSound d rules starts steps old) (rule : Rule W) (child parent : Entry) (node from mark top to : ℕ) (v w : W)
    (is : rule ≡ Pop from mark to v) (at : child ≡ Pushed node top) (same : top ≡ mark) (h : Has rules rule)
    (q : w ≡ d.extend (d.extend (link_at d old (Pushed node top) parent) (weight_at d old (Pushed node top) from)) v) (r : IsRisen d old new before after parent to w) where
  whole : child ≡ Pushed node mark
  whole = at ∙ ap (Pushed node) same

  has_pop : Has rules (Pop from mark to v)
  has_pop = subst (λ (x : Rule W). Has rules x) is h

  product : w ≡ d.extend (d.extend (link_at d old (Pushed node mark) parent) (weight_at d old (Pushed node mark) from)) v
  product = q ∙ ap (λ (x : ℕ). d.extend (d.extend (link_at d old (Pushed node x) parent) (weight_at d old (Pushed node x) from)) v) same

  pub between_progress : IsProgress d rules starts steps old new before after parent
  between_progress = link_progress l steps told s parent node from mark to v w has_pop product r

  pub between_applied : Waits after rule child parent ⊎ IsDone d steps new rule child parent
  between_applied = subst (λ (x : Rule W). Waits after x child parent ⊎ IsDone d steps new x child parent) (sym is)
      (subst (λ (x : Entry). Waits after (Pop from mark to v) x parent ⊎ IsDone d steps new (Pop from mark to v) x parent) (sym whole) (link_applied l steps told s parent node from mark to v w has_pop product r))

-- equality of meant weights is decided by a test
pub decide_by : {W : Type 0} (d : Domain W) (eq : W → W → Bool) → ((a b : W) → d.IsMeant a → d.IsMeant b → eq a b ≡ true → a ≡ b) → ((a : W) → eq a a ≡ true)
    → (a b : W) → d.IsMeant a → d.IsMeant b → (a ≡ b) ⊎ (a ≡ b → ⊥)
decide_by {W} d eq same self a b ma mb = by (eq a b) refl
  where
    by : (r : Bool) → eq a b ≡ r → (a ≡ b) ⊎ (a ≡ b → ⊥)
    by true e = inl (same a b ma mb e)
    by false e = inr (λ h. true≢false (sym (self b) ∙ ap (λ (x : W). eq x b) (sym h) ∙ e))
