-- The sums of the readings of a node with any word.
use Rattle.std.proofs.Common.{◌≡◌, ◌⊎◌, inl, inr, ◌∙◌, ℕ, ◌+◌, ◌<◌, ◌≤◌, List, [], ◌∷◌, ◌++◌, length, slice_get, Some, Bool, true, false, refl, sym, ap, subst, arith}
use Rattle.auto_table.specs.declared.entry.Entry.{Entry}
use Rattle.auto_table.specs.declared.entry.Entry.TheVariants.{Pushed}
use Rattle.auto_table.specs.declared.row.Linked.{Linked}
use Rattle.auto_table.specs.contracts.entry.EntryPartialEq.TheImpl as entry
use Rattle.lists.specs.Lists.{Has}
use Rattle.auto_table.specs.Cells.{Cells, weight_at, link_at, IsUsed, by_weight, by_child, by_parent, AreMeant, AreParents, IsBlank}
use Rattle.lists.proofs.Places.{slice_get-below, slice_get-pushed}
use Rattle.lists.proofs.Joined.{Has-left, Has-right}
use Rattle.auto_table.proofs.Raises.{meant_blank, meant_raised}
use Rattle.auto_table.proofs.Same.{same_entry, self_entry}
use Rattle.auto_table.proofs.Weighed.{link_cell, weight_cell}
use Rattle.post_star.specs.declared.rise.Item.{Item}
use Rattle.post_star.specs.declared.rise.Item.TheVariants.{At, Between}
use Rattle.post_star.specs.Derivations.{Combines, none, one, both}
use Rattle.post_star.specs.Measures.{IsWithin, work_left}
use Rattle.post_star.specs.Sweeps.{AreEntriesAt, Climbs, from_node, to_parent, used_scope, IsSwept, WentOn, IsSweeping, AreBegun}
use Rattle.post_star.specs.Works.{IsPaid, rose, stayed, IsRisen}
use Rattle.post_star.proofs.Applies.{below_or_last}
use Rattle.post_star.proofs.Combinations.{combines_meant, combines_left}
use Rattle.post_star.proofs.Rises.{paid_stays, weight_same, reached, grown}
use Rattle.post_star.proofs.Scopes.{has_parent, within_popped, within_first, last_first, first_last}
use Rattle.post_star.proofs.Spends.{risen_spent}
use Rattle.weight_laws.specs.Law.{Domain, IsLawful, Leq}
use Rattle.weight_laws.proofs.Orders.{leq_trans, zero_leq}

one_entry : (x y : Entry) → (x ≡ y) ⊎ (x ≡ y → ⊥)
one_entry x y = by (entry.eq-value.it x y) refl
  where
    by : (b : Bool) → entry.eq-value.it x y ≡ b → (x ≡ y) ⊎ (x ≡ y → ⊥)
    by true e = inl (same_entry x y e)
    by false e = inr (λ h. let t : entry.eq-value.it x y ≡ true = subst (λ (z : Entry). entry.eq-value.it x z ≡ true) h (self_entry x) in cc)

up_to : (a b c : ℕ) → a ≤ b → b ≤ c → a ≤ c
up_to a b c h k = omega arith

-- the weights of the node are taken in, up to an entry
pub record IsBegunTo {W : Type 0} (d : Domain W) (t : Cells W) (node : ℕ) (entries : List Entry) (sums : Cells W) (items : List Item) (k : ℕ) : Type 0 where
  pub sweeping : IsSweeping d t node sums items
  pub begun : (i : ℕ) (e : Entry) → i < k → slice_get entries i ≡ Some e → Leq d (weight_at d t e node) (weight_at d sums e node)

-- the sum of one entry goes on to its parents, up to one
pub record IsGoneUp {W : Type 0} (d : Domain W) (t : Cells W) (node : ℕ) (entry : Entry) (row : List (Linked W)) (so_far : W) (start now : Cells W) (u w : List Item) (k : ℕ) : Type 0 where
  pub swept : IsSwept d t node now w
  pub others : (n mark : ℕ) (p : Entry) → (Pushed n mark ≡ entry → ⊥) → WentOn d t node now w n mark p
  pub begun : AreBegun d t node now
  pub left : Has w (At entry node) ⊎ (weight_at d now entry node ≡ so_far)
  pub above : (i : ℕ) (x : Linked W) → i < k → slice_get row i ≡ Some x → Leq d (d.extend x.weight so_far) (weight_at d now x.parent node)
  pub spent : work_left d (used_scope t node) now w ≤ work_left d (used_scope t node) start u

module _ {W : Type 0} {d : Domain W} (t : Cells W) (node : ℕ) where
  -- an item of the list is at the node
  pub at_node : {sums : Cells W} {items : List Item} → IsSwept d t node sums items → (item : Item) → Has items item → (e : Entry) (n : ℕ) → item ≡ At e n → item ≡ At e node
  at_node s item h e n is = let p = s.only item h in let q = p.1 in let same : p.0 ≡ e = cc in q ∙ ap (λ (x : Entry). At x node) same

  pub not_between : {sums : Cells W} {items : List Item} → IsSwept d t node sums items → (item : Item) → Has items item → (c p : Entry) → item ≡ Between c p → ⊥
  not_between s item h c p is = let o = s.only item h in let q = o.1 in cc

  -- an item leaves the list
  swept_popped : {sums : Cells W} (items : List Item) (item : Item) → IsSwept d t node sums (items ++ item ∷ []) → IsSwept d t node sums items
  swept_popped items item s = record { sound = s.sound; within = within_popped items item s.within; only = λ i h. s.only i (Has-left items _ i h); meant = s.meant }

  others_popped : {sums : Cells W} (items : List Item) (entry : Entry) → IsSweeping d t node sums (items ++ At entry node ∷ []) → (n mark : ℕ) (p : Entry) → (Pushed n mark ≡ entry → ⊥) → WentOn d t node sums items n mark p
  others_popped {sums} items entry s n mark p apart = by (s.open_to n mark p)
    where
      by : WentOn d t node sums (items ++ At entry node ∷ []) n mark p → WentOn d t node sums items n mark p
      by (inr h) = inr h
      by (inl h) = elim (slice_get-pushed items (At entry node) h.0 (At (Pushed n mark) node) h.1) [ inl q ↦ inl (h.0, q) | inr q ↦ let is = q.1 in absurd (apart (cc)) ]

  -- a base has no parents to follow
  pub base_done : {sums : Cells W} (items : List Item) (entry : Entry) → ((n mark : ℕ) → entry ≡ Pushed n mark → ⊥) → IsSweeping d t node sums (items ++ At entry node ∷ []) → IsSweeping d t node sums items
  base_done items entry apart s = record { swept = swept_popped items (At entry node) s.swept; open_to = λ n mark p. others_popped items entry s n mark p (λ e. apart n mark (sym e)) }

module _ {W : Type 0} {d : Domain W} (l : IsLawful W d) (t : Cells W) (mt : AreMeant d t) (node : ℕ) where
  climbs_meant : (e : Entry) (x : W) → Climbs d t node e x → d.IsMeant x
  climbs_meant e x from_node = mt.weights e node
  climbs_meant e x (to_parent {n} {mark} {parent} {x = y} c) = l.extend_meant _ _ (mt.links _ _) (climbs_meant (Pushed n mark) y c)

  -- an entry with a weight is in the scope
  pub used_within : (e : Entry) → IsUsed d t e → Has (used_scope t node).entries e
  used_within e (by_weight n h) = let q = weight_cell d t e n h in Has-left t.names _ e (q.0, q.1)
  used_within e (by_child p h) = let q = link_cell d t e p h in Has-left t.names _ e (q.0, q.1)
  used_within e (by_parent c h) = Has-right t.names _ e (has_parent d t c e h)

  -- before the first rise
  pub sweep_begins : (sums : Cells W) (items : List Item) → IsBlank d sums → items ≡ [] → IsSweeping d t node sums items
  sweep_begins sums items b e = record {
    swept = record {
      sound = λ x. subst (λ (z : W). Combines d (Climbs d t node x) z) (sym (b.weights x node)) none;
      within = record {
        links = λ c p k. absurd (k (b.links c p));
        at = λ x n h. absurd (empty (At x n) h);
        between = λ c p h. absurd (empty (Between c p) h);
      };
      only = λ i h. absurd (empty i h);
      meant = meant_blank d l sums b;
    };
    open_to = λ n mark p. inr (subst (λ (z : W). Leq d z (weight_at d sums p node)) (sym (ap (d.extend (link_at d t (Pushed n mark) p)) (b.weights (Pushed n mark) node) ∙ l.extend_zero _ (mt.links _ _)))
        (zero_leq l _ ((meant_blank d l sums b).weights p node)));
  }
    where
      empty : (i : Item) → Has items i → ⊥
      empty i h = let q : slice_get [] h.0 ≡ Some i = subst (λ (z : List Item). slice_get z h.0 ≡ Some i) e h.1 in cc

  -- one rise
  module _ {old new : Cells W} {before after : List Item} (s : IsSwept d t node old before) (e : Entry) (w : W) (c : Combines d (Climbs d t node e) w) (he : Has (used_scope t node).entries e) (r : IsRisen d old new before after e node w) where
    mw : d.IsMeant w
    mw = combines_meant l (climbs_meant e) c

    pub sweep_same : (x : Entry) → Has after (At x node) ⊎ (weight_at d new x node ≡ weight_at d old x node)
    sweep_same x = weight_same l [] old new before after s.meant.weights s.meant.links e node w mw r x node

    pub sweep_grown : (x : Entry) → Leq d (weight_at d old x node) (weight_at d new x node)
    sweep_grown x = grown l [] old new before after s.meant.weights s.meant.links e node w mw r x node

    pub sweep_reached : Leq d w (weight_at d new e node)
    sweep_reached = reached l [] old new before after s.meant.weights s.meant.links e node w mw r

    meant_new : AreMeant d new
    meant_new = meant_raised d l old new e node w s.meant mw r.raised

    spent : IsWithin d (used_scope t node) new after × (work_left d (used_scope t node) new after ≤ work_left d (used_scope t node) old before)
    spent = risen_spent l [] old new before after s.meant.weights s.meant.links (used_scope t node) e node w mw r he (0, refl) s.within

    pub sweep_spent : work_left d (used_scope t node) new after ≤ work_left d (used_scope t node) old before
    sweep_spent = spent.1

    -- a weight below the old sum of an entry is below the new one
    pub sweep_above : (x : Entry) (a : W) → d.IsMeant a → Leq d a (weight_at d old x node) → Leq d a (weight_at d new x node)
    sweep_above x a ma h = leq_trans l a (weight_at d old x node) (weight_at d new x node) ma (s.meant.weights _ _) (meant_new.weights _ _) h (sweep_grown x)

    -- what went on to a parent still does, or waits
    pub sweep_kept : (n mark : ℕ) (p : Entry) → WentOn d t node old before n mark p → WentOn d t node new after n mark p
    sweep_kept n mark p (inl h) = inl (paid_stays r.paid _ h)
    sweep_kept n mark p (inr h) = by (sweep_same (Pushed n mark))
      where
        by : Has after (At (Pushed n mark) node) ⊎ (weight_at d new (Pushed n mark) node ≡ weight_at d old (Pushed n mark) node) → WentOn d t node new after n mark p
        by (inl k) = inl k
        by (inr q) = inr (subst (λ (z : W). Leq d (d.extend (link_at d t (Pushed n mark) p) z) (weight_at d new p node)) (sym q)
            (sweep_above p _ (l.extend_meant _ _ (mt.links _ _) (s.meant.weights _ _)) h))

    sound_at : (x : Entry) → (x ≡ e) ⊎ (x ≡ e → ⊥) → Combines d (Climbs d t node x) (weight_at d new x node)
    sound_at x (inl q) = subst (λ (y : Entry). Combines d (Climbs d t node y) (weight_at d new y node)) (sym q) (subst (λ (z : W). Combines d (Climbs d t node e) z) (sym r.raised.here) (both (s.sound e) c))
    sound_at x (inr n) = subst (λ (z : W). Combines d (Climbs d t node x) z) (sym (r.raised.others x node (λ a b. n a))) (s.sound x)

    only_now : (i : Item) → Has after i → (x : Entry) × (i ≡ At x node)
    only_now i h = by r.paid
      where
        by : IsPaid d old new before after (At e node) (weight_at d old e node) w → (x : Entry) × (i ≡ At x node)
        by (stayed a b) = s.only i (subst (λ (xs : List Item). Has xs i) b h)
        by (rose n q) = let k = subst (λ (xs : List Item). Has xs i) q h in elim (slice_get-pushed before (At e node) k.0 i k.1) [ inl o ↦ s.only i (k.0, o) | inr o ↦ (e, o.1) ]

    pub swept_more : IsSwept d t node new after
    swept_more = record { sound = λ x. sound_at x (one_entry x e); within = spent.0; only = only_now; meant = meant_new }

  module _ (entries : List Entry) (from : AreEntriesAt d t node entries) where
    pub begin_none : (sums : Cells W) (items : List Item) → IsBlank d sums → items ≡ [] → IsBegunTo d t node entries sums items 0
    begin_none sums items b e = record { sweeping = sweep_begins sums items b e; begun = λ i x h. absurd (omega arith) }

    pub begin_goes : {old new : Cells W} {before after : List Item} (k : ℕ) (e : Entry) (w : W) → slice_get entries k ≡ Some e → w ≡ weight_at d t e node → IsBegunTo d t node entries old before k → IsRisen d old new before after e node w → IsBegunTo d t node entries new after (k + 1)
    begin_goes {old} {new} {before} {after} k e w at is g r = record {
      sweeping = record { swept = swept_more g.sweeping.swept e w c he r; open_to = λ n mark p. sweep_kept g.sweeping.swept e w c he r n mark p (g.sweeping.open_to n mark p) };
      begun = λ i x h q. elim (below_or_last i k h) [
        | inl b ↦ sweep_above g.sweeping.swept e w c he r x (weight_at d t x node) (mt.weights _ _) (g.begun i x b q)
        | inr z ↦ let same : e ≡ x = cc (at, q, ap (slice_get entries) z) in
            subst (λ (y : Entry). Leq d (weight_at d t y node) (weight_at d new y node)) same (subst (λ (a : W). Leq d a (weight_at d new e node)) is (sweep_reached g.sweeping.swept e w c he r))
      ];
    }
      where
        c : Combines d (Climbs d t node e) w
        c = subst (λ (z : W). Combines d (Climbs d t node e) z) (sym is) (one from_node)

        he : Has (used_scope t node).entries e
        he = used_within e (from.used e (k, at))

    pub begin_all : {sums : Cells W} {items : List Item} (k : ℕ) → length entries ≤ k → ((a b : W) → d.IsMeant a → d.IsMeant b → (a ≡ b) ⊎ (a ≡ b → ⊥)) → IsBegunTo d t node entries sums items k → AreBegun d t node sums
    begin_all {sums} k all decide g e = by (decide (weight_at d t e node) d.zero (mt.weights _ _) l.zero_meant)
      where
        by : (weight_at d t e node ≡ d.zero) ⊎ (weight_at d t e node ≡ d.zero → ⊥) → Leq d (weight_at d t e node) (weight_at d sums e node)
        by (inl z) = subst (λ (a : W). Leq d a (weight_at d sums e node)) (sym z) (zero_leq l _ (g.sweeping.swept.meant.weights _ _))
        by (inr n) = let h = from.all e n in g.begun h.0 e (omega (arith, slice_get-below entries h.0 e h.1)) h.1

  module _ (m k : ℕ) (row : List (Linked W)) (are : AreParents d t (Pushed m k) row) where
    pub up_begins : {start : Cells W} (items : List Item) (so_far : W) → so_far ≡ weight_at d start (Pushed m k) node → IsSweeping d t node start (items ++ At (Pushed m k) node ∷ []) → AreBegun d t node start → IsGoneUp d t node (Pushed m k) row so_far start start items items 0
    up_begins {start} items so_far e s b = record {
      swept = swept_popped t node items (At (Pushed m k) node) s.swept;
      others = others_popped t node items (Pushed m k) s;
      begun = b;
      left = inr (sym e);
      above = λ i x h. absurd (omega arith);
      spent = omega arith;
    }

    pub up_goes : {start now new : Cells W} {u w z : List Item} (so_far : W) (e : so_far ≡ weight_at d start (Pushed m k) node) (sound : Combines d (Climbs d t node (Pushed m k)) so_far) (i : ℕ) (x : Linked W) (r : W) → slice_get row i ≡ Some x → r ≡ d.extend x.weight so_far
        → IsGoneUp d t node (Pushed m k) row so_far start now u w i → IsRisen d now new w z x.parent node r → IsGoneUp d t node (Pushed m k) row so_far start new u z (i + 1)
    up_goes {start} {now} {new} {u} {w} {z} so_far e sound i x r at is g o = record {
      swept = swept_more g.swept x.parent r c he o;
      others = λ n mark p apart. sweep_kept g.swept x.parent r c he o n mark p (g.others n mark p apart);
      begun = λ y. sweep_above g.swept x.parent r c he o y _ (mt.weights _ _) (g.begun y);
      left = left g.left (sweep_same g.swept x.parent r c he o (Pushed m k));
      above = λ j y h q. elim (below_or_last j i h) [
        | inl b ↦ sweep_above g.swept x.parent r c he o y.parent _ (l.extend_meant _ _ (subst (λ (a : W). d.IsMeant a) (sym (are.weight y (j, q))) (mt.links _ _)) (combines_meant l (climbs_meant (Pushed m k)) sound)) (g.above j y b q)
        | inr n ↦ let same : x ≡ y = cc (at, q, ap (slice_get row) n) in
            subst (λ (a : Linked W). Leq d (d.extend a.weight so_far) (weight_at d new a.parent node)) same (subst (λ (a : W). Leq d a (weight_at d new x.parent node)) is (sweep_reached g.swept x.parent r c he o))
      ];
      spent = up_to _ _ _ (sweep_spent g.swept x.parent r c he o) g.spent;
    }
      where
        link : x.weight ≡ link_at d t (Pushed m k) x.parent
        link = are.weight x (i, at)

        c : Combines d (Climbs d t node x.parent) r
        c = subst (λ (a : W). Combines d (Climbs d t node x.parent) a) (sym (is ∙ ap (λ (a : W). d.extend a so_far) link))
            (combines_left l (climbs_meant (Pushed m k)) (link_at d t (Pushed m k) x.parent) (mt.links _ _) (λ y h. to_parent h) sound)

        he : Has (used_scope t node).entries x.parent
        he = used_within x.parent (by_parent (Pushed m k) (λ h. are.some x (i, at) (link ∙ h)))

        left : Has w (At (Pushed m k) node) ⊎ (weight_at d now (Pushed m k) node ≡ so_far) → Has z (At (Pushed m k) node) ⊎ (weight_at d new (Pushed m k) node ≡ weight_at d now (Pushed m k) node) → Has z (At (Pushed m k) node) ⊎ (weight_at d new (Pushed m k) node ≡ so_far)
        left (inl a) b = inl (paid_stays o.paid _ a)
        left (inr a) (inl b) = inl b
        left (inr a) (inr b) = inr (b ∙ a)

    pub up_ends : {start now : Cells W} {u w : List Item} (so_far : W) → d.IsMeant so_far → (i : ℕ) → length row ≤ i → ((a b : W) → d.IsMeant a → d.IsMeant b → (a ≡ b) ⊎ (a ≡ b → ⊥)) → IsGoneUp d t node (Pushed m k) row so_far start now u w i → IsSweeping d t node now w
    up_ends {start} {now} {u} {w} so_far ms i all decide g = record { swept = g.swept; open_to = λ n mark p. by n mark p (one_entry (Pushed n mark) (Pushed m k)) }
      where
        onward : (p : Entry) → (link_at d t (Pushed m k) p ≡ d.zero) ⊎ (link_at d t (Pushed m k) p ≡ d.zero → ⊥) → Leq d (d.extend (link_at d t (Pushed m k) p) so_far) (weight_at d now p node)
        onward p (inl z) = subst (λ (a : W). Leq d a (weight_at d now p node)) (sym (ap (λ (a : W). d.extend a so_far) z ∙ l.zero_extend so_far ms)) (zero_leq l _ (g.swept.meant.weights _ _))
        onward p (inr n) = let h = are.all p n in g.above h.0 _ (omega (arith, slice_get-below row h.0 _ h.1)) h.1

        here : (p : Entry) → Has w (At (Pushed m k) node) ⊎ (weight_at d now (Pushed m k) node ≡ so_far) → WentOn d t node now w m k p
        here p (inl h) = inl h
        here p (inr q) = inr (subst (λ (a : W). Leq d (d.extend (link_at d t (Pushed m k) p) a) (weight_at d now p node)) (sym q) (onward p (decide (link_at d t (Pushed m k) p) d.zero (mt.links _ _) l.zero_meant)))

        by : (n mark : ℕ) (p : Entry) → (Pushed n mark ≡ Pushed m k) ⊎ (Pushed n mark ≡ Pushed m k → ⊥) → WentOn d t node now w n mark p
        by n mark p (inr a) = g.others n mark p a
        by n mark p (inl e) = let first : m ≡ n = cc in let second : k ≡ mark = cc in
            subst (λ (a : ℕ). WentOn d t node now w a mark p) first (subst (λ (b : ℕ). WentOn d t node now w m b p) second (here p g.left))

-- the first item may stand last
pub sweeping_first : {W : Type 0} (d : Domain W) {t : Cells W} {node : ℕ} {sums : Cells W} {items popped : List Item} {item : Item} → items ≡ item ∷ popped → IsSweeping d t node sums items → IsSweeping d t node sums (popped ++ item ∷ [])
sweeping_first d {t} {node} {sums} {items} {popped} {item} e g = record {
  swept = record {
    sound = g.swept.sound;
    within = within_first d (used_scope t node) sums items popped item e g.swept.within;
    only = λ i h. g.swept.only i (subst (λ (xs : List Item). Has xs i) (sym e) (first_last popped item i h));
    meant = g.swept.meant;
  };
  open_to = λ n mark p. by n mark p (g.open_to n mark p);
}
  where
    by : (n mark : ℕ) (p : Entry) → WentOn d t node sums items n mark p → WentOn d t node sums (popped ++ item ∷ []) n mark p
    by n mark p (inl h) = inl (last_first popped item _ (subst (λ (xs : List Item). Has xs (At (Pushed n mark) node)) e h))
    by n mark p (inr h) = inr h
