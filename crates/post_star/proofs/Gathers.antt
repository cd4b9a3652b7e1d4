-- The sums of the bases, together, are the readings of the node with any word.
use Rattle.std.proofs.Common.{◌≡◌, ◌⊎◌, inl, inr, ◌∙◌, ℕ, ◌+◌, ◌<◌, ◌≤◌, List, [], length, slice_get, Some, refl, sym, ap, subst, arith}
use Rattle.auto_table.specs.declared.entry.Entry.{Entry}
use Rattle.auto_table.specs.declared.entry.Entry.TheVariants.{Base, Pushed}
use Rattle.lists.specs.Lists.{Has}
use Rattle.auto_table.specs.Cells.{Cells, weight_at, link_at, by_weight, IsListed, AreMeant}
use Rattle.lists.proofs.Places.{slice_get-below}
use Rattle.post_star.specs.declared.rise.Item.{Item}
use Rattle.post_star.specs.Derivations.{Combines, none, one, both}
use Rattle.post_star.specs.Readings.{ReadsAny, any_base, any_link, ReadsAnyAt, any_entry, IsTableAny}
use Rattle.post_star.specs.Sweeps.{Climbs, from_node, to_parent, WentOn, IsSweeping, AreBegun, AtBase, at_base_of, IsSumAtBases}
use Rattle.post_star.proofs.Applies.{below_or_last}
use Rattle.post_star.proofs.Combinations.{combines_meant, combines_bind}
use Rattle.weight_laws.specs.Law.{Domain, IsLawful, Leq}
use Rattle.weight_laws.proofs.Orders.{leq_trans, leq_self, leq_left, leq_right, zero_leq, extend_leq_right}

-- the sum over the bases before one entry
pub record IsGathered {W : Type 0} (d : Domain W) (sums : Cells W) (node : ℕ) (entries : List Entry) (v : W) (k : ℕ) : Type 0 where
  pub finite : Combines d (AtBase d sums node) v
  pub above : (i : ℕ) (b : ℕ) → i < k → slice_get entries i ≡ Some (Base b) → Leq d (weight_at d sums (Base b) node) v

module _ {W : Type 0} {d : Domain W} (l : IsLawful W d) where
  -- ---- the sum of the bases
  module _ (sums : Cells W) (ms : AreMeant d sums) (node : ℕ) where
    at_base_meant : (x : W) → AtBase d sums node x → d.IsMeant x
    at_base_meant x (at_base_of b) = ms.weights (Base b) node

    pub gathered_none : (entries : List Entry) (v : W) → v ≡ d.zero → IsGathered d sums node entries v 0
    gathered_none entries v e = record { finite = subst (λ (z : W). Combines d (AtBase d sums node) z) (sym e) none; above = λ i b h. absurd (omega arith) }

    pub gathered_more : (entries : List Entry) (v x r : W) (k b : ℕ) → slice_get entries k ≡ Some (Base b) → x ≡ weight_at d sums (Base b) node → r ≡ d.combine v x → IsGathered d sums node entries v k → IsGathered d sums node entries r (k + 1)
    gathered_more entries v x r k b at is e g = subst (λ (z : W). IsGathered d sums node entries z (k + 1)) (sym (e ∙ ap (d.combine v) is)) (record {
      finite = both g.finite (one (at_base_of b));
      above = λ i c h q. elim (below_or_last i k h) [
        | inl o ↦ leq_trans l _ v _ (ms.weights _ _) mv (l.combine_meant _ _ mv (ms.weights _ _)) (g.above i c o q) (leq_left l v (weight_at d sums (Base b) node) mv (ms.weights _ _))
        | inr n ↦ let whole : slice_get entries i ≡ Some (Base b) = ap (slice_get entries) n ∙ at in let same : b ≡ c = cc in
            subst (λ (a : ℕ). Leq d (weight_at d sums (Base a) node) (d.combine v (weight_at d sums (Base b) node))) same (leq_right l v (weight_at d sums (Base b) node) mv (ms.weights _ _))
      ];
    })
      where
        mv : d.IsMeant v
        mv = combines_meant l at_base_meant g.finite

    pub gathered_skips : (entries : List Entry) (v : W) (k : ℕ) (e : Entry) → slice_get entries k ≡ Some e → ((b : ℕ) → e ≡ Base b → ⊥) → IsGathered d sums node entries v k → IsGathered d sums node entries v (k + 1)
    gathered_skips entries v k e at n g = record {
      finite = g.finite;
      above = λ i c h q. elim (below_or_last i k h) [
        | inl o ↦ g.above i c o q
        | inr s ↦ let whole : slice_get entries i ≡ Some e = ap (slice_get entries) s ∙ at in let same : e ≡ Base c = cc in absurd (n c same)
      ];
    }

    -- one more entry: a base adds its sum, another entry nothing
    pub gathered_next : (entries : List Entry) (v x r : W) (k : ℕ) (e : Entry) → slice_get entries k ≡ Some e → ((b : ℕ) → e ≡ Base b → x ≡ weight_at d sums (Base b) node) → ((n m : ℕ) → e ≡ Pushed n m → x ≡ d.zero) → r ≡ d.combine v x
        → IsGathered d sums node entries v k → IsGathered d sums node entries r (k + 1)
    gathered_next entries v x r k (Base b) at base other is g = gathered_more entries v x r k b at (base b refl) is g
    gathered_next entries v x r k (Pushed n m) at base other is g =
        subst (λ (z : W). IsGathered d sums node entries z (k + 1)) (sym (is ∙ ap (d.combine v) (other n m refl) ∙ l.combine_zero v (combines_meant l at_base_meant g.finite)))
        (gathered_skips entries v k (Pushed n m) at (λ b e. cc) g)

    pub gathered_all : (entries : List Entry) → IsListed d sums entries → ((a b : W) → d.IsMeant a → d.IsMeant b → (a ≡ b) ⊎ (a ≡ b → ⊥)) → (v : W) (k : ℕ) → length entries ≤ k → IsGathered d sums node entries v k → IsSumAtBases d sums node v
    gathered_all entries listed decide v k all g = record { finite = g.finite; above = above }
      where
        mv : d.IsMeant v
        mv = combines_meant l at_base_meant g.finite

        by : (b : ℕ) → (weight_at d sums (Base b) node ≡ d.zero) ⊎ (weight_at d sums (Base b) node ≡ d.zero → ⊥) → Leq d (weight_at d sums (Base b) node) v
        by b (inl z) = subst (λ (a : W). Leq d a v) (sym z) (zero_leq l v mv)
        by b (inr n) = let h = listed.all (Base b) (by_weight node n) in g.above h.0 b (omega (arith, slice_get-below entries h.0 (Base b) h.1)) h.1

        above : (x : W) → AtBase d sums node x → Leq d x v
        above x (at_base_of b) = by b (decide (weight_at d sums (Base b) node) d.zero (ms.weights _ _) l.zero_meant)

  -- ---- the sum of the bases is that of the readings
  module _ (t : Cells W) (mt : AreMeant d t) (node : ℕ) (sums : Cells W) (items : List Item) (empty : items ≡ []) (s : IsSweeping d t node sums items) (begun : AreBegun d t node sums) where
    reads_any_meant : (e : Entry) (x : W) → ReadsAny d t e x → d.IsMeant x
    reads_any_meant e x any_base = l.one_meant
    reads_any_meant e x (any_link {parent} {x = y} r) = l.extend_meant _ _ (reads_any_meant parent y r) (mt.links _ _)

    climbed_meant : (e : Entry) (x : W) → Climbs d t node e x → d.IsMeant x
    climbed_meant e x from_node = mt.weights e node
    climbed_meant e x (to_parent {n} {mark} {x = y} c) = l.extend_meant _ _ (mt.links _ _) (climbed_meant (Pushed n mark) y c)

    -- the first entries of a reading, and the rest of it
    joined : (e : Entry) (y : W) → Climbs d t node e y → (x : W) → ReadsAny d t e x → ReadsAnyAt d t node (d.extend x y)
    joined e y from_node x r = any_entry r
    joined e y (to_parent {n} {mark} {parent} {x = z} c) x r =
        subst (λ (a : W). ReadsAnyAt d t node a) (l.extend_assoc x (link_at d t (Pushed n mark) e) z (reads_any_meant e x r) (mt.links _ _) (climbed_meant (Pushed n mark) z c))
        (joined (Pushed n mark) z c (d.extend x (link_at d t (Pushed n mark) e)) (any_link r))

    at_base_reads : (x : W) → AtBase d sums node x → Combines d (ReadsAnyAt d t node) x
    at_base_reads x (at_base_of b) = combines_bind l (λ y c. one (subst (λ (a : W). ReadsAnyAt d t node a) (l.one_extend y (climbed_meant (Base b) y c)) (joined (Base b) y c d.one any_base))) (s.swept.sound (Base b))

    none_waits : (i : Item) → Has items i → ⊥
    none_waits i h = let q : slice_get [] h.0 ≡ Some i = subst (λ (z : List Item). slice_get z h.0 ≡ Some i) empty h.1 in cc

    went_on : (n mark : ℕ) (p : Entry) → WentOn d t node sums items n mark p → Leq d (d.extend (link_at d t (Pushed n mark) p) (weight_at d sums (Pushed n mark) node)) (weight_at d sums p node)
    went_on n mark p (inl h) = absurd (none_waits _ h)
    went_on n mark p (inr h) = h

    -- each reading lies below the sum of its base
    up : (e : Entry) (x : W) → ReadsAny d t e x → (b : ℕ) × Leq d (d.extend x (weight_at d sums e node)) (weight_at d sums (Base b) node)
    up e x (any_base {b}) = (b, subst (λ (a : W). Leq d a (weight_at d sums (Base b) node)) (sym (l.one_extend _ (s.swept.meant.weights (Base b) node))) (leq_self l _ (s.swept.meant.weights (Base b) node)))
    up e x (any_link {node = n} {mark} {parent} {x = y} r) =
        let rest = up parent y r in
        let my = reads_any_meant parent y r in
        let ml : d.IsMeant (link_at d t (Pushed n mark) parent) = mt.links _ _ in
        let mc : d.IsMeant (weight_at d sums (Pushed n mark) node) = s.swept.meant.weights _ _ in
        let mp : d.IsMeant (weight_at d sums parent node) = s.swept.meant.weights _ _ in (
          rest.0,
          leq_trans l _ (d.extend y (weight_at d sums parent node)) _ (l.extend_meant _ _ (l.extend_meant _ _ my ml) mc) (l.extend_meant _ _ my mp) (s.swept.meant.weights _ _)
              (subst (λ (a : W). Leq d a (d.extend y (weight_at d sums parent node))) (sym (l.extend_assoc y (link_at d t (Pushed n mark) parent) (weight_at d sums (Pushed n mark) node) my ml mc))
              (extend_leq_right l y _ (weight_at d sums parent node) my (l.extend_meant _ _ ml mc) mp (went_on n mark parent (s.open_to n mark parent))))
              rest.1,
        )

    pub table_any : (v : W) → IsSumAtBases d sums node v → IsTableAny d t node v
    table_any v g = record { finite = combines_bind l at_base_reads g.finite; above = above }
      where
        base_meant : (x : W) → AtBase d sums node x → d.IsMeant x
        base_meant x (at_base_of b) = s.swept.meant.weights (Base b) node

        mv : d.IsMeant v
        mv = combines_meant l base_meant g.finite

        above : (x : W) → ReadsAnyAt d t node x → Leq d x v
        above x (any_entry {entry} {x = y} r) =
            let top = up entry y r in
            let my = reads_any_meant entry y r in
            leq_trans l _ (d.extend y (weight_at d sums entry node)) v (l.extend_meant _ _ my (mt.weights entry node)) (l.extend_meant _ _ my (s.swept.meant.weights entry node)) mv
            (extend_leq_right l y (weight_at d t entry node) (weight_at d sums entry node) my (mt.weights entry node) (s.swept.meant.weights entry node) (begun entry))
            (leq_trans l _ (weight_at d sums (Base top.0) node) v (l.extend_meant _ _ my (s.swept.meant.weights entry node)) (s.swept.meant.weights _ _) mv top.1 (g.above _ (at_base_of top.0)))
