-- Sums over the entries of a table.
use Rattle.std.proofs.Common.{◌≡◌, ◌⊎◌, inl, inr, ℕ, ◌+◌, ◌<◌, ◌≤◌, List, [], ◌∷◌, length, map, slice_get, Some, refl, sym, ap, ◌∙◌, subst, arith}
use Rattle.auto_table.specs.declared.entry.Entry.{Entry}
use Rattle.auto_table.specs.declared.entry.Entry.TheVariants.{Base, Pushed}
use Rattle.auto_table.specs.declared.row.Linked.{Linked}
use Rattle.lists.specs.Lists.{Has}
use Rattle.std.specs.Option.{option_map}
use Rattle.std.proofs.lemmas.Option.{slice_get-map}
use Rattle.post_star.proofs.Scopes.{has_map}
use Rattle.auto_table.specs.Cells.{Cells, weight_at, link_at, IsListed, AreMeant, AreParents, by_weight}
use Rattle.lists.proofs.Places.{slice_get-below}
use Rattle.post_star.specs.declared.bases.BaseStep.{BaseStep}
use Rattle.post_star.specs.Derivations.{Leads, Combines, none, one, both, IsSumOf}
use Rattle.post_star.specs.Readings.{Reads, at_base, at_link, ReadsAt, from_entry}
use Rattle.post_star.proofs.Combinations.{combines_meant, combines_bind, combines_right}
use Rattle.post_star.proofs.Applies.{below_or_last}
use Rattle.weight_laws.specs.Law.{Domain, IsLawful, Leq}
use Rattle.weight_laws.proofs.Orders.{leq_trans, leq_left, leq_right, leq_self, zero_leq, extend_leq_left}
use Rattle.std.proofs.lemmas.List.{length-map}

-- a weight of the kind of some entry
pub record OfSome {W : Type 0} (kind : Entry → W → Type 0) (x : W) : Type 0 where
  pub entry : Entry
  pub is : kind entry x

-- the sum over the kinds of the entries before t
pub record IsSummed {W : Type 0} (d : Domain W) (kind : Entry → W → Type 0) (entries : List Entry) (t : ℕ) (v : W) : Type 0 where
  pub finite : Combines d (OfSome kind) v
  pub above : (i : ℕ) (e : Entry) → i < t → slice_get entries i ≡ Some e → (x : W) → kind e x → Leq d x v

-- a weight of a kind, extended by one more
pub record IsTimes {W : Type 0} (d : Domain W) (kind : W → Type 0) (w : W) (z : W) : Type 0 where
  pub first : W
  pub is : kind first
  pub product : z ≡ d.extend first w

-- the readings that go on from a link
abbrev pub FromParent : {W : Type 0} → Domain W → List BaseStep → ℕ → Cells W → Entry → List ℕ → Entry → W → Type 0
FromParent d steps last t child rest p = IsTimes d (Reads d steps last t p rest) (link_at d t child p)

-- the readings that end at the node
abbrev pub AtNode : {W : Type 0} → Domain W → List BaseStep → ℕ → Cells W → ℕ → List ℕ → Entry → W → Type 0
AtNode d steps last t node word e = IsTimes d (Reads d steps last t e word) (weight_at d t e node)

module _ {W : Type 0} {d : Domain W} (l : IsLawful W d) where
  pub sum_times : (kind : W → Type 0) → ((x : W) → kind x → d.IsMeant x) → (w v : W) → d.IsMeant w → IsSumOf d kind v → IsSumOf d (IsTimes d kind w) (d.extend v w)
  sum_times kind m w v mw s = record {
    finite = combines_right l m w mw (λ x p. record { first = x; is = p; product = refl }) s.finite;
    above = λ z p. subst (λ (y : W). Leq d y (d.extend v w)) (sym p.product) (extend_leq_left l p.first v w (m p.first p.is) (combines_meant l m s.finite) mw (s.above p.first p.is));
  }

  -- a kind with no weight
  pub sum_none : (kind : W → Type 0) → ((x : W) → kind x → ⊥) → IsSumOf d kind d.zero
  sum_none kind n = record { finite = none; above = λ x p. absurd (n x p) }

  pub sum_same : (kind other : W → Type 0) → ((x : W) → kind x → other x) → ((x : W) → other x → kind x) → (v : W) → IsSumOf d kind v → IsSumOf d other v
  sum_same kind other f g v s = record { finite = combines_bind l (λ x p. one (f x p)) s.finite; above = λ x p. s.above x (g x p) }

  module _ (kind : Entry → W → Type 0) (m : (e : Entry) (x : W) → kind e x → d.IsMeant x) (entries : List Entry) where
    some_meant : (x : W) → OfSome kind x → d.IsMeant x
    some_meant x p = m p.entry x p.is

    pub summed_none : (v : W) → v ≡ d.zero → IsSummed d kind entries 0 v
    summed_none v e = record { finite = subst (λ (z : W). Combines d (OfSome kind) z) (sym e) none; above = λ i x k. absurd (omega arith) }

    pub summed_more : (t : ℕ) (e : Entry) (v y r : W) → slice_get entries t ≡ Some e → r ≡ d.combine v y → IsSumOf d (kind e) y → IsSummed d kind entries t v → IsSummed d kind entries (t + 1) r
    summed_more t e v y r at is s g = subst (λ (z : W). IsSummed d kind entries (t + 1) z) (sym is) (record {
      finite = both g.finite (combines_bind l (λ x p. one (record { entry = e; is = p })) s.finite);
      above = λ i z k q x p. elim (below_or_last i t k) [
        | inl b ↦ leq_trans l x v (d.combine v y) (m z x p) mv (l.combine_meant _ _ mv my) (g.above i z b q x p) (leq_left l v y mv my)
        | inr n ↦ let same : e ≡ z = cc (at, q, ap (slice_get entries) n) in
            leq_trans l x y (d.combine v y) (m z x p) my (l.combine_meant _ _ mv my) (s.above x (subst (λ (a : Entry). kind a x) (sym same) p)) (leq_right l v y mv my)
      ];
    })
      where
        mv : d.IsMeant v
        mv = combines_meant l some_meant g.finite

        my : d.IsMeant y
        my = combines_meant l (m e) s.finite

    pub summed_all : (t : ℕ) (v : W) → length entries ≤ t → ((e : Entry) → Has entries e ⊎ ((x : W) → kind e x → x ≡ d.zero)) → IsSummed d kind entries t v → IsSumOf d (OfSome kind) v
    summed_all t v all covers g = record { finite = g.finite; above = λ x p. by x p (covers p.entry) }
      where
        by : (x : W) (p : OfSome kind x) → Has entries p.entry ⊎ ((y : W) → kind p.entry y → y ≡ d.zero) → Leq d x v
        by x p (inl h) = g.above h.0 p.entry (omega (arith, slice_get-below entries h.0 p.entry h.1)) h.1 x p.is
        by x p (inr z) = subst (λ (a : W). Leq d a v) (sym (z x p.is)) (zero_leq l v (combines_meant l some_meant g.finite))

  module _ (steps : List BaseStep) (last : ℕ) (t : Cells W) (mt : AreMeant d t) where
    pub reading_meant : {e : Entry} {w : List ℕ} {y : W} → Reads d steps last t e w y → d.IsMeant y
    reading_meant (at_base p) = l.one_meant
    reading_meant (at_link r) = l.extend_meant _ _ (reading_meant r) (mt.links _ _)

    module _ (decide : (a b : W) → d.IsMeant a → d.IsMeant b → (a ≡ b) ⊎ (a ≡ b → ⊥)) where
      pub parents_cover : (child : Entry) (row : List (Linked W)) → AreParents d t child row → (rest : List ℕ) (p : Entry) → Has (map (λ x. x.parent) row) p ⊎ ((x : W) → FromParent d steps last t child rest p x → x ≡ d.zero)
      parents_cover child row are rest p = by (decide (link_at d t child p) d.zero (mt.links _ _) l.zero_meant)
        where
          by : (link_at d t child p ≡ d.zero) ⊎ (link_at d t child p ≡ d.zero → ⊥) → Has (map (λ x. x.parent) row) p ⊎ ((x : W) → FromParent d steps last t child rest p x → x ≡ d.zero)
          by (inl z) = inr (λ x q. q.product ∙ ap (d.extend q.first) z ∙ l.extend_zero q.first (reading_meant q.is))
          by (inr n) = inl (has_map (λ (x : Linked W). x.parent) row _ (are.all p n))

    module _ (entries : List Entry) (listed : IsListed d t entries) (decide : (a b : W) → d.IsMeant a → d.IsMeant b → (a ≡ b) ⊎ (a ≡ b → ⊥)) where
      pub nodes_cover : (node : ℕ) (word : List ℕ) (e : Entry) → Has entries e ⊎ ((x : W) → AtNode d steps last t node word e x → x ≡ d.zero)
      nodes_cover node word e = by (decide (weight_at d t e node) d.zero (mt.weights _ _) l.zero_meant)
        where
          by : (weight_at d t e node ≡ d.zero) ⊎ (weight_at d t e node ≡ d.zero → ⊥) → Has entries e ⊎ ((x : W) → AtNode d steps last t node word e x → x ≡ d.zero)
          by (inl z) = inr (λ x q. q.product ∙ ap (d.extend q.first) z ∙ l.extend_zero q.first (reading_meant q.is))
          by (inr n) = inl (listed.all e (by_weight node n))

    pub at_node_sum : (node : ℕ) (word : List ℕ) (v : W) → IsSumOf d (OfSome (AtNode d steps last t node word)) v → IsSumOf d (ReadsAt d steps last t node word) v
    at_node_sum node word v s = sum_same (OfSome (AtNode d steps last t node word)) (ReadsAt d steps last t node word)
        (λ x p. subst (λ (z : W). ReadsAt d steps last t node word z) (sym p.is.product) (from_entry p.is.is)) back v s
      where
        back : (x : W) → ReadsAt d steps last t node word x → OfSome (AtNode d steps last t node word) x
        back x (from_entry {entry} {x = y} r) = record { entry = entry; is = record { first = y; is = r; product = refl } }

    -- a reading by its first entry
    record IsLinked (e : Entry) (w : List ℕ) (x : W) : Type 0 where
      pub node : ℕ
      pub mark : ℕ
      pub parent : Entry
      pub rest : List ℕ
      pub product : W
      pub entry : e ≡ Pushed node mark
      pub word : w ≡ mark ∷ rest
      pub reads : Reads d steps last t parent rest product
      pub is : x ≡ d.extend product (link_at d t e parent)

    parts : {e : Entry} {w : List ℕ} {x : W} → Reads d steps last t e w x → ((b : ℕ) × (e ≡ Base b) × Leads steps b w last × (x ≡ d.one)) ⊎ IsLinked e w x
    parts (at_base {b} p) = inl (b, refl, p, refl)
    parts (at_link {node} {mark} {parent} {word} {x} r) = inr (record { node = node; mark = mark; parent = parent; rest = word; product = x; entry = refl; word = refl; reads = r; is = refl })

    pub parents_sum : (child : Entry) (node mark : ℕ) (rest : List ℕ) (v : W) → child ≡ Pushed node mark → IsSumOf d (OfSome (FromParent d steps last t child rest)) v → IsSumOf d (Reads d steps last t child (mark ∷ rest)) v
    parents_sum child node mark rest v is s = sum_same (OfSome (FromParent d steps last t child rest)) (Reads d steps last t child (mark ∷ rest)) there back v s
      where
        there : (x : W) → OfSome (FromParent d steps last t child rest) x → Reads d steps last t child (mark ∷ rest) x
        there x p = subst (λ (z : W). Reads d steps last t child (mark ∷ rest) z) (sym p.is.product)
            (subst (λ (c : Entry). Reads d steps last t c (mark ∷ rest) (d.extend p.is.first (link_at d t c p.entry))) (sym is) (at_link p.is.is))

        by : (x : W) → ((b : ℕ) × (child ≡ Base b) × Leads steps b (mark ∷ rest) last × (x ≡ d.one)) ⊎ IsLinked child (mark ∷ rest) x → OfSome (FromParent d steps last t child rest) x
        by x (inl q) = let one_way = q.1 in cc
        by x (inr q) = let w = q.word in let same : q.rest ≡ rest = cc in
            record { entry = q.parent; is = record { first = q.product; is = subst (λ (z : List ℕ). Reads d steps last t q.parent z q.product) same q.reads; product = q.is } }

        back : (x : W) → Reads d steps last t child (mark ∷ rest) x → OfSome (FromParent d steps last t child rest) x
        back x r = by x (parts r)

    pub pushed_empty : (node mark : ℕ) (e : Entry) (w : List ℕ) → e ≡ Pushed node mark → w ≡ [] → IsSumOf d (Reads d steps last t e w) d.zero
    pushed_empty node mark e w is empty = sum_none (Reads d steps last t e w) (λ x r. by x (parts r))
      where
        by : (x : W) → ((b : ℕ) × (e ≡ Base b) × Leads steps b w last × (x ≡ d.one)) ⊎ IsLinked e w x → ⊥
        by x (inl q) = let one_way = q.1 in cc
        by x (inr q) = let other = q.word in cc

    pub pushed_other : (node mark first : ℕ) (rest : List ℕ) (e : Entry) (w : List ℕ) → e ≡ Pushed node mark → w ≡ first ∷ rest → (first ≡ mark → ⊥) → IsSumOf d (Reads d steps last t e w) d.zero
    pushed_other node mark first rest e w is at n = sum_none (Reads d steps last t e w) (λ x r. by x (parts r))
      where
        by : (x : W) → ((b : ℕ) × (e ≡ Base b) × Leads steps b w last × (x ≡ d.one)) ⊎ IsLinked e w x → ⊥
        by x (inl q) = let one_way = q.1 in cc
        by x (inr q) = let other = q.word in let entry = q.entry in let same : first ≡ mark = cc in n same

    pub base_leads : (b : ℕ) (word : List ℕ) → Leads steps b word last → IsSumOf d (Reads d steps last t (Base b) word) d.one
    base_leads b word p = record { finite = one (at_base p); above = above }
      where
        above : (x : W) → Reads d steps last t (Base b) word x → Leq d x d.one
        above x (at_base q) = leq_self l d.one l.one_meant

    pub base_stops : (b : ℕ) (word : List ℕ) → (Leads steps b word last → ⊥) → IsSumOf d (Reads d steps last t (Base b) word) d.zero
    base_stops b word n = sum_none _ no
      where
        no : (x : W) → Reads d steps last t (Base b) word x → ⊥
        no x (at_base q) = n q

    pub kind_meant : (node : ℕ) (word : List ℕ) (e : Entry) (x : W) → AtNode d steps last t node word e x → d.IsMeant x
    kind_meant node word e x q = subst (λ (z : W). d.IsMeant z) (sym q.product) (l.extend_meant _ _ (reading_meant q.is) (mt.weights e node))

    pub parent_meant : (child : Entry) (rest : List ℕ) (p : Entry) (x : W) → FromParent d steps last t child rest p x → d.IsMeant x
    parent_meant child rest p x q = subst (λ (z : W). d.IsMeant z) (sym q.product) (l.extend_meant _ _ (reading_meant q.is) (mt.links _ _))

    -- one more entry at the node
    pub node_more : (entries : List Entry) (node : ℕ) (word : List ℕ) (k : ℕ) (e : Entry) (v s y r : W) → slice_get entries k ≡ Some e → r ≡ d.combine v y → y ≡ d.extend s (weight_at d t e node)
        → IsSumOf d (Reads d steps last t e word) s → IsSummed d (AtNode d steps last t node word) entries k v → IsSummed d (AtNode d steps last t node word) entries (k + 1) r
    node_more entries node word k e v s y r at is q h g = summed_more (AtNode d steps last t node word) (kind_meant node word) entries k e v y r at is
        (subst (λ (z : W). IsSumOf d (AtNode d steps last t node word e) z) (sym q) (sum_times (Reads d steps last t e word) (λ x p. reading_meant p) (weight_at d t e node) s (mt.weights e node) h)) g

    -- one more parent
    pub parent_more : (entries : List Entry) (child : Entry) (rest : List ℕ) (k : ℕ) (p : Entry) (v s y r : W) → slice_get entries k ≡ Some p → r ≡ d.combine v y → y ≡ d.extend s (link_at d t child p)
        → IsSumOf d (Reads d steps last t p rest) s → IsSummed d (FromParent d steps last t child rest) entries k v → IsSummed d (FromParent d steps last t child rest) entries (k + 1) r
    parent_more entries child rest k p v s y r at is q h g = summed_more (FromParent d steps last t child rest) (parent_meant child rest) entries k p v y r at is
        (subst (λ (z : W). IsSumOf d (FromParent d steps last t child rest p) z) (sym q) (sum_times (Reads d steps last t p rest) (λ x r. reading_meant r) (link_at d t child p) s (mt.links _ _) h)) g

    module _ (entries : List Entry) (listed : IsListed d t entries) (decide : (a b : W) → d.IsMeant a → d.IsMeant b → (a ≡ b) ⊎ (a ≡ b → ⊥)) where
      pub node_all : (node : ℕ) (word : List ℕ) (k : ℕ) (v : W) → length entries ≤ k → IsSummed d (AtNode d steps last t node word) entries k v → IsSumOf d (ReadsAt d steps last t node word) v
      node_all node word k v all g = at_node_sum node word v (summed_all (AtNode d steps last t node word) (kind_meant node word) entries k v all (nodes_cover entries listed decide node word) g)

    pub parent_all : (decide : (a b : W) → d.IsMeant a → d.IsMeant b → (a ≡ b) ⊎ (a ≡ b → ⊥)) (child : Entry) (row : List (Linked W)) → AreParents d t child row → (node mark : ℕ) (rest : List ℕ) (k : ℕ) (v : W) → child ≡ Pushed node mark → length row ≤ k
        → IsSummed d (FromParent d steps last t child rest) (map (λ x. x.parent) row) k v → IsSumOf d (Reads d steps last t child (mark ∷ rest)) v
    parent_all decide child row are node mark rest k v is all g = parents_sum child node mark rest v is
        (summed_all (FromParent d steps last t child rest) (parent_meant child rest) (map (λ x. x.parent) row) k v (let e : length (map (λ (x : Linked W). x.parent) row) ≡ length row = length-map row (λ (x : Linked W). x.parent) in omega arith) (parents_cover decide child row are rest) g)

    -- one more parent, by its place in the row
    pub linked_more : (child : Entry) (row : List (Linked W)) → AreParents d t child row → (rest : List ℕ) (k : ℕ) (x : Linked W) (v s y r : W) → slice_get row k ≡ Some x → r ≡ d.combine v y → y ≡ d.extend s x.weight
        → IsSumOf d (Reads d steps last t x.parent rest) s → IsSummed d (FromParent d steps last t child rest) (map (λ x. x.parent) row) k v → IsSummed d (FromParent d steps last t child rest) (map (λ x. x.parent) row) (k + 1) r
    linked_more child row are rest k x v s y r at is q h g =
        parent_more (map (λ x. x.parent) row) child rest k x.parent v s y r (slice_get-map (λ (z : Linked W). z.parent) row k ∙ ap (option_map (λ (z : Linked W). z.parent)) at) is (q ∙ ap (d.extend s) (are.weight x (k, at))) h g
