-- What was followed, and what is left to follow.
use Rattle.std.proofs.Common.{◌≡◌, ℕ, ◌⊎◌, List, [], ◌∷◌, ◌++◌, Some, refl, sym, subst, ◌∙◌, ap, inl, inr, ◌+◌, ◌<◌, length, take, get_or, append_assoc}
use Rattle.std.proofs.lemmas.List.{take_more}
use Rattle.std.proofs.lemmas.Option.{slice_get-get_or}
use Rattle.lists.specs.Lists.{Has, AreAll}
use Rattle.lists.proofs.Joined.{Has-either, Has-left, Has-right}
use Rattle.spds_rules.specs.declared.edge.Edge.{Edge}
use Rattle.spds_rules.specs.declared.edge.EdgeKind.{EdgeKind}
use Rattle.spds_rules.specs.declared.edge.EdgeKind.TheVariants.{Load}
use Rattle.spds_rules.specs.declared.node.Node.{Node}
use Rattle.spds_rules.specs.declared.store.StoreAt.{StoreAt}
use Rattle.demand_set.specs.Graphs.{AreSameStores, EdgeInto, StoreOf}
use Rattle.demand_set.specs.Searches.{ComesFrom, ComesFromOne, Grows, IsEndOf, IsFollowed, IsStored}
use Rattle.demand_set.proofs.Appended.{AreAll-append, AreAll-same, Has-one, Has-take_kept, Has-take_last}
use Rattle.demand_set.proofs.Grown.{Grows-twice, Has-grows}

module _ (Stores : StoreAt → Type 0) where
  -- more nodes
  pub IsStored-grows : {Fact : Node → Type 0} (old new : List Node) (fields : List ℕ) (stores : List StoreAt) → IsStored Stores old fields stores → Grows Fact old new
      → IsStored Stores new fields stores
  IsStored-grows old new fields stores s grows = record { are = s.are; ends = λ x n h e. Has-grows old new n grows (s.ends x n h e) }

  -- the stores of one more field, with their nodes
  pub IsStored-more : {Fact : Node → Type 0} (old new : List Node) (fields : List ℕ) (field : ℕ) (stores found : List StoreAt) → (Has fields field → ⊥)
      → IsStored Stores old fields stores → AreAll (StoreOf Stores field) found → Grows Fact old new → ((n : Node) → IsEndOf (Has found) n → Has new n)
      → IsStored Stores new (fields ++ field ∷ []) (stores ++ found)
  IsStored-more old new fields field stores found fresh s are grows ends = record {
    are = AreAll-same (stores ++ found) (AreAll-append stores found s.are are (λ x a b. fresh (subst (Has fields) b.1 a.1)))
        (λ x h. elim h [
          | inl a ↦ (a.0, Has-left fields (field ∷ []) x.field a.1)
          | inr b ↦ (b.0, Has-right fields (field ∷ []) x.field (0, ap Some (sym b.1)))
        ])
        (λ x h. elim (Has-either fields (field ∷ []) x.field h.1) [ inl a ↦ inl (h.0, a) | inr b ↦ inr (h.0, Has-one field x.field b) ]);
    ends = λ x n h e. elim (Has-either stores found x h) [ inl a ↦ Has-grows old new n grows (s.ends x n a e) | inr b ↦ ends n (x, b, e) ];
  }

  -- one more edge, its field and the stores of this
  pub IsFollowed-more : {Fact : Node → Type 0} (old new : List Node) (edges : List Edge) (e : Edge) (before fields : List ℕ) (earlier stores : List StoreAt)
      → IsFollowed Stores old edges before earlier → Grows Fact old new → Has new e.from → ((f : ℕ) → Has before f → Has fields f)
      → ((f : ℕ) → Has fields f → Has before f ⊎ (e.kind ≡ Load f)) → ((f : ℕ) → e.kind ≡ Load f → Has fields f) → IsStored Stores new fields stores
      → IsFollowed Stores new (edges ++ e ∷ []) fields stores
  IsFollowed-more old new edges e before fields earlier stores s grows source kept only loaded stored = record {
    sources = λ x h. elim (Has-either edges (e ∷ []) x h) [ inl a ↦ Has-grows old new x.from grows (s.sources x a) | inr b ↦ rw (Has-one e x b) source ];
    loaded = λ x f h k. elim (Has-either edges (e ∷ []) x h) [
      | inl a ↦ kept f (s.loaded x f a k)
      | inr b ↦ loaded f (subst (λ (y : Edge). y.kind ≡ Load f) (Has-one e x b) k)
    ];
    are_loaded = λ f h. elim (only f h) [
      | inl a ↦ let p = s.are_loaded f a in (p.0, Has-left edges (e ∷ []) p.0 p.1, p.2)
      | inr b ↦ (e, Has-right edges (e ∷ []) e (0, refl), b)
    ];
    stored = stored;
  }

  -- one more edge, which loads nothing
  pub IsFollowed-plain : {Fact : Node → Type 0} (old new : List Node) (edges : List Edge) (e : Edge) (fields : List ℕ) (stores : List StoreAt)
      → IsFollowed Stores old edges fields stores → Grows Fact old new → Has new e.from → ((f : ℕ) → e.kind ≡ Load f → ⊥)
      → IsFollowed Stores new (edges ++ e ∷ []) fields stores
  IsFollowed-plain old new edges e fields stores s grows source not =
      IsFollowed-more old new edges e fields fields stores stores s grows source (λ f h. h) (λ f h. inl h) (λ f k. absurd (not f k))
      (IsStored-grows old new fields stores s.stored grows)

  -- one more edge, which loads a field that an edge before it loads
  pub IsFollowed-known : {Fact : Node → Type 0} (old new : List Node) (edges : List Edge) (e : Edge) (fields same : List ℕ) (field : ℕ) (stores : List StoreAt)
      → IsFollowed Stores old edges fields stores → Grows Fact old new → Has new e.from → e.kind ≡ Load field → (same ≡ fields) × Has fields field
      → IsFollowed Stores new (edges ++ e ∷ []) same stores
  IsFollowed-known old new edges e fields same field stores s grows source is known =
      rw known.0 (
      IsFollowed-more old new edges e fields fields stores stores s grows source (λ f h. h) (λ f h. inl h)
      (λ f k. let one : field ≡ f = cc in subst (Has fields) one known.1) (IsStored-grows old new fields stores s.stored grows)
      )

  -- one more edge, which loads a new field
  pub IsFollowed-new : {Fact : Node → Type 0} (old new : List Node) (edges : List Edge) (e : Edge) (before fields : List ℕ) (field : ℕ) (earlier stores : List StoreAt)
      → IsFollowed Stores old edges before earlier → Grows Fact old new → Has new e.from → e.kind ≡ Load field → fields ≡ before ++ field ∷ []
      → IsStored Stores new (before ++ field ∷ []) stores → IsFollowed Stores new (edges ++ e ∷ []) fields stores
  IsFollowed-new old new edges e before fields field earlier stores s grows source is put stored =
      rw put (
      IsFollowed-more old new edges e before (before ++ field ∷ []) earlier stores s grows source
      (λ f h. Has-left before (field ∷ []) f h)
      (λ f h. elim (Has-either before (field ∷ []) f h) [ inl a ↦ inl a | inr b ↦ inr (is ∙ ap Load (sym (Has-one field f b))) ])
      (λ f k. let one : field ≡ f = cc in subst (Has (before ++ field ∷ [])) one (Has-right before (field ∷ []) field (0, refl)))
      stored
      )

-- the same over the same stores
pub IsStored-same : (Old New : StoreAt → Type 0) (nodes : List Node) (fields : List ℕ) (stores : List StoreAt) → AreSameStores Old New → IsStored Old nodes fields stores
    → IsStored New nodes fields stores
IsStored-same Old New nodes fields stores same s = record {
  are = AreAll-same stores s.are (λ x h. ((same x).1 h.0, h.1)) (λ x h. ((same x).0 h.0, h.1));
  ends = s.ends;
}

pub IsFollowed-same : (Old New : StoreAt → Type 0) (nodes : List Node) (edges : List Edge) (fields : List ℕ) (stores : List StoreAt) → AreSameStores Old New
    → IsFollowed Old nodes edges fields stores → IsFollowed New nodes edges fields stores
IsFollowed-same Old New nodes edges fields stores same s = record {
  sources = s.sources;
  loaded = s.loaded;
  are_loaded = s.are_loaded;
  stored = IsStored-same Old New nodes fields stores same s.stored;
}

-- what comes from an edge, over the same stores
pub ComesFrom-same : (Old New : StoreAt → Type 0) (e : Edge) (n : Node) → AreSameStores Old New → ComesFrom New e n → ComesFrom Old e n
ComesFrom-same Old New e n same (inl h) = inl h
ComesFrom-same Old New e n same (inr h) = inr (h.0, ((same h.0).0 h.1.0, h.1.1), h.2)

-- the node of a store of the field that an edge loads
pub ComesFrom-stored : (Stores : StoreAt → Type 0) (e : Edge) (field : ℕ) (n : Node) → e.kind ≡ Load field → IsEndOf (StoreOf Stores field) n → ComesFrom Stores e n
ComesFrom-stored Stores e field n is (s, of, at) = inr (s, (of.0, is ∙ ap Load (sym of.1)), at)

-- the edges before and one more
pub edges-more : (old mid new items : List Edge) (i : ℕ) (d : Edge) → i < length items → mid ≡ old ++ take i items → new ≡ mid ++ get_or items i d ∷ []
    → new ≡ old ++ take (i + 1) items
edges-more old mid new items i d h first second = rw (take_more items i d h) (cc (append_assoc old (take i items) (get_or items i d ∷ [])))

-- what came from the edges before and from one more
pub Grows-followed : (Old New : StoreAt → Type 0) (start mid new : List Node) (items : List Edge) (i : ℕ) (d : Edge) → i < length items → AreSameStores Old New
    → Grows (ComesFromOne Old (Has (take i items))) start mid → Grows (ComesFrom New (get_or items i d)) mid new
    → Grows (ComesFromOne Old (Has (take (i + 1) items))) start new
Grows-followed Old New start mid new items i d h same first second = Grows-twice start mid new first second
    (λ n from. (from.0, Has-take_kept items i d from.0 h from.1, from.2))
    (λ n from. (get_or items i d, Has-take_last items i d h, ComesFrom-same Old New (get_or items i d) n same from))

-- each of the edges into a node leads there
pub into_node : (Edges : Node → EdgeKind → Node → Type 0) (node : Node) (items : List Edge) (i : ℕ) (d : Edge) → AreAll (EdgeInto Edges node) items → i < length items
    → (get_or items i d).to ≡ node
into_node Edges node items i d are h = (are.each (get_or items i d) (i, slice_get-get_or items i d h)).1
