-- How far a walk over a graph has come.
use Rattle.std.proofs.Common.{◌≡◌, ℕ, ◌+◌, ◌<◌, ◌≤◌, ◌⊎◌, List, [], ◌++◌, length, slice_get, Some, refl, sym, subst, inl, inr, arith, get_or}
use Rattle.std.proofs.lemmas.Option.{slice_get-get_or}
use Rattle.lists.specs.Lists.{Has, IsApart, AreAll}
use Rattle.lists.proofs.Places.{slice_get-below}
use Rattle.spds_rules.specs.declared.edge.Edge.{Edge}
use Rattle.spds_rules.specs.declared.edge.EdgeKind.{EdgeKind}
use Rattle.spds_rules.specs.declared.edge.EdgeKind.TheVariants.{Load}
use Rattle.spds_rules.specs.declared.node.Node.{Node}
use Rattle.spds_rules.specs.declared.store.StoreAt.{StoreAt}
use Rattle.spds_rules.specs.Demand.{Demanded, IsFieldDemanded, target, source, base, arg}
use Rattle.demand_set.specs.Graphs.{AreSameEdges, AreSameStores, EdgeInto}
use Rattle.demand_set.specs.Searches.{ComesFrom, ComesFromOne, Grows, IsBelow, IsEnd, IsFollowed, IsSearched}
use Rattle.demand_set.specs.declared.demanded.Walk.{Walk}
use Rattle.demand_set.specs.Walks.{IsWalk}
use Rattle.demand_set.proofs.Appended.{AreAll-append, AreAll-same}
use Rattle.demand_set.proofs.Followed.{ComesFrom-same, IsFollowed-same}
use Rattle.demand_set.proofs.Grown.{Grows-weaker, IsBelow-kept}

module _ (Edges : Node → EdgeKind → Node → Type 0) (Stores : StoreAt → Type 0) (targets : List Node) where
  -- a node of a store of a field that an edge into a demanded node loads
  end_of : (e : Edge) (s : StoreAt) (n : Node) → Edges e.from e.kind e.to → Demanded Edges Stores targets e.to → Stores s → e.kind ≡ Load s.field → IsEnd s n
      → Demanded Edges Stores targets n
  end_of e s n edge d store is (inl at) = rw at (base (subst (λ k. Edges e.from k e.to) is edge) d store refl)
  end_of e s n edge d store is (inr at) = rw at (arg (subst (λ k. Edges e.from k e.to) is edge) d store refl)

  -- what comes from an edge into a demanded node is demanded
  pub Demanded-from : (e : Edge) (n : Node) → Edges e.from e.kind e.to → Demanded Edges Stores targets e.to → ComesFrom Stores e n → Demanded Edges Stores targets n
  Demanded-from e n edge d (inl at) = rw at (source edge d)
  Demanded-from e n edge d (inr (s, of, at)) = end_of e s n edge d of.0 of.1 at

  -- with the targets alone
  pub IsSearched-none : (old nodes : List Node) (edges : List Edge) (fields : List ℕ) (stores : List StoreAt) → old ≡ [] → edges ≡ [] → fields ≡ [] → stores ≡ []
      → Grows (Has targets) old nodes → ((n : Node) → Has targets n → Has nodes n) → IsSearched Edges Stores targets 0 nodes edges fields stores
  IsSearched-none old nodes edges fields stores none no_edge no_field no_store grows all = record {
    demanded = λ n h. elim (grows.only n h) [ inl a ↦ absurd (nothing old n none a) | inr b ↦ target b ];
    begun = all;
    are_edges = record {
      each = λ e h. absurd (nothing edges e no_edge h);
      all = λ e h. absurd (omega (arith, h.1.1));
      apart = λ i j e p q. absurd (nothing edges e no_edge (i, p));
    };
    followed = record {
      sources = λ e h. absurd (nothing edges e no_edge h);
      loaded = λ e f h k. absurd (nothing edges e no_edge h);
      are_loaded = λ f h. absurd (nothing fields f no_field h);
      stored = record {
        are = record {
          each = λ s h. absurd (nothing stores s no_store h);
          all = λ s h. absurd (nothing fields s.field no_field h.1);
          apart = λ i j s p q. absurd (nothing stores s no_store (i, p));
        };
        ends = λ s n h at. absurd (nothing stores s no_store h);
      };
    };
  }
    where
      nothing : {X : Type 0} (xs : List X) (x : X) → xs ≡ [] → Has xs x → ⊥
      nothing xs x e h = let at : Has [] x = subst (λ ys. Has ys x) e h in cc (at.1)

  -- the edges into one more node were followed
  pub IsSearched-more : (k : ℕ) (old new : List Node) (node : Node) (edges into : List Edge) (before fields : List ℕ) (earlier stores : List StoreAt)
      → IsSearched Edges Stores targets k old edges before earlier → IsApart old → slice_get old k ≡ Some node → AreAll (EdgeInto Edges node) into
      → Grows (ComesFromOne Stores (EdgeInto Edges node)) old new → IsFollowed Stores new (edges ++ into) fields stores
      → IsSearched Edges Stores targets (k + 1) new (edges ++ into) fields stores
  IsSearched-more k old new node edges into before fields earlier stores s apart here are grows followed = record {
    demanded = λ n h. elim (grows.only n h) [
      | inl a ↦ s.demanded n a
      | inr (e, at, from) ↦ Demanded-from e n at.0 (subst (Demanded Edges Stores targets) (sym at.1) (s.demanded node (k, here))) from
    ];
    begun = λ n h. let p = s.begun n h in (p.0, grows.kept p.0 n p.1);
    are_edges = AreAll-same (edges ++ into) (AreAll-append edges into s.are_edges are (λ e a b. apart_from e a.1 b.1))
        (λ e h. elim h [
          | inl a ↦ let p = a.1 in (a.0, (p.0, omega (arith, p.1), grows.kept p.0 e.to p.2))
          | inr b ↦ (b.0, (k, omega arith, rw b.1 (grows.kept k node here)))
        ])
        (λ e h. elim (last e.to h.1) [ inl a ↦ inl (h.0, a) | inr b ↦ inr (h.0, b) ]);
    followed = followed;
  }
    where
      apart_from : (e : Edge) → IsBelow k old e.to → e.to ≡ node → ⊥
      apart_from e (i, lt, at) is =
          let same : i ≡ k = apart i k node (rw (← is) at) here in
          omega (arith, lt, same)

      last : (n : Node) → IsBelow (k + 1) new n → IsBelow k old n ⊎ (n ≡ node)
      last n (i, lt, at) = elim (split i lt) [
        | inl less ↦ inl (IsBelow-kept k old new n grows (omega (arith, slice_get-below old k node here)) (i, less, at))
        | inr is ↦ let there = grows.kept k node here in let found : slice_get new k ≡ Some n = rw is at in inr cc
      ]
        where
          split : (i : ℕ) → i < k + 1 → (i < k) ⊎ (k ≡ i)
          split i h = grind arith

  -- the search is over
  pub IsWalk-whole : (k : ℕ) (w : Walk) → IsSearched Edges Stores targets k w.nodes w.edges w.fields w.stores → length w.nodes ≤ k → IsApart w.nodes → IsApart w.fields
      → IsWalk Edges Stores targets w
  IsWalk-whole k w s over nodes_apart fields_apart = record {
    nodes = record { each = s.demanded; all = λ n d. all d; apart = nodes_apart };
    edges = AreAll-same w.edges s.are_edges (λ e h. (h.0, s.demanded e.to (h.1.0, h.1.2))) (λ e h. (h.0, below (all h.1)));
    fields = record {
      each = λ f h. is_loaded f h;
      all = λ f d. loaded f d;
      apart = fields_apart;
    };
    stores = AreAll-same w.stores s.followed.stored.are (λ x h. (h.0, is_loaded x.field h.1)) (λ x h. (h.0, loaded x.field h.1));
  }
    where
      below : {n : Node} → Has w.nodes n → IsBelow k w.nodes n
      below {n} h = (h.0, omega (arith, over, slice_get-below w.nodes h.0 n h.1), h.1)

      edge_of : (a : Node) (kind : EdgeKind) (b : Node) → Edges a kind b → Has w.nodes b → Has w.edges (record { from = a; to = b; kind = kind })
      edge_of a kind b edge h = s.are_edges.all (record { from = a; to = b; kind = kind }) (edge, below h)

      store_of : (a b : Node) (field : ℕ) (x : StoreAt) → Edges a (Load field) b → Has w.nodes b → Stores x → x.field ≡ field → Has w.stores x
      store_of a b field x edge h store is =
          s.followed.stored.are.all x (store, subst (Has w.fields) (sym is) (s.followed.loaded _ field (edge_of a (Load field) b edge h) refl))

      all : {n : Node} → Demanded Edges Stores targets n → Has w.nodes n
      all (target h) = s.begun _ h
      all (source {a} {b} {kind} edge d) = s.followed.sources _ (edge_of a kind b edge (all d))
      all (base {a} {b} {field} {s = x} edge d store is) = s.followed.stored.ends x x.base (store_of a b field x edge (all d) store is) (inl refl)
      all (arg {a} {b} {field} {s = x} edge d store is) = s.followed.stored.ends x x.arg (store_of a b field x edge (all d) store is) (inr refl)

      loaded : (f : ℕ) → IsFieldDemanded Edges Stores targets f → Has w.fields f
      loaded f d = s.followed.loaded _ f (edge_of d.from (Load f) d.to d.edge (all d.demanded)) refl

      is_loaded : (f : ℕ) → Has w.fields f → IsFieldDemanded Edges Stores targets f
      is_loaded f h = let p = s.followed.are_loaded f h in let q = s.are_edges.each p.0 p.1 in
          record { from = p.0.from; to = p.0.to; edge = subst (λ kind. Edges p.0.from kind p.0.to) p.2 q.0; demanded = s.demanded p.0.to (q.1.0, q.1.2) }

-- one more node was visited, of a graph that stays the same
pub IsSearched-visited : (Edges Now : Node → EdgeKind → Node → Type 0) (Stores Kept : StoreAt → Type 0) (targets : List Node) (k : ℕ) (old new : List Node) (d : Node)
    (edges all : List Edge) (before fields : List ℕ) (earlier stores : List StoreAt) → AreSameEdges Edges Now → AreSameStores Stores Kept → k < length old → IsApart old
    → IsSearched Edges Stores targets k old edges before earlier → (into : List Edge) × AreAll (EdgeInto Now (get_or old k d)) into × (all ≡ edges ++ into)
    → Grows (ComesFromOne Kept (EdgeInto Now (get_or old k d))) old new → IsFollowed Kept new all fields stores
    → IsSearched Edges Stores targets (k + 1) new all fields stores
IsSearched-visited Edges Now Stores Kept targets k old new d edges all before fields earlier stores same_edges same_stores h apart s (into, are, is) grows followed =
    rw is (
    IsSearched-more Edges Stores targets k old new node edges into before fields earlier stores s apart (slice_get-get_or old k d h)
    (AreAll-same into are (λ e p. ((same_edges e.from e.kind e.to).0 p.0, p.1)) (λ e p. ((same_edges e.from e.kind e.to).1 p.0, p.1)))
    (Grows-weaker old new grows (λ n from. (from.0, ((same_edges from.0.from from.0.kind from.0.to).0 from.1.0, from.1.1), ComesFrom-same Stores Kept from.0 n same_stores from.2)))
    (IsFollowed-same Kept Stores new (edges ++ into) fields stores (λ x. ((same_stores x).1, (same_stores x).0)) (rw is at followed))
    )
  where
    node : Node
    node = get_or old k d
