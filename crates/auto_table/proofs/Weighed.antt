-- The weights of a table by the rows of its entries.
use Rattle.std.proofs.Common.{◌≡◌, ◌≢◌, ◌<◌, ℕ, inl, inr, true, List, [], ◌∷◌, ◌++◌, Some, length, slice_get, refl, sym, ap, ◌∙◌, eqb, eq-eqb, true≢false}
use Rattle.std.proofs.lemmas.Bool.{cases_eq, ne_eqb}
use Rattle.std.specs.List.{slice_set}
use Rattle.auto_table.specs.declared.entry.Entry.{Entry}
use Rattle.auto_table.specs.contracts.entry.EntryPartialEq.TheImpl as entry
use Rattle.auto_table.specs.declared.row.Reached.{Reached}
use Rattle.auto_table.specs.declared.row.Linked.{Linked}
use Rattle.auto_table.specs.Grids.{row_at}
use Rattle.lists.specs.Lists.{Has, IsApart}
use Rattle.auto_table.specs.Cells.{Cells, weight_at, link_at, weight_of, at_entry, node_of, parent_of, reached_weight, linked_weight, IsBlank, IsRaised, IsRaisedLink}
use Rattle.auto_table.proofs.Filed.{row_at-beyond, row_at-grown, row_at-set_other, row_at-set_same}
use Rattle.auto_table.proofs.Found.{at_entry-grown, at_entry-none, at_entry-or, at_entry-same, at_entry-there, one_or_other, row-or}
use Rattle.auto_table.proofs.Same.{same_entry, self_entry}
use Rattle.weight_laws.specs.Law.{Domain}

pub same_node : (x y : ℕ) → eqb x y ≡ true → x ≡ y
same_node x y h = elim (cases_eq x y) [ inl e ↦ e | inr ne ↦ absurd (true≢false (sym h ∙ ne_eqb x y ne)) ]

pub self_node : (x : ℕ) → eqb x x ≡ true
self_node x = eq-eqb x x refl

module _ {W : Type 0} (d : Domain W) where
  -- the weight at a node, or of a parent, in a row
  abbrev pub in_weights : ℕ → List (Reached W) → W
  in_weights n xs = weight_of eqb node_of reached_weight d.zero n xs

  abbrev pub in_links : Entry → List (Linked W) → W
  in_links p xs = weight_of entry.eq-value.it parent_of linked_weight d.zero p xs

  -- ---- of an entry with a number, or without one
  pub weight_there : (t : Cells W) → IsApart t.names → (e : Entry) (i : ℕ) → slice_get t.names i ≡ Some e → (n : ℕ) → weight_at d t e n ≡ in_weights n (row_at t.reached i)
  unfolding weight_at
  weight_there t apart e i h n = at_entry-there t.names (λ k. in_weights n (row_at t.reached k)) d.zero e i apart h

  pub link_there : (t : Cells W) → IsApart t.names → (c : Entry) (i : ℕ) → slice_get t.names i ≡ Some c → (p : Entry) → link_at d t c p ≡ in_links p (row_at t.parents i)
  unfolding link_at
  link_there t apart c i h p = at_entry-there t.names (λ k. in_links p (row_at t.parents k)) d.zero c i apart h

  pub weight_unnamed : (t : Cells W) (e : Entry) → (Has t.names e → ⊥) → (n : ℕ) → weight_at d t e n ≡ d.zero
  unfolding weight_at
  weight_unnamed t e miss n = at_entry-none t.names (λ k. in_weights n (row_at t.reached k)) d.zero e miss

  pub link_unnamed : (t : Cells W) (c : Entry) → (Has t.names c → ⊥) → (p : Entry) → link_at d t c p ≡ d.zero
  unfolding link_at
  link_unnamed t c miss p = at_entry-none t.names (λ k. in_links p (row_at t.parents k)) d.zero c miss

  -- ---- weights other than zero have cells
  pub weight_cell : (t : Cells W) (e : Entry) (n : ℕ) → weight_at d t e n ≢ d.zero → (i : ℕ) × (slice_get t.names i ≡ Some e) × (j : ℕ) × (x : Reached W) × (slice_get (row_at t.reached i) j ≡ Some x) × (x.node ≡ n)
  unfolding weight_at
  weight_cell t e n nz = elim (at_entry-or t.names (λ k. in_weights n (row_at t.reached k)) d.zero e) [
    | inl z ↦ absurd (nz z)
    | inr h ↦ elim (row-or eqb same_node self_node node_of reached_weight d.zero (row_at t.reached h.0) n) [
      | inl z ↦ absurd (nz (h.2 ∙ z))
      | inr c ↦ (h.0, h.1, c.0, c.1, c.2, c.3)
    ]
  ]

  pub link_cell : (t : Cells W) (c p : Entry) → link_at d t c p ≢ d.zero → (i : ℕ) × (slice_get t.names i ≡ Some c) × (j : ℕ) × (x : Linked W) × (slice_get (row_at t.parents i) j ≡ Some x) × (x.parent ≡ p)
  unfolding link_at
  link_cell t c p nz = elim (at_entry-or t.names (λ k. in_links p (row_at t.parents k)) d.zero c) [
    | inl z ↦ absurd (nz z)
    | inr h ↦ elim (row-or entry.eq-value.it same_entry self_entry parent_of linked_weight d.zero (row_at t.parents h.0) p) [
      | inl z ↦ absurd (nz (h.2 ∙ z))
      | inr x ↦ (h.0, h.1, x.0, x.1, x.2, x.3)
    ]
  ]

  -- ---- no rows
  pub blank : (t : Cells W) → t.names ≡ [] → IsBlank d t
  unfolding weight_at link_at
  blank t e = record {
    weights = λ x n. ap (λ (ks : List Entry). at_entry ks (λ k. in_weights n (row_at t.reached k)) d.zero x) e;
    links = λ c p. ap (λ (ks : List Entry). at_entry ks (λ k. in_links p (row_at t.parents k)) d.zero c) e;
  }

  -- ---- an entry gets a number, and empty rows
  pub grown_weight : (names : List Entry) (reached : List (List (Reached W))) (parents parents' : List (List (Linked W))) (k : Entry) → length reached ≡ length names → (e : Entry) (n : ℕ)
      → weight_at d (record { names = names ++ k ∷ []; reached = reached ++ [] ∷ []; parents = parents' }) e n ≡ weight_at d (record { names = names; reached = reached; parents = parents }) e n
  unfolding weight_at
  grown_weight names reached parents parents' k long e n =
      at_entry-grown names k (λ i. in_weights n (row_at (reached ++ [] ∷ []) i)) d.zero e (ap (in_weights n) (row_at-grown reached (length names) ∙ row_at-beyond reached (length names) long))
      ∙ at_entry-same names (λ i. in_weights n (row_at (reached ++ [] ∷ []) i)) (λ i. in_weights n (row_at reached i)) d.zero e (λ i h. ap (in_weights n) (row_at-grown reached i))

  pub grown_link : (names : List Entry) (reached reached' : List (List (Reached W))) (parents : List (List (Linked W))) (k : Entry) → length parents ≡ length names → (c p : Entry)
      → link_at d (record { names = names ++ k ∷ []; reached = reached'; parents = parents ++ [] ∷ [] }) c p ≡ link_at d (record { names = names; reached = reached; parents = parents }) c p
  unfolding link_at
  grown_link names reached reached' parents k long c p =
      at_entry-grown names k (λ i. in_links p (row_at (parents ++ [] ∷ []) i)) d.zero c (ap (in_links p) (row_at-grown parents (length names) ∙ row_at-beyond parents (length names) long))
      ∙ at_entry-same names (λ i. in_links p (row_at (parents ++ [] ∷ []) i)) (λ i. in_links p (row_at parents i)) d.zero c (λ i h. ap (in_links p) (row_at-grown parents i))

  -- ---- one row is another
  module _ (t : Cells W) (apart : IsApart t.names) (e : Entry) (i : ℕ) (number : slice_get t.names i ≡ Some e) (w v : W) where
    -- a row in which the node has another weight
    pub raised_row : (n : ℕ) (row : List (Reached W)) → i < length t.reached → in_weights n row ≡ v → v ≡ d.combine (weight_at d t e n) w
        → ((m : ℕ) → n ≢ m → in_weights m row ≡ in_weights m (row_at t.reached i)) → IsRaised d t (record t { reached = slice_set t.reached i row }) e n w
    unfolding weight_at link_at
    raised_row n row there is combined others = record {
      here = at_entry-there t.names (λ k. in_weights n (row_at (slice_set t.reached i row) k)) d.zero e i apart number ∙ ap (in_weights n) (row_at-set_same t.reached i row there) ∙ is ∙ combined;
      others = λ x m differ. at_entry-same t.names (λ k. in_weights m (row_at (slice_set t.reached i row) k)) (λ k. in_weights m (row_at t.reached k)) d.zero x (λ k h. elim (one_or_other k i) [
        | inl s ↦
            let one : Some x ≡ Some e = sym h ∙ ap (slice_get t.names) s ∙ number in
            let entry_is : x ≡ e = cc in
            ap (λ (j : ℕ). in_weights m (row_at (slice_set t.reached i row) j)) s ∙ ap (in_weights m) (row_at-set_same t.reached i row there) ∙ others m (λ g. differ entry_is (sym g)) ∙ ap (λ (j : ℕ). in_weights m (row_at t.reached j)) (sym s)
        | inr s ↦ ap (in_weights m) (row_at-set_other t.reached i row k s)
      ]);
      links = λ c p. refl;
    }

    -- a row in which the parent has another weight
    pub raised_above : (p : Entry) (row : List (Linked W)) → i < length t.parents → in_links p row ≡ v → v ≡ d.combine (link_at d t e p) w
        → ((q : Entry) → p ≢ q → in_links q row ≡ in_links q (row_at t.parents i)) → IsRaisedLink d t (record t { parents = slice_set t.parents i row }) e p w
    unfolding weight_at link_at
    raised_above p row there is combined others = record {
      here = at_entry-there t.names (λ k. in_links p (row_at (slice_set t.parents i row) k)) d.zero e i apart number ∙ ap (in_links p) (row_at-set_same t.parents i row there) ∙ is ∙ combined;
      others = λ c q differ. at_entry-same t.names (λ k. in_links q (row_at (slice_set t.parents i row) k)) (λ k. in_links q (row_at t.parents k)) d.zero c (λ k h. elim (one_or_other k i) [
        | inl s ↦
            let one : Some c ≡ Some e = sym h ∙ ap (slice_get t.names) s ∙ number in
            let child_is : c ≡ e = cc in
            ap (λ (j : ℕ). in_links q (row_at (slice_set t.parents i row) j)) s ∙ ap (in_links q) (row_at-set_same t.parents i row there) ∙ others q (λ g. differ child_is (sym g)) ∙ ap (λ (j : ℕ). in_links q (row_at t.parents j)) (sym s)
        | inr s ↦ ap (in_links q) (row_at-set_other t.parents i row k s)
      ]);
      weights = λ x n. refl;
    }
