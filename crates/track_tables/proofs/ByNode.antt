-- The entries of a table by the nodes at which they have a weight.
use Rattle.std.proofs.Common.{◌≡◌, ◌≢◌, ℕ, zero, suc, ◌++◌, ◌+◌, ◌<◌, ◌≤◌, ◌↔◌, ◌⊎◌, Bool, true, false, List, [], ◌∷◌, Some, eqb, get_or, length, slice_get, take, inl, inr, refl, sym, ap, subst, ◌∙◌, arith}
use Rattle.std.proofs.lemmas.Bool.{eqb-false, eqb-true}
use Rattle.std.proofs.lemmas.List.{take_all}
use Rattle.auto_table.specs.declared.entry.Entry.{Entry}
use Rattle.auto_table.specs.declared.row.Reached.{Reached}
use Rattle.auto_table.specs.Cells.{AreMeant, Cells, IsListed, IsRow, by_weight, weight_at}
use Rattle.call_side.specs.Gathered.{AreGathered}
use Rattle.call_side.proofs.Lists.{Has-take_more}
use Rattle.lists.specs.Lists.{Has}
use Rattle.lists.proofs.Places.{Has-push}
use Rattle.lists.specs.declared.groups.Keyed.{Keyed}
use Rattle.lists.specs.Filings.{kept_if}
use Rattle.lists.specs.Groups.{Grouped, found_at, items_with}
use Rattle.lists.proofs.Joined.{Has-cons}
use Rattle.site_events.proofs.Calling.{Has-items_with}
use Rattle.post_star.specs.Sweeps.{AreEntriesAt}
use Rattle.weight_laws.specs.declared.rel.Rel.{Rel}
use Rattle.weight_laws.specs.Rel.{rel_domain}
use Rattle.track_tables.specs.ByNode.{AreByNode, AreCells, IsCell, IsCellOf}

-- the cell is that of one of these weights of the entry
abbrev pub IsAmong : Entry → List (Reached Rel) → Keyed ℕ Entry → Type 0
IsAmong entry row cell = (x : Reached Rel) × Has row x × (cell ≡ record { key = x.node; item = entry })

-- the cells of the first weights of the row were put in
abbrev pub ArePut : Entry → List (Reached Rel) → List (Keyed ℕ Entry) → List (Keyed ℕ Entry) → Type 0
ArePut entry row old new = (cell : Keyed ℕ Entry) → Has new cell ↔ (Has old cell ⊎ IsAmong entry row cell)

module _ (entry : Entry) (row : List (Reached Rel)) (old : List (Keyed ℕ Entry)) where
  pub put_none : ArePut entry (take 0 row) old old
  put_none cell = ((λ has. inl has), (λ h. elim h [ inl was ↦ was | inr among ↦ let has = among.1 in cc has.1 ]))

  pub put_more : (i : ℕ) (d : Reached Rel) (now : List (Keyed ℕ Entry)) (it : Keyed ℕ Entry) → i < length row → it ≡ record { key = (get_or row i d).node; item = entry }
      → ArePut entry (take i row) old now → ArePut entry (take (i + 1) row) old (now ++ it ∷ [])
  put_more i d now it below is put cell = (
    (λ has. elim ((Has-push now it cell).0 has) [
      | inl h ↦ elim ((put cell).0 h) [ inl was ↦ inl was | inr among ↦ inr (among.0, (Has-take_more row i d among.0 below).1 (inl among.1), among.2) ]
      | inr e ↦ inr (get_or row i d, (Has-take_more row i d (get_or row i d) below).1 (inr refl), e ∙ is)
    ]),
    (λ h. (Has-push now it cell).1 (elim h [
      | inl was ↦ inl ((put cell).1 (inl was))
      | inr among ↦ elim ((Has-take_more row i d among.0 below).0 among.1) [
        | inl has ↦ inl ((put cell).1 (inr (among.0, has, among.2)))
        | inr e ↦ inr (among.2 ∙ ap (λ (x : Reached Rel). record { key = x.node; item = entry }) e ∙ sym is)
      ]
    ])),
  )

  pub put_all : (t : Cells Rel) → IsRow rel_domain t entry row → (n : ℕ) (new : List (Keyed ℕ Entry)) → length row ≤ n → ArePut entry (take n row) old new
      → (cell : Keyed ℕ Entry) → Has new cell ↔ (Has old cell ⊎ IsCellOf t entry cell)
  put_all t is n new all put cell = (
    (λ has. elim ((full cell).0 has) [
      | inl was ↦ inl was
      | inr among ↦ let x = among.0 in inr (ap (λ (c : Keyed ℕ Entry). c.item) among.2, subst (λ (c : Keyed ℕ Entry). IsCell t c) (sym among.2) (λ h. is.some x among.1 (is.weight x among.1 ∙ h)))
    ]),
    (λ h. (full cell).1 (elim h [
      | inl was ↦ inl was
      | inr its ↦
          let at : weight_at rel_domain t entry cell.key ≢ rel_domain.zero = subst (λ (e : Entry). weight_at rel_domain t e cell.key ≢ rel_domain.zero) its.0 its.1 in
          inr (record { node = cell.key; weight = weight_at rel_domain t entry cell.key }, is.all cell.key at, ap (λ (e : Entry). record { key = cell.key; item = e }) its.0)
    ])),
  )
    where
      full : ArePut entry row old new
      full = subst (λ (xs : List (Reached Rel)). ArePut entry xs old new) (take_all n row all) put

-- all entries were gone over
pub cells_all : (t : Cells Rel) (entries : List Entry) (cells : List (Keyed ℕ Entry)) → IsListed rel_domain t entries → AreGathered (IsCellOf t) entries cells → AreCells t cells
cells_all t entries cells listed of cell = (
  (λ has. let it = (of cell).0 has in it.2.1),
  (λ is. (of cell).1 (cell.item, listed.all cell.item (by_weight cell.key is), (refl, is))),
)

-- they are found by their nodes
pub by_node_found : (t : Cells Rel) (cells : List (Keyed ℕ Entry)) (g : Grouped ℕ Entry) → AreMeant rel_domain t → AreCells t cells
    → ((node : ℕ) → found_at eqb g node ≡ items_with eqb cells node) → AreByNode t g
by_node_found t cells g meant are found = record {
  meant = meant;
  each = λ node entry.
      subst (λ (es : List Entry). Has es entry ↔ (weight_at rel_domain t entry node ≢ rel_domain.zero)) (sym (found node)) (
        (λ has. (are (record { key = node; item = entry })).0 ((Has-items_with cells node entry).0 has)),
        (λ is. (Has-items_with cells node entry).1 ((are (record { key = node; item = entry })).1 is)),
      );
}

-- those of a node are all that have it
pub entries_at : (t : Cells Rel) (g : Grouped ℕ Entry) → AreByNode t g → (node : ℕ) → AreEntriesAt rel_domain t node (found_at eqb g node)
entries_at t g are node = record {
  all = λ entry is. (are.each node entry).1 is;
  used = λ entry has. by_weight node ((are.each node entry).0 has);
}
