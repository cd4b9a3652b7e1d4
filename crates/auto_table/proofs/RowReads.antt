-- What is read of a table.
use Rattle.std.proofs.Common.{◌≡◌, ℕ, List, [], Some, slice_get, sym, ap, subst, ◌∙◌, eqb}
use Rattle.auto_table.specs.declared.entry.Entry.{Entry}
use Rattle.auto_table.specs.declared.spot.Spot.{Spot}
use Rattle.auto_table.specs.declared.spot.Joint.{Joint}
use Rattle.auto_table.specs.declared.row.Reached.{Reached}
use Rattle.auto_table.specs.declared.row.Linked.{Linked}
use Rattle.auto_table.specs.contracts.entry.EntryPartialEq.TheImpl as entry
use Rattle.auto_table.specs.Cells.{Cells, weight_at, link_at, node_of, parent_of, reached_weight, linked_weight, AreParents, IsRow}
use Rattle.auto_table.specs.Grids.{HasPlace, row_at}
use Rattle.auto_table.specs.Inside.{IsLaid, joint_parent, joint_row, spot_node, spot_row}
use Rattle.lists.specs.Lists.{Has}
use Rattle.auto_table.proofs.Filed.{filed-apart, filed-cell, filed-missed}
use Rattle.auto_table.proofs.Found.{row-cell, row-none}
use Rattle.auto_table.proofs.Same.{same_entry, self_entry}
use Rattle.auto_table.proofs.Tables.{one_joint, one_spot}
use Rattle.auto_table.proofs.Weighed.{link_cell, link_there, link_unnamed, same_node, self_node, weight_cell, weight_there, weight_unnamed}
use Rattle.weight_laws.specs.Law.{Domain}

module _ {W : Type 0} (d : Domain W) (t : Cells W) (spots : List Spot) (places : List ℕ) (joints : List Joint) (seats : List ℕ) (laid : IsLaid d t spots places joints seats) where
  -- ---- weights at nodes
  -- a cell of the row of an entry
  weight_cell_read : (e : Entry) (i : ℕ) → slice_get t.names i ≡ Some e → (j : ℕ) (x : Reached W) → slice_get (row_at t.reached i) j ≡ Some x → x.weight ≡ weight_at d t e x.node
  weight_cell_read e i number j x h = sym (weight_there d t laid.apart e i number x.node
      ∙ row-cell eqb same_node self_node node_of reached_weight d.zero (row_at t.reached i) j x h (λ k y g same. filed-apart spot_row spot_node one_spot node_of t.reached spots places laid.by_spot i k j y x g h same))

  pub weight_found : (s : Spot) (e : Entry) → slice_get t.names s.row ≡ Some e → (j : ℕ) → HasPlace spots places s j → (x : Reached W) → slice_get (row_at t.reached s.row) j ≡ Some x → x.weight ≡ weight_at d t e s.node
  weight_found s e number j at x h =
      let c = filed-cell spot_row spot_node one_spot node_of t.reached spots places laid.by_spot s j at in
      let one : Some x ≡ Some c.cell = sym h ∙ c.there in
      let same : x ≡ c.cell = cc in
      weight_cell_read e s.row number j x h ∙ ap (weight_at d t e) (ap node_of same ∙ c.same)

  pub weight_missed : (s : Spot) (e : Entry) → slice_get t.names s.row ≡ Some e → (Has spots s → ⊥) → d.zero ≡ weight_at d t e s.node
  weight_missed s e number miss = sym (weight_there d t laid.apart e s.row number s.node
      ∙ row-none eqb same_node self_node node_of reached_weight d.zero (row_at t.reached s.row) s.node (λ j x h. filed-missed spot_row spot_node one_spot node_of t.reached spots places laid.by_spot s miss j x h))

  pub weight_row : (e : Entry) (i : ℕ) → slice_get t.names i ≡ Some e → IsRow d t e (row_at t.reached i)
  weight_row e i number = record {
    weight = λ x p. weight_cell_read e i number p.0 x p.1;
    some = λ x p. laid.weights_some i p.0 x p.1;
    all = λ n nz.
        let c = weight_cell d t e n nz in
        let row : c.0 ≡ i = laid.apart c.0 i e c.1 number in
        let there : slice_get (row_at t.reached i) c.2 ≡ Some c.3 = subst (λ (k : ℕ). slice_get (row_at t.reached k) c.2 ≡ Some c.3) row c.4 in
        let weighs : c.3.weight ≡ weight_at d t e n = weight_cell_read e i number c.2 c.3 there ∙ ap (weight_at d t e) c.5 in
        (c.2, there ∙ ap Some (λ k. record { node = c.5 k; weight = weighs k }));
    apart = λ j k x y p q same. filed-apart spot_row spot_node one_spot node_of t.reached spots places laid.by_spot i j k x y p q same;
  }

  pub weight_row_none : (e : Entry) → (Has t.names e → ⊥) → IsRow d t e []
  weight_row_none e miss = record {
    weight = λ x p. let h = p.1 in cc;
    some = λ x p. let h = p.1 in cc;
    all = λ n nz. absurd (nz (weight_unnamed d t e miss n));
    apart = λ j k x y p q same. cc;
  }

  -- ---- weights at links
  -- a cell of the row of an entry
  link_cell_read : (e : Entry) (i : ℕ) → slice_get t.names i ≡ Some e → (j : ℕ) (x : Linked W) → slice_get (row_at t.parents i) j ≡ Some x → x.weight ≡ link_at d t e x.parent
  link_cell_read e i number j x h = sym (link_there d t laid.apart e i number x.parent
      ∙ row-cell entry.eq-value.it same_entry self_entry parent_of linked_weight d.zero (row_at t.parents i) j x h (λ k y g same. filed-apart joint_row joint_parent one_joint parent_of t.parents joints seats laid.by_joint i k j y x g h same))

  pub link_found : (s : Joint) (e : Entry) → slice_get t.names s.row ≡ Some e → (j : ℕ) → HasPlace joints seats s j → (x : Linked W) → slice_get (row_at t.parents s.row) j ≡ Some x → x.weight ≡ link_at d t e s.parent
  link_found s e number j at x h =
      let c = filed-cell joint_row joint_parent one_joint parent_of t.parents joints seats laid.by_joint s j at in
      let one : Some x ≡ Some c.cell = sym h ∙ c.there in
      let same : x ≡ c.cell = cc in
      link_cell_read e s.row number j x h ∙ ap (link_at d t e) (ap parent_of same ∙ c.same)

  pub link_missed : (s : Joint) (e : Entry) → slice_get t.names s.row ≡ Some e → (Has joints s → ⊥) → d.zero ≡ link_at d t e s.parent
  link_missed s e number miss = sym (link_there d t laid.apart e s.row number s.parent
      ∙ row-none entry.eq-value.it same_entry self_entry parent_of linked_weight d.zero (row_at t.parents s.row) s.parent (λ j x h. filed-missed joint_row joint_parent one_joint parent_of t.parents joints seats laid.by_joint s miss j x h))

  pub link_row : (e : Entry) (i : ℕ) → slice_get t.names i ≡ Some e → AreParents d t e (row_at t.parents i)
  link_row e i number = record {
    weight = λ x p. link_cell_read e i number p.0 x p.1;
    some = λ x p. laid.links_some i p.0 x p.1;
    all = λ n nz.
        let c = link_cell d t e n nz in
        let row : c.0 ≡ i = laid.apart c.0 i e c.1 number in
        let there : slice_get (row_at t.parents i) c.2 ≡ Some c.3 = subst (λ (k : ℕ). slice_get (row_at t.parents k) c.2 ≡ Some c.3) row c.4 in
        let weighs : c.3.weight ≡ link_at d t e n = link_cell_read e i number c.2 c.3 there ∙ ap (link_at d t e) c.5 in
        (c.2, there ∙ ap Some (λ k. record { parent = c.5 k; weight = weighs k }));
    apart = λ j k x y p q same. filed-apart joint_row joint_parent one_joint parent_of t.parents joints seats laid.by_joint i j k x y p q same;
  }

  pub link_row_none : (e : Entry) → (Has t.names e → ⊥) → AreParents d t e []
  link_row_none e miss = record {
    weight = λ x p. let h = p.1 in cc;
    some = λ x p. let h = p.1 in cc;
    all = λ n nz. absurd (nz (link_unnamed d t e miss n));
    apart = λ j k x y p q same. cc;
  }
