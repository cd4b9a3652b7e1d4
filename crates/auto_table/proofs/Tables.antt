-- The fields of a table after one weight was combined in, or after an entry got a number.
use Rattle.std.proofs.Common.{◌≡◌, ◌≢◌, inl, inr, ℕ, ◌<◌, List, [], ◌∷◌, ◌++◌, Some, length, slice_get, refl, sym, ap, subst, ◌∙◌, eqb, arith, length-append}
use Rattle.std.specs.List.{slice_set}
use Rattle.auto_table.specs.declared.entry.Entry.{Entry}
use Rattle.auto_table.specs.declared.spot.Spot.{Spot}
use Rattle.auto_table.specs.declared.spot.Joint.{Joint}
use Rattle.auto_table.specs.declared.row.Reached.{Reached}
use Rattle.auto_table.specs.declared.row.Linked.{Linked}
use Rattle.auto_table.specs.contracts.entry.EntryPartialEq.TheImpl as entry
use Rattle.auto_table.specs.Cells.{Cells, weight_at, link_at, node_of, parent_of, reached_weight, linked_weight, IsRaised, IsRaisedLink}
use Rattle.auto_table.specs.Grids.{HasPlace, IsFiled, IsPlaced, row_at}
use Rattle.auto_table.specs.Inside.{IsLaid, joint_parent, joint_row, spot_node, spot_row}
use Rattle.lists.specs.Lists.{Has}
use Rattle.lists.proofs.Places.{IsApart-push, slice_get-below}
use Rattle.auto_table.proofs.Filed.{filed-apart, filed-cell, filed-grown, filed-pushed, filed-written, pushed, pushed-cell, pushed-here, row_at-grown, row_at-set_same, rows-set, written, written-cell, written-here}
use Rattle.auto_table.proofs.Found.{row-cell, row-push, row-set}
use Rattle.auto_table.proofs.Raises.{meant_raised, meant_raised_link}
use Rattle.auto_table.proofs.Same.{same_entry, self_entry}
use Rattle.auto_table.proofs.Weighed.{grown_link, grown_weight, in_links, in_weights, raised_above, raised_row, same_node, self_node}
use Rattle.weight_laws.specs.Law.{Domain, IsLawful}
use Rattle.weight_laws.proofs.Orders.{raised_nonzero}

pub one_spot : (s t : Spot) → s.row ≡ t.row → s.node ≡ t.node → s ≡ t
one_spot s t a b = λ i. record { row = a i; node = b i }

pub one_joint : (s t : Joint) → s.row ≡ t.row → s.parent ≡ t.parent → s ≡ t
one_joint s t a b = λ i. record { row = a i; parent = b i }

module _ {W : Type 0} (d : Domain W) (l : IsLawful W d) where
  -- ---- an entry gets a number, and empty rows
  module _ (t : Cells W) (spots : List Spot) (places : List ℕ) (joints : List Joint) (seats : List ℕ) (laid : IsLaid d t spots places joints seats) (k : Entry) (new : Has t.names k → ⊥) where
    abbrev pub grown_cells : Cells W
    grown_cells = record { names = t.names ++ k ∷ []; reached = t.reached ++ [] ∷ []; parents = t.parents ++ [] ∷ [] }

    pub grown_weights : (e : Entry) (n : ℕ) → weight_at d grown_cells e n ≡ weight_at d t e n
    grown_weights e n = grown_weight d t.names t.reached t.parents (t.parents ++ [] ∷ []) k laid.rows e n

    pub grown_links : (c p : Entry) → link_at d grown_cells c p ≡ link_at d t c p
    grown_links c p = grown_link d t.names t.reached (t.reached ++ [] ∷ []) t.parents k laid.parent_rows c p

    pub grown_laid : IsLaid d grown_cells spots places joints seats
    grown_laid = record {
      apart = IsApart-push t.names k laid.apart new;
      meant = record {
        weights = λ e n. subst (λ (x : W). d.IsMeant x) (sym (grown_weights e n)) (laid.meant.weights e n);
        links = λ c p. subst (λ (x : W). d.IsMeant x) (sym (grown_links c p)) (laid.meant.links c p);
      };
      rows = omega (arith, laid.rows, length-append t.reached ([] ∷ []), length-append t.names (k ∷ []));
      parent_rows = omega (arith, laid.parent_rows, length-append t.parents ([] ∷ []), length-append t.names (k ∷ []));
      by_spot = filed-grown spot_row spot_node one_spot node_of t.reached spots places laid.by_spot;
      by_joint = filed-grown joint_row joint_parent one_joint parent_of t.parents joints seats laid.by_joint;
      weights_some = λ i j x h. laid.weights_some i j x (sym (ap (λ (r : List (Reached W)). slice_get r j) (row_at-grown t.reached i)) ∙ h);
      links_some = λ i j x h. laid.links_some i j x (sym (ap (λ (r : List (Linked W)). slice_get r j) (row_at-grown t.parents i)) ∙ h);
    }

  -- ---- a weight at a node
  module _ (t : Cells W) (spots : List Spot) (places : List ℕ) (joints : List Joint) (seats : List ℕ) (laid : IsLaid d t spots places joints seats)
      (s : Spot) (e : Entry) (number : slice_get t.names s.row ≡ Some e) (w v : W) (is : v ≡ d.combine (weight_at d t e s.node) w) (mw : d.IsMeant w) (not : d.combine w (weight_at d t e s.node) ≡ weight_at d t e s.node → ⊥) where
    abbrev pub weight_cell : Reached W
    weight_cell = record { node = s.node; weight = v }

    weight_some : v ≢ d.zero
    weight_some z = raised_nonzero l (weight_at d t e s.node) w (laid.meant.weights e s.node) mw not (sym is ∙ z)

    pub weight_row : s.row < length t.reached
    weight_row = let low : s.row < length t.names = slice_get-below t.names s.row e number in let long = laid.rows in omega arith

    -- over one that is there
    module _ (j : ℕ) (at : HasPlace spots places s j) where
      weight_old : IsPlaced spot_row spot_node node_of t.reached s j
      weight_old = filed-cell spot_row spot_node one_spot node_of t.reached spots places laid.by_spot s j at

      pub weight_in_row : j < length (row_at t.reached s.row)
      weight_in_row = slice_get-below (row_at t.reached s.row) j weight_old.cell weight_old.there

      abbrev pub weight_written : Cells W
      weight_written = record t { reached = written t.reached s.row weight_row weight_cell j weight_in_row }

      weight_written_filed : IsFiled spot_row spot_node node_of weight_written.reached spots places
      weight_written_filed = filed-written spot_row spot_node one_spot node_of t.reached spots places laid.by_spot s j at weight_cell refl

      pub weight_written_raised : IsRaised d t weight_written e s.node w
      weight_written_raised = raised_row d t laid.apart e s.row number w v s.node (slice_set (row_at t.reached s.row) j weight_cell) weight_row
          (ap (in_weights d s.node) (sym (row_at-set_same t.reached s.row (slice_set (row_at t.reached s.row) j weight_cell) weight_row))
          ∙ row-cell eqb same_node self_node node_of reached_weight d.zero (row_at weight_written.reached s.row) j weight_cell (written-here t.reached s.row weight_row weight_cell j weight_in_row)
          (λ k y h g. filed-apart spot_row spot_node one_spot node_of weight_written.reached spots places weight_written_filed s.row k j y weight_cell h (written-here t.reached s.row weight_row weight_cell j weight_in_row) g))
          is
          (λ m other. row-set eqb same_node self_node node_of reached_weight d.zero (row_at t.reached s.row) j weight_old.cell weight_cell m weight_old.there (sym weight_old.same) other)

      pub weight_written_laid : IsLaid d weight_written spots places joints seats
      weight_written_laid = record {
        apart = laid.apart;
        meant = meant_raised d l t weight_written e s.node w laid.meant mw weight_written_raised;
        rows = rows-set t.reached s.row (slice_set (row_at t.reached s.row) j weight_cell) ∙ laid.rows;
        parent_rows = laid.parent_rows;
        by_spot = weight_written_filed;
        by_joint = laid.by_joint;
        weights_some = λ k i x h. elim (written-cell t.reached s.row weight_row weight_cell j weight_in_row k i x h) [
          | inl c ↦ λ z. weight_some (ap reached_weight (sym c.2) ∙ z)
          | inr o ↦ laid.weights_some k i x o
        ];
        links_some = laid.links_some;
      }

    -- one that comes in
    module _ (new : Has spots s → ⊥) where
      abbrev pub weight_pushed : Cells W
      weight_pushed = record t { reached = pushed t.reached s.row weight_row weight_cell }

      weight_pushed_filed : IsFiled spot_row spot_node node_of weight_pushed.reached (spots ++ s ∷ []) (places ++ length (row_at t.reached s.row) ∷ [])
      weight_pushed_filed = filed-pushed spot_row spot_node one_spot node_of t.reached spots places laid.by_spot s new weight_cell refl weight_row

      pub weight_pushed_raised : IsRaised d t weight_pushed e s.node w
      weight_pushed_raised = raised_row d t laid.apart e s.row number w v s.node (row_at t.reached s.row ++ weight_cell ∷ []) weight_row
          (ap (in_weights d s.node) (sym (row_at-set_same t.reached s.row (row_at t.reached s.row ++ weight_cell ∷ []) weight_row))
          ∙ row-cell eqb same_node self_node node_of reached_weight d.zero (row_at weight_pushed.reached s.row) (length (row_at t.reached s.row)) weight_cell (pushed-here t.reached s.row weight_row weight_cell)
          (λ k y h g. filed-apart spot_row spot_node one_spot node_of weight_pushed.reached (spots ++ s ∷ []) (places ++ length (row_at t.reached s.row) ∷ []) weight_pushed_filed s.row k (length (row_at t.reached s.row)) y weight_cell h (pushed-here t.reached s.row weight_row weight_cell) g))
          is
          (λ m other. row-push eqb same_node self_node node_of reached_weight d.zero (row_at t.reached s.row) weight_cell m other)

      pub weight_pushed_laid : IsLaid d weight_pushed (spots ++ s ∷ []) (places ++ length (row_at t.reached s.row) ∷ []) joints seats
      weight_pushed_laid = record {
        apart = laid.apart;
        meant = meant_raised d l t weight_pushed e s.node w laid.meant mw weight_pushed_raised;
        rows = rows-set t.reached s.row (row_at t.reached s.row ++ weight_cell ∷ []) ∙ laid.rows;
        parent_rows = laid.parent_rows;
        by_spot = weight_pushed_filed;
        by_joint = laid.by_joint;
        weights_some = λ k i x h. elim (pushed-cell t.reached s.row weight_row weight_cell k i x h) [
          | inl c ↦ λ z. weight_some (ap reached_weight (sym c.2) ∙ z)
          | inr o ↦ laid.weights_some k i x o
        ];
        links_some = laid.links_some;
      }

  -- ---- a weight at a link
  module _ (t : Cells W) (spots : List Spot) (places : List ℕ) (joints : List Joint) (seats : List ℕ) (laid : IsLaid d t spots places joints seats)
      (s : Joint) (e : Entry) (number : slice_get t.names s.row ≡ Some e) (w v : W) (is : v ≡ d.combine (link_at d t e s.parent) w) (mw : d.IsMeant w) (not : d.combine w (link_at d t e s.parent) ≡ link_at d t e s.parent → ⊥) where
    abbrev pub link_cell : Linked W
    link_cell = record { parent = s.parent; weight = v }

    link_some : v ≢ d.zero
    link_some z = raised_nonzero l (link_at d t e s.parent) w (laid.meant.links e s.parent) mw not (sym is ∙ z)

    pub link_row : s.row < length t.parents
    link_row = let low : s.row < length t.names = slice_get-below t.names s.row e number in let long = laid.parent_rows in omega arith

    -- over one that is there
    module _ (j : ℕ) (at : HasPlace joints seats s j) where
      link_old : IsPlaced joint_row joint_parent parent_of t.parents s j
      link_old = filed-cell joint_row joint_parent one_joint parent_of t.parents joints seats laid.by_joint s j at

      pub link_in_row : j < length (row_at t.parents s.row)
      link_in_row = slice_get-below (row_at t.parents s.row) j link_old.cell link_old.there

      abbrev pub link_written : Cells W
      link_written = record t { parents = written t.parents s.row link_row link_cell j link_in_row }

      link_written_filed : IsFiled joint_row joint_parent parent_of link_written.parents joints seats
      link_written_filed = filed-written joint_row joint_parent one_joint parent_of t.parents joints seats laid.by_joint s j at link_cell refl

      pub link_written_raised : IsRaisedLink d t link_written e s.parent w
      link_written_raised = raised_above d t laid.apart e s.row number w v s.parent (slice_set (row_at t.parents s.row) j link_cell) link_row
          (ap (in_links d s.parent) (sym (row_at-set_same t.parents s.row (slice_set (row_at t.parents s.row) j link_cell) link_row))
          ∙ row-cell entry.eq-value.it same_entry self_entry parent_of linked_weight d.zero (row_at link_written.parents s.row) j link_cell (written-here t.parents s.row link_row link_cell j link_in_row)
          (λ k y h g. filed-apart joint_row joint_parent one_joint parent_of link_written.parents joints seats link_written_filed s.row k j y link_cell h (written-here t.parents s.row link_row link_cell j link_in_row) g))
          is
          (λ m other. row-set entry.eq-value.it same_entry self_entry parent_of linked_weight d.zero (row_at t.parents s.row) j link_old.cell link_cell m link_old.there (sym link_old.same) other)

      pub link_written_laid : IsLaid d link_written spots places joints seats
      link_written_laid = record {
        apart = laid.apart;
        meant = meant_raised_link d l t link_written e s.parent w laid.meant mw link_written_raised;
        parent_rows = rows-set t.parents s.row (slice_set (row_at t.parents s.row) j link_cell) ∙ laid.parent_rows;
        rows = laid.rows;
        by_joint = link_written_filed;
        by_spot = laid.by_spot;
        links_some = λ k i x h. elim (written-cell t.parents s.row link_row link_cell j link_in_row k i x h) [
          | inl c ↦ λ z. link_some (ap linked_weight (sym c.2) ∙ z)
          | inr o ↦ laid.links_some k i x o
        ];
        weights_some = laid.weights_some;
      }

    -- one that comes in
    module _ (new : Has joints s → ⊥) where
      abbrev pub link_pushed : Cells W
      link_pushed = record t { parents = pushed t.parents s.row link_row link_cell }

      link_pushed_filed : IsFiled joint_row joint_parent parent_of link_pushed.parents (joints ++ s ∷ []) (seats ++ length (row_at t.parents s.row) ∷ [])
      link_pushed_filed = filed-pushed joint_row joint_parent one_joint parent_of t.parents joints seats laid.by_joint s new link_cell refl link_row

      pub link_pushed_raised : IsRaisedLink d t link_pushed e s.parent w
      link_pushed_raised = raised_above d t laid.apart e s.row number w v s.parent (row_at t.parents s.row ++ link_cell ∷ []) link_row
          (ap (in_links d s.parent) (sym (row_at-set_same t.parents s.row (row_at t.parents s.row ++ link_cell ∷ []) link_row))
          ∙ row-cell entry.eq-value.it same_entry self_entry parent_of linked_weight d.zero (row_at link_pushed.parents s.row) (length (row_at t.parents s.row)) link_cell (pushed-here t.parents s.row link_row link_cell)
          (λ k y h g. filed-apart joint_row joint_parent one_joint parent_of link_pushed.parents (joints ++ s ∷ []) (seats ++ length (row_at t.parents s.row) ∷ []) link_pushed_filed s.row k (length (row_at t.parents s.row)) y link_cell h (pushed-here t.parents s.row link_row link_cell) g))
          is
          (λ m other. row-push entry.eq-value.it same_entry self_entry parent_of linked_weight d.zero (row_at t.parents s.row) link_cell m other)

      pub link_pushed_laid : IsLaid d link_pushed spots places (joints ++ s ∷ []) (seats ++ length (row_at t.parents s.row) ∷ [])
      link_pushed_laid = record {
        apart = laid.apart;
        meant = meant_raised_link d l t link_pushed e s.parent w laid.meant mw link_pushed_raised;
        parent_rows = rows-set t.parents s.row (row_at t.parents s.row ++ link_cell ∷ []) ∙ laid.parent_rows;
        rows = laid.rows;
        by_joint = link_pushed_filed;
        by_spot = laid.by_spot;
        links_some = λ k i x h. elim (pushed-cell t.parents s.row link_row link_cell k i x h) [
          | inl c ↦ λ z. link_some (ap linked_weight (sym c.2) ∙ z)
          | inr o ↦ laid.links_some k i x o
        ];
        weights_some = laid.weights_some;
      }
