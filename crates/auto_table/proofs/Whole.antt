-- A table after a weight was combined in.
use Rattle.std.proofs.Common.{◌≡◌, inl, inr, ℕ, ◌<◌, List, [], ◌∷◌, ◌++◌, Some, length, slice_get, refl, sym, ap, subst, ◌∙◌, arith}
use Rattle.std.specs.List.{slice_set}
use Rattle.auto_table.specs.declared.entry.Entry.{Entry}
use Rattle.auto_table.specs.declared.spot.Spot.{Spot}
use Rattle.auto_table.specs.declared.spot.Joint.{Joint}
use Rattle.auto_table.specs.declared.row.Reached.{Reached}
use Rattle.auto_table.specs.declared.row.Linked.{Linked}
use Rattle.auto_table.specs.Cells.{Cells, weight_at, link_at, IsListed, IsRaised, IsRaisedLink, by_parent, node_of, parent_of}
use Rattle.auto_table.specs.Grids.{Cast, HasPlace, row_at}
use Rattle.auto_table.specs.Naming.{IsNamed, as_before, with_rows}
use Rattle.auto_table.specs.Inside.{IsLaid, IsTable, joint_parent, joint_row, spot_node, spot_row}
use Rattle.lists.specs.Lists.{Adds, Has}
use Rattle.lists.proofs.Places.{slice_get-below, slice_get-push, slice_get-there}
use Rattle.auto_table.proofs.Filed.{filed-cell, filed-none, row_at-beyond, row_at-grown, row_within, rows-new}
use Rattle.auto_table.proofs.Raises.{listed_blank, listed_raised, listed_raised_link, meant_blank}
use Rattle.auto_table.proofs.RowReads.{link_found}
use Rattle.auto_table.proofs.Tables.{grown_cells, grown_laid, grown_links, grown_weights, link_pushed_laid, link_pushed_raised, link_written_laid, link_written_raised, one_joint, one_spot, weight_pushed_laid, weight_pushed_raised, weight_written_laid, weight_written_raised}
use Rattle.auto_table.proofs.Weighed.{blank}
use Rattle.weight_laws.specs.Law.{Domain, IsLawful}

module _ {X : Type 0} (rows : List (List X)) (k : ℕ) (long : length rows ≡ k) where
  empty : row_at (rows ++ [] ∷ []) k ≡ []
  empty = row_at-grown rows k ∙ row_at-beyond rows k long

  -- a cell put into the row that came in last
  pub pushed-new : (y : X) → slice_set (rows ++ [] ∷ []) k (row_at (rows ++ [] ∷ []) k ++ y ∷ []) ≡ rows ++ (y ∷ []) ∷ []
  pushed-new y = ap (λ (r : List X). slice_set (rows ++ [] ∷ []) k (r ++ y ∷ [])) empty ∙ ap (λ (n : ℕ). slice_set (rows ++ [] ∷ []) n (y ∷ [])) (sym long) ∙ sym (rows-new rows (y ∷ []))

  pub place-new : length (row_at (rows ++ [] ∷ []) k) ≡ 0
  place-new = ap length empty

module _ {W : Type 0} (d : Domain W) (l : IsLawful W d) where
  -- no weights
  pub table_none : (t : Cells W) (spots : List Spot) (places : List ℕ) (joints : List Joint) (seats : List ℕ) → t.names ≡ [] → t.reached ≡ [] → t.parents ≡ [] → spots ≡ [] → places ≡ [] → joints ≡ [] → seats ≡ [] → IsTable d t spots places joints seats
  table_none t spots places joints seats n r p a b c e = record {
    listed = listed_blank d t (blank d t n) t.names n;
    laid = record {
      apart = λ i j x h g. let f : slice_get [] i ≡ Some x = subst (λ (ks : List Entry). slice_get ks i ≡ Some x) n h in cc;
      meant = meant_blank d l t (blank d t n);
      rows = ap length r ∙ sym (ap length n);
      parent_rows = ap length p ∙ sym (ap length n);
      by_spot = filed-none spot_row spot_node one_spot node_of t.reached spots places r a b;
      by_joint = filed-none joint_row joint_parent one_joint parent_of t.parents joints seats p c e;
      weights_some = λ i j x h. let f : slice_get (row_at [] i) j ≡ Some x = subst (λ (rs : List (List (Reached W))). slice_get (row_at rs i) j ≡ Some x) r h in cc;
      links_some = λ i j x h. let f : slice_get (row_at [] i) j ≡ Some x = subst (λ (rs : List (List (Linked W))). slice_get (row_at rs i) j ≡ Some x) p h in cc;
    };
  }

  module _ (t : Cells W) (spots : List Spot) (places : List ℕ) (joints : List Joint) (seats : List ℕ) (tab : IsTable d t spots places joints seats) where
    -- ---- no cell is in a row that isn't there
    pub spot_fresh : (s : Spot) → s.row ≡ length t.names → Has spots s → ⊥
    spot_fresh s e h =
        let low : h.0 < length places = omega (arith, slice_get-below spots h.0 s h.1, tab.laid.by_spot.as_many) in
        let p = slice_get-there places h.0 low in
        let c = tab.laid.by_spot.placed h.0 s p.0 h.1 p.1 in
        let within : s.row < length t.reached = row_within t.reached s.row p.0 c.cell c.there in
        let long = tab.laid.rows in omega arith

    pub joint_fresh : (s : Joint) → s.row ≡ length t.names → Has joints s → ⊥
    joint_fresh s e h =
        let low : h.0 < length seats = omega (arith, slice_get-below joints h.0 s h.1, tab.laid.by_joint.as_many) in
        let p = slice_get-there seats h.0 low in
        let c = tab.laid.by_joint.placed h.0 s p.0 h.1 p.1 in
        let within : s.row < length t.parents = row_within t.parents s.row p.0 c.cell c.there in
        let long = tab.laid.parent_rows in omega arith

    -- ---- a weight of an entry that has a number
    pub table_raised : (new : Cells W) (spots' : List Spot) (places' : List ℕ) (e : Entry) (n : ℕ) (w : W) → new.names ≡ t.names → IsLaid d new spots' places' joints seats → IsRaised d t new e n w → d.IsMeant w
        → (d.combine w (weight_at d t e n) ≡ weight_at d t e n → ⊥) → Has t.names e → IsTable d new spots' places' joints seats
    table_raised new spots' places' e n w same laid r mw not has = record {
      listed = subst (λ (ks : List Entry). IsListed d new ks) (sym same) (listed_raised d l t new e n w t.names t.names tab.listed r (tab.laid.meant.weights e n) mw not (inl (has, refl)));
      laid = laid;
    }

    -- ---- the first weight of an entry
    module _ (e : Entry) (new : Has t.names e → ⊥) (n : ℕ) (w v : W) (is : v ≡ d.combine (weight_at d t e n) w) (mw : d.IsMeant w) (not : d.combine w (weight_at d t e n) ≡ weight_at d t e n → ⊥) where
      abbrev pub first_spot : Spot
      first_spot = record { row = length t.names; node = n }

      abbrev pub first_weight : Reached W
      first_weight = record { node = n; weight = v }

      abbrev pub begun : Cells W
      begun = record { names = t.names ++ e ∷ []; reached = t.reached ++ (first_weight ∷ []) ∷ []; parents = t.parents ++ [] ∷ [] }

      abbrev mid : Cells W
      mid = grown_cells d l t spots places joints seats tab.laid e new

      same : weight_at d mid e n ≡ weight_at d t e n
      same = grown_weights d l t spots places joints seats tab.laid e new e n

      mid_laid : IsLaid d mid spots places joints seats
      mid_laid = grown_laid d l t spots places joints seats tab.laid e new

      mid_is : v ≡ d.combine (weight_at d mid e n) w
      mid_is = is ∙ ap (λ (x : W). d.combine x w) (sym same)

      mid_not : d.combine w (weight_at d mid e n) ≡ weight_at d mid e n → ⊥
      mid_not = subst (λ (x : W). d.combine w x ≡ x → ⊥) (sym same) not

      number : slice_get mid.names first_spot.row ≡ Some e
      number = slice_get-push t.names e

      rows_are : slice_set mid.reached (length t.names) (row_at mid.reached (length t.names) ++ first_weight ∷ []) ≡ begun.reached
      rows_are = pushed-new t.reached (length t.names) tab.laid.rows first_weight

      pub begun_raised : IsRaised d t begun e n w
      begun_raised =
          let r : IsRaised d mid begun e n w = subst (λ (rows : List (List (Reached W))). IsRaised d mid (record mid { reached = rows }) e n w) rows_are
          (weight_pushed_raised d l mid spots places joints seats mid_laid first_spot e number w v mid_is mw mid_not (spot_fresh first_spot refl)) in
          record {
            here = r.here ∙ ap (λ (x : W). d.combine x w) same;
            others = λ x m differ. r.others x m differ ∙ grown_weights d l t spots places joints seats tab.laid e new x m;
            links = λ c p. r.links c p ∙ grown_links d l t spots places joints seats tab.laid e new c p;
          }

      pub begun_table : IsTable d begun (spots ++ first_spot ∷ []) (places ++ 0 ∷ []) joints seats
      begun_table = record {
        listed = listed_raised d l t begun e n w t.names begun.names tab.listed begun_raised (tab.laid.meant.weights e n) mw not (inr (new, refl));
        laid = subst (λ (rows : List (List (Reached W))). IsLaid d (record mid { reached = rows }) (spots ++ first_spot ∷ []) (places ++ 0 ∷ []) joints seats) rows_are
            (subst (λ (k : ℕ). IsLaid d (record mid { reached = slice_set mid.reached (length t.names) (row_at mid.reached (length t.names) ++ first_weight ∷ []) }) (spots ++ first_spot ∷ []) (places ++ k ∷ []) joints seats)
            (place-new t.reached (length t.names) tab.laid.rows)
            (weight_pushed_laid d l mid spots places joints seats mid_laid first_spot e number w v mid_is mw mid_not (spot_fresh first_spot refl)));
      }

    -- ---- the first link of a child
    module _ (c : Entry) (new : Has t.names c → ⊥) (p : Entry) (w v : W) (is : v ≡ d.combine (link_at d t c p) w) (mw : d.IsMeant w) (not : d.combine w (link_at d t c p) ≡ link_at d t c p → ⊥) where
      abbrev pub first_joint : Joint
      first_joint = record { row = length t.names; parent = p }

      abbrev pub first_link : Linked W
      first_link = record { parent = p; weight = v }

      abbrev pub begun_above : Cells W
      begun_above = record { names = t.names ++ c ∷ []; reached = t.reached ++ [] ∷ []; parents = t.parents ++ (first_link ∷ []) ∷ [] }

      abbrev between : Cells W
      between = grown_cells d l t spots places joints seats tab.laid c new

      same_link : link_at d between c p ≡ link_at d t c p
      same_link = grown_links d l t spots places joints seats tab.laid c new c p

      between_laid : IsLaid d between spots places joints seats
      between_laid = grown_laid d l t spots places joints seats tab.laid c new

      between_is : v ≡ d.combine (link_at d between c p) w
      between_is = is ∙ ap (λ (x : W). d.combine x w) (sym same_link)

      between_not : d.combine w (link_at d between c p) ≡ link_at d between c p → ⊥
      between_not = subst (λ (x : W). d.combine w x ≡ x → ⊥) (sym same_link) not

      child_number : slice_get between.names first_joint.row ≡ Some c
      child_number = slice_get-push t.names c

      parents_are : slice_set between.parents (length t.names) (row_at between.parents (length t.names) ++ first_link ∷ []) ≡ begun_above.parents
      parents_are = pushed-new t.parents (length t.names) tab.laid.parent_rows first_link

      pub begun_above_raised : IsRaisedLink d t begun_above c p w
      begun_above_raised =
          let r : IsRaisedLink d between begun_above c p w = subst (λ (rows : List (List (Linked W))). IsRaisedLink d between (record between { parents = rows }) c p w) parents_are
          (link_pushed_raised d l between spots places joints seats between_laid first_joint c child_number w v between_is mw between_not (joint_fresh first_joint refl)) in
          record {
            here = r.here ∙ ap (λ (x : W). d.combine x w) same_link;
            others = λ x q differ. r.others x q differ ∙ grown_links d l t spots places joints seats tab.laid c new x q;
            weights = λ x n. r.weights x n ∙ grown_weights d l t spots places joints seats tab.laid c new x n;
          }

      pub begun_above_laid : IsLaid d begun_above spots places (joints ++ first_joint ∷ []) (seats ++ 0 ∷ [])
      begun_above_laid = subst (λ (rows : List (List (Linked W))). IsLaid d (record between { parents = rows }) spots places (joints ++ first_joint ∷ []) (seats ++ 0 ∷ [])) parents_are
          (subst (λ (k : ℕ). IsLaid d (record between { parents = slice_set between.parents (length t.names) (row_at between.parents (length t.names) ++ first_link ∷ []) }) spots places (joints ++ first_joint ∷ []) (seats ++ k ∷ []))
          (place-new t.parents (length t.names) tab.laid.parent_rows)
          (link_pushed_laid d l between spots places joints seats between_laid first_joint c child_number w v between_is mw between_not (joint_fresh first_joint refl)))

    -- ---- a link was combined in, and then the parent gets a number where it has none
    module _ (c p : Entry) (w : W) (mw : d.IsMeant w) (not : d.combine w (link_at d t c p) ≡ link_at d t c p → ⊥) (after : Cells W) (joints' : List Joint) (seats' : List ℕ)
        (laid : IsLaid d after spots places joints' seats') (r : IsRaisedLink d t after c p w) (adds : Adds t.names c after.names) where
      pub linked_before : Has after.names p → IsTable d after spots places joints' seats'
      linked_before has = record {
        listed = listed_raised_link d l t after c p w t.names after.names after.names tab.listed r (tab.laid.meant.links c p) mw not adds (inl (has, refl));
        laid = laid;
      }

      module _ (new : Has after.names p → ⊥) where
        abbrev last : Cells W
        last = grown_cells d l after spots places joints' seats' laid p new

        pub linked_raised : IsRaisedLink d t last c p w
        linked_raised = record {
          here = grown_links d l after spots places joints' seats' laid p new c p ∙ r.here;
          others = λ x q differ. grown_links d l after spots places joints' seats' laid p new x q ∙ r.others x q differ;
          weights = λ x n. grown_weights d l after spots places joints' seats' laid p new x n ∙ r.weights x n;
        }

        pub linked_rows : IsTable d last spots places joints' seats'
        linked_rows = record {
          listed = listed_raised_link d l t last c p w t.names after.names last.names tab.listed linked_raised (tab.laid.meant.links c p) mw not adds (inr (new, refl));
          laid = grown_laid d l after spots places joints' seats' laid p new;
        }

-- ---- as the methods call it: what a table means is `now`, and the old weight was read of it
module _ {W : Type 0} (d : Domain W) (l : IsLawful W d) (t : Cells W) (spots : List Spot) (places : List ℕ) (joints : List Joint) (seats : List ℕ) (tab : IsTable d t spots places joints seats)
    (now : Cells W) (view : t ≡ now) (w old v : W) (is : v ≡ d.combine old w) (mw : d.IsMeant w) (not : d.combine w old ≡ old → ⊥) where
  module _ (e : Entry) (n : ℕ) (at : old ≡ weight_at d now e n) where
    pub was : old ≡ weight_at d t e n
    was = at ∙ ap (λ (z : Cells W). weight_at d z e n) (sym view)

    pub combined : v ≡ d.combine (weight_at d t e n) w
    combined = is ∙ ap (λ (x : W). d.combine x w) was

    pub above : d.combine w (weight_at d t e n) ≡ weight_at d t e n → ⊥
    above = subst (λ (x : W). d.combine w x ≡ x → ⊥) was not

    of_now : (new : Cells W) → IsRaised d t new e n w → IsRaised d now new e n w
    of_now new r = subst (λ (z : Cells W). IsRaised d z new e n w) view r

    module _ (i : ℕ) (number : slice_get t.names i ≡ Some e) where
      abbrev spot : Spot
      spot = record { row = i; node = n }

      abbrev cell : Reached W
      cell = record { node = n; weight = v }

      module _ (j : ℕ) (found : HasPlace spots places spot j) where
        abbrev pub over : Cells W
        over = record t { reached = slice_set t.reached i (slice_set (row_at t.reached i) j cell) }

        pub over_raised : IsRaised d now over e n w
        over_raised = of_now over (weight_written_raised d l t spots places joints seats tab.laid spot e number w v combined mw above j found)

        pub over_table : IsTable d over spots places joints seats
        over_table = table_raised d l t spots places joints seats tab over spots places e n w refl (weight_written_laid d l t spots places joints seats tab.laid spot e number w v combined mw above j found)
            (weight_written_raised d l t spots places joints seats tab.laid spot e number w v combined mw above j found) mw above (i, number)

      module _ (new : Has spots spot → ⊥) where
        abbrev pub behind : Cells W
        behind = record t { reached = slice_set t.reached i (row_at t.reached i ++ cell ∷ []) }

        pub behind_raised : IsRaised d now behind e n w
        behind_raised = of_now behind (weight_pushed_raised d l t spots places joints seats tab.laid spot e number w v combined mw above new)

        pub behind_table : IsTable d behind (spots ++ spot ∷ []) (places ++ length (row_at t.reached i) ∷ []) joints seats
        behind_table = table_raised d l t spots places joints seats tab behind (spots ++ spot ∷ []) (places ++ length (row_at t.reached i) ∷ []) e n w refl
            (weight_pushed_laid d l t spots places joints seats tab.laid spot e number w v combined mw above new) (weight_pushed_raised d l t spots places joints seats tab.laid spot e number w v combined mw above new) mw above (i, number)

    module _ (new : Has t.names e → ⊥) where
      pub first_raised : IsRaised d now (begun d l t spots places joints seats tab e new n w v combined mw above) e n w
      first_raised = of_now (begun d l t spots places joints seats tab e new n w v combined mw above) (begun_raised d l t spots places joints seats tab e new n w v combined mw above)

      pub first_table : IsTable d (begun d l t spots places joints seats tab e new n w v combined mw above) (spots ++ record { row = length t.names; node = n } ∷ []) (places ++ 0 ∷ []) joints seats
      first_table = begun_table d l t spots places joints seats tab e new n w v combined mw above

  module _ (c p : Entry) (at : old ≡ link_at d now c p) where
    pub link_was : old ≡ link_at d t c p
    link_was = at ∙ ap (λ (z : Cells W). link_at d z c p) (sym view)

    pub link_combined : v ≡ d.combine (link_at d t c p) w
    link_combined = is ∙ ap (λ (x : W). d.combine x w) link_was

    pub link_above : d.combine w (link_at d t c p) ≡ link_at d t c p → ⊥
    link_above = subst (λ (x : W). d.combine w x ≡ x → ⊥) link_was not

    link_of_now : (new : Cells W) → IsRaisedLink d t new c p w → IsRaisedLink d now new c p w
    link_of_now new r = subst (λ (z : Cells W). IsRaisedLink d z new c p w) view r

    -- a link was combined in, and the parent was named
    named_after : (after : Cells W) (joints' : List Joint) (seats' : List ℕ) → IsLaid d after spots places joints' seats' → IsRaisedLink d t after c p w → Adds t.names c after.names
        → (weights weights' : Cast Spot (Reached W)) (links links' : Cast Joint (Linked W)) (names' : List Entry) → weights.rows ≡ after.reached → weights.keys ≡ spots → weights.places ≡ places → links.rows ≡ after.parents → links.keys ≡ joints' → links.places ≡ seats'
        → IsNamed p after.names names' weights weights' links links'
        → IsTable d (record { names = names'; reached = weights'.rows; parents = links'.rows }) weights'.keys weights'.places links'.keys links'.places × IsRaisedLink d now (record { names = names'; reached = weights'.rows; parents = links'.rows }) c p w
    named_after after joints' seats' laid r adds weights weights' links links' names' a b e f g h (as_before has k m n) =
        rw (k, m, n, a, b, e, f, g, h) (linked_before d l t spots places joints seats tab c p w mw link_above after joints' seats' laid r adds has, link_of_now after r)
    named_after after joints' seats' laid r adds weights weights' links links' names' a b e f g h (with_rows new k m n) =
        rw (k, m, n, a, b, e, f, g, h) (linked_rows d l t spots places joints seats tab c p w mw link_above after joints' seats' laid r adds new, link_of_now _ (linked_raised d l t spots places joints seats tab c p w mw link_above after joints' seats' laid r adds new))

    module _ (i : ℕ) (number : slice_get t.names i ≡ Some c) where
      abbrev joint : Joint
      joint = record { row = i; parent = p }

      abbrev link_cell : Linked W
      link_cell = record { parent = p; weight = v }

      module _ (j : ℕ) (found : HasPlace joints seats joint j) where
        abbrev pub link_over : Cells W
        link_over = record t { parents = slice_set t.parents i (slice_set (row_at t.parents i) j link_cell) }

        pub link_over_raised : IsRaisedLink d now link_over c p w
        link_over_raised = link_of_now link_over (link_written_raised d l t spots places joints seats tab.laid joint c number w v link_combined mw link_above j found)

        pub link_over_table : IsTable d link_over spots places joints seats
        link_over_table = linked_before d l t spots places joints seats tab c p w mw link_above link_over joints seats (link_written_laid d l t spots places joints seats tab.laid joint c number w v link_combined mw link_above j found)
            (link_written_raised d l t spots places joints seats tab.laid joint c number w v link_combined mw link_above j found) (inl ((i, number), refl))
            (tab.listed.all p (by_parent c (λ z. let cell = filed-cell joint_row joint_parent one_joint parent_of t.parents joints seats tab.laid.by_joint joint j found in
            tab.laid.links_some i j cell.cell cell.there (link_found d t spots places joints seats tab.laid joint c number j found cell.cell cell.there ∙ z))))

      module _ (new : Has joints joint → ⊥) (weights weights' : Cast Spot (Reached W)) (links' : Cast Joint (Linked W)) (room : ℕ) (names' : List Entry) (a : weights.rows ≡ t.reached) (b : weights.keys ≡ spots) (e : weights.places ≡ places)
          (named : IsNamed p t.names names' weights weights' (record { rows = slice_set t.parents i (row_at t.parents i ++ link_cell ∷ []); keys = joints ++ joint ∷ []; places = seats ++ length (row_at t.parents i) ∷ []; room = room }) links') where
        pub link_behind : IsTable d (record { names = names'; reached = weights'.rows; parents = links'.rows }) weights'.keys weights'.places links'.keys links'.places × IsRaisedLink d now (record { names = names'; reached = weights'.rows; parents = links'.rows }) c p w
        link_behind = named_after (record t { parents = slice_set t.parents i (row_at t.parents i ++ link_cell ∷ []) }) (joints ++ joint ∷ []) (seats ++ length (row_at t.parents i) ∷ [])
            (link_pushed_laid d l t spots places joints seats tab.laid joint c number w v link_combined mw link_above new) (link_pushed_raised d l t spots places joints seats tab.laid joint c number w v link_combined mw link_above new)
            (inl ((i, number), refl)) weights weights' (record { rows = slice_set t.parents i (row_at t.parents i ++ link_cell ∷ []); keys = joints ++ joint ∷ []; places = seats ++ length (row_at t.parents i) ∷ []; room = room }) links' names' a b e refl refl refl named

    module _ (new : Has t.names c → ⊥) (weights weights' : Cast Spot (Reached W)) (links' : Cast Joint (Linked W)) (room : ℕ) (names' : List Entry) (a : weights.rows ≡ t.reached ++ [] ∷ []) (b : weights.keys ≡ spots) (e : weights.places ≡ places)
        (named : IsNamed p (t.names ++ c ∷ []) names' weights weights' (record { rows = t.parents ++ (record { parent = p; weight = v } ∷ []) ∷ []; keys = joints ++ record { row = length t.names; parent = p } ∷ []; places = seats ++ 0 ∷ []; room = room }) links') where
      pub first_link_named : IsTable d (record { names = names'; reached = weights'.rows; parents = links'.rows }) weights'.keys weights'.places links'.keys links'.places × IsRaisedLink d now (record { names = names'; reached = weights'.rows; parents = links'.rows }) c p w
      first_link_named = named_after (begun_above d l t spots places joints seats tab c new p w v link_combined mw link_above) (joints ++ record { row = length t.names; parent = p } ∷ []) (seats ++ 0 ∷ [])
          (begun_above_laid d l t spots places joints seats tab c new p w v link_combined mw link_above) (begun_above_raised d l t spots places joints seats tab c new p w v link_combined mw link_above)
          (inr (new, refl)) weights weights' (record { rows = t.parents ++ (record { parent = p; weight = v } ∷ []) ∷ []; keys = joints ++ record { row = length t.names; parent = p } ∷ []; places = seats ++ 0 ∷ []; room = room }) links' names' a b e refl refl refl named
