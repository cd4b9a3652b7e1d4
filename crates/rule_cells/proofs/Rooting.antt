-- Cells are made by roots: a node takes the root of the node before it.
use Rattle.std.proofs.Common.{◌≡◌, ◌≢◌, ◌<◌, ◌≤◌, ◌+◌, ℕ, List, length, slice_get, slice_set, Some, cond, length-set, refl, sym, ap, ◌∙◌, subst, inl, inr, arith}
use Rattle.std.proofs.Math.Dec.{eqb}
use Rattle.std.proofs.lemmas.Bool.{cases_eq, cases_lt, cases_order, eq-eqb, ne_eqb}
use Rattle.std.proofs.lemmas.List.{get_or-set_other, get_or-set_same, get_or_past}
use Rattle.std.proofs.lemmas.Option.{get_or_from_slice_get}
use Rattle.auto_table.specs.declared.rule.Rule.{Rule}
use Rattle.auto_table.specs.declared.rule.Rule.TheVariants.{Flow}
use Rattle.lists.proofs.Places.{slice_get-below, slice_get-there}
use Rattle.post_star.specs.Works.{AreTold}
use Rattle.weight_laws.specs.Law.{Domain, IsLawful}
use Rattle.rule_cells.specs.declared.cells.Cell.{Cell}
use Rattle.rule_cells.specs.declared.entered.Entered.{Entered}
use Rattle.rule_cells.specs.declared.entered.Entered.TheVariants.{Never, Once, Otherwise}
use Rattle.rule_cells.specs.Cells.{IsCarried, IsCarriedFrom, here, further}
use Rattle.rule_cells.specs.Entered.{AreEntered, HaveNodesBefore}
use Rattle.rule_cells.specs.Forests.{AreFlat, AreRooted, IsConverged, IsForest, IsRootOf, KeepsRoots, joined_cell, shorter}
use Rattle.rule_cells.specs.Made.{cell_at, head_at, offset_at, own_cell}
use Rattle.rule_cells.proofs.Carrying.{carried_on}

-- the entries have the nodes before, and no others
pub nodes_before : {W : Type 0} (count : ℕ) (rules : List (Rule W)) (kept : List ℕ) (entries : List (Entered W)) → AreEntered count rules kept entries
    → HaveNodesBefore count rules kept entries
nodes_before {W} count rules kept entries are = record {
  is_carried = λ m n w at. (are.each n (Once m w) at).0;
  all = λ m n w few low carried. let e = slice_get-there entries n (let many = are.many in omega (arith, many, few)) in by m n w low carried e.0 e.1;
}
  where
    by : (m n : ℕ) (w : W) → m < count → IsCarried rules kept m n w → (x : Entered W) → slice_get entries n ≡ Some x → slice_get entries n ≡ Some (Once m w)
    by m n w low carried Never at = absurd ((are.each n Never at).1 _ carried.flow refl)
    by m n w low carried Otherwise at = absurd (are.each n Otherwise at m w low carried.only carried.free)
    by m n w low carried (Once from weight) at =
        let is = carried.only (Flow from n weight) (are.each n (Once from weight) at).0.flow refl in
        let same : from ≡ m = cc in
        let weighs : weight ≡ w = cc in
        cc

-- one cell is written
module _ {W : Type 0} (d : Domain W) (cells : List (Cell W)) (n : ℕ) (c : Cell W) (below : n < length cells) where
  written_here : cell_at d (slice_set cells n c) n ≡ c
  written_here = get_or-set_same cells n c (own_cell d n) below

  written_other : (m : ℕ) → m ≢ n → cell_at d (slice_set cells n c) m ≡ cell_at d cells m
  written_other m apart = get_or-set_other cells n m c (own_cell d m) apart

  by_cell : (P : ℕ → Cell W → Type 0) → P n c → ((k : ℕ) → k ≢ n → P k (cell_at d cells k)) → (k : ℕ) → P k (cell_at d (slice_set cells n c) k)
  by_cell P mine others k = elim (cases_eq k n) [
    | inl same ↦ subst (λ (m : ℕ). P m (cell_at d (slice_set cells n c) m)) (sym same) (subst (P n) (sym written_here) mine)
    | inr apart ↦ subst (P k) (sym (written_other k apart)) (others k apart)
  ]

-- on the way from a node to its root
pub record IsOnWay {W : Type 0} (d : Domain W) (rules : List (Rule W)) (kept : List ℕ) (root : ℕ → ℕ) (old cells : List (Cell W)) (node : ℕ) (cell : Cell W) : Type 0 where
  pub forest : IsForest d rules kept root cells
  pub keeps : KeepsRoots d old cells
  pub is_carried : IsCarriedFrom d rules kept cell.head node cell.offset
  pub same : root cell.head ≡ root node
  pub within : node < length cells → cell.head < length cells

module _ {W : Type 0} (d : Domain W) (cells : List (Cell W)) where
  -- a node that isn't there is its own head
  past_own : (n : ℕ) → length cells ≤ n → head_at d cells n ≡ n
  past_own n past = ap (λ (c : Cell W). c.head) (get_or_past cells n (own_cell d n) past)

  pub down_below : (n : ℕ) → head_at d cells n < n → n < length cells
  down_below n down = elim (cases_lt n (length cells)) [
    | inl below ↦ below
    | inr past ↦ absurd (let own = past_own n past in omega (arith, own, down))
  ]

  pub own_everywhere : ((n : ℕ) (c : Cell W) → slice_get cells n ≡ Some c → c ≡ own_cell d n) → (n : ℕ) → cell_at d cells n ≡ own_cell d n
  own_everywhere own n = elim (cases_lt n (length cells)) [
    | inl below ↦ let c = slice_get-there cells n below in get_or_from_slice_get cells n c.0 (own_cell d n) c.1 ∙ own n c.0 c.1
    | inr past ↦ get_or_past cells n (own_cell d n) past
  ]

-- a step of the way leads to a smaller number
pub way_falls : {W : Type 0} (d : Domain W) (cells : List (Cell W)) (cell before next : Cell W) → head_at d cells cell.head < cell.head
    → before ≡ cell_at d cells cell.head → next ≡ joined_cell d before cell → next.head < cell.head
way_falls {W} d cells cell before next less had joins =
    let first : next.head ≡ before.head = ap (λ (x : Cell W). x.head) joins in
    let second : before.head ≡ head_at d cells cell.head = ap (λ (x : Cell W). x.head) had in
    omega (arith, first, second, less)

module _ {W : Type 0} {d : Domain W} (l : IsLawful W d) (rules : List (Rule W)) (kept : List ℕ) (told : AreTold d rules) where
  same_joined : (c : Cell W) → c.offset ≡ d.one → joined_cell d c c ≡ c
  same_joined c e =
      ap (λ (o : W). record { head = c.head; offset = o })
      (ap (λ (o : W). d.extend o c.offset) e ∙ ap (d.extend d.one) e ∙ l.extend_one d.one l.one_meant ∙ sym e)

  module _ {root : ℕ → ℕ} (cells : List (Cell W)) (f : IsForest d rules kept root cells) where
    -- a head that leads up is a root
    up_own : (n : ℕ) → (head_at d cells n < n → ⊥) → head_at d cells (head_at d cells n) ≡ head_at d cells n
    up_own n down = elim (cases_order (head_at d cells n) n) [
      | inl same ↦ ap (head_at d cells) same
      | inr apart ↦ elim apart [ inl less ↦ absurd (down less) | inr greater ↦ f.up n greater ]
    ]

    -- no two nodes are each other's heads
    back_own : (n : ℕ) → head_at d cells (head_at d cells n) ≡ n → head_at d cells n ≡ n
    back_own n back = elim (cases_order (head_at d cells n) n) [
      | inl same ↦ same
      | inr apart ↦ elim apart [
        | inl less ↦
            let rises : head_at d cells n < head_at d cells (head_at d cells n) = omega (arith, less, back) in
            sym (ap (head_at d cells) back) ∙ f.up (head_at d cells n) rises ∙ back
        | inr greater ↦ sym (f.up n greater) ∙ back
      ]
    ]

    module _ (n : ℕ) (below : n < length cells) where
      -- roots have their cells still
      own_stays : (k : ℕ) → head_at d cells k ≡ k → cell_at d (slice_set cells n (shorter d cells n)) k ≡ cell_at d cells k
      own_stays = by_cell d cells n (shorter d cells n) below (λ k c. head_at d cells k ≡ k → c ≡ cell_at d cells k)
          (λ own. ap (λ (k : ℕ). joined_cell d (cell_at d cells k) (cell_at d cells n)) own ∙ same_joined (cell_at d cells n) (f.own n own)) (λ k apart own. refl)

      stays : (k : ℕ) → head_at d cells k ≡ k → head_at d (slice_set cells n (shorter d cells n)) k ≡ k
      stays k own = ap (λ (c : Cell W). c.head) (own_stays k own) ∙ own

      top_own : n < head_at d cells (head_at d cells n) → head_at d cells (head_at d cells (head_at d cells n)) ≡ head_at d cells (head_at d cells n)
      top_own rises = elim (cases_order (head_at d cells n) n) [
        | inl same ↦ ap (λ (k : ℕ). head_at d cells (head_at d cells k)) same
        | inr apart ↦ elim apart [
          | inl less ↦ f.up (head_at d cells n) (omega (arith, less, rises))
          | inr greater ↦ ap (head_at d cells) (f.up n greater)
        ]
      ]

      pub forest_shorter : IsForest d rules kept root (slice_set cells n (shorter d cells n))
      forest_shorter = record {
        each = by_cell d cells n (shorter d cells n) below (λ k c. IsCarriedFrom d rules kept c.head k c.offset)
            (carried_on d rules kept l told (f.each (head_at d cells n)) (f.each n)) (λ k apart. f.each k);
        own = by_cell d cells n (shorter d cells n) below (λ k c. c.head ≡ k → c.offset ≡ d.one)
            (λ back. let own = back_own n back in
            ap (λ (o : W). d.extend o (offset_at d cells n)) (ap (offset_at d cells) own ∙ f.own n own) ∙ ap (d.extend d.one) (f.own n own) ∙ l.extend_one d.one l.one_meant)
            (λ k apart. f.own k);
        up = by_cell d cells n (shorter d cells n) below (λ k c. k < c.head → head_at d (slice_set cells n (shorter d cells n)) c.head ≡ c.head)
            (λ rises. stays (head_at d cells (head_at d cells n)) (top_own rises)) (λ k apart rises. stays (head_at d cells k) (f.up k rises));
        within = by_cell d cells n (shorter d cells n) below
            (λ k c. k < length (slice_set cells n (shorter d cells n)) → c.head < length (slice_set cells n (shorter d cells n)))
            (λ few. let inner = f.within n below in let outer = f.within (head_at d cells n) inner in omega (arith, outer, length-set cells n (shorter d cells n)))
            (λ k apart few. let many = length-set cells n (shorter d cells n) in let inner = f.within k (omega (arith, few, many)) in omega (arith, inner, many));
        same_root = by_cell d cells n (shorter d cells n) below (λ k c. root c.head ≡ root k) (f.same_root (head_at d cells n) ∙ f.same_root n) (λ k apart. f.same_root k);
        at_root = by_cell d cells n (shorter d cells n) below (λ k c. c.head ≡ k → root k ≡ k) (λ back. f.at_root n (back_own n back)) (λ k apart. f.at_root k);
      }

      pub keeps_shorter : KeepsRoots d cells (slice_set cells n (shorter d cells n))
      keeps_shorter = record { many = length-set cells n (shorter d cells n); own = own_stays }

      -- one more has its root for head
      pub flat_more : AreFlat d n cells → AreFlat d (n + 1) (slice_set cells n (shorter d cells n))
      flat_more flat k small = by_cell d cells n (shorter d cells n) below
          (λ m c. m < n + 1 → head_at d (slice_set cells n (shorter d cells n)) c.head ≡ c.head)
          (λ _. stays (head_at d cells (head_at d cells n)) top) (λ m apart few. stays (head_at d cells m) (flat m (omega (arith, few, apart)))) k small
        where
          top : head_at d cells (head_at d cells (head_at d cells n)) ≡ head_at d cells (head_at d cells n)
          top = elim (cases_order (head_at d cells n) n) [
            | inl same ↦ ap (λ (m : ℕ). head_at d cells (head_at d cells m)) same
            | inr apart ↦ elim apart [ inl less ↦ flat (head_at d cells n) less | inr greater ↦ ap (head_at d cells) (f.up n greater) ]
          ]

  module _ (root : ℕ → ℕ) (old : List (Cell W)) (node : ℕ) where
    pub way_begins : IsForest d rules kept root old → IsOnWay d rules kept root old old node (own_cell d node)
    way_begins f = record { forest = f; keeps = record { many = refl; own = λ n own. refl }; is_carried = here; same = refl; within = λ few. few }

    pub way_goes_on : (cells : List (Cell W)) (cell : Cell W) → cell.head < length cells → IsOnWay d rules kept root old cells node cell
        → IsOnWay d rules kept root old (slice_set cells cell.head (shorter d cells cell.head)) node (joined_cell d (cell_at d cells cell.head) cell)
    way_goes_on cells cell below way = record {
      forest = forest_shorter cells way.forest cell.head below;
      keeps = record {
        many = length-set cells cell.head (shorter d cells cell.head) ∙ way.keeps.many;
        own = λ n own.
            let then = way.keeps.own n own in
            own_stays cells way.forest cell.head below n (ap (λ (c : Cell W). c.head) then ∙ own) ∙ then;
      };
      is_carried = carried_on d rules kept l told (way.forest.each cell.head) way.is_carried;
      same = way.forest.same_root cell.head ∙ way.same;
      within = λ few.
          let many = length-set cells cell.head (shorter d cells cell.head) in
          let inner = way.forest.within cell.head below in omega (arith, inner, many);
    }

    -- by what a step of the way tells
    pub way_next : (cells new : List (Cell W)) (cell before next : Cell W) → cell.head < length cells → before ≡ cell_at d cells cell.head
        → new ≡ slice_set cells cell.head (shorter d cells cell.head) → next ≡ joined_cell d before cell → IsOnWay d rules kept root old cells node cell
        → IsOnWay d rules kept root old new node next
    way_next cells new cell before next below had is joins way =
        let whole : next ≡ joined_cell d (cell_at d cells cell.head) cell = joins ∙ ap (λ (b : Cell W). joined_cell d b cell) had in
        subst (λ (x : Cell W). IsOnWay d rules kept root old new node x) (sym whole)
        (subst (λ (cs : List (Cell W)). IsOnWay d rules kept root old cs node (joined_cell d (cell_at d cells cell.head) cell)) (sym is) (way_goes_on cells cell below way))

    pub way_ends : (cells : List (Cell W)) (cell : Cell W) → (head_at d cells cell.head < cell.head → ⊥) → IsOnWay d rules kept root old cells node cell
        → IsRootOf d rules kept root cells node (joined_cell d (cell_at d cells cell.head) cell)
    way_ends cells cell up way =
        let own = up_own cells way.forest cell.head up in record {
          is_carried = carried_on d rules kept l told (way.forest.each cell.head) way.is_carried;
          is_root = sym way.same ∙ sym (way.forest.same_root cell.head) ∙ way.forest.at_root (head_at d cells cell.head) own;
          own = own;
          within = λ few. way.forest.within cell.head (way.within few);
        }

    pub way_ended : (cells : List (Cell W)) (cell before end : Cell W) → (head_at d cells cell.head < cell.head → ⊥) → before ≡ cell_at d cells cell.head
        → end ≡ joined_cell d before cell → IsOnWay d rules kept root old cells node cell → IsForest d rules kept root cells × IsRootOf d rules kept root cells node end
    way_ended cells cell before end up had joins way = (
      way.forest,
      subst (λ (x : Cell W). IsRootOf d rules kept root cells node x) (sym (joins ∙ ap (λ (b : Cell W). joined_cell d b cell) had)) (way_ends cells cell up way),
    )

  module _ (entries : List (Entered W)) (number : ℕ) where
    -- no node is before it
    pub rooted_none : (e : Entered W) (cells : List (Cell W)) → slice_get entries number ≡ Some e → ((m : ℕ) (w : W) → e ≡ Once m w → ⊥)
        → AreRooted d rules kept entries (number + 1) cells → AreRooted d rules kept entries number cells
    rooted_none e cells at none was = record {
      root = was.root;
      forest = was.forest;
      many = was.many;
      rooted = λ n m w from there. elim (cases_eq n number) [
        | inl same ↦ let is : e ≡ Once m w = cc (at, there, same) in absurd (none m w is)
        | inr apart ↦ was.rooted n m w (omega (arith, from, apart)) there
      ];
      own = λ n below. was.own n (omega (arith, below));
    }

    module _ (from : ℕ) (weight : W) (at : slice_get entries number ≡ Some (Once from weight)) (old : List (Cell W))
        (was : AreRooted d rules kept entries (number + 1) old) (cells : List (Cell W)) (keeps : KeepsRoots d old cells)
        (f : IsForest d rules kept was.root cells) (r : Cell W) (is : IsRootOf d rules kept was.root cells from r) where
      still_own : (n : ℕ) → n < number + 1 → cell_at d cells n ≡ own_cell d n
      still_own n below = let own = was.own n below in keeps.own n (ap (λ (c : Cell W). c.head) own) ∙ own

      number_root : was.root number ≡ number
      number_root = f.at_root number (ap (λ (c : Cell W). c.head) (still_own number (omega arith)))

      -- it is the root of the node before it: a circle
      pub rooted_circle : r.head ≡ number → AreRooted d rules kept entries number cells
      rooted_circle circle = record {
        root = was.root;
        forest = f;
        many = keeps.many ∙ was.many;
        rooted = λ n m w above there. elim (cases_eq n number) [
          | inl same ↦
              let before : from ≡ m = cc (at, there, same) in
              ap was.root same ∙ number_root ∙ sym circle ∙ sym is.is_root ∙ ap was.root before
          | inr apart ↦ was.rooted n m w (omega (arith, above, apart)) there
        ];
        own = λ n below. still_own n (omega (arith, below));
      }

      -- it hangs on the root of the node before it
      module _ (apart_root : r.head ≢ number) (from_below : from < length cells) (carried : IsCarried rules kept from number weight) where
        turn : ℕ → ℕ
        turn x = cond (eqb x number) r.head x

        turn_at : turn number ≡ r.head
        unfolding turn
        turn_at = ap (λ b. cond b r.head number) (eq-eqb number number refl)

        turn_else : (x : ℕ) → x ≢ number → turn x ≡ x
        unfolding turn
        turn_else x apart = ap (λ b. cond b r.head x) (ne_eqb x number apart)

        abbrev hung : Cell W
        hung = record { head = r.head; offset = d.extend r.offset weight }

        within_cells : number < length cells
        within_cells = let many = was.many in let same = keeps.many in let below = slice_get-below entries number (Once from weight) at in omega arith

        -- a node that isn't its own head isn't below the number
        above : (k : ℕ) → k ≢ number → k < head_at d cells k → head_at d cells k ≢ number
        above k apart rises at_number =
            let own = ap (λ (c : Cell W). c.head) (still_own k (omega (arith, rises, at_number))) in omega (arith, own, rises)

        root_stays : head_at d (slice_set cells number hung) r.head ≡ r.head
        root_stays = ap (λ (c : Cell W). c.head) (written_other d cells number hung within_cells r.head apart_root) ∙ is.own

        turned_root : turn (was.root r.head) ≡ r.head
        turned_root = ap turn (f.at_root r.head is.own) ∙ turn_else r.head apart_root

        turned_number : turn (was.root number) ≡ r.head
        turned_number = ap turn number_root ∙ turn_at

        forest_hung : IsForest d rules kept (λ k. turn (was.root k)) (slice_set cells number hung)
        forest_hung = record {
          each = by_cell d cells number hung within_cells (λ k c. IsCarriedFrom d rules kept c.head k c.offset) (further is.is_carried carried) (λ k apart. f.each k);
          own = by_cell d cells number hung within_cells (λ k c. c.head ≡ k → c.offset ≡ d.one) (λ same. absurd (apart_root same)) (λ k apart. f.own k);
          up = by_cell d cells number hung within_cells (λ k c. k < c.head → head_at d (slice_set cells number hung) c.head ≡ c.head) (λ rises. root_stays)
              (λ k apart rises.
              ap (λ (c : Cell W). c.head) (written_other d cells number hung within_cells (head_at d cells k) (above k apart rises)) ∙ f.up k rises);
          within = by_cell d cells number hung within_cells (λ k c. k < length (slice_set cells number hung) → c.head < length (slice_set cells number hung))
              (λ few. let low = is.within from_below in let many = length-set cells number hung in omega (arith, low, many))
              (λ k apart few. let many = length-set cells number hung in let inner = f.within k (omega (arith, few, many)) in omega (arith, inner, many));
          same_root = by_cell d cells number hung within_cells (λ k c. turn (was.root c.head) ≡ turn (was.root k)) (turned_root ∙ sym turned_number)
              (λ k apart. ap turn (f.same_root k));
          at_root = by_cell d cells number hung within_cells (λ k c. c.head ≡ k → turn (was.root k) ≡ k) (λ same. absurd (apart_root same))
              (λ k apart own. ap turn (f.at_root k own) ∙ turn_else k apart);
        }

        pub rooted_hung : AreRooted d rules kept entries number (slice_set cells number hung)
        rooted_hung = record {
          root = λ k. turn (was.root k);
          forest = forest_hung;
          many = length-set cells number hung ∙ keeps.many ∙ was.many;
          rooted = λ n m w low there. elim (cases_eq n number) [
            | inl same ↦
                let before : from ≡ m = cc (at, there, same) in
                ap (λ (k : ℕ). turn (was.root k)) same ∙ turned_number ∙ sym turned_root ∙ ap turn (f.at_root r.head is.own ∙ sym is.is_root ∙ ap was.root before)
            | inr apart ↦ ap turn (was.rooted n m w (omega (arith, low, apart)) there)
          ];
          own = λ n below. written_other d cells number hung within_cells n (λ same. omega (arith, same, below)) ∙ still_own n (omega (arith, below));
        }

  -- each node by itself
  pub rooted_begins : (entries : List (Entered W)) (cells : List (Cell W)) → length cells ≡ length entries → ((n : ℕ) → cell_at d cells n ≡ own_cell d n)
      → AreRooted d rules kept entries (length entries) cells
  rooted_begins entries cells many own = record {
    root = λ n. n;
    forest = record {
      each = λ n. subst (λ (c : Cell W). IsCarriedFrom d rules kept c.head n c.offset) (sym (own n)) here;
      own = λ n _. ap (λ (c : Cell W). c.offset) (own n);
      up = λ n _. ap (head_at d cells) (is n);
      within = λ n few. let same = is n in omega (arith, few, same);
      same_root = is;
      at_root = λ n _. refl;
    };
    many = many;
    rooted = λ n m w above there. absurd (omega (arith, above, slice_get-below entries n (Once m w) there));
    own = λ n below. own n;
  }
    where
      is : (n : ℕ) → head_at d cells n ≡ n
      is n = ap (λ (c : Cell W). c.head) (own n)

  -- flat cells of which each has the root of the node before it
  pub converged : (count : ℕ) (root : ℕ → ℕ) (entries : List (Entered W)) (cells : List (Cell W)) → AreEntered count rules kept entries → length cells ≡ count
      → ((n m : ℕ) (w : W) → slice_get entries n ≡ Some (Once m w) → root n ≡ root m) → IsForest d rules kept root cells → AreFlat d count cells
      → IsConverged d count rules kept cells
  converged count root entries cells are many rooted f flat = record {
    many = many;
    cells_are = record { each = f.each; own = flat_all; at_head = λ n. f.own (head_at d cells n) (flat_all n) };
    converged = λ m n w few low carried. let at = (nodes_before count rules kept entries are).all m n w few low carried in sym (root_is n) ∙ rooted n m w at ∙ root_is m;
    within = λ n few. let below = f.within n (omega (arith, few, many)) in omega (arith, below, many);
  }
    where
      flat_all : (n : ℕ) → head_at d cells (head_at d cells n) ≡ head_at d cells n
      flat_all n = elim (cases_lt n count) [
        | inl few ↦ flat n few
        | inr past ↦ ap (head_at d cells) (past_own d cells n (omega (arith, past, many)))
      ]

      root_is : (n : ℕ) → root n ≡ head_at d cells n
      root_is n = sym (f.same_root n) ∙ f.at_root (head_at d cells n) (flat_all n)
