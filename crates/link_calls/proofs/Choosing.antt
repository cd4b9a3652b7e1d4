-- What calls on objects run, choice by choice.
use Rattle.std.proofs.Common.{◌≡◌, ℕ, ◌<◌, ◌≤◌, ◌+◌, Bool, true, false, Some, None, List, [], length, sym, ap, subst, ◌∙◌, slice_get, inl, inr, arith, IsTrue}
use Rattle.std.specs.Prelude.{Contains, ◌↔◌}
use Rattle.std.proofs.lemmas.Option.{get_or_from_slice_get, slice_get-get_or, slice_get_within}
use Rattle.class_rules.specs.Lookups.{Resolve}
use Rattle.class_rules.proofs.Selected.{selection_one}
use Rattle.lists.specs.Lists.{Adds, Has}
use Rattle.jim_ast.specs.declared.syntax.Mode.TheVariants.{Virtual}
use Rattle.object_ranges.specs.declared.chosen.Choice.{Choice}
use Rattle.object_ranges.specs.declared.selection.Selection.{Selection}
use Rattle.object_ranges.specs.declared.selection.Selection.TheVariants.{Method, Nothing, Several}
use Rattle.object_ranges.specs.Chosen.{IsServed, SelectsSome}
use Rattle.link_rules.specs.Faults.{FindsSeveralAt}
use Rattle.link_rules.specs.Targets.{AreTargetRows, Selects}
use Rattle.link_rules.specs.World.{World}
use Rattle.link_calls.specs.declared.finding.Found.{Found}
use Rattle.link_calls.specs.Known.{IsFound}
use Rattle.link_calls.specs.Receivers.{AreChoices}
use Rattle.link_calls.specs.Selected.{AreSelectedBy, IsSelected, IsSelection}
use Rattle.link_calls.proofs.Selecting.{below_or_not, selected_from, selected_next, selected_none, selected_same, selected_several, several_finds_none, some_is_not_none}

-- what is known when the selection of one more class was taken up
abbrev pub Takes : Selection → List ℕ → Bool → List ℕ → Bool → Type 0
Takes Nothing rows several new now = (new ≡ rows) × (now ≡ several)
Takes (Method row) rows several new now = Adds rows row new × (now ≡ several)
Takes Several rows several new now = (new ≡ rows) × (now ≡ true)

module _ (w : World) (class key : ℕ) where
  -- the next class
  one_taken : (n : ℕ) (rows new : List ℕ) (several now : Bool) (s : Selection) → IsSelected w class key n s → Takes s rows several new now
      → AreSelectedBy w class key n rows several → AreSelectedBy w class key (n + 1) new now
  one_taken n rows new several now Nothing is takes b =
      subst (λ xs. AreSelectedBy w class key (n + 1) xs now) (sym takes.0) (subst (AreSelectedBy w class key (n + 1) rows) (sym takes.1) (selected_same w class key n rows several is b))
  one_taken n rows new several now (Method row) is takes b =
      subst (AreSelectedBy w class key (n + 1) new) (sym takes.1) (selected_next w class key n row rows new several b is.0 takes.0 is.1)
  one_taken n rows new several now Several is takes b =
      subst (λ xs. AreSelectedBy w class key (n + 1) xs now) (sym takes.0) (subst (AreSelectedBy w class key (n + 1) rows) (sym takes.1) (selected_several w class key n rows several is b))

  -- a class that was looked at before
  again_taken : (n receiver : ℕ) (rows new : List ℕ) (several now : Bool) (s : Selection) → receiver < n → IsSelected w class key receiver s → Takes s rows several new now
      → AreSelectedBy w class key n rows several → AreSelectedBy w class key n new now
  again_taken n receiver rows new several now Nothing lt is takes b =
      subst (λ xs. AreSelectedBy w class key n xs now) (sym takes.0) (subst (AreSelectedBy w class key n rows) (sym takes.1) b)
  again_taken n receiver rows new several now (Method row) lt is takes b = subst (AreSelectedBy w class key n new) (sym takes.1) (elim takes.0 [
    | inl was ↦ subst (λ xs. AreSelectedBy w class key n xs several) (sym was.1) b
    | inr is_new ↦ absurd (is_new.0 ((b.each row).1 (receiver, lt, is.0)))
  ])
  again_taken n receiver rows new several now Several lt is takes b =
      let said : several ≡ true = b.is_several.1 (receiver, lt, is.1) in
      subst (λ xs. AreSelectedBy w class key n xs now) (sym takes.0) (subst (AreSelectedBy w class key n rows) (said ∙ sym takes.1) b)

  -- the classes between two select no other method, and where one of them has several default methods, so has one before
  selected_up_to : (n m : ℕ) (rows : List ℕ) (several : Bool) → n ≤ m
      → ((receiver row : ℕ) → n ≤ receiver → receiver < m → Selects w class key receiver row → Has rows row)
      → ((receiver : ℕ) → n ≤ receiver → receiver < m → FindsSeveralAt w class key receiver → (before : ℕ) × (before < n) × FindsSeveralAt w class key before)
      → AreSelectedBy w class key n rows several → AreSelectedBy w class key m rows several
  selected_up_to n m rows several le in_rows before s = record {
    each = λ row. (
      (λ h. let p = (s.each row).0 h in (p.0, omega (arith, p.1, le), p.2)),
      (λ p. elim (below_or_not p.0 n) [ inl earlier ↦ (s.each row).1 (p.0, earlier, p.2) | inr later ↦ in_rows p.0 row later p.1 p.2 ]),
    );
    apart = s.apart;
    ordered = s.ordered;
    is_several = (
      (λ e. let p = s.is_several.0 e in (p.0, omega (arith, p.1, le), p.2)),
      (λ p. elim (below_or_not p.0 n) [ inl earlier ↦ s.is_several.1 (p.0, earlier, p.2) | inr later ↦ s.is_several.1 (before p.0 later p.1 p.2) ]),
    );
  }

-- of the choices before index `at` the classes are among the first n, and what these select is known
pub record AreLookedAt (w : World) (class key : ℕ) (choices : List Choice) (at : ℕ) (rows : List ℕ) (several : Bool) : Type 0 where
  pub n : ℕ
  pub before : (j : ℕ) (choice : Choice) → j < at → slice_get choices j ≡ Some choice → choice.class < n
  pub after : (j : ℕ) (choice : Choice) → at ≤ j → slice_get choices j ≡ Some choice → n ≤ choice.class + 1
  pub selected : AreSelectedBy w class key n rows several

pub looked_at_none : (w : World) (class key : ℕ) (choices : List Choice) → AreLookedAt w class key choices 0 [] false
looked_at_none w class key choices = record {
  n = 0;
  before = λ j choice lt. absurd (omega (arith, lt));
  after = λ j choice le e. omega arith;
  selected = selected_none w class key;
}

module _ (w : World) (class key : ℕ) (choices : List Choice) (c : AreChoices w class key choices) where
  place_of : (choice : Choice) → Contains choices choice → (j : ℕ) × (slice_get choices j ≡ Some choice)
  place_of choice m = (m.0, slice_get-get_or choices m.0 choice m.1 ∙ ap Some m.2)

  there : (j : ℕ) (choice : Choice) → slice_get choices j ≡ Some choice → Contains choices choice
  there j choice e = (j, slice_get_within choices j choice e, get_or_from_slice_get choices j choice choice e)

  -- a choice's class at this one or before it selects the same, where that is something
  same_served : (receiver : ℕ) (selection : Selection) → IsServed choices receiver selection
      → (j : ℕ) × (choice : Choice) × (slice_get choices j ≡ Some choice) × (choice.class ≤ receiver) × IsSelection w.rows choice.class key selection
  same_served receiver selection f =
      let p = place_of f.choice f.there in
      (p.0, f.choice, p.1, f.first, subst (IsSelection w.rows f.choice.class key) f.same (c.selected f.choice f.there))

  -- a method that a class selects is selected by a choice's class at it or before it
  pub row_served : (receiver row : ℕ) → Selects w class key receiver row
      → (j : ℕ) × (choice : Choice) × (slice_get choices j ≡ Some choice) × (choice.class ≤ receiver) × Selects w class key choice.class row
  row_served receiver row s = let h = c.served receiver s.instantiable s.below in by h.selection h.selected h.served
    where
      by : (selection : Selection) → IsSelection w.rows receiver key selection → (SelectsSome selection → IsServed choices receiver selection)
          → (j : ℕ) × (choice : Choice) × (slice_get choices j ≡ Some choice) × (choice.class ≤ receiver) × Selects w class key choice.class row
      by Nothing is served = absurd (some_is_not_none row (selection_one w.rows receiver key (Some row) None s.finds is.0))
      by (Method found) is served =
          let f = same_served receiver (Method found) (served (λ e. cc e)) in
          let m = there f.0 f.1 f.2 in
          let e = selection_one w.rows receiver key (Some found) (Some row) is s.finds in
          (f.0, f.1, f.2, f.3, record { instantiable = c.instantiable f.1 m; below = c.below f.1 m; finds = subst (Resolve w.rows f.1.class key) e f.4 })
      by Several is served = absurd (several_finds_none w.rows receiver key row is s.finds)

  -- where a class has several default methods, so has a choice's class at it or before it
  pub several_served : (receiver : ℕ) → FindsSeveralAt w class key receiver
      → (j : ℕ) × (choice : Choice) × (slice_get choices j ≡ Some choice) × (choice.class ≤ receiver) × FindsSeveralAt w class key choice.class
  several_served receiver s = let h = c.served receiver s.instantiable s.below in by h.selection h.selected h.served
    where
      by : (selection : Selection) → IsSelection w.rows receiver key selection → (SelectsSome selection → IsServed choices receiver selection)
          → (j : ℕ) × (choice : Choice) × (slice_get choices j ≡ Some choice) × (choice.class ≤ receiver) × FindsSeveralAt w class key choice.class
      by Nothing is served = absurd (is.1 s.several)
      by (Method found) is served = absurd (several_finds_none w.rows receiver key found s.several is)
      by Several is served =
          let f = same_served receiver Several (served (λ e. cc e)) in
          let m = there f.0 f.1 f.2 in
          (f.0, f.1, f.2, f.3, record { instantiable = c.instantiable f.1 m; below = c.below f.1 m; several = f.4 })

  later : (i j : ℕ) (a b : Choice) → i ≤ j → slice_get choices i ≡ Some a → slice_get choices j ≡ Some b → a.class ≤ b.class
  later i j a b le first second =
      let x = ap (λ (t : Choice). t.class) (get_or_from_slice_get choices i a a first) in
      let y = ap (λ (t : Choice). t.class) (get_or_from_slice_get choices j b a second) in
      omega (arith, c.sorted i j a le (slice_get_within choices j b second), x, y)

  module _ (at : ℕ) (choice : Choice) (here : slice_get choices at ≡ Some choice) (rows : List ℕ) (several : Bool) (s : AreLookedAt w class key choices at rows several) where
    -- a choice before the class of the next one has been looked at
    earlier : (j : ℕ) (other : Choice) → slice_get choices j ≡ Some other → other.class < choice.class → other.class < s.n
    earlier j other e lt = elim (below_or_not j at) [
      | inl before ↦ s.before j other before e
      | inr not ↦ omega (arith, lt, later at j choice other not here e)
    ]

    selected_before : s.n ≤ choice.class → AreSelectedBy w class key choice.class rows several
    selected_before le = selected_up_to w class key s.n choice.class rows several le in_rows before s.selected
      where
        in_rows : (receiver row : ℕ) → s.n ≤ receiver → receiver < choice.class → Selects w class key receiver row → Has rows row
        in_rows receiver row from lt selects =
            let f = row_served receiver row selects in
            (s.selected.each row).1 (f.1.class, earlier f.0 f.1 f.2 (omega (arith, f.3, lt)), f.4)

        before : (receiver : ℕ) → s.n ≤ receiver → receiver < choice.class → FindsSeveralAt w class key receiver → (first : ℕ) × (first < s.n) × FindsSeveralAt w class key first
        before receiver from lt finds =
            let f = several_served receiver finds in
            (f.1.class, earlier f.0 f.1 f.2 (omega (arith, f.3, lt)), f.4)

    next_with : (n : ℕ) → choice.class < n → s.n ≤ n → n ≤ choice.class + 1 → (new : List ℕ) (now : Bool) → AreSelectedBy w class key n new now → AreLookedAt w class key choices (at + 1) new now
    next_with n in_n from up new now selected = record {
      n = n;
      before = λ j other lt e. elim (below_or_not j at) [
        | inl less ↦ omega (arith, from, s.before j other less e)
        | inr not ↦ omega (arith, in_n, later j at other choice (omega (arith, lt)) e here)
      ];
      after = λ j other le e. omega (arith, up, later at j choice other (omega (arith, le)) here e);
      selected = selected;
    }

    -- the next choice
    pub looked_at_next : (selection : Selection) → IsSelection w.rows choice.class key selection → (new : List ℕ) (now : Bool) → Takes selection rows several new now
        → AreLookedAt w class key choices (at + 1) new now
    looked_at_next selection is new now takes =
        let m = there at choice here in
        let selects = selected_from w class key choice.class selection (c.instantiable choice m) (c.below choice m) is in
        elim (below_or_not choice.class s.n) [
          | inl again ↦ next_with s.n again (omega arith) (s.after at choice (omega arith) here) new now (again_taken w class key s.n choice.class rows new several now selection again selects takes s.selected)
          | inr fresh ↦ next_with (choice.class + 1) (omega arith) (omega (arith, fresh)) (omega arith) new now
              (one_taken w class key choice.class rows new several now selection selects takes (selected_before fresh))
        ]

  -- those of all choices
  pub found_of_all : (at : ℕ) (rows : List ℕ) (several : Bool) → length choices ≤ at → AreLookedAt w class key choices at rows several
      → (found : Found) → found.rows.items ≡ rows → found.several ≡ several → IsFound w Virtual class key found
  found_of_all at rows several over s found is same = record {
    targets = subst (AreTargetRows w Virtual class key) (sym is) (record {
      each = λ row. (
        (λ h. let p = (s.selected.each row).0 h in (p.0, p.2)),
        (λ p. let f = row_served p.0 row p.1 in (s.selected.each row).1 (f.1.class, in_n f.0 f.1 f.2, f.4)),
      );
      apart = s.selected.apart;
      ordered = s.selected.ordered;
    });
    is_several = subst (λ b. IsTrue b ↔ ((receiver : ℕ) × FindsSeveralAt w class key receiver)) (sym same) (
      (λ e. let p = s.selected.is_several.0 e in (p.0, p.2)),
      (λ p. let f = several_served p.0 p.1 in s.selected.is_several.1 (f.1.class, in_n f.0 f.1 f.2, f.4)),
    );
  }
    where
      in_n : (j : ℕ) (choice : Choice) → slice_get choices j ≡ Some choice → choice.class < s.n
      in_n j choice e = s.before j choice (omega (arith, over, slice_get_within choices j choice e)) e
