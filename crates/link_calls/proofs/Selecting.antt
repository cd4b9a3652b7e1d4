-- What calls run, class by class.
use Rattle.std.proofs.Common.{◌≡◌, ℕ, zero, suc, ◌<◌, ◌≤◌, ◌+◌, ◌⊎◌, Bool, true, false, Option, Some, None, List, [], ◌∷◌, length, refl, sym, ap, subst, ◌∙◌, slice_get, inl, inr, arith, IsTrue, Result, Ok, Err, IfOk}
use Rattle.std.specs.Prelude.{AllPairs, ◌↔◌, slice_index}
use Rattle.std.proofs.Math.Nat.{eq-or-lt_of_le}
use Rattle.std.proofs.lemmas.List.Quantifiers.{all_pairs_push}
use Rattle.std.proofs.lemmas.Option.{slice_get-get_or}
use Rattle.class_rules.specs.Lookups.{IsAmbiguous, IsDefault, OnPath, Resolve, ambiguous, nowhere, on_path}
use Rattle.class_tree.specs.declared.tree.Defaults.{Defaults}
use Rattle.class_tree.specs.declared.tree.Defaults.TheVariants.{Nothing as NoDefault, One as OneDefault, Several as SeveralDefaults}
use Rattle.class_tree.specs.Defaults.{AreDefaults}
use Rattle.class_tree.proofs.Lowest.{selected_one, two_ambiguous}
use Rattle.default_turns.specs.declared.turns.DefaultTurn.{DefaultTurn}
use Rattle.default_turns.specs.Turns.{defaults_at}
use Rattle.object_ranges.specs.Selections.{selection_of}
use Rattle.class_rules.specs.Rows.{Rows, Sub}
use Rattle.class_rules.proofs.LawFacts.{path_one}
use Rattle.class_rules.proofs.Selected.{selection_one}
use Rattle.lists.specs.Lists.{Adds, Has, IsApart}
use Rattle.lists.proofs.Places.{Has-adds_itself, IsApart-adds, slice_get-added, slice_get-adds, slice_get-below}
use Rattle.jim_ast.specs.declared.syntax.Mode.{Mode}
use Rattle.jim_ast.specs.declared.syntax.Mode.TheVariants.{Special, Virtual, Interface, Static}
use Rattle.link_rules.specs.Faults.{FindsSeveral, FindsSeveralAt}
use Rattle.link_rules.specs.Targets.{AreTargetRows, ComesBefore, IsInstantiableAt, Selects}
use Rattle.link_rules.specs.World.{World}
use Rattle.link_calls.specs.declared.finding.Found.{Found}
use Rattle.object_ranges.specs.declared.selection.Selection.{Selection}
use Rattle.object_ranges.specs.declared.selection.Selection.TheVariants.{Method, Nothing, Several}
use Rattle.link_calls.specs.declared.receivers.Receivers.{Receivers}
use Rattle.link_calls.specs.Known.{HasAtMost, IsFound}
use Rattle.link_calls.specs.Receivers.{AreDefaultsOf, AreReceivers}
use Rattle.link_calls.specs.Selected.{AreSelectedBy, IsSelected, IsSelection, SelectsNone}

-- a number is below another, or not
pub below_or_not : (a b : ℕ) → (a < b) ⊎ (b ≤ a)
below_or_not a zero = inr (omega arith)
below_or_not zero (suc b) = inl (omega arith)
below_or_not (suc a) (suc b) = elim (below_or_not a b) [ inl below ↦ inl (omega (arith, below)) | inr not ↦ inr (omega (arith, not)) ]

at_most : (n m : ℕ) → m < n + 1 → (m ≡ n) ⊎ (m < n)
at_most n m below = let le : m ≤ n = omega (arith, below) in eq-or-lt_of_le le

pub some_is_not_none : (row : ℕ) → Some row ≡ None → ⊥
some_is_not_none row e = cc

-- a class with several default methods finds none
pub several_finds_none : (rows : Rows) (class key row : ℕ) → IsAmbiguous rows class key → Resolve rows class key (Some row) → ⊥
several_finds_none rows class key row several finds = some_is_not_none row (selection_one rows class key (Some row) None finds (ambiguous several))

-- nothing is along the parents, and there is no default method
pub selects_nothing : (rows : Rows) (class key : ℕ) → OnPath rows class key None → ((row : ℕ) → IsDefault rows class key row → ⊥) → IsSelection rows class key Nothing
selects_nothing rows class key off none = (nowhere off none, λ several. none several.one several.is_one)

-- what is selected where the row that is found along the parents is known, and the default methods that are reached
pub selection_told : (rows : Rows) (class key : ℕ) (row : Option ℕ) (defaults : Defaults) → OnPath rows class key row → AreDefaults (IsDefault rows class key) defaults
    → IsSelection rows class key (selection_of row defaults)
selection_told rows class key (Some row) defaults path are = on_path path
selection_told rows class key None NoDefault off none = selects_nothing rows class key off none
selection_told rows class key None (OneDefault row) off one = selected_one rows class key row off one
selection_told rows class key None SeveralDefaults off two = two_ambiguous rows class key off two

-- what is selected where nothing is found along the parents, by the turns of default methods
pub told_at : (w : World) (r : Receivers) (class key : ℕ) (turns : List DefaultTurn) (s : Selection) → AreReceivers w r → AreDefaultsOf w r key turns
    → class < length r.layout.places.now → OnPath w.rows class key None → s ≡ selection_of None (defaults_at turns (slice_index r.layout.places.now class)) → IsSelection w.rows class key s
told_at w r class key turns s are told known off is =
    let here : class < length w.rows.classes = omega (arith, known, are.laid.placed.len) in
    subst (IsSelection w.rows class key) (sym is) (selection_told w.rows class key None (defaults_at turns (slice_index r.layout.places.now class)) off (told.exact class here))

-- what the receiver selects is what is found from its class
pub selected_from : (w : World) (class key receiver : ℕ) (s : Selection) → IsInstantiableAt w receiver → Sub w.rows receiver class → IsSelection w.rows receiver key s
    → IsSelected w class key receiver s
selected_from w class key receiver Nothing instantiable below is = (
  (λ row s. some_is_not_none row (selection_one w.rows receiver key (Some row) None s.finds is.0)),
  (λ several. is.1 several.several),
)
selected_from w class key receiver (Method row) instantiable below is = (
  record { instantiable = instantiable; below = below; finds = is },
  (λ several. several_finds_none w.rows receiver key row several.several is),
)
selected_from w class key receiver Several instantiable below is = (
  (λ row s. several_finds_none w.rows receiver key row is s.finds),
  record { instantiable = instantiable; below = below; several = is },
)

-- a list of one element
has_one : (x y : ℕ) → Has (x ∷ []) y → y ≡ x
has_one x y h = at h.0 h.1
  where
    at : (i : ℕ) → slice_get (x ∷ []) i ≡ Some y → y ≡ x
    at zero e = cc
    at (suc i) e = cc

some_one : (a b : ℕ) → Some a ≡ Some b → a ≡ b
some_one a b e = cc

-- the rows are what is found, of which there is one at most
module _ (Finds : Option ℕ → Type 0) (one : (r s : Option ℕ) → Finds r → Finds s → r ≡ s) where
  at_most_each : (o : Option ℕ) (rows : List ℕ) → HasAtMost o rows → Finds o → (row : ℕ) → Has rows row ↔ Finds (Some row)
  at_most_each (Some found) rows is here row = rw is (
    (λ h. subst (λ z. Finds (Some z)) (sym (has_one found row h)) here),
    (λ other. let e = some_one found row (one (Some found) (Some row) here other) in (0, ap Some e)),
  )
  at_most_each None rows is none row = rw is ((λ h. cc (h.1)), (λ other. absurd (some_is_not_none row (one (Some row) None other none))))

few_rows : (o : Option ℕ) (rows : List ℕ) → HasAtMost o rows → length rows ≤ 1
few_rows (Some row) rows is = rw is (omega arith)
few_rows None rows is = rw is (omega arith)

apart_few : (rows : List ℕ) → length rows ≤ 1 → IsApart rows
apart_few rows few i j x one two = omega (arith, few, slice_get-below rows i x one, slice_get-below rows j x two)

module _ (w : World) (class key : ℕ) where
  ordered_few : (rows : List ℕ) → length rows ≤ 1 → AllPairs (ComesBefore w class key) rows
  ordered_few rows few i j d before below = absurd (omega (arith, few, before, below))

  -- what is found along the parents is what a static call runs
  pub found_by_path : {E : Type 0} (o : Option ℕ) (several : Bool) (r : Result Found E) → OnPath w.rows class key o → several ≡ false
      → IfOk r (λ found. HasAtMost o found.rows.items × (found.several ≡ several)) → IfOk r (IsFound w Static class key)
  found_by_path o several (Ok found) finds unsaid (is, same) =
      let few = few_rows o found.rows.items is in
      record {
        targets = record {
          each = at_most_each (OnPath w.rows class key) (λ r s p q. path_one w.rows class key r s p q) o found.rows.items is finds;
          apart = apart_few found.rows.items few;
          ordered = ordered_few found.rows.items few;
        };
        is_several = ((λ e. let f : true ≡ false = sym e ∙ same ∙ unsaid in cc f), (λ (h : ⊥). absurd h));
      }
  found_by_path o several (Err e) finds unsaid is = cc

  -- what is selected from the class is what a special call runs
  pub found_by_name : {E : Type 0} (o : Option ℕ) (several : Bool) (r : Result Found E) → Resolve w.rows class key o → IsTrue several ↔ IsAmbiguous w.rows class key
      → IfOk r (λ found. HasAtMost o found.rows.items × (found.several ≡ several)) → IfOk r (IsFound w Special class key)
  found_by_name o several (Ok found) finds is_several (is, same) =
      let few = few_rows o found.rows.items is in
      record {
        targets = record {
          each = at_most_each (Resolve w.rows class key) (λ r s p q. selection_one w.rows class key r s p q) o found.rows.items is finds;
          apart = apart_few found.rows.items few;
          ordered = ordered_few found.rows.items few;
        };
        is_several = subst (λ b. IsTrue b ↔ IsAmbiguous w.rows class key) (sym same) is_several;
      }
  found_by_name o several (Err e) finds is_several is = cc

  abbrev SeveralBefore : ℕ → Type 0
  SeveralBefore n = (receiver : ℕ) × (receiver < n) × FindsSeveralAt w class key receiver

  -- no class has selected a method yet
  pub selected_none : AreSelectedBy w class key 0 [] false
  selected_none = record {
    each = λ row. ((λ h. cc (h.1)), (λ s. absurd (omega (arith, s.1))));
    apart = λ i j x one two. cc;
    ordered = λ i j d before below. absurd (omega (arith, before, below));
    is_several = ((λ e. cc e), (λ s. absurd (omega (arith, s.1))));
  }

  -- a class that selects no method
  each_same : (n : ℕ) (rows : List ℕ) (several : Bool) → SelectsNone w class key n → AreSelectedBy w class key n rows several
      → (row : ℕ) → Has rows row ↔ ((receiver : ℕ) × (receiver < n + 1) × Selects w class key receiver row)
  each_same n rows several none s row = (
    (λ h. let p = (s.each row).0 h in (p.0, omega (arith, p.1), p.2)),
    (λ p. (s.each row).1 (p.0, below p.0 p.1 p.2, p.2)),
  )
    where
      below : (receiver : ℕ) → receiver < n + 1 → Selects w class key receiver row → receiver < n
      below receiver b selects = elim (at_most n receiver b) [
        | inl same ↦ absurd (none row (subst (λ z. Selects w class key z row) same selects))
        | inr less ↦ less
      ]

  -- a class without several default methods
  several_same : (n : ℕ) (several : Bool) → (FindsSeveralAt w class key n → ⊥) → IsTrue several ↔ SeveralBefore n → IsTrue several ↔ SeveralBefore (n + 1)
  several_same n several none is = (
    (λ e. let p = is.0 e in (p.0, omega (arith, p.1), p.2)),
    (λ p. is.1 (p.0, below p.0 p.1 p.2, p.2)),
  )
    where
      below : (receiver : ℕ) → receiver < n + 1 → FindsSeveralAt w class key receiver → receiver < n
      below receiver b finds = elim (at_most n receiver b) [
        | inl same ↦ absurd (none (subst (FindsSeveralAt w class key) same finds))
        | inr less ↦ less
      ]

  -- a class with nothing
  pub selected_same : (n : ℕ) (rows : List ℕ) (several : Bool) → IsSelected w class key n Nothing → AreSelectedBy w class key n rows several
      → AreSelectedBy w class key (n + 1) rows several
  selected_same n rows several none s = record {
    each = each_same n rows several none.0 s;
    apart = s.apart;
    ordered = s.ordered;
    is_several = several_same n several none.1 s.is_several;
  }

  -- a class with several default methods
  pub selected_several : (n : ℕ) (rows : List ℕ) (several : Bool) → IsSelected w class key n Several → AreSelectedBy w class key n rows several
      → AreSelectedBy w class key (n + 1) rows true
  selected_several n rows several here s = record {
    each = each_same n rows several here.0 s;
    apart = s.apart;
    ordered = s.ordered;
    is_several = ((λ e. (n, omega arith, here.1)), (λ p. refl));
  }

  module _ (n row : ℕ) (rows new : List ℕ) (several : Bool) (s : AreSelectedBy w class key n rows several) (selects : Selects w class key n row) (adds : Adds rows row new) where
    next_to : (r : ℕ) → Has new r → (receiver : ℕ) × (receiver < n + 1) × Selects w class key receiver r
    next_to r h = elim (slice_get-added rows new row adds h.0 r h.1) [
      | inl old ↦ let p = (s.each r).0 (h.0, old) in (p.0, omega (arith, p.1), p.2)
      | inr same ↦ (n, omega arith, subst (Selects w class key n) (sym same) selects)
    ]

    next_from : (r receiver : ℕ) → receiver < n + 1 → Selects w class key receiver r → Has new r
    next_from r receiver b other = elim (at_most n receiver b) [
      | inl same ↦
          let here : Selects w class key n r = subst (λ z. Selects w class key z r) same other in
          let e = selection_one w.rows n key (Some row) (Some r) selects.finds here.finds in
          let one : row ≡ r = cc in
          subst (Has new) one (Has-adds_itself rows new row adds)
      | inr less ↦ let h = (s.each r).1 (receiver, less, other) in (h.0, slice_get-adds rows new row adds h.0 r h.1)
    ]

    next_ordered : AllPairs (ComesBefore w class key) new
    next_ordered = elim adds [
      | inl was ↦ subst (AllPairs (ComesBefore w class key)) (sym was.1) s.ordered
      | inr is_new ↦ subst (AllPairs (ComesBefore w class key)) (sym is_new.1) (all_pairs_push (ComesBefore w class key) rows row s.ordered (λ k d below.
          let earlier = (s.each _).0 (k, slice_get-get_or rows k d below) in
          λ receiver later. elim (below_or_not receiver n) [
            | inl before ↦ absurd (is_new.0 ((s.each row).1 (receiver, before, later)))
            | inr behind ↦ (earlier.0, omega (arith, earlier.1, behind), earlier.2)
          ]))
    ]

    -- a class that selects a method
    pub selected_next : (FindsSeveralAt w class key n → ⊥) → AreSelectedBy w class key (n + 1) new several
    selected_next not_several = record {
      each = λ r. (next_to r, (λ p. next_from r p.0 p.1 p.2));
      apart = IsApart-adds rows new row s.apart adds;
      ordered = next_ordered;
      is_several = several_same n several not_several s.is_several;
    }

-- a call on an object by either mode runs the same
of_objects : (w : World) (class key : ℕ) (found : Found) → IsFound w Virtual class key found → IsFound w Interface class key found
of_objects w class key found is =
    let t = is.targets in
    record { targets = record { each = t.each; apart = t.apart; ordered = t.ordered }; is_several = is.is_several }

pub of_objects_ok : {E : Type 0} (w : World) (mode : Mode) (class key : ℕ) (r : Result Found E) → (mode ≡ Virtual) ⊎ (mode ≡ Interface)
    → IfOk r (IsFound w Virtual class key) → IfOk r (IsFound w mode class key)
of_objects_ok w mode class key (Ok found) m is = elim m [ inl e ↦ rw e is | inr e ↦ rw e (of_objects w class key found is) ]
of_objects_ok w mode class key (Err x) m is = cc

-- what is found is found again in a copy
pub same_found : (w : World) (mode : Mode) (class key : ℕ) (found copy : Found) → copy.rows.items ≡ found.rows.items → copy.several ≡ found.several
    → IsFound w mode class key found → IsFound w mode class key copy
same_found w mode class key found copy rows several is = record {
  targets = subst (AreTargetRows w mode class key) (sym rows) is.targets;
  is_several = subst (λ b. IsTrue b ↔ FindsSeveral w mode class key) (sym several) is.is_several;
}
