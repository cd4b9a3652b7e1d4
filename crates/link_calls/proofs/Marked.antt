-- The classes that may have objects, at their places, and what is chosen there.
use Rattle.std.proofs.Common.{◌≡◌, ℕ, ◌+◌, ◌<◌, ◌≤◌, ◌⊎◌, Option, Some, None, List, length, get_or, set, replicate, slice_get, sym, ap, subst, ◌∙◌, inl, inr, arith, length-set}
use Rattle.std.specs.List.{Contains}
use Rattle.std.specs.List.Sorted.{IsNonDecreasingBy, IsPermutation}
use Rattle.std.proofs.lemmas.Bool.{cases_eq}
use Rattle.std.proofs.lemmas.List.{get_or-replicate, length-replicate}
use Rattle.std.proofs.lemmas.List.Sorted.{Contains-permutation, IsPermutation-sym}
use Rattle.std.proofs.lemmas.Option.{get_or_from_slice_get, slice_get_within}
use Rattle.class_tree.specs.declared.layout.Layout.{Layout}
use Rattle.class_order.specs.Groups.{group}
use Rattle.class_tree.specs.Layouts.{LaysOut}
use Rattle.class_order.specs.Spans.{Holds}
use Rattle.class_order.specs.Tables.{HavePlaces}
use Rattle.lists.proofs.Places.{slice_get-set_other, slice_get-set_same}
use Rattle.lists.proofs.Places.{slice_get-below}
use Rattle.object_ranges.specs.declared.chosen.Choice.{Choice}
use Rattle.object_ranges.specs.declared.selection.Selection.{Selection}
use Rattle.object_ranges.specs.Marks.{Stands}
use Rattle.object_ranges.proofs.Serving.{AreChosen}
use Rattle.link_rules.specs.Targets.{IsInstantiableAt}
use Rattle.link_rules.specs.World.{World}
use Rattle.link_calls.specs.Receivers.{AreChoices, AreMarks}
use Rattle.link_calls.specs.Selected.{IsSelection}

pub within_classes : (w : World) (class : ℕ) → IsInstantiableAt w class → class < length w.classes
within_classes w class at = slice_get-below w.classes class at.class at.there

-- ---- marking

-- the first n classes have been looked at
pub record AreMarkedTo (w : World) (places : List ℕ) (n : ℕ) (marks : List (Option ℕ)) : Type 0 where
  pub len : length marks ≡ length places
  pub each : (place class : ℕ) → Stands marks place class → (class < n) × IsInstantiableAt w class × (get_or places class 0 ≡ place)
  pub all : (class : ℕ) → class < n → IsInstantiableAt w class → Stands marks (get_or places class 0) class

no_mark : (n place class : ℕ) → Stands (replicate n None) place class → ⊥
no_mark n place class st =
    let lt = slice_get_within (replicate n None) place (Some class) st in
    let read = get_or_from_slice_get (replicate n None) place (Some class) None st in
    let none : get_or (replicate {A = Option ℕ} n None) place None ≡ None = get_or-replicate n place None None (omega (arith, lt, length-replicate {A = Option ℕ} n None)) in
    cc (sym none ∙ read)

pub marked_none : (w : World) (places : List ℕ) → AreMarkedTo w places 0 (replicate (length places) None)
marked_none w places = record {
  len = length-replicate (length places) None;
  each = λ place class st. absurd (no_mark (length places) place class st);
  all = λ class lt is. absurd (omega (arith, lt));
}

below_or_at : (i n : ℕ) → i < n + 1 → (i < n) ⊎ (i ≡ n)
below_or_at i n h = grind arith

same_mark : (a b : ℕ) → Some (Some a) ≡ Some (Some b) → a ≡ b
same_mark a b e = cc

module _ (w : World) (places : List ℕ) (n : ℕ) (placed : HavePlaces (length w.classes) places) (known : n < length w.classes) (marks : List (Option ℕ)) (s : AreMarkedTo w places n marks) where
  abbrev pub place_of : ℕ
  place_of = get_or places n 0

  pub marked_more : (at : ℕ) → at ≡ place_of → IsInstantiableAt w n → AreMarkedTo w places (n + 1) (set marks at (Some n))
  marked_more at at_is is = subst (λ k. AreMarkedTo w places (n + 1) (set marks k (Some n))) (sym at_is) (record {
    len = length-set marks place_of (Some n) ∙ s.len;
    each = λ place class st. elim (cases_eq place place_of) [
      | inl same ↦
          let e : n ≡ class = same_mark n class (sym (slice_get-set_same marks place_of (Some n) within) ∙ ap (slice_get (set marks place_of (Some n))) (sym same) ∙ st) in
          (omega (arith, e), subst (IsInstantiableAt w) e is, ap (λ k. get_or places k 0) (sym e) ∙ sym same)
      | inr apart ↦ let p = s.each place class (sym (slice_get-set_other marks place_of place (Some n) apart) ∙ st) in (omega (arith, p.0), p.1, p.2)
    ];
    all = λ class lt here. elim (below_or_at class n lt) [
      | inl less ↦
          slice_get-set_other marks place_of (get_or places class 0) (Some n) (λ e. let same = placed.own class n (omega (arith, less, known)) known e in omega (arith, same, less))
          ∙ s.all class less here
      | inr same ↦ subst (λ k. Stands (set marks place_of (Some n)) (get_or places k 0) k) (sym same) (slice_get-set_same marks place_of (Some n) within)
    ];
  })
    where
      within : place_of < length marks
      within = omega (arith, placed.within n known, s.len, placed.len)

  pub marked_skipped : (IsInstantiableAt w n → ⊥) → AreMarkedTo w places (n + 1) marks
  marked_skipped none = record {
    len = s.len;
    each = λ place class st. (let p = s.each place class st in (omega (arith, p.0), p.1, p.2));
    all = λ class lt here. elim (below_or_at class n lt) [
      | inl less ↦ s.all class less here
      | inr same ↦ absurd (none (subst (IsInstantiableAt w) same here))
    ];
  }

pub marked_all : (w : World) (places : List ℕ) (n : ℕ) (marks : List (Option ℕ)) → length places ≡ length w.classes → length w.classes ≤ n → AreMarkedTo w places n marks → AreMarks w places marks
marked_all w places n marks len over s = record {
  len = s.len ∙ len;
  each = λ place class st. (let p = s.each place class st in (p.1, p.2));
  all = λ class is. s.all class (omega (arith, over, within_classes w class is)) is;
}

-- ---- what is chosen

module _ (w : World) (layout : Layout) (marks : List (Option ℕ)) (as_many : length w.rows.classes ≡ length w.classes) (laid : LaysOut w.rows layout) (m : AreMarks w layout.places.now marks)
    (class key : ℕ) (known : class < length w.rows.classes) (select : ℕ → Selection)
    (selects : (c : ℕ) → c < length w.rows.classes → IsSelection w.rows c key (select (get_or layout.places.now c 0)))
    (choices sorted : List Choice) (same : IsPermutation choices sorted) (chosen : AreChosen marks select (group layout.reach.now class) choices) where
  among : (choice : Choice) → Contains sorted choice → Contains choices choice
  among choice c = Contains-permutation sorted choices choice (IsPermutation-sym choices sorted same) c

  receiver_known : (receiver : ℕ) → IsInstantiableAt w receiver → receiver < length w.rows.classes
  receiver_known receiver is = omega (arith, within_classes w receiver is, as_many)

  pub choices_of : IsNonDecreasingBy (λ (choice : Choice). choice.class) sorted → AreChoices w class key sorted
  choices_of rising = record {
    sorted = rising;
    instantiable = λ choice c. (let p = chosen.right choice (among choice c) in (m.each p.0 choice.class p.2).0);
    below = λ choice c.
        let p = chosen.right choice (among choice c) in
        let at = m.each p.0 choice.class p.2 in
        (laid.reached.exact choice.class class (receiver_known choice.class at.0) known).0 (subst (Holds (group layout.reach.now class)) (sym at.1) p.1);
    selected = λ choice c.
        let p = chosen.right choice (among choice c) in
        let at = m.each p.0 choice.class p.2 in
        subst (IsSelection w.rows choice.class key) (sym (p.3 ∙ ap select (sym at.1))) (selects choice.class (receiver_known choice.class at.0));
    served = λ receiver is sub.
        let h = receiver_known receiver is in
        let place = get_or layout.places.now receiver 0 in
        let holds = (laid.reached.exact receiver class h known).1 sub in
        record {
          selection = select place;
          selected = selects receiver h;
          served = λ some.
              let s = chosen.served place receiver holds (m.all receiver is) some in
              record { choice = s.choice; there = Contains-permutation choices sorted s.choice same s.there; same = s.same; first = s.first };
        };
  }
