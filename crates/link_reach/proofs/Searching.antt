-- What the turns of the search keep.
use Rattle.std.proofs.Common.{◌≡◌, ℕ, ◌<◌, ◌≤◌, ◌+◌, ◌⊎◌, Option, Some, None, List, [], ◌∷◌, ◌++◌, length, length-append, sym, ap, subst, ◌∙◌, inl, inr, slice_get, take, get_or, arith, eqb}
use Rattle.std.proofs.Math.Nat.{eq-or-lt_of_le}
use Rattle.std.specs.Cmp.{unsigned_Decides}
use Rattle.std.specs.List.{IsDistinct}
use Rattle.std.proofs.lemmas.List.{take_more, take-append-le}
use Rattle.std.proofs.lemmas.Map.Made.{is_member-Decides}
use Rattle.std.proofs.lemmas.Map.Steps.{length-le_from_distinct_below}
use Rattle.std.proofs.lemmas.Option.{get_or_from_slice_get, slice_get-get_or}
use Rattle.class_rules.proofs.LawFacts.{path_finds}
use Rattle.class_rules.proofs.Selected.{selection_finds}
use Rattle.lists.proofs.Places.{slice_get-append_left, slice_get-below, slice_get-there}
use Rattle.jim_ast.specs.declared.syntax.Mode.{Mode}
use Rattle.jim_ast.specs.declared.syntax.Mode.TheVariants.{Special, Virtual, Interface, Static}
use Rattle.link_rules.specs.Classes.{DeclaredMethod, methods_of}
use Rattle.link_rules.specs.Root.{root_number}
use Rattle.link_rules.specs.Targets.{MayRun}
use Rattle.link_rules.specs.World.{World}
use Rattle.link_reach.specs.declared.firsts.FaultIn.{FaultIn}
use Rattle.link_reach.specs.declared.search.Found.{Found}
use Rattle.link_reach.specs.declared.search.Search.{Search}
use Rattle.link_reach.specs.Firsts.{IsFirstIn}
use Rattle.link_reach.specs.Graph.{IsLedTo, IsNodeOf, Leads, Node, Runs, method, class, begins, goes_on}
use Rattle.link_reach.specs.Search.{Finds, IsBounded, IsFound, IsSearched, left_of}

-- ---- what is led to is one of the program's

module _ (w : World) (bounded : IsBounded w) where
  runs_within : (mode : Mode) (c key row : ℕ) → MayRun w mode c key row → row < length w.rows.methods
  runs_within Static c key row r = let m = path_finds w.rows c key row r in slice_get-below w.rows.methods row m.method m.there
  runs_within Special c key row r = let m = selection_finds w.rows c key row r in slice_get-below w.rows.methods row m.method m.there
  runs_within Virtual c key row r = let m = selection_finds w.rows r.0 key row r.1.finds in slice_get-below w.rows.methods row m.method m.there
  runs_within Interface c key row r = let m = selection_finds w.rows r.0 key row r.1.finds in slice_get-below w.rows.methods row m.method m.there

  row_within : (m : DeclaredMethod) (row : ℕ) → Runs w m row → row < length (methods_of w.classes)
  row_within m row r = let h = runs_within _ _ _ row r.1.calls.runs in omega (arith, h, bounded.methods)

  step_within : (a b : Node) → Leads w a b → IsNodeOf w b
  step_within (method number) (method row) l = row_within l.0 row l.2
  step_within (method number) (class c) l = slice_get-below w.classes c l.2.3.class l.2.3.there
  step_within (class c) (class above) s = bounded.above c above s
  step_within (class c) (method row) l = row_within _ row l.2

  pub led_within : (a : Node) → IsLedTo w a → IsNodeOf w a
  led_within b (begins l) = step_within (method (root_number w)) b l
  led_within b (goes_on {a} led l) = step_within a b l

-- ---- lists that grew behind

old_at : (old new behind : List ℕ) (i number : ℕ) → new ≡ old ++ behind → i < length old → slice_get new i ≡ Some number → slice_get old i ≡ Some number
old_at old new behind i number grown below there =
    let was = slice_get-there old i below in
    let still = slice_get-append_left old behind i was.0 was.1 in
    let e : slice_get (old ++ behind) i ≡ Some number = subst (λ (xs : List ℕ). slice_get xs i ≡ Some number) grown there in
    let same : was.0 ≡ number = cc (still, e) in
    was.1 ∙ ap Some same

new_at : (old new behind : List ℕ) (i number : ℕ) → new ≡ old ++ behind → slice_get old i ≡ Some number → slice_get new i ≡ Some number
new_at old new behind i number grown there = subst (λ (xs : List ℕ). slice_get xs i ≡ Some number) (sym grown) (slice_get-append_left old behind i number there)

longer_list : (old new behind : List ℕ) (n : ℕ) → new ≡ old ++ behind → n ≤ length old → n ≤ length new
longer_list old new behind n grown le = let e = ap length grown ∙ length-append old behind in omega (arith, e, le)

take_grown : (old new behind : List ℕ) (n row : ℕ) → new ≡ old ++ behind → slice_get old n ≡ Some row → take (n + 1) new ≡ take n old ++ row ∷ []
take_grown old new behind n row grown there =
    let still = new_at old new behind n row grown there in
    let within = slice_get-below new n row still in
    let before : take n new ≡ take n old = ap (take n) grown ∙ take-append-le n old behind (omega (arith, slice_get-below old n row there)) in
    take_more new n row within ∙ ap (λ (xs : List ℕ). xs ++ get_or new n row ∷ []) before ∙ ap (λ x. take n old ++ x ∷ []) (get_or_from_slice_get new n row row still)

-- a number below the next one is below, or the same
pub at_most : (i n : ℕ) → i < n + 1 → (i < n) ⊎ (i ≡ n)
at_most i n below = grind arith

-- distinct numbers below a bound aren't more
pub few_distinct : (xs : List ℕ) (n : ℕ) → IsDistinct eqb xs → ((i x : ℕ) → slice_get xs i ≡ Some x → x < n) → length xs ≤ n
few_distinct xs n distinct below =
    length-le_from_distinct_below xs n distinct (λ q m. let c = (is_member-Decides unsigned_Decides xs q).0 m in below c.0 q (slice_get-get_or xs c.0 q c.1 ∙ ap Some c.2))

-- ---- the turns

module _ (w : World) (s : Search) (is : IsSearched w s) (new : Found) where
  sound_more : (a : Node) → IsFound s.found a → Finds (Leads w a) s.found new → (b : Node) → IsFound new b → IsLedTo w b
  sound_more a there f b h = elim ((f.each b).0 h) [ inl was ↦ is.sound b was | inr l ↦ goes_on (is.sound a there) l ]

  module _ (a : Node) (f : Finds (Leads w a) s.found new) where
    keep : (b : Node) → IsFound s.found b → IsFound new b
    keep b was = (f.each b).1 (inl was)

    methods_kept : (i number : ℕ) → i < s.methods_done → slice_get new.methods i ≡ Some number → (b : Node) → Leads w (method number) b → IsFound new b
    methods_kept i number below there b l =
        keep b (is.closed.of_methods i number below (old_at _ _ f.methods_behind i number f.methods_grown (omega (arith, below, is.methods_there)) there) b l)

    classes_kept : (i c : ℕ) → i < s.classes_done → slice_get new.classes i ≡ Some c → (b : Node) → Leads w (class c) b → IsFound new b
    classes_kept i c below there b l =
        keep b (is.closed.of_classes i c below (old_at _ _ f.classes_behind i c f.classes_grown (omega (arith, below, is.classes_there)) there) b l)

  -- a method was visited
  pub searched_method : (row : ℕ) (first : Option FaultIn) → slice_get s.found.methods s.methods_done ≡ Some row → Finds (Leads w (method row)) s.found new
      → IsFirstIn w (take s.methods_done s.found.methods ++ row ∷ []) first
      → IsSearched w (record { found = new; methods_done = s.methods_done + 1; classes_done = s.classes_done; first = first })
  searched_method row first there f firsts = record {
    sound = sound_more (method row) (s.methods_done, there) f;
    closed = record {
      begun = λ b l. keep (method row) f b (is.closed.begun b l);
      of_methods = λ i number below here b l. elim (at_most i s.methods_done below) [
        | inl before ↦ methods_kept (method row) f i number before here b l
        | inr same ↦
            let e : slice_get new.methods s.methods_done ≡ Some number = subst (λ z. slice_get new.methods z ≡ Some number) same here in
            let still = new_at _ _ f.methods_behind s.methods_done row f.methods_grown there in
            let one : number ≡ row = cc (e, still) in
            (f.each b).1 (inr (subst (λ z. Leads w (method z) b) one l))
      ];
      of_classes = classes_kept (method row) f;
    };
    first = subst (λ (xs : List ℕ). IsFirstIn w xs first) (sym (take_grown _ _ f.methods_behind s.methods_done row f.methods_grown there)) firsts;
    methods_there = let still = slice_get-below new.methods s.methods_done row (new_at _ _ f.methods_behind s.methods_done row f.methods_grown there) in omega (arith, still);
    classes_there = longer_list _ _ f.classes_behind s.classes_done f.classes_grown is.classes_there;
  }

  -- a class was visited
  pub searched_class : (c : ℕ) → slice_get s.found.classes s.classes_done ≡ Some c → Finds (Leads w (class c)) s.found new
      → IsSearched w (record { found = new; methods_done = s.methods_done; classes_done = s.classes_done + 1; first = s.first })
  searched_class c there f = record {
    sound = sound_more (class c) (s.classes_done, there) f;
    closed = record {
      begun = λ b l. keep (class c) f b (is.closed.begun b l);
      of_methods = methods_kept (class c) f;
      of_classes = λ i d below here b l. elim (at_most i s.classes_done below) [
        | inl before ↦ classes_kept (class c) f i d before here b l
        | inr same ↦
            let e : slice_get new.classes s.classes_done ≡ Some d = subst (λ z. slice_get new.classes z ≡ Some d) same here in
            let still = new_at _ _ f.classes_behind s.classes_done c f.classes_grown there in
            let one : d ≡ c = cc (e, still) in
            (f.each b).1 (inr (subst (λ z. Leads w (class z) b) one l))
      ];
    };
    first = subst (λ (xs : List ℕ). IsFirstIn w xs s.first) (sym (ap (take s.methods_done) f.methods_grown ∙ take-append-le s.methods_done s.found.methods f.methods_behind is.methods_there)) is.first;
    methods_there = longer_list _ _ f.methods_behind s.methods_done f.methods_grown is.methods_there;
    classes_there = let still = slice_get-below new.classes s.classes_done c (new_at _ _ f.classes_behind s.classes_done c f.classes_grown there) in omega (arith, still);
  }

-- fewer may still be done
pub method_done : (w : World) (s t : Search) → t.methods_done ≡ s.methods_done + 1 → t.classes_done ≡ s.classes_done → s.methods_done < length (methods_of w.classes) → left_of w t < left_of w s
method_done w s t e same below = omega (arith, e, same, below)

pub class_done : (w : World) (s t : Search) → t.methods_done ≡ s.methods_done → t.classes_done ≡ s.classes_done + 1 → s.classes_done < length w.classes → left_of w t < left_of w s
class_done w s t same e below = omega (arith, e, same, below)

-- the methods that are found are no more than those of the program, and so are the classes
module _ (w : World) (bounded : IsBounded w) (s : Search) (is : IsSearched w s) where
  pub method_within : (i row : ℕ) → slice_get s.found.methods i ≡ Some row → row < length (methods_of w.classes)
  method_within i row there = led_within w bounded (method row) (is.sound (method row) (i, there))

  pub class_within : (i c : ℕ) → slice_get s.found.classes i ≡ Some c → c < length w.classes
  class_within i c there = led_within w bounded (class c) (is.sound (class c) (i, there))

  pub methods_left : (row : ℕ) → IsDistinct eqb s.found.methods → slice_get s.found.methods s.methods_done ≡ Some row → s.methods_done < length (methods_of w.classes)
  methods_left row distinct there =
      let few = few_distinct s.found.methods (length (methods_of w.classes)) distinct method_within in
      omega (arith, few, slice_get-below s.found.methods s.methods_done row there)

  pub classes_left : (c : ℕ) → IsDistinct eqb s.found.classes → slice_get s.found.classes s.classes_done ≡ Some c → s.classes_done < length w.classes
  classes_left c distinct there =
      let few = few_distinct s.found.classes (length w.classes) distinct class_within in
      omega (arith, few, slice_get-below s.found.classes s.classes_done c there)

  -- a method of a class is one of those that are linked
  pub method_there : (i row : ℕ) → slice_get s.found.methods i ≡ Some row → (m : DeclaredMethod) × (slice_get (methods_of w.classes) row ≡ Some m)
  method_there i row there = slice_get-there (methods_of w.classes) row (method_within i row there)

-- no more is found
pub none_left : (xs : List ℕ) (n : ℕ) → slice_get xs n ≡ None → n ≤ length xs → n ≡ length xs
none_left xs n none le = elim (eq-or-lt_of_le le) [
  | inl same ↦ same
  | inr below ↦ let there = slice_get-there xs n below in cc
]
