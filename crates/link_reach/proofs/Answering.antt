-- What the end of the search tells.
use Rattle.std.proofs.Common.{◌≡◌, ℕ, ◌<◌, Some, None, List, length, refl, sym, subst, inl, inr, slice_get, take, arith}
use Rattle.std.specs.List.{All}
use Rattle.std.proofs.lemmas.List.{take_all}
use Rattle.std.proofs.lemmas.Option.{slice_get-get_or}
use Rattle.lists.specs.Lists.{Has}
use Rattle.lists.proofs.Places.{slice_get-below}
use Rattle.link_rules.specs.declared.refusal.LinkKind.{LinkKind}
use Rattle.link_rules.specs.Classes.{DeclaredMethod, methods_of}
use Rattle.link_rules.specs.Reach.{AreInitialized, Reached, RefusesAt}
use Rattle.link_rules.specs.Refusals.{IsAccepted, IsBefore, IsFirst, Refusal, Refuses, RefusesWhole, whole, within}
use Rattle.link_rules.specs.Root.{root_number, root_of}
use Rattle.link_rules.specs.World.{World}
use Rattle.link_rules.proofs.Runs.{ordered_one}
use Rattle.link_faults.specs.declared.examined.Fault.{Fault}
use Rattle.link_faults.specs.Examined.{HasNoFault, IsFirstFault}
use Rattle.link_reach.specs.declared.firsts.FaultIn.{FaultIn}
use Rattle.link_reach.specs.declared.search.Search.{Search}
use Rattle.link_reach.specs.Firsts.{IsFirstIn, IsFirstOf}
use Rattle.link_reach.specs.Graph.{IsLedTo, Leads, Node, method, class, begins, goes_on}
use Rattle.link_reach.specs.Reaches.{AreReached, AreThose, IsStarted}
use Rattle.link_reach.specs.Search.{IsBounded, IsFound, IsSearched}
use Rattle.link_reach.proofs.Paths.{initialized_class, initialized_led, reached_led, stands}
use Rattle.link_reach.proofs.Searching.{led_within}

module _ (w : World) (bounded : IsBounded w) (s : Search) (is : IsSearched w s)
    (all_methods : s.methods_done ≡ length s.found.methods) (all_classes : s.classes_done ≡ length s.found.classes) where
  led_on : (a b : Node) → IsFound s.found a → Leads w a b → IsFound s.found b
  led_on (method number) b found l = is.closed.of_methods found.0 number (let h = slice_get-below s.found.methods found.0 number found.1 in omega (arith, h, all_methods)) found.1 b l
  led_on (class c) b found l = is.closed.of_classes found.0 c (let h = slice_get-below s.found.classes found.0 c found.1 in omega (arith, h, all_classes)) found.1 b l

  -- all that is led to is found
  led_found : (a : Node) → IsLedTo w a → IsFound s.found a
  led_found b (begins l) = is.closed.begun b l
  led_found b (goes_on {a} led l) = led_on a b (led_found a led) l

  reached_found : (row : ℕ) → row < length (methods_of w.classes) → Reached w row → Has s.found.methods row
  reached_found row below reached = elim (reached_led w row reached) [ inl root ↦ absurd (omega (arith, below, root)) | inr led ↦ led_found (method row) led ]

  -- the methods in order are those that may be reached
  pub are_reached : (n : ℕ) (rows : List ℕ) → n ≡ length (methods_of w.classes) → AreThose (Has s.found.methods) n rows → AreReached w rows
  are_reached n rows e those = record {
    ordered = those.ordered;
    each = λ row. (
      (λ h. let p = (those.each row).0 h in (omega (arith, p.0, e), stands w (method row) (is.sound (method row) p.1))),
      (λ p. (those.each row).1 (omega (arith, p.0, e), reached_found row p.0 p.1)),
    );
  }

  -- the classes in order are those to be initialized
  pub are_initialized : (initialized : List ℕ) → AreThose (IsStarted w s.found.classes) (length w.classes) initialized → AreInitialized w initialized
  are_initialized initialized those = record {
    ordered = those.ordered;
    each = λ c. (
      (λ h. let p = (those.each c).0 h in initialized_class w c p.1.1.0 (stands w (class c) (is.sound (class c) p.1.0)) p.1.1.1),
      (λ i. let p = initialized_led w c i in (those.each c).1 (led_within w bounded (class c) p.1, (led_found (class c) p.1, p.0))),
    );
  }

  done_row : (row : ℕ) → Has s.found.methods row → Has (take s.methods_done s.found.methods) row
  done_row row h = subst (λ (xs : List ℕ). Has xs row) (sym (take_all s.methods_done s.found.methods (omega (arith, all_methods)))) h

  row_found : (row : ℕ) (m : DeclaredMethod) → slice_get (methods_of w.classes) row ≡ Some m → Reached w row → Has (take s.methods_done s.found.methods) row
  row_found row m there reached = done_row row (reached_found row (slice_get-below (methods_of w.classes) row m there) reached)

  -- one list of initialized classes
  one_list : (one two : List ℕ) → AreInitialized w one → AreInitialized w two → one ≡ two
  one_list one two a b =
      ordered_one (λ x y. x < y) one two (λ x y h k before after. omega (arith, before, after)) (λ c h. (b.each c).1 ((a.each c).0 h)) (λ c h. (a.each c).1 ((b.each c).0 h)) a.ordered b.ordered

  module _ (passed : (kind : LinkKind) (number : ℕ) → RefusesWhole w kind number → ⊥) where
    -- no rule refuses anything
    pub is_accepted : (initialized : List ℕ) → IsFirstIn w (take s.methods_done s.found.methods) None → AreInitialized w initialized
        → HasNoFault w (root_of w initialized) → IsAccepted w
    is_accepted initialized none are no_fault (whole kind number) refuses = passed kind number refuses
    is_accepted initialized none are no_fault (within number index kind) (m, inl (reached, there), refuses) = none number m (row_found number m there reached) there index kind refuses
    is_accepted initialized none are no_fault (within number index kind) (m, inr (at_root, others, are_too, is_root), refuses) =
        let same = one_list others initialized are_too are in
        no_fault index kind (subst (λ xs. RefusesAt w (root_of w xs) index kind) same (subst (λ z. RefusesAt w z index kind) is_root refuses))

    -- the first refusal is in a method
    pub is_first_method : (r : FaultIn) → IsFirstOf w (take s.methods_done s.found.methods) r → IsFirst w (within r.number r.fault.index r.fault.kind)
    is_first_method r f = record { refuses = (f.method, inl (stands w (method r.number) (is.sound (method r.number) here), f.is_method), f.refuses.refuses); first = first }
      where
        here : Has s.found.methods r.number
        here = subst (λ (xs : List ℕ). Has xs r.number) (take_all s.methods_done s.found.methods (omega (arith, all_methods))) f.there

        below : r.number < length (methods_of w.classes)
        below = slice_get-below (methods_of w.classes) r.number f.method f.is_method

        first : (other : Refusal) → Refuses w other → IsBefore other (within r.number r.fault.index r.fault.kind) → ⊥
        first (whole kind number) refuses before = passed kind number refuses
        first (within number index kind) (m, inl (reached, there), refuses) (inl less) =
            let le = f.first number m index kind (row_found number m there reached) there refuses in
            omega (arith, less, le)
        first (within number index kind) (m, inl (reached, there), refuses) (inr (same, before)) =
            let there_too : slice_get (methods_of w.classes) r.number ≡ Some m = subst (λ z. slice_get (methods_of w.classes) z ≡ Some m) same there in
            let one : m ≡ f.method = cc (there_too, f.is_method) in
            f.refuses.first index kind (subst (λ z. RefusesAt w z index kind) one refuses) before
        first (within number index kind) (m, inr (at_root, others, are_too, is_root), refuses) (inl less) = omega (arith, less, at_root, below)
        first (within number index kind) (m, inr (at_root, others, are_too, is_root), refuses) (inr (same, before)) = omega (arith, same, at_root, below)

    -- the first refusal is in the root
    pub is_first_root : (initialized : List ℕ) (fault : Fault) (n : ℕ) → n ≡ root_number w → IsFirstIn w (take s.methods_done s.found.methods) None → AreInitialized w initialized
        → IsFirstFault w (root_of w initialized) fault → IsFirst w (within n fault.index fault.kind)
    is_first_root initialized fault n e none are f = record { refuses = (root_of w initialized, inr (e, initialized, are, refl), f.refuses); first = first }
      where
        first : (other : Refusal) → Refuses w other → IsBefore other (within n fault.index fault.kind) → ⊥
        first (whole kind number) refuses before = passed kind number refuses
        first (within number index kind) (m, inl (reached, there), refuses) before = none number m (row_found number m there reached) there index kind refuses
        first (within number index kind) (m, inr (at_root, others, are_too, is_root), refuses) (inl less) = omega (arith, less, at_root, e)
        first (within number index kind) (m, inr (at_root, others, are_too, is_root), refuses) (inr (same, before)) =
            let one = one_list others initialized are_too are in
            f.first index kind (subst (λ xs. RefusesAt w (root_of w xs) index kind) one (subst (λ z. RefusesAt w z index kind) is_root refuses)) before

-- the refusal that is told
pub told : (w : World) (n i : ℕ) (k : LinkKind) → IsFirst w (within n i k) → (number index : ℕ) (kind : LinkKind) → n ≡ number → i ≡ index → k ≡ kind → IsFirst w (within number index kind)
told w n i k first number index kind a b c = rw (← a, ← b, ← c) first

-- the classes that are started are classes
pub started_within : (w : World) (asked : List ℕ) (n : ℕ) (initialized : List ℕ) → AreThose (IsStarted w asked) n initialized → All (λ c. c < n) initialized
started_within w asked n initialized those = λ k d below. ((those.each _).0 (k, slice_get-get_or initialized k d below)).0
