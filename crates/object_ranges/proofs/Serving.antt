-- The choices of parts serve for all classes in the spans.
use Rattle.std.proofs.Common.{◌≡◌, ℕ, ◌<◌, ◌≤◌, ◌⊎◌, Option, Some, None, List, [], ◌∷◌, sym, subst, ◌∙◌, inl, inr, arith}
use Rattle.std.specs.List.{Contains}
use Rattle.std.proofs.lemmas.List.Elements.{Contains-append_cases, Contains-append_left, Contains-append_right, Contains-push, Contains-push_cases}
use Rattle.class_order.specs.declared.spans.Span.{Span}
use Rattle.class_order.specs.Spans.{Holds}
use Rattle.lists.proofs.Elements.{Contains-nil}
use Rattle.object_ranges.specs.declared.chosen.Choice.{Choice}
use Rattle.object_ranges.specs.declared.parts.Part.{Part}
use Rattle.object_ranges.specs.declared.selection.Selection.{Selection}
use Rattle.object_ranges.specs.Chosen.{AreChoicesOf, IsChoiceOf, IsServed, SelectsSome, StandsInBoth, gives, gives_none, none}
use Rattle.object_ranges.specs.Marks.{Stands}
use Rattle.object_ranges.specs.Parts.{TellParts}

below_or : (a b : ℕ) → (a < b) ⊎ (b ≤ a)
below_or a b = grind arith

-- the class of the choice stands in one of the spans, and its selection is what is selected there
abbrev pub IsChosenIn : List (Option ℕ) → (ℕ → Selection) → List Span → Choice → Type 0
IsChosenIn marks select spans choice = (place : ℕ) × Holds spans place × Stands marks place choice.class × (choice.selection ≡ select place)

-- those that are chosen in the spans: they serve for all classes there from which something is selected
pub record AreChosen (marks : List (Option ℕ)) (select : ℕ → Selection) (spans : List Span) (choices : List Choice) : Type 0 where
  pub some : (choice : Choice) → Contains choices choice → SelectsSome choice.selection
  pub right : (choice : Choice) → Contains choices choice → IsChosenIn marks select spans choice
  pub served : (place class : ℕ) → Holds spans place → Stands marks place class → SelectsSome (select place) → IsServed choices class (select place)

module _ (marks : List (Option ℕ)) (spans : List Span) where
  first_or_later : {X : Type 0} (xs : List X) (x y : X) → Contains (x ∷ xs) y → (x ≡ y) ⊎ Contains xs y
  first_or_later xs x y m = elim (Contains-append_cases (x ∷ []) xs y m) [
    | inl here ↦ elim (Contains-push_cases [] x y here) [
      | inl nowhere ↦ absurd (Contains-nil y nowhere)
      | inr is ↦ inl is
    ]
    | inr later ↦ inr later
  ]

  first : {X : Type 0} (xs : List X) (x : X) → Contains (x ∷ xs) x
  first xs x = Contains-append_left (x ∷ []) xs x (Contains-push [] x)

  -- each choice is that of a part
  given_by : {parts : List Part} {choices : List Choice} → AreChoicesOf marks spans parts choices → (choice : Choice) → Contains choices choice
      → (part : Part) × Contains parts part × IsChoiceOf marks spans part (Some choice)
  given_by none choice m = absurd (Contains-nil choice m)
  given_by (gives {parts = parts} {choices = choices} {part = part} {choice = head} is rest) choice m = elim (first_or_later choices head choice m) [
    | inl same ↦ (part, first parts part, subst (λ c. IsChoiceOf marks spans part (Some c)) same is)
    | inr later ↦ let p = given_by rest choice later in (p.0, Contains-append_right (part ∷ []) parts p.0 p.1, p.2)
  ]
  given_by (gives_none {parts = parts} {part = part} is rest) choice m = let p = given_by rest choice m in (p.0, Contains-append_right (part ∷ []) parts p.0 p.1, p.2)

  -- and each part in which a class selects something gives one
  given : {parts : List Part} {choices : List Choice} → AreChoicesOf marks spans parts choices → (part : Part) → Contains parts part → SelectsSome part.selection
      → (class : ℕ) → StandsInBoth marks spans part class → (choice : Choice) × Contains choices choice × IsChoiceOf marks spans part (Some choice)
  given none part m some class both = absurd (Contains-nil part m)
  given (gives {parts = parts} {choices = choices} {part = head} {choice = choice} is rest) part m some class both = elim (first_or_later parts head part m) [
    | inl same ↦ (choice, first choices choice, subst (λ t. IsChoiceOf marks spans t (Some choice)) same is)
    | inr later ↦ let p = given rest part later some class both in (p.0, Contains-append_right (choice ∷ []) choices p.0 p.1, p.2)
  ]
  given (gives_none {parts = parts} {part = head} is rest) part m some class both = elim (first_or_later parts head part m) [
    | inl same ↦ absurd (subst (λ t. IsChoiceOf marks spans t None) same is some class both)
    | inr later ↦ given rest part later some class both
  ]

  pub chosen_all : (select : ℕ → Selection) (parts : List Part) (choices : List Choice) → TellParts marks select parts → AreChoicesOf marks spans parts choices
      → AreChosen marks select spans choices
  chosen_all select parts choices told are = record {
    some = λ choice m. let p = given_by are choice m in subst SelectsSome (sym p.2.1) p.2.0;
    right = λ choice m.
        let p = given_by are choice m in
        let stands = p.2.2.holds in
        (stands.0, stands.2, stands.3, p.2.1 ∙ sym (told.right p.0 p.1 stands.0 choice.class stands.1 stands.3));
    served = λ place class held st some.
        let p = told.all place class st in
        let is : select place ≡ p.0.selection = told.right p.0 p.1 place class p.2 st in
        let both : StandsInBoth marks spans p.0 class = (place, p.2, held, st) in
        let q = given are p.0 p.1 (subst SelectsSome is some) class both in
        record {
          choice = q.0;
          there = q.1;
          same = q.2.1 ∙ sym is;
          first = elim (below_or class q.0.class) [
            | inl less ↦ absurd (q.2.2.first class less both)
            | inr le ↦ le
          ];
        };
  }
