-- The classes that are chosen for a call.
use Rattle.std.specs.Prelude.{◌≡◌, ℕ, ◌≤◌, Option, Some, None, List, [], ◌∷◌, Contains, length, max, min, slice_get, slice_index_or}
use Rattle.class_order.specs.declared.spans.Span.{Span}
use Rattle.class_order.specs.Spans.{Holds}
use Rattle.lists.specs.Lists.{IsLeast}
use Rattle.object_ranges.specs.declared.chosen.Choice.{Choice}
use Rattle.object_ranges.specs.declared.parts.Part.{Part}
use Rattle.object_ranges.specs.declared.selection.Selection.{Selection}
use Rattle.object_ranges.specs.declared.selection.Selection.TheVariants.{Nothing}
use Rattle.object_ranges.specs.Marks.{IsLeastOf, Stands, StandsIn}
use Rattle.object_ranges.specs.Parts.{IsIn}

-- for each span the least class that stands in it
pub record AreLeasts (marks : List (Option ℕ)) (spans : List Span) (leasts : List (Option ℕ)) : Type 0 where
  pub len : length leasts ≡ length spans
  pub each : (k : ℕ) (span : Span) → slice_get spans k ≡ Some span → IsLeastOf (StandsIn marks span.start span.end) (slice_index_or leasts k None)

-- the class stands in the part and in the span
abbrev pub StandsInClip : List (Option ℕ) → Part → Span → ℕ → Type 0
StandsInClip marks part span class = StandsIn marks (max part.start span.start) (min part.end span.end) class

-- the class stands in the part and in one of the spans
abbrev pub StandsInBoth : List (Option ℕ) → List Span → Part → ℕ → Type 0
StandsInBoth marks spans part class = (place : ℕ) × IsIn part place × Holds spans place × Stands marks place class

-- something is selected
abbrev pub SelectsSome : Selection → Type 0
SelectsSome selection = selection ≡ Nothing → ⊥

-- the choice of a part, if there is one: the least class that stands in it and in one of the spans, where something is selected from it
abbrev pub IsChoiceOf : List (Option ℕ) → List Span → Part → Option Choice → Type 0
IsChoiceOf marks spans part (Some choice) = SelectsSome part.selection × (choice.selection ≡ part.selection) × IsLeast (StandsInBoth marks spans part) choice.class
IsChoiceOf marks spans part None = SelectsSome part.selection → (class : ℕ) → StandsInBoth marks spans part class → ⊥

-- the choices of the parts, in their order: one for each part that has one
pub data AreChoicesOf (marks : List (Option ℕ)) (spans : List Span) : List Part → List Choice → Type 0 where
  none : AreChoicesOf marks spans [] []
  gives : {parts : List Part} {choices : List Choice} {part : Part} {choice : Choice} → IsChoiceOf marks spans part (Some choice) → AreChoicesOf marks spans parts choices
      → AreChoicesOf marks spans (part ∷ parts) (choice ∷ choices)
  gives_none : {parts : List Part} {choices : List Choice} {part : Part} → IsChoiceOf marks spans part None → AreChoicesOf marks spans parts choices
      → AreChoicesOf marks spans (part ∷ parts) choices

-- a choice that serves for a class from which this is selected: its class is no later, and the same is selected from it
pub record IsServed (choices : List Choice) (class : ℕ) (selection : Selection) : Type 0 where
  pub choice : Choice
  pub there : Contains choices choice
  pub same : choice.selection ≡ selection
  pub first : choice.class ≤ class
