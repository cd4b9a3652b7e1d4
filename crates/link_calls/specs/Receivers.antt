-- The classes that may have objects, by their places, and those that are looked at for a call.
use Rattle.std.specs.Prelude.{◌≡◌, ◌<◌, ℕ, List, Option, length, slice_index, Contains}
use Rattle.std.specs.Global.{Vec}
use Rattle.std.specs.List.Sorted.{IsNonDecreasingBy}
use Rattle.class_rules.specs.Rows.{Rows, Sub}
use Rattle.class_order.specs.Groups.{group}
use Rattle.class_tree.specs.Layouts.{LaysOut}
use Rattle.default_turns.specs.declared.turns.DefaultTurn.{DefaultTurn}
use Rattle.default_turns.specs.Turns.{TellDefaults}
use Rattle.object_ranges.specs.declared.chosen.Choice.{Choice}
use Rattle.object_ranges.specs.declared.parts.Part.{Part}
use Rattle.object_ranges.specs.declared.selection.Selection.{Selection}
use Rattle.object_ranges.specs.Chosen.{AreLeasts, IsServed, SelectsSome}
use Rattle.object_ranges.specs.Marks.{Stands}
use Rattle.object_ranges.specs.Parts.{AreInOrder, TellParts}
use Rattle.link_rules.specs.Targets.{IsInstantiableAt}
use Rattle.link_rules.specs.World.{World}
use Rattle.link_calls.specs.declared.receivers.Receivers.{Receivers}
use Rattle.link_calls.specs.declared.tables.KeyTables.{KeyTables}
use Rattle.link_calls.specs.Selected.{IsSelection}
use Rattle.number_sets.specs.Tables.{AreKept, Entries}

-- the classes that may have objects stand at their places, and no others
pub record AreMarks (w : World) (places : List ℕ) (marks : List (Option ℕ)) : Type 0 where
  pub len : length marks ≡ length w.classes
  pub each : (place class : ℕ) → Stands marks place class → IsInstantiableAt w class × (slice_index places class ≡ place)
  pub all : (class : ℕ) → IsInstantiableAt w class → Stands marks (slice_index places class) class

-- the classes that may have objects, by the places of all classes
pub record AreReceivers (w : World) (r : Receivers) : Type 0 where
  pub as_many : length w.rows.classes ≡ length w.classes
  pub laid : LaysOut w.rows r.layout
  pub marks : AreMarks w r.layout.places.now r.objects

-- the turns of the key's default methods, which tell those that each class reaches
abbrev pub AreDefaultsOf : World → Receivers → ℕ → List DefaultTurn → Type 0
AreDefaultsOf w r key turns = TellDefaults w.rows r.layout.places.now key turns

-- what is kept for keys are their turns
abbrev pub AreKnownDefaults : World → Receivers → Entries (Vec DefaultTurn) → Type 0
AreKnownDefaults w r entries = AreKept (λ key turns. AreDefaultsOf w r key turns.items) entries

-- the parts of the key: they tell what is selected from the classes that may have objects
pub record ArePartsOf (w : World) (r : Receivers) (key : ℕ) (parts : List Part) : Type 0 where
  pub in_order : AreInOrder parts
  pub select : ℕ → Selection
  pub selects : (class : ℕ) → class < length w.rows.classes → IsSelection w.rows class key (select (slice_index r.layout.places.now class))
  pub told : TellParts r.objects select parts

-- what is kept for keys are their parts
abbrev pub AreKnownParts : World → Receivers → Entries (Vec Part) → Type 0
AreKnownParts w r entries = AreKept (λ key parts. ArePartsOf w r key parts.items) entries

-- what is kept for keys, of either kind
pub record AreKnownByKey (w : World) (r : Receivers) (keys : KeyTables) : Type 0 where
  pub defaults : AreKnownDefaults w r keys.defaults
  pub parts : AreKnownParts w r keys.parts

-- the least classes that may have objects, by the spans of the class
abbrev pub AreLeastsOf : Receivers → ℕ → List (Option ℕ) → Type 0
AreLeastsOf r class leasts = AreLeasts r.objects (group r.layout.reach.now class) leasts

-- what is kept for classes are their least classes
abbrev pub AreKnownLeasts : Receivers → Entries (List (Option ℕ)) → Type 0
AreKnownLeasts r entries = AreKept (AreLeastsOf r) entries

-- what is selected from the class; and where it is something, so it is from that of a choice, which is no later
pub record HasChoice (rows : Rows) (key : ℕ) (choices : List Choice) (class : ℕ) : Type 0 where
  pub selection : Selection
  pub selected : IsSelection rows class key selection
  pub served : SelectsSome selection → IsServed choices class selection

-- in the order of the classes, some of those that a call on an object may find there, which serve for all that select something
pub record AreChoices (w : World) (class key : ℕ) (choices : List Choice) : Type 0 where
  pub sorted : IsNonDecreasingBy (λ choice. choice.class) choices
  pub instantiable : (choice : Choice) → Contains choices choice → IsInstantiableAt w choice.class
  pub below : (choice : Choice) → Contains choices choice → Sub w.rows choice.class class
  pub selected : (choice : Choice) → Contains choices choice → IsSelection w.rows choice.class key choice.selection
  pub served : (receiver : ℕ) → IsInstantiableAt w receiver → Sub w.rows receiver class → HasChoice w.rows key choices receiver
