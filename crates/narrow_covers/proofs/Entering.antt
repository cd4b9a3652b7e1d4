-- A call's row, by what it enters. What a call does goes by its program only where it looks a method up; so wherever a look-up leads to what is wanted, the
-- row does.
use Rattle.std.proofs.Common.{ℕ, List, Option, Some, None, inl, inr}
use Rattle.jim_ast.specs.declared.syntax.Mode.{Mode}
use Rattle.jim_ast.specs.declared.syntax.Mode.TheVariants.{Special, Virtual, Interface, Static}
use Rattle.link_rules.specs.Linked.{LinkedMethod, LinkedProgram}
use Rattle.narrow_rules.proofs.Well.{over}
use Rattle.step_rules.specs.declared.parts.Value.{Value}
use Rattle.step_rules.specs.declared.parts.Value.TheVariants.{Null, Number, Object}
use Rattle.step_rules.specs.Effects.{Effect}
use Rattle.step_rules.specs.Offers.{CallsOn, CallsWith, Enters, EntersBelow, EntersBy, WithValue}
use Rattle.step_rules.specs.Slots.{local_of}
use Rattle.step_rules.specs.States.{HeapObject, Point}

-- whatever a program enters from a class is what follows of its row
abbrev pub Follows : LinkedProgram → ℕ → ℕ → Option Value → List Value → (List Effect → Type 0) → Type 0
Follows p from key this values G = (offered : List Effect) → Enters p from key this values offered → G offered

-- where both programs' rows follow from what they enter, what the first enters leads to the second's row
abbrev pub Leads : LinkedProgram → List LinkedMethod → ℕ → (List Effect → Type 0) → (List Effect → Type 0) → Type 0
Leads p ms key G H = (from : ℕ) (this : Option Value) (values : List Value) (offered : List Effect) → Follows p from key this values G
    → Follows (over p ms) from key this values H → Enters p from key this values offered → H offered

module _ (p : LinkedProgram) (ms : List LinkedMethod) (at : Point) (class key : ℕ) (G H : List Effect → Type 0) (leads : Leads p ms key G H) where
  -- from the class of an object
  by_class : (from : ℕ) (this : Option Value) (values : List Value) (offered : List Effect)
      → ((other : List Effect) → EntersBelow p class from key this values other → G other)
      → ((other : List Effect) → EntersBelow (over p ms) class from key this values other → H other)
      → EntersBelow p class from key this values offered → H offered
  by_class from this values offered g h e = elim e [
    | inl below ↦ leads from this values offered (λ other i. g other (inl (below.0, i))) (λ other i. h other (inl (below.0, i))) below.1
    | inr not_below ↦ h offered (inr not_below)
  ]

  -- by the mode, on an object
  by_mode : (mode : Mode) (object : HeapObject) (this : Option Value) (values : List Value) (offered : List Effect)
      → ((other : List Effect) → EntersBy p mode class key object this values other → G other)
      → ((other : List Effect) → EntersBy (over p ms) mode class key object this values other → H other)
      → EntersBy p mode class key object this values offered → H offered
  by_mode Static object this values offered g h e = leads class this values offered g h e
  by_mode Special object this values offered g h e = leads class this values offered g h e
  by_mode Virtual object this values offered g h e = by_class object.class this values offered g h e
  by_mode Interface object this values offered g h e = by_class object.class this values offered g h e

  -- on a value
  on_value : (mode : Mode) (value : Value) (values : List Value) (offered : List Effect)
      → ((other : List Effect) → CallsOn p at mode class key value values other → G other)
      → ((other : List Effect) → CallsOn (over p ms) at mode class key value values other → H other)
      → CallsOn p at mode class key value values offered → H offered
  on_value mode (Object o) values offered g h e =
      by_mode mode e.0 (Some (Object o)) values offered (λ other i. g other (e.0, e.1, i)) (λ other i. h other (e.0, e.1, i)) e.2
  on_value mode Null values offered g h e = h offered e
  on_value mode Number values offered g h e = h offered e

  -- on what a local holds
  on_local : (mode : Mode) (held : Option Value) (values : List Value) (offered : List Effect)
      → ((other : List Effect) → WithValue held (λ value. CallsOn p at mode class key value values) other → G other)
      → ((other : List Effect) → WithValue held (λ value. CallsOn (over p ms) at mode class key value values) other → H other)
      → WithValue held (λ value. CallsOn p at mode class key value values) offered → H offered
  on_local mode (Some value) values offered g h e = on_value mode value values offered g h e
  on_local mode None values offered g h e = h offered e

  -- the row of calls
  pub calls_move : (mode : Mode) (receiver : Option ℕ) (args : Option (List Value)) (offered : List Effect)
      → ((other : List Effect) → CallsWith p at mode class key receiver args other → G other)
      → ((other : List Effect) → CallsWith (over p ms) at mode class key receiver args other → H other)
      → CallsWith p at mode class key receiver args offered → H offered
  calls_move mode None (Some values) offered g h e = leads class None values offered g h e
  calls_move mode (Some x) (Some values) offered g h e = on_local mode (local_of at.top x) values offered g h e
  calls_move mode None None offered g h e = h offered e
  calls_move mode (Some x) None offered g h e = h offered e
