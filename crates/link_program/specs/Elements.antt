-- The arrays that a method makes, as they are kept.
use Rattle.std.specs.Prelude.{List, map}
use Rattle.link_rules.specs.Linked.{Element}
use Rattle.link_program.specs.declared.elements.ElementText.{ElementText}

-- an array as the linked program has it
abbrev pub element_of : ElementText → Element
element_of e = record { index = e.index; text = e.text }

abbrev pub elements_in : List ElementText → List Element
elements_in elements = map element_of elements
