-- What is written into a heap.
use Rattle.std.specs.Prelude.{◌≡◌, ◌++◌, ℕ, List, [], ◌∷◌, Some, length, slice_get, slice_set}
use Rattle.link_sites.specs.declared.site.Site.{Site}
use Rattle.step_rules.specs.declared.parts.Value.{Value}
use Rattle.step_rules.specs.declared.parts.Value.TheVariants.{Object}
use Rattle.step_rules.specs.States.{HeapObject, new_object, written}

-- the object with this number has one more write, and the others stay
abbrev pub IsWritten : List HeapObject → ℕ → ℕ → Value → List HeapObject → Type 0
IsWritten old number field value new = (object : HeapObject) × (slice_get old number ≡ Some object) × (new ≡ slice_set old number (written object field value))

-- a new object of the site and the class stands last, and the array with this number has it as one more element
abbrev pub IsHeld : List HeapObject → ℕ → Site → ℕ → List HeapObject → Type 0
IsHeld old array site class new = (outer : HeapObject) × (slice_get old array ≡ Some outer)
    × (new ≡ slice_set (old ++ new_object site class ∷ []) array (written outer 0 (Object (length old))))
