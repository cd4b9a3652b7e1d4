-- What is read of a linked program.
use Rattle.std.specs.Prelude.{◌≡◌, ℕ, zero, suc, ◌+◌, ◌<◌, List, Option, Some, None, length, map, slice_get}
use Rattle.lists.specs.Lists.{IsLeast, Has}
use Rattle.link_rules.specs.declared.code.Code.{Code}
use Rattle.link_rules.specs.Linked.{Element, LinkedClass, LinkedField, LinkedMethod, LinkedProgram}
use Rattle.link_rules.specs.WellLinked.{MakesArrays}

-- the fact holds of what stands there
abbrev pub At : {X : Type 0} → List X → ℕ → (X → Type 0) → Type 0
At {X} xs number P = (x : X) → slice_get xs number ≡ Some x → P x

-- the code of each method
abbrev pub codes_in : LinkedProgram → List (List Code)
codes_in p = map (λ m. m.code) p.methods

-- the names of these classes
abbrev pub linked_class_names : List LinkedClass → List (List ℕ)
linked_class_names classes = map (λ c. c.name) classes

-- the text stands there, and at no place before
abbrev pub IsFirstPlace : List (List ℕ) → List ℕ → ℕ → Type 0
IsFirstPlace texts text n = IsLeast (λ i. slice_get texts i ≡ Some text) n

-- the class of an instance field; 0, which stands for the elements of arrays, has none
abbrev pub field_class : LinkedProgram → ℕ → Option ℕ
field_class p zero = None
field_class p (suc field) = slice_get (map (λ f. f.class) p.fields) field

-- the field of this number among these, counted from 1 on, is of this class and this name; 0, which stands for the elements of arrays, is none
abbrev pub IsEntryNamed : List LinkedField → ℕ → List ℕ → ℕ → Type 0
IsEntryNamed fields class name zero = ⊥
IsEntryNamed fields class name (suc at) = slice_get fields at ≡ Some (record { class = class; name = name })

-- the class itself declares the instance field with this number, under this name
abbrev pub IsFieldNamed : LinkedProgram → ℕ → List ℕ → ℕ → Type 0
IsFieldNamed p class name field = IsEntryNamed p.fields class name field

-- the statement of the method makes an array
pub record MakesArray (p : LinkedProgram) (number index : ℕ) : Type 0 where
  pub method : LinkedMethod
  pub there : slice_get p.methods number ≡ Some method
  pub code : Code
  pub here : slice_get method.code index ≡ Some code
  pub makes : MakesArrays code

-- one of the elements is of this index, and has this text
pub record HasElementText (elements : List Element) (index : ℕ) (text : List ℕ) : Type 0 where
  pub element : Element
  pub has : Has elements element
  pub at : element.index ≡ index
  pub is_text : element.text ≡ text

-- the method isn't the root, and has this text
pub record HasText (p : LinkedProgram) (text : List ℕ) (number : ℕ) : Type 0 where
  pub method : LinkedMethod
  pub there : slice_get p.methods number ≡ Some method
  pub not_root : number + 1 < length p.methods
  pub is_text : method.text ≡ text
