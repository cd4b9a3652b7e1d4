-- The methods of a linked program as they are kept.
use Rattle.std.specs.Prelude.{◌≡◌, ℕ, ◌<◌, ◌^◌, List, [], ◌∷◌, All, length, map}
use Rattle.link_rules.specs.Linked.{LinkedMethod}
use Rattle.link_program.specs.Elements.{elements_in}
use Rattle.link_indexes.specs.declared.method.MethodCode.{MethodCode}
use Rattle.link_program.specs.declared.heads.Heads.{Heads}
use Rattle.link_program.specs.declared.method.MethodHead.{MethodHead}
use Rattle.link_program.specs.declared.methods.Methods.{Methods}

-- a method, with its code
abbrev pub linked_method : MethodHead → MethodCode → LinkedMethod
linked_method h b = record {
  text = h.text;
  has_this = h.has_this;
  params = h.params;
  locals = h.locals;
  code = b.code;
  catches = b.catches;
  elements = elements_in h.elements;
}

-- the methods, by what they are and by their code
abbrev pub joined : List MethodHead → List MethodCode → List LinkedMethod
joined (h ∷ hs) (b ∷ bs) = linked_method h b ∷ joined hs bs
joined _ _ = []

abbrev pub texts_of : List LinkedMethod → List (List ℕ)
texts_of methods = map (λ m. m.text) methods

-- there are fewer locals than 32 bits number
abbrev pub IsHead : MethodHead → Type 0
IsHead h = length h.locals < 2 ^ 32

abbrev pub methods_in : Methods → List LinkedMethod
methods_in m = joined m.heads.items m.bodies.items

-- what is kept of methods
pub record AreMethods (m : Methods) : Type 0 where
  pub as_many : length m.heads.items ≡ length m.bodies.items
  pub few : length m.heads.items < 2 ^ 32
  pub few_locals : All IsHead m.heads.items

-- the methods that have these heads and this code
abbrev pub methods_with : Heads → List MethodCode → List LinkedMethod
methods_with h bodies = joined h.heads.items bodies

-- what is kept of them
pub record AreMethodsWith (h : Heads) (bodies : List MethodCode) : Type 0 where
  pub as_many : length h.heads.items ≡ length bodies
  pub few : length h.heads.items < 2 ^ 32
  pub few_locals : All IsHead h.heads.items

-- the methods with other code
abbrev pub coded : List LinkedMethod → List MethodCode → List LinkedMethod
coded (m ∷ ms) (b ∷ bs) = record m { code = b.code; catches = b.catches } ∷ coded ms bs
coded _ _ = []

-- the method has this besides its code
pub record IsHeadOf (m : LinkedMethod) (h : MethodHead) : Type 0 where
  pub text : m.text ≡ h.text
  pub has_this : m.has_this ≡ h.has_this
  pub params : m.params ≡ h.params
  pub locals : m.locals ≡ h.locals
  pub elements : m.elements ≡ elements_in h.elements
  pub few_locals : IsHead h

-- the method has this code
pub record IsBodyOf (m : LinkedMethod) (b : MethodCode) : Type 0 where
  pub code : m.code ≡ b.code
  pub catches : m.catches ≡ b.catches
