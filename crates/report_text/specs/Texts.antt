-- The texts of places and of allocation sites. How they are spelled is this project's own.
use Rattle.std.specs.Prelude.{◌≡◌, ℕ, ◌-◌, ◌<◌, ◌++◌, List, Some, codes, slice_get}
use Rattle.std.specs.Fmt.{decimal}
use Rattle.link_rules.specs.declared.code.Code.{Code}
use Rattle.link_rules.specs.declared.code.Code.TheVariants.{New, NewArray, NewMulti}
use Rattle.link_rules.specs.Linked.{LinkedClass, LinkedMethod, LinkedProgram}
use Rattle.link_rules.specs.Names.{brackets}
use Rattle.link_rules.specs.Targets.{exception_names}
use Rattle.link_rules.specs.Accessed.{HasElementText}
use Rattle.link_sites.specs.declared.place.Place.{Place}
use Rattle.link_sites.specs.declared.site.Site.{Site}
use Rattle.link_sites.specs.declared.site.Site.TheVariants as site
use Rattle.link_sites.specs.Places.{CodeAt}

-- the text grew by one with the fact
pub record AddsText (P : List ℕ → Type 0) (old new : List ℕ) : Type 0 where
  pub added : List ℕ
  pub is_so : P added
  pub grown : new ≡ old ++ added

-- a place's text: that of its method, a space, the index of the statement. An exception in flight isn't told
pub record IsPlaceText (p : LinkedProgram) (place : Place) (text : List ℕ) : Type 0 where
  pub method : LinkedMethod
  pub there : slice_get p.methods place.method ≡ Some method
  pub text_is : text ≡ method.text ++ codes " " ++ decimal place.index

-- the type of arrays that a statement at an index of a method makes: that of what the innermost ones hold, and so many pairs of brackets
abbrev pub IsArrayText : LinkedMethod → ℕ → ℕ → List ℕ → Type 0
IsArrayText m index pairs text = (element : List ℕ) × HasElementText m.elements index element × (text ≡ element ++ brackets pairs)

-- what a statement at an index of a method makes: the name of the class, or the type of the arrays of a level, of which the outermost is 0. The type has
-- a pair for each level from this one on
abbrev pub IsMadeText : LinkedProgram → LinkedMethod → ℕ → ℕ → Code → List ℕ → Type 0
IsMadeText p m index level (New to class) text = (c : LinkedClass) × (slice_get p.classes class ≡ Some c) × (text ≡ c.name)
IsMadeText p m index level (NewArray to) text = IsArrayText m index 1 text
IsMadeText p m index level (NewMulti to levels) text = IsArrayText m index (levels - level) text
IsMadeText p m index level _ text = ⊥

-- the statement makes something of the level: of arrays of arrays there are levels, of all else one
abbrev pub MakesLevel : ℕ → Code → Type 0
MakesLevel level (New to class) = level ≡ 0
MakesLevel level (NewArray to) = level ≡ 0
MakesLevel level (NewMulti to levels) = level < levels
MakesLevel level _ = ⊥

-- what the statement at a place makes
pub record IsMadeAt (p : LinkedProgram) (place : Place) (level : ℕ) (text : List ℕ) : Type 0 where
  pub code : Code
  pub at : CodeAt p place.method place.index code
  pub made : IsMadeText p at.method place.index level code text

-- the text of the objects, or the arrays of a level, that the statement at a place makes
pub record IsNewText (p : LinkedProgram) (place : Place) (level : ℕ) (text : List ℕ) : Type 0 where
  pub at : List ℕ
  pub made : List ℕ
  pub at_is : IsPlaceText p place at
  pub made_is : IsMadeAt p place level made
  pub text_is : text ≡ at ++ codes " new " ++ made

-- the text of the implicit exceptions of one kind that the statement at a place raises
pub record IsRaisedText (p : LinkedProgram) (place : Place) (kind : ℕ) (text : List ℕ) : Type 0 where
  pub at : List ℕ
  pub class : List ℕ
  pub at_is : IsPlaceText p place at
  pub class_is : slice_get exception_names kind ≡ Some class
  pub text_is : text ≡ at ++ codes " raise " ++ class

-- the text of a constant: its kind, and its spelling in quotes
abbrev pub constant_text : List ℕ → List ℕ → List ℕ
constant_text word spelling = word ++ codes " \"" ++ spelling ++ codes "\""

-- the text of a site
abbrev pub IsSiteText : LinkedProgram → Site → List ℕ → Type 0
IsSiteText p (site.New place) text = IsNewText p place 0 text
IsSiteText p (site.Nested place level) text = IsNewText p place level text
IsSiteText p (site.Raised place kind) text = IsRaisedText p place kind text
IsSiteText p (site.Text number) text = (spelling : List ℕ) × (slice_get p.texts number ≡ Some spelling) × (text ≡ constant_text (codes "text") spelling)
IsSiteText p (site.Class number) text = (spelling : List ℕ) × (slice_get p.class_texts number ≡ Some spelling) × (text ≡ constant_text (codes "class") spelling)
