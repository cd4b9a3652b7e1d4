-- What the statement at a place makes.
use Rattle.std.proofs.Common.{◌≡◌, ℕ, List, Some, get_or, slice_get, refl, sym, subst, ◌∙◌}
use Rattle.std.proofs.lemmas.Option.{get_or_from_slice_get}
use Rattle.lists.proofs.Places.{slice_get-below, slice_get-there}
use Rattle.link_rules.specs.declared.code.Code.{Code}
use Rattle.link_rules.specs.declared.code.Code.TheVariants.{New, NewArray, NewMulti}
use Rattle.link_rules.specs.Linked.{LinkedClass, LinkedMethod, LinkedProgram}
use Rattle.link_rules.specs.WellLinked.{FitsCode, FitsMethod, IsInForm, MakesArrays}
use Rattle.link_rules.specs.Accessed.{At, MakesArray}
use Rattle.link_sites.specs.declared.place.Place.{Place}
use Rattle.link_sites.specs.Places.{CodeAt, HasCode}
use Rattle.link_sites.specs.Sites.{HasLevel, IsUnraised, Makes}
use Rattle.report_text.specs.Texts.{IsArrayText, IsMadeAt, IsMadeText, MakesLevel}

-- the statement that is read at a place of the code of the method
pub read_there : (p : LinkedProgram) (number index : ℕ) (F : Code → Type 0) (codes : List Code) (seen d : Code) → HasCode p number index F
    → ((m : LinkedMethod) → slice_get p.methods number ≡ Some m → codes ≡ m.code) → get_or codes index d ≡ seen → CodeAt p number index seen × F seen
read_there p number index F codes seen d has are e =
    let at = has.at in
    let same : has.code ≡ seen =
    sym (get_or_from_slice_get at.method.code index has.code d at.here) ∙ subst (λ cs. get_or cs index d ≡ seen) (are at.method at.there) e in
    (subst (λ code. CodeAt p number index code) same at, subst F same has.is_so)

-- a statement that makes something is one of three
pub makes_one : (level : ℕ) (code : Code) → MakesLevel level code → ((to class : ℕ) → code ≡ New to class → ⊥) → ((to : ℕ) → code ≡ NewArray to → ⊥)
    → ((to levels : ℕ) → code ≡ NewMulti to levels → ⊥) → ⊥
makes_one level (New to class) makes no_new no_array no_arrays = no_new to class refl
makes_one level (NewArray to) makes no_new no_array no_arrays = no_array to refl
makes_one level (NewMulti to levels) makes no_new no_array no_arrays = no_arrays to levels refl
makes_one level _ makes no_new no_array no_arrays = makes

-- a method of a program in form fits it
fits_method : (p : LinkedProgram) (number : ℕ) (m : LinkedMethod) → IsInForm p → slice_get p.methods number ≡ Some m → FitsMethod p m
fits_method p number m form there = subst (FitsMethod p) (get_or_from_slice_get p.methods number m m there) (form.methods number m (slice_get-below p.methods number m there))

-- its statements fit it
pub fits_code : (p : LinkedProgram) (number index : ℕ) (code : Code) → IsInForm p → (at : CodeAt p number index code) → FitsCode p at.method code
fits_code p number index code form at =
    subst (FitsCode p at.method) (get_or_from_slice_get at.method.code index code code at.here)
    ((fits_method p number at.method form at.there).codes index code (slice_get-below at.method.code index code at.here))

-- a statement that makes arrays makes an array
pub makes_array : (p : LinkedProgram) (number index : ℕ) (code : Code) → CodeAt p number index code → MakesArrays code → MakesArray p number index
makes_array p number index code at makes = record { method = at.method; there = at.there; code = code; here = at.here; makes = makes }

-- the name of the class of a `new`
pub made_class : (p : LinkedProgram) (place : Place) (level to class : ℕ) (name : List ℕ) → IsInForm p → CodeAt p place.method place.index (New to class)
    → ((c : LinkedClass) → slice_get p.classes class ≡ Some c → name ≡ c.name) → IsMadeAt p place level name
made_class p place level to class name form at named =
    let fits = fits_code p place.method place.index (New to class) form at in
    let there = slice_get-there p.classes class fits.1 in
    record { code = New to class; at = at; made = (there.0, there.1, named there.0 there.1) }

-- the type of arrays
pub made_array : (p : LinkedProgram) (place : Place) (level pairs : ℕ) (code : Code) (text : List ℕ)
    → ((m : LinkedMethod) → IsArrayText m place.index pairs text → IsMadeText p m place.index level code text) → CodeAt p place.method place.index code
    → At p.methods place.method (λ m. IsArrayText m place.index pairs text) → IsMadeAt p place level text
made_array p place level pairs code text same at typed = record { code = code; at = at; made = same at.method (typed at.method at.there) }

-- what makes something of the outermost level
pub makes_new : (p : LinkedProgram) (place : Place) → IsInForm p → IsUnraised p place Makes → IsUnraised p place (MakesLevel 0)
makes_new p place form is = (is.0, record { code = is.1.code; at = is.1.at; is_so = by is.1.code (fits_code p place.method place.index is.1.code form is.1.at) is.1.is_so })
  where
    by : (code : Code) → FitsCode p is.1.at.method code → Makes code → MakesLevel 0 code
    by (New to class) fits makes = refl
    by (NewArray to) fits makes = refl
    by (NewMulti to levels) fits makes = fits.1
    by _ fits makes = makes

-- and of an inner one
pub makes_level : (p : LinkedProgram) (place : Place) (level : ℕ) → IsUnraised p place (HasLevel level) → IsUnraised p place (MakesLevel level)
makes_level p place level is = (is.0, record { code = is.1.code; at = is.1.at; is_so = by is.1.code is.1.is_so })
  where
    by : (code : Code) → HasLevel level code → MakesLevel level code
    by (NewMulti to levels) has = has.1
    by _ has = absurd has
