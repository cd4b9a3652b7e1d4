-- Classes by their names.
use Rattle.std.proofs.Common.{◌≡◌, ℕ, suc, ◌<◌, List, Some, All, length, slice_get, subst, arith}
use Rattle.std.proofs.lemmas.Option.{get_or_from_slice_get}
use Rattle.lists.specs.Lists.{Has}
use Rattle.lists.proofs.Places.{slice_get-below}
use Rattle.lists.proofs.Joined.{slice_get-mapped}
use Rattle.link_rules.specs.declared.code.Code.{Code}
use Rattle.link_rules.specs.declared.code.Code.TheVariants as code
use Rattle.link_rules.specs.Linked.{LinkedClass, LinkedProgram}
use Rattle.link_rules.specs.Targets.{exception_names, nine_names}
use Rattle.link_rules.specs.WellLinked.{FitsCode, FitsMethod, HasClass, IsInForm}
use Rattle.link_rules.specs.Accessed.{linked_class_names}
use Rattle.link_program.proofs.Found.{at_map}
use Rattle.link_sites.specs.declared.site.Site.{Site}
use Rattle.link_sites.specs.declared.site.Site.TheVariants as site
use Rattle.link_sites.specs.Places.{CodeAt}
use Rattle.link_sites.specs.Sites.{IsClassOfMade, IsNamedClass, IsSiteClass}

-- what all elements of a list have
pub All-at : {X : Type 0} (P : X → Type 0) (xs : List X) (i : ℕ) (x : X) → slice_get xs i ≡ Some x → All P xs → P x
All-at P xs i x there all = subst P (get_or_from_slice_get xs i x x there) (all i x (slice_get-below xs i x there))

-- a class that is named is there
pub IsNamedClass-below : (p : LinkedProgram) (name : List ℕ) (class : ℕ) → IsNamedClass p name class → class < length p.classes
IsNamedClass-below p name class is =
    let there = slice_get-mapped (λ (c : LinkedClass). c.name) p.classes class name is.holds in
    slice_get-below p.classes class there.0 there.1

-- each of the nine names is that of a class
pub is_named : (p : LinkedProgram) (name : List ℕ) → IsInForm p → Has nine_names name → Has (linked_class_names p.classes) name
is_named p name form has =
    let class = All-at (HasClass p) nine_names has.0 name has.1 form.nine in
    (class.0, subst (λ n. slice_get (linked_class_names p.classes) class.0 ≡ Some n) class.3 (at_map (λ (c : LinkedClass). c.name) p.classes class.0 class.1 class.2))

-- the names of the exceptions are among the nine
pub exceptions_are_named : (kind : ℕ) (name : List ℕ) → slice_get exception_names kind ≡ Some name → Has nine_names name
exceptions_are_named kind name there = (suc (suc (suc kind)), there)

-- a statement of the program fits it
pub FitsCode-at : (p : LinkedProgram) (number index : ℕ) (c : Code) → IsInForm p → (at : CodeAt p number index c) → FitsCode p at.method c
FitsCode-at p number index c form at = All-at (FitsCode p at.method) at.method.code index c at.here (All-at (FitsMethod p) p.methods number at.method at.there form.methods).codes

-- the class of what is made is there
IsClassOfMade-below : (p : LinkedProgram) (number index : ℕ) (c : Code) (class : ℕ) → IsInForm p → CodeAt p number index c → IsClassOfMade p c class → class < length p.classes
IsClassOfMade-below p number index (code.New to made) class form at is = let fits = FitsCode-at p number index (code.New to made) form at in omega (arith, fits.1, is)
IsClassOfMade-below p number index (code.NewArray to) class form at is = IsNamedClass-below p _ class is
IsClassOfMade-below p number index (code.NewMulti to levels) class form at is = IsNamedClass-below p _ class is
IsClassOfMade-below p number index _ class form at is = absurd is

-- the class of a site is there
pub IsSiteClass-below : (p : LinkedProgram) (s : Site) (class : ℕ) → IsInForm p → IsSiteClass p s class → class < length p.classes
IsSiteClass-below p (site.New place) class form is = IsClassOfMade-below p place.method place.index is.1.code class form is.1.at is.1.is_so
IsSiteClass-below p (site.Nested place level) class form is = IsNamedClass-below p _ class is.1
IsSiteClass-below p (site.Raised place kind) class form is = IsNamedClass-below p is.1.0 class is.1.2
IsSiteClass-below p (site.Text number) class form is = IsNamedClass-below p _ class is.1
IsSiteClass-below p (site.Class number) class form is = IsNamedClass-below p _ class is.1
