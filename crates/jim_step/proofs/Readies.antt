-- What the machine counts on at a statement holds at the top frame's.
use Rattle.std.proofs.Common.{◌≡◌, ℕ, ◌+◌, ◌<◌, ◌^◌, List, Option, Some, None, All, IfSome, length, slice_get, subst, arith}
use Rattle.std.proofs.lemmas.Option.{get_or_from_slice_get}
use Rattle.lists.proofs.Places.{slice_get-below, slice_get-there}
use Rattle.jim_step.specs.Ready.{GivesNumber, IsReady}
use Rattle.jim_step.specs.Sizes.{HasFewJumps, HasNumber, IsSmall}
use Rattle.link_rules.specs.declared.code.Arg.{Arg}
use Rattle.link_rules.specs.declared.code.Arg.TheVariants as arg
use Rattle.link_rules.specs.declared.code.Code.{Code}
use Rattle.link_rules.specs.declared.code.Code.TheVariants.{Copy, Cast, Length, Load, Store, StoreCell, LoadStatic, StoreStatic, Call, Switch, Return, Throw, Monitor}
use Rattle.link_rules.specs.Linked.{LinkedMethod, LinkedProgram}
use Rattle.link_rules.specs.WellLinked.{FitsArg, FitsCatch, FitsCode, FitsMethod, IsInForm}
use Rattle.step_rules.specs.Shapes.{EachOf, FitsPoint}
use Rattle.step_rules.specs.States.{Point}

-- the fact of the element at a place
pub at_all : {X : Type 0} (P : X → Type 0) (xs : List X) (i : ℕ) (x : X) → All P xs → slice_get xs i ≡ Some x → P x
at_all P xs i x all e = subst P (get_or_from_slice_get xs i x x e) (all i x (slice_get-below xs i x e))

module _ (p : LinkedProgram) (m : LinkedMethod) (few : length p.texts + length p.class_texts < 2 ^ 32) where
  number_of : (a : Arg) → FitsArg p m a → HasNumber p a
  number_of (arg.Class i) fits = omega arith
  number_of _ fits = tt

  given : (a : Option Arg) → IfSome a (FitsArg p m) → GivesNumber p a
  given (Some a) fits = number_of a fits
  given None fits = tt

  -- the numbers of a statement that is in form
  pub ready : (c : Code) → FitsCode p m c → HasFewJumps c → IsReady p c
  ready (Copy to a) fits few_jumps = number_of a fits.1
  ready (Cast to a) fits few_jumps = number_of a fits.1
  ready (Length to a) fits few_jumps = number_of a fits.1
  ready (Load to base field) fits few_jumps = λ e. let h : 0 < field = fits.2.0 in omega arith
  ready (Store base field a) fits few_jumps = number_of a fits.2
  ready (StoreCell base a) fits few_jumps = number_of a fits.1
  ready (LoadStatic to field) fits few_jumps = fits.1
  ready (StoreStatic field a) fits few_jumps = number_of a fits.1
  ready (Call to mode class key receiver args targets) fits few_jumps =
      (fits.1, λ i a e. number_of a (at_all (FitsArg p m) args i a fits.4 e))
  ready (Switch jumps) fits few_jumps = few_jumps
  ready (Return a) fits few_jumps = given a fits
  ready (Throw a) fits few_jumps = number_of a fits
  ready (Monitor a) fits few_jumps = number_of a fits
  ready _ fits few_jumps = tt

-- what the top frame's statement is
pub record Here (p : LinkedProgram) (at : Point) : Type 0 where
  pub method : LinkedMethod
  pub there : slice_get p.methods at.top.method ≡ Some method
  pub code : Code
  pub here : slice_get method.code at.top.index ≡ Some code
  pub is_ready : IsReady p code
  pub next : at.top.index + 1 < 2 ^ 32

-- it is there, and ready
pub here_of : (p : LinkedProgram) (at : Point) → IsInForm p → IsSmall p → FitsPoint p at → Here p at
here_of p at form small fits =
    let c = slice_get-there fits.top.method.code at.top.index fits.top.within in
    let in_form = at_all (FitsMethod p) p.methods at.top.method fits.top.method form.methods fits.top.there in
    let is_small = small.methods at.top.method fits.top.method fits.top.there in
    record {
      method = fits.top.method;
      there = fits.top.there;
      code = c.0;
      here = c.1;
      is_ready = ready p fits.top.method small.constants c.0
          (at_all (FitsCode p fits.top.method) fits.top.method.code at.top.index c.0 in_form.codes c.1) (is_small.1 at.top.index c.0 c.1);
      next = omega (arith, is_small.0, fits.top.within);
    }

-- the handlers of a method in form have classes of the program
pub caught_in : (p : LinkedProgram) (number : ℕ) (m : LinkedMethod) → IsInForm p → slice_get p.methods number ≡ Some m
    → EachOf (λ c. c.class < length p.classes) m.catches
caught_in p number m form there i c e =
    (at_all (FitsCatch p m) m.catches i c (at_all (FitsMethod p) p.methods number m form.methods there).catches e).0
