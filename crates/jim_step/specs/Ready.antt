-- What the machine counts on at a statement.
use Rattle.std.specs.Prelude.{◌≡◌, ◌≢◌, ◌<◌, ◌^◌, Option, Some, None, length}
use Rattle.jim_step.specs.Plans.{code_of}
use Rattle.jim_step.specs.Sizes.{HasNumber}
use Rattle.link_rules.specs.declared.code.Arg.{Arg}
use Rattle.link_rules.specs.declared.code.Code.{Code}
use Rattle.link_rules.specs.declared.code.Code.TheVariants.{Copy, Cast, Length, Load, Store, StoreCell, LoadStatic, StoreStatic, Call, Switch, Return, Throw, Monitor}
use Rattle.link_rules.specs.Linked.{LinkedProgram}
use Rattle.step_rules.specs.Shapes.{EachOf}
use Rattle.step_rules.specs.States.{Frame}

-- the operand that is returned, if one is
abbrev pub GivesNumber : LinkedProgram → Option Arg → Type 0
GivesNumber p (Some a) = HasNumber p a
GivesNumber p None = Unit {0}

-- the operands of the statement have numbers, and the fields and classes that it names are there
abbrev pub IsReady : LinkedProgram → Code → Type 0
IsReady p (Copy to a) = HasNumber p a
IsReady p (Cast to a) = HasNumber p a
IsReady p (Length to a) = HasNumber p a
IsReady p (Load to base field) = field ≢ 0
IsReady p (Store base field a) = HasNumber p a
IsReady p (StoreCell base a) = HasNumber p a
IsReady p (LoadStatic to field) = field < p.static_count
IsReady p (StoreStatic field a) = HasNumber p a
IsReady p (Call to mode class key receiver args targets) = (class < length p.classes) × EachOf (HasNumber p) args
IsReady p (Switch jumps) = length jumps < 2 ^ 32
IsReady p (Return a) = GivesNumber p a
IsReady p (Throw a) = HasNumber p a
IsReady p (Monitor a) = HasNumber p a
IsReady p _ = Unit {0}

-- the statement at which a frame stands is so
abbrev pub IsReadyAt : LinkedProgram → Frame → Type 0
IsReadyAt p top = (code : Code) → code_of p top ≡ Some code → IsReady p code
