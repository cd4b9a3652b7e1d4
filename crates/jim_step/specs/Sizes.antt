-- What a machine counts fits its numbers.
use Rattle.std.specs.Prelude.{◌+◌, ◌<◌, ◌^◌, length}
use Rattle.link_rules.specs.declared.code.Arg.{Arg}
use Rattle.link_rules.specs.declared.code.Arg.TheVariants as arg
use Rattle.link_rules.specs.declared.code.Code.{Code}
use Rattle.link_rules.specs.declared.code.Code.TheVariants.{Switch}
use Rattle.link_rules.specs.Linked.{LinkedMethod, LinkedProgram}
use Rattle.step_rules.specs.Shapes.{EachOf}

-- the object of a constant has a number
abbrev pub HasNumber : LinkedProgram → Arg → Type 0
HasNumber p (arg.Class i) = length p.texts + i < 2 ^ 32
HasNumber p _ = Unit {0}

-- the jumps of a switch have numbers
abbrev pub HasFewJumps : Code → Type 0
HasFewJumps (Switch jumps) = length jumps < 2 ^ 32
HasFewJumps _ = Unit {0}

-- the statements of a method, and the jumps of each, have numbers
abbrev pub IsSmallMethod : LinkedMethod → Type 0
IsSmallMethod m = (length m.code < 2 ^ 32) × EachOf HasFewJumps m.code

-- so it is with each method, and with the objects of constants
pub record IsSmall (p : LinkedProgram) : Type 0 where
  pub methods : EachOf IsSmallMethod p.methods
  pub constants : length p.texts + length p.class_texts < 2 ^ 32
