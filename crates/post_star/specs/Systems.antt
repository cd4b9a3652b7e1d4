-- The rules of a system, and where they are found.
use Rattle.std.specs.Prelude.{List, [], ◌++◌}
use Rattle.auto_table.specs.declared.rule.Rule.{Rule}
use Rattle.post_star.specs.declared.system.System.{System}
use Rattle.post_star.specs.Index.{IsIndex}

-- the common rules and its own
abbrev pub rules_of : {W : Type 0} → System W → List (Rule W)
rules_of x = x.common.rules.now ++ x.own.rules.now

-- both have their index
pub record IsIndexed {W : Type 0} (x : System W) : Type 0 where
  pub common : IsIndex x.common.rules.now x.steps.now x.common.index.now
  pub own : IsIndex x.own.rules.now [] x.own.index.now
