-- Methods that calls may enter.
use Rattle.std.specs.Prelude.{ℕ, List}
use Rattle.lists.specs.Lists.{Has}
use Rattle.link_rules.specs.Linked.{LinkedProgram}
use Rattle.link_rules.specs.WellLinked.{HasTarget}
use Rattle.link_sites.specs.declared.place.Place.{Place}

-- some of the methods are among the others
abbrev pub AreEntered : List ℕ → List ℕ → Type 0
AreEntered methods loud = (method : ℕ) × Has methods method × Has loud method

-- some target of the call is among these methods
abbrev pub HasTargetAmong : LinkedProgram → List ℕ → Place → Type 0
HasTargetAmong p loud c = (target : ℕ) × HasTarget p c.method c.index target × Has loud target
