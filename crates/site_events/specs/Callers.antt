-- The methods that call each method.
use Rattle.std.specs.Prelude.{◌≡◌, ◌↔◌, ◌<◌, ℕ, List, eqb, length}
use Rattle.lists.specs.Lists.{Has}
use Rattle.link_rules.specs.Linked.{LinkedProgram}
use Rattle.link_rules.specs.WellLinked.{HasTarget}
use Rattle.lists.specs.Groups.{Grouped, found_at}

-- some call in the method has the target
abbrev pub IsCaller : LinkedProgram → ℕ → ℕ → Type 0
IsCaller p target method = (index : ℕ) × HasTarget p method index target

-- under each method of the program are those that call it
abbrev pub AreCallers : LinkedProgram → Grouped ℕ ℕ → Type 0
AreCallers p callers = (target method : ℕ) → target < length p.methods → Has (found_at eqb callers target) method ↔ IsCaller p target method

-- methods of the program
abbrev pub AreMethodNumbers : LinkedProgram → List ℕ → Type 0
AreMethodNumbers p methods = (method : ℕ) → Has methods method → method < length p.methods
