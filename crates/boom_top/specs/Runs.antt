-- What a reply says of the runs of the machine.
use Rattle.std.specs.Prelude.{ℕ, List, Option}
use Rattle.link_rules.specs.Linked.{LinkedProgram}
use Rattle.boom_words.specs.Requests.{Question, alias, batch, demo, explain, paths, points_to, refined, replay, run, typestate}
use Rattle.boom_top.specs.Aliases.{CoversAliases}
use Rattle.boom_top.specs.Batches.{CoversBatch}
use Rattle.boom_top.specs.Paths.{CoversPath}
use Rattle.boom_top.specs.Places.{CoversPlace}
use Rattle.boom_top.specs.Refined.{CoversRefined}

-- The headline of the top call, by what was asked, of a program and of what stands behind its text: the site of each object that a run brings to the local
-- is printed, for each query of a batch in the text that answers it, and for a path that of each object at its end, and locals that hold one object are
-- printed as aliases. The runs are those of the program that was read, also where its calls are refined. What is said of a run is exact, a replay tells one
-- site, and what is said of the demo tells none. When a protocol is met by all runs stands in `Safety`.
abbrev pub CoversAllRuns : LinkedProgram → List ℕ → Question → Option (List ℕ) → Option (List ℕ) → Type 0
CoversAllRuns p rest (points_to asked) old new = CoversPlace p asked old new
CoversAllRuns p rest (explain asked) old new = CoversPlace p asked old new
CoversAllRuns p rest (alias asked) old new = CoversAliases p asked old new
CoversAllRuns p rest (paths asked) old new = CoversPath p asked old new
CoversAllRuns p rest (run asked) old new = Unit {0}
CoversAllRuns p rest (replay budget) old new = Unit {0}
CoversAllRuns p rest (typestate asked) old new = Unit {0}
CoversAllRuns p rest (batch budget) old new = CoversBatch p rest old new
CoversAllRuns p rest (refined asked) old new = CoversRefined p asked old new
CoversAllRuns p rest (demo boxes) old new = Unit {0}
