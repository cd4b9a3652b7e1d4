-- The evidence for the sites that are printed.
use Rattle.std.specs.Prelude.{ℕ, List, Option}
use Rattle.link_rules.specs.Linked.{LinkedProgram}
use Rattle.boom_words.specs.Requests.{Question, alias, batch, demo, explain, paths, points_to, refined, replay, run, typestate}
use Rattle.batch_lines.specs.Queries.{AreQueries, QueryParts}
use Rattle.boom_top.specs.Aliases.{PrintsShared}
use Rattle.boom_top.specs.Batches.{PrintsEachShown}
use Rattle.boom_top.specs.Explain.{PrintsExplained}
use Rattle.boom_top.specs.PointsTo.{PrintsShown}
use Rattle.boom_top.specs.Refined.{PrintsRefinedShown}
use Rattle.boom_top.specs.Replays.{PrintsCertified}

-- The evidence, by what was asked, of a program and of what stands behind its text. None is claimed of the sites at the end of a path, and other commands
-- print none.
abbrev pub HasEvidence : LinkedProgram → List ℕ → Question → Option (List ℕ) → Option (List ℕ) → Type 0
HasEvidence p rest (points_to asked) old new = PrintsShown p asked old new
HasEvidence p rest (explain asked) old new = PrintsExplained p asked old new
HasEvidence p rest (alias of) old new = PrintsShared p of old new
HasEvidence p rest (paths asked) old new = Unit {0}
HasEvidence p rest (run asked) old new = Unit {0}
HasEvidence p rest (replay budget) old new = PrintsCertified p rest old new
HasEvidence p rest (typestate asked) old new = Unit {0}
HasEvidence p rest (batch budget) old new = (queries : List QueryParts) → AreQueries rest queries → PrintsEachShown p budget queries old new
HasEvidence p rest (refined asked) old new = PrintsRefinedShown p asked old new
HasEvidence p rest (demo boxes) old new = Unit {0}
