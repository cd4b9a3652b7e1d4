-- When a request is answered.
use Rattle.std.specs.Prelude.{ℕ, List}
use Rattle.link_rules.specs.Linked.{LinkedProgram}
use Rattle.boom_words.specs.Requests.{IsRequest, Question, Request, alias, batch, demo, explain, paths, points_to, refined, replay, run, typestate}
use Rattle.batch_lines.specs.Queries.{AreQueries, QueryParts}
use Rattle.boom_top.specs.Aliases.{IsAliasWithin}
use Rattle.boom_top.specs.Demo.{demo_asked}
use Rattle.boom_top.specs.Paths.{IsPathWithin}
use Rattle.boom_top.specs.Places.{IsWithin}
use Rattle.boom_top.specs.Queries.{Accepted, rest_in, source_of}
use Rattle.boom_top.specs.Refined.{IsRefinedWithin}
use Rattle.boom_top.specs.Replays.{IsCertificateOf}
use Rattle.boom_top.specs.Typestates.{IsJudgeable}

-- what is asked of a linked program, with what stands behind its text, can be answered
abbrev pub HasAnswer : LinkedProgram → List ℕ → Question → Type 0
HasAnswer p rest (points_to asked) = IsWithin p asked
HasAnswer p rest (explain asked) = IsWithin p asked
HasAnswer p rest (alias asked) = IsAliasWithin p asked
HasAnswer p rest (paths asked) = IsPathWithin p asked
HasAnswer p rest (run asked) = Unit {0}
HasAnswer p rest (replay budget) = IsCertificateOf p budget rest
HasAnswer p rest (typestate asked) = IsJudgeable p asked
HasAnswer p rest (batch budget) = (queries : List QueryParts) × AreQueries rest queries
HasAnswer p rest (refined asked) = IsRefinedWithin p asked
HasAnswer p rest (demo boxes) = IsWithin p (demo_asked boxes)

-- the words ask for what can be answered, of a program that the bytes spell and that is linked
pub record IsAnswerable (words : List (List ℕ)) (bytes : List ℕ) : Type 0 where
  pub request : Request
  pub requested : IsRequest words request
  pub accepted : Accepted request bytes
  pub answer : HasAnswer accepted.linked (rest_in request.question (source_of request.question bytes)) request.question
