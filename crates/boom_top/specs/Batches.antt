-- What `batch` is answered: the status and the lines, when it is answered, what it covers, and its evidence; and a batch as its queries are asked.
use Rattle.std.proofs.Common.{◌∙◌, sym}
use Rattle.std.specs.Fmt.{decimal}
use Rattle.std.specs.Io.KnownBytes.{Appends}
use Rattle.std.specs.List.{AllZip, concat, flat_map}
use Rattle.std.specs.Prelude.{◌≡◌, ℕ, ◌++◌, ◌⊎◌, List, [], ◌∷◌, None, Option, Some, codes, length, slice_get}
use Rattle.lists.specs.Lists.{Has}
use Rattle.link_rules.specs.Linked.{LinkedProgram}
use Rattle.link_sites.specs.declared.site.Site.{Site}
use Rattle.spds_rules.specs.declared.node.Node.{Node}
use Rattle.query_core.specs.Answers.{IsAffordable}
use Rattle.query_core.specs.Places.{IsPlaceOf}
use Rattle.boom_words.specs.Requests.{PointsTo}
use Rattle.batch_lines.specs.Queries.{AreQueries, IsFirstBad, QueryParts}
use Rattle.report_text.specs.Answers.{IsAnswerText}
use Rattle.report_text.specs.Lines.{text_of}
use Rattle.boom_top.specs.Places.{IsPlaceReply}
use Rattle.boom_top.specs.PointsTo.{IsEvident}
use Rattle.boom_top.specs.Printed.{TellsAllRuns}
use Rattle.boom_top.specs.Refusals.{IsRefusedBy}
use Rattle.boom_top.specs.declared.status.Status.{Status}
use Rattle.boom_top.specs.declared.status.Status.TheVariants.{Done, NotBatch}

-- what a query of a batch asks for, within the budget that each has
abbrev pub asked_of : ℕ → QueryParts → PointsTo
asked_of budget q = record { method = q.method; index = q.index; local = q.local; budget = budget }

-- the lines that answer a query of a batch: those of a `points-to` command about its place, whatever their status
abbrev pub AnswersQuery : LinkedProgram → ℕ → QueryParts → List (List ℕ) → Type 0
AnswersQuery p budget q lines = (status : Status) × IsPlaceReply p (asked_of budget q) (IsAnswerText p) status lines

-- how many queries there are, and behind this what answers each, in their order
pub record AreAnsweredAll (p : LinkedProgram) (budget : ℕ) (queries : List QueryParts) (lines : List (List ℕ)) : Type 0 where
  pub answers : List (List (List ℕ))
  pub each : AllZip (AnswersQuery p budget) queries answers
  pub in_order : lines ≡ (codes "batch " ++ decimal (length queries)) ∷ flat_map (λ (own : List (List ℕ)). own) answers

-- about the lines behind a program: one is no query, or all are
abbrev pub IsBatchReply : LinkedProgram → ℕ → List ℕ → Status → List (List ℕ) → Type 0
IsBatchReply p budget rest status lines = ((at : ℕ) × IsFirstBad rest at × IsRefusedBy (NotBatch at) status lines)
    ⊎ ((queries : List QueryParts) × AreQueries rest queries × AreAnsweredAll p budget queries lines × (status ≡ Done))

-- the number of queries was written, and behind its line a text for each, in their order
pub record WritesEach (queries : List QueryParts) (texts : List (List ℕ)) (old new : Option (List ℕ)) : Type 0 where
  pub as_many : length texts ≡ length queries
  pub wrote : Appends old new ((codes "batch " ++ decimal (length queries)) ++ 10 ∷ concat texts)

-- the text is a refusal: one line that says so
abbrev pub IsRefusalText : List ℕ → Type 0
IsRefusalText text = (rest : List ℕ) × (text ≡ text_of ((codes "refused " ++ rest) ∷ []))

-- the text begins with the line that repeats the query
abbrev pub RepeatsQuery : QueryParts → List ℕ → Type 0
RepeatsQuery q text = (rest : List (List ℕ))
    × (text ≡ text_of ((codes "points-to " ++ q.method ++ codes " " ++ decimal q.index ++ codes " " ++ q.local) ∷ rest))

-- A text for each query was written. Where a query's place is there, its own text is a refusal, or it repeats the query and has the line of the site of each
-- object that a run brings to the local.
pub record PrintsEachAllRuns (p : LinkedProgram) (queries : List QueryParts) (old new : Option (List ℕ)) : Type 0 where
  pub texts : List (List ℕ)
  pub writes : WritesEach queries texts old new
  pub covers : (i : ℕ) (q : QueryParts) (text : List ℕ) → slice_get queries i ≡ Some q → slice_get texts i ≡ Some text
      → (n : Node) → IsPlaceOf p q.method q.index q.local n → IsRefusalText text ⊎ (RepeatsQuery q text × TellsAllRuns p n text)

-- the answers cover each run
abbrev pub CoversBatch : LinkedProgram → List ℕ → Option (List ℕ) → Option (List ℕ) → Type 0
CoversBatch p rest old new = (queries : List QueryParts) → AreQueries rest queries → PrintsEachAllRuns p queries old new

-- a text answers about the node, and each site that it tells is evident
pub record IsShownIn (p : LinkedProgram) (n : Node) (text : List ℕ) : Type 0 where
  pub sites : List Site
  pub demanded : ℕ
  pub told : IsAnswerText p n sites demanded text
  pub shown : (o : Site) → Has sites o → IsEvident p n o

-- Texts that answer the queries were written, and where a query's place is there and its demand within the budget, each site of its own text is evident.
pub record PrintsEachShown (p : LinkedProgram) (budget : ℕ) (queries : List QueryParts) (old new : Option (List ℕ)) : Type 0 where
  pub texts : List (List ℕ)
  pub writes : WritesEach queries texts old new
  pub answers : (i : ℕ) (q : QueryParts) (text : List ℕ) → slice_get queries i ≡ Some q → slice_get texts i ≡ Some text
      → (lines : List (List ℕ)) × AnswersQuery p budget q lines × (text ≡ text_of lines)
  pub shown : (i : ℕ) (q : QueryParts) (text : List ℕ) → slice_get queries i ≡ Some q → slice_get texts i ≡ Some text
      → (n : Node) → IsPlaceOf p q.method q.index q.local n → IsAffordable p (n ∷ []) budget → IsShownIn p n text

-- the program, the queries, and how many nodes each may demand
pub record Batch : Type 0 where
  pub program : LinkedProgram
  pub queries : List QueryParts
  pub budget : ℕ

-- the text answers a query of the batch
abbrev pub IsOwnText : Batch → QueryParts → List ℕ → Type 0
IsOwnText b q text = (lines : List (List ℕ)) × AnswersQuery b.program b.budget q lines × (text ≡ text_of lines)

-- what is told of a number: the one text that answers its query, and nothing where there is none
abbrev pub TellsQuery : Batch → Option QueryParts → List ℕ → Type 0
TellsQuery b (Some q) text = IsOwnText b q text × ((other : List ℕ) → IsOwnText b q other → other ≡ text)
TellsQuery b None text = text ≡ []

abbrev pub TellsNumber : Batch → ℕ → List ℕ → Type 0
TellsNumber b number = TellsQuery b (slice_get b.queries number)

-- of a number one text is told
pub told_one : (b : Batch) (found : Option QueryParts) (text other : List ℕ) → TellsQuery b found text → TellsQuery b found other → text ≡ other
told_one b (Some q) text other is also = also.1 text is.0
told_one b None text other is also = is ∙ sym also
