-- What a command's fields are, and what is said where words are refused.
use Rattle.std.specs.Prelude.{◌≡◌, ℕ, ◌^◌, ◌<◌, List, [], ◌∷◌, ◌++◌, Result, IfErr}
use Rattle.std.specs.Fmt.{decimal}
use Rattle.boom_words.specs.Requests.{Alias, Paths, PointsTo, Question, Refined, Request, RunFor, Typestate, alias, batch, demo, explain, paths, points_to, refined, replay, run, typestate}
use Rattle.boom_words.specs.declared.request.Asked.{Asked}
use Rattle.boom_words.specs.declared.request.Command.{Command}
use Rattle.boom_words.specs.declared.request.Query.{Query}
use Rattle.boom_words.specs.declared.request.Query.TheVariants as query
use Rattle.boom_words.specs.declared.request.Running.{Running}
use Rattle.boom_words.specs.declared.request.Tracking.{Tracking}
use Rattle.boom_words.specs.declared.word.NotRead.{NotRead}
use Rattle.boom_words.specs.declared.word.NotRead.TheVariants.{Refused}

-- what a `points-to` or an `explain` command asks for
abbrev pub points_to_of : Asked → PointsTo
points_to_of a = record { method = a.method.now; index = a.index; local = a.local.now; budget = a.budget }

-- what an `alias` command asks for: a place, and its second local
abbrev pub alias_of : Asked → List ℕ → Alias
alias_of a second = record { method = a.method.now; index = a.index; first = a.local.now; second = second; budget = a.budget }

-- what a `paths` command asks for: a place, and the word that spells the fields
abbrev pub paths_of : Asked → List ℕ → Paths
paths_of a fields = record { method = a.method.now; index = a.index; local = a.local.now; fields = fields; budget = a.budget }

-- what a `refined` command asks for: a place, and the rounds
abbrev pub refined_of : Asked → ℕ → Refined
refined_of a rounds = record { method = a.method.now; index = a.index; local = a.local.now; rounds = rounds; budget = a.budget }

-- what a `run` command asks for
abbrev pub run_of : Running → RunFor
run_of a = record { steps = a.steps; choices = a.choices.now }

-- what a `typestate` command asks for
abbrev pub typestate_of : Tracking → Typestate
typestate_of a = record { protocol = a.protocol.now; budget = a.budget }

-- what a query asks
abbrev pub question_of : Query → Question
question_of (query.PointsTo asked) = points_to (points_to_of asked)
question_of (query.Explain asked) = explain (points_to_of asked)
question_of (query.Alias asked second) = alias (alias_of asked second.now)
question_of (query.Paths asked fields) = paths (paths_of asked fields.now)
question_of (query.Refined asked rounds) = refined (refined_of asked rounds)
question_of (query.Run asked) = run (run_of asked)
question_of (query.Replay budget) = replay budget
question_of (query.Typestate asked) = typestate (typestate_of asked)
question_of (query.Batch budget) = batch budget
question_of (query.Demo boxes) = demo boxes

-- the request that a command is
abbrev pub request_of : Command → Request
request_of c = record { entry = c.entry.now; question = question_of c.query }

-- where words are refused, this holds
abbrev pub IfRefused : {A : Type 0} → Result A NotRead → Type 0 → Type 0
IfRefused result P = IfErr result (λ e. e ≡ Refused → P)

-- the words that name a place and a budget, with these before the budget
abbrev pub place_words : Asked → List (List ℕ) → List (List ℕ)
place_words a between = a.method.now ∷ decimal a.index ∷ a.local.now ∷ (between ++ decimal a.budget ∷ [])

-- the four words name this place and this budget
pub record IsPlaced (method index local budget : List ℕ) (asked : PointsTo) : Type 0 where
  pub is_method : method ≡ asked.method
  pub is_index : index ≡ decimal asked.index
  pub is_local : local ≡ asked.local
  pub is_budget : budget ≡ decimal asked.budget
  pub small_index : asked.index < 2 ^ 32
  pub small_budget : asked.budget < 2 ^ 32
