-- What is asked of a linked program, and the reply to it.
use Rattle.std.proofs.Common.{◌≡◌, ◌≤◌, ℕ, List, [], ◌∷◌, ◌++◌, Ok, Err, Result, ap, codes, length, refl, subst, inl, inr}
use Rattle.std.specs.Result.{IfOk, IsErr}
use Rattle.std.specs.declared.alloc.AllocError.{AllocError}
use Rattle.std.specs.Fmt.{decimal}
use Rattle.link_rules.specs.Linked.{LinkedProgram}
use Rattle.link_sites.specs.declared.site.Site.{Site}
use Rattle.spds_rules.specs.declared.node.Node.{Node}
use Rattle.query_core.specs.declared.error.QueryError.{QueryError}
use Rattle.query_core.specs.declared.error.QueryError.TheVariants as error
use Rattle.query_core.specs.declared.places.Which.{Which}
use Rattle.query_core.specs.Answers.{AreSharedBy, IsAnswerTo, IsOver}
use Rattle.query_core.specs.Places.{ArePlacesOf, IsMissing, IsMissingOfTwo, IsPlaceOf}
use Rattle.query_core.proofs.NamedPlaces.{places_one}
use Rattle.report_text.specs.Aliases.{IsAliasText, verdict_lines}
use Rattle.report_text.specs.Answers.{IsAnswerText, count_lines}
use Rattle.report_text.specs.Lines.{text_of}
use Rattle.explain_text.specs.Explanations.{IsExplainText}
use Rattle.boom_words.specs.Requests.{Alias, PointsTo}
use Rattle.boom_top.specs.Demo.{IsDemoText, statement_count}
use Rattle.boom_top.specs.Parts.{Makes, Tells}
use Rattle.boom_top.specs.Refusals.{refusal}
use Rattle.boom_top.specs.Aliases.{IsAliasReply}
use Rattle.boom_top.specs.Places.{IsPlaceReply}
use Rattle.boom_top.specs.declared.query.Reply.{Reply}
use Rattle.boom_top.specs.declared.status.Status.TheVariants as status
use Rattle.boom_top.proofs.Both.{IfOk-both}
use Rattle.boom_top.proofs.Replied.{told}

-- what is made of an error of a query: its refusal, or nothing
pub record IsRefusal (e : QueryError) (made : Result Reply AllocError) : Type 0 where
  pub missing : (which : Which) → e ≡ error.NoSuchPlace which → IfOk made (Tells (status.NoSuchPlace which))
  pub over : (budget : ℕ) → e ≡ error.OverBudget budget → IfOk made (Tells (status.OverBudget budget))
  pub no_memory : e ≡ error.NoMemory → IsErr made

-- a text of lines
abbrev pub HasLines : List ℕ → Type 0
HasLines text = (lines : List (List ℕ)) × (text ≡ text_of lines)

pub answer_lines : (p : LinkedProgram) (n : Node) (sites : List Site) (demanded : ℕ) (text : List ℕ) → IsAnswerText p n sites demanded text → HasLines text
answer_lines p n sites demanded text t = (t.query ∷ (t.lines ++ count_lines (length sites) demanded), t.text_is)

pub explain_lines : (p : LinkedProgram) (n : Node) (sites : List Site) (demanded : ℕ) (text : List ℕ) → IsExplainText p n sites demanded text → HasLines text
explain_lines p n sites demanded text t = (t.query ∷ (t.lines ++ count_lines (length sites) demanded), t.text_is)

pub demo_lines : (p : LinkedProgram) (boxes : ℕ) (sites : List Site) (demanded : ℕ) (text : List ℕ) → IsDemoText p boxes sites demanded text → HasLines text
demo_lines p boxes sites demanded text t = (
  (codes "demo " ++ decimal boxes) ∷ (codes "statements " ++ decimal (statement_count p)) ∷ count_lines (length sites) demanded,
  t,
)

-- nothing that is made is no reply
unmade : (made : Result Reply AllocError) (P : Reply → Type 0) → IsErr made → IfOk made P
unmade (Err e) P none = tt
unmade (Ok reply) P none = absurd (let e = none in cc)

module _ (p : LinkedProgram) (asked : PointsTo) (Told : Node → List Site → ℕ → List ℕ → Type 0) (made : Result Reply AllocError) where
  -- a query of a place that has no answer
  pub place_refused : (e : QueryError) → IsRefusal e made → ((which : Which) → e ≡ error.NoSuchPlace which → IsMissing p asked.method asked.index asked.local which)
      → ((spent : ℕ) → e ≡ error.OverBudget spent
      → (spent ≡ asked.budget) × ((n : Node) × IsPlaceOf p asked.method asked.index asked.local n × IsOver p (n ∷ []) asked.budget))
      → IfOk made (Makes (IsPlaceReply p asked Told))
  place_refused (error.NoSuchPlace which) is missing over =
      told (IsPlaceReply p asked Told) made (status.NoSuchPlace which) (is.missing which refl) (inl (which, missing which refl, (refl, refl)))
  place_refused (error.OverBudget spent) is missing over =
      let far = over spent refl in
      told (IsPlaceReply p asked Told) made (status.OverBudget spent) (is.over spent refl)
      (inr (far.1.0, far.1.1, inl (far.1.2, (ap status.OverBudget far.0, ap (λ b. refusal (status.OverBudget b) ∷ []) far.0))))
  place_refused error.NoMemory is missing over = unmade made (Makes (IsPlaceReply p asked Told)) (is.no_memory refl)

  -- a query of a place that has one
  pub place_told : (n : Node) (sites : List Site) (demanded : ℕ) → IsPlaceOf p asked.method asked.index asked.local n → IsAnswerTo p n sites demanded
      → demanded ≤ asked.budget → IfOk made (λ reply. reply.status ≡ status.Done)
      → IfOk made (λ reply. Told n sites demanded reply.text.items × HasLines reply.text.items) → IfOk made (Makes (IsPlaceReply p asked Told))
  place_told n sites demanded place answer within done text = IfOk-both made _ _ _ done text (λ reply is t. (
    t.1.0,
    inr (
      n,
      place,
      inr (
        record {
          sites = sites;
          demanded = demanded;
          answer = answer;
          affordable = within;
          told = subst (λ (x : List ℕ). Told n sites demanded x) t.1.1 t.0;
        },
        is,
      ),
    ),
    t.1.1,
  ))

module _ (p : LinkedProgram) (asked : Alias) (made : Result Reply AllocError) where
  -- a query of two locals that has no answer
  pub alias_refused : (e : QueryError) → IsRefusal e made
      → ((which : Which) → e ≡ error.NoSuchPlace which → IsMissingOfTwo p asked.method asked.index asked.first asked.second which)
      → ((spent : ℕ) → e ≡ error.OverBudget spent
      → (spent ≡ asked.budget) × ((a : Node) × (b : Node) × ArePlacesOf p asked.method asked.index asked.first asked.second a b
      × IsOver p (a ∷ b ∷ []) asked.budget))
      → IfOk made (Makes (IsAliasReply p asked))
  alias_refused (error.NoSuchPlace which) is missing over =
      told (IsAliasReply p asked) made (status.NoSuchPlace which) (is.missing which refl) (inl (which, missing which refl, (refl, refl)))
  alias_refused (error.OverBudget spent) is missing over =
      let far = over spent refl in
      told (IsAliasReply p asked) made (status.OverBudget spent) (is.over spent refl)
      (inr (far.1.0, far.1.1, far.1.2, inl (far.1.3, (ap status.OverBudget far.0, ap (λ b. refusal (status.OverBudget b) ∷ []) far.0))))
  alias_refused error.NoMemory is missing over = unmade made (Makes (IsAliasReply p asked)) (is.no_memory refl)

  -- a query of two locals that has one
  pub alias_told : (a b : Node) (sites : List Site) (demanded : ℕ) → ArePlacesOf p asked.method asked.index asked.first asked.second a b
      → AreSharedBy p a b sites demanded → demanded ≤ asked.budget → IfOk made (λ reply. reply.status ≡ status.Done)
      → IfOk made (λ reply. (m : Node) × (n : Node) × ArePlacesOf p asked.method asked.index asked.first asked.second m n
      × IsAliasText p m n sites demanded reply.text.items) → IfOk made (Makes (IsAliasReply p asked))
  alias_told a b sites demanded places shared within done text = IfOk-both made _ _ _ done text (λ reply is t.
      let same = places_one p asked.method asked.index asked.first asked.second t.0 t.1 a b t.2 places in
      let left = subst (λ (m : Node). IsAliasText p m t.1 sites demanded reply.text.items) same.0 t.3 in
      let here = subst (λ (n : Node). IsAliasText p a n sites demanded reply.text.items) same.1 left in
      let lines = here.query ∷ (here.lines ++ verdict_lines (length sites) demanded) in (
        lines,
        inr (
          a,
          b,
          places,
          inr (
            record {
              sites = sites;
              demanded = demanded;
              shared = shared;
              affordable = within;
              told = subst (λ (x : List ℕ). IsAliasText p a b sites demanded x) here.text_is here;
            },
            is,
          ),
        ),
        here.text_is,
      ))
