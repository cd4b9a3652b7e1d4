-- What `batch` is answered.
use Rattle.std.proofs.Common.{◌≡◌, ℕ, zero, suc, ◌++◌, ◌⊎◌, List, [], ◌∷◌, ◌∙◌, Option, Some, ap, codes, inl, inr, length, map, refl, slice_get, subst, sym}
use Rattle.std.proofs.lemmas.List.{length-map}
use Rattle.std.proofs.lemmas.Option.{same_Some}
use Rattle.std.specs.Fmt.{decimal}
use Rattle.std.specs.Io.KnownBytes.{Appends}
use Rattle.std.specs.List.{AllZip, concat}
use Rattle.link_rules.specs.Linked.{LinkedMethod, LinkedProgram}
use Rattle.link_rules.specs.WellLinked.{IsInForm, IsWellLinked}
use Rattle.spds_rules.specs.declared.node.Node.{Node}
use Rattle.run_covers.specs.Covers.{IsCovered}
use Rattle.demand_set.proofs.Counts.{HasMore-not}
use Rattle.query_core.proofs.NamedPlaces.{place_one, place_there}
use Rattle.query_core.specs.Answers.{IsAffordable}
use Rattle.query_core.specs.Places.{IsPlaceOf}
use Rattle.boom_words.specs.Requests.{PointsTo}
use Rattle.batch_lines.proofs.Outcomes.{bad_one, not_both, queries_one}
use Rattle.batch_lines.proofs.Spelled.{zip_length}
use Rattle.batch_lines.specs.Queries.{AreQueries, QueryParts}
use Rattle.report_text.specs.Answers.{IsAnswerText, IsQueryLine, count_lines}
use Rattle.report_text.specs.Lines.{text_of}
use Rattle.boom_top.specs.Batches.{AnswersQuery, AreAnsweredAll, CoversBatch, IsBatchReply, IsRefusalText, PrintsEachAllRuns, PrintsEachShown, RepeatsQuery, WritesEach, asked_of}
use Rattle.boom_top.specs.Places.{IsAnswered, IsPlaceReply}
use Rattle.boom_top.specs.Printed.{TellsAllRuns}
use Rattle.boom_top.specs.declared.status.Status.{Status}
use Rattle.boom_top.specs.declared.status.Status.TheVariants.{Done, NotBatch}
use Rattle.boom_top.proofs.Batched.{text_of-joined}
use Rattle.boom_top.proofs.PointsToReply.{evident, place_text, tells_covered}
use Rattle.boom_top.proofs.Splits.{AreOne, Refuses, ones, refused_by}

-- what stands side by side at a place
zip_there : {X Y : Type 0} (R : X → Y → Type 0) (xs : List X) (ys : List Y) (i : ℕ) (x : X) → AllZip R xs ys → slice_get xs i ≡ Some x
    → (y : Y) × (slice_get ys i ≡ Some y) × R x y
zip_there R [] ys i x zip e = cc
zip_there R (a ∷ xs) [] i x zip e = absurd zip
zip_there R (a ∷ xs) (b ∷ ys) zero x zip e = let same : a ≡ x = cc in (b, refl, subst (λ z. R z b) same zip.0)
zip_there R (a ∷ xs) (b ∷ ys) (suc i) x zip e = zip_there R xs ys i x zip.1 e

map_there : (answers : List (List (List ℕ))) (i : ℕ) (own : List (List ℕ)) → slice_get answers i ≡ Some own → slice_get (map text_of answers) i ≡ Some (text_of own)
map_there [] i own e = cc
map_there (a ∷ answers) zero own e = let same : a ≡ own = cc in ap (λ z. Some (text_of z)) same
map_there (a ∷ answers) (suc i) own e = map_there answers i own e

-- what the reply to a batch says of each query
module _ (p : LinkedProgram) (budget : ℕ) (queries : List QueryParts) (lines : List (List ℕ)) (all : AreAnsweredAll p budget queries lines) where
  abbrev texts : List (List ℕ)
  texts = map text_of all.answers

  whole : text_of lines ≡ (codes "batch " ++ decimal (length queries)) ++ 10 ∷ concat texts
  whole = ap text_of all.in_order ∙ ap (λ t. (codes "batch " ++ decimal (length queries)) ++ 10 ∷ t) (text_of-joined all.answers)

  -- the lines whose text answers the query with a number
  own_lines : (i : ℕ) (q : QueryParts) (text : List ℕ) → slice_get queries i ≡ Some q → slice_get texts i ≡ Some text
      → (own : List (List ℕ)) × AnswersQuery p budget q own × (text ≡ text_of own)
  own_lines i q text here there =
      let found = zip_there (AnswersQuery p budget) queries all.answers i q all.each here in
      (found.0, found.2, same_Some text (text_of found.0) (sym there ∙ map_there all.answers i found.0 found.1))

  writes_each : (old new : Option (List ℕ)) → Appends old new (text_of lines) → WritesEach queries texts old new
  writes_each old new wrote = record {
    as_many = length-map all.answers text_of ∙ sym (zip_length (AnswersQuery p budget) queries all.answers all.each);
    wrote = subst (λ t. Appends old new t) whole wrote;
  }

module _ (p : LinkedProgram) (form : IsInForm p) where
  -- what answers the queries of a batch
  answers_one : (budget : ℕ) (queries : List QueryParts) (xs ys : List (List (List ℕ))) → AllZip (AnswersQuery p budget) queries xs → AllZip (AnswersQuery p budget) queries ys
      → map text_of xs ≡ map text_of ys
  answers_one budget [] [] [] x y = refl
  answers_one budget [] (l ∷ xs) ys x y = absurd x
  answers_one budget [] [] (m ∷ ys) x y = absurd y
  answers_one budget (q ∷ queries) [] ys x y = absurd x
  answers_one budget (q ∷ queries) (l ∷ xs) [] x y = absurd y
  answers_one budget (q ∷ queries) (l ∷ xs) (m ∷ ys) x y =
      let first = place_text p form (asked_of budget q) x.0.0 y.0.0 l m x.0.1 y.0.1 in
      let rest = answers_one budget queries xs ys x.1 y.1 in
      (λ i. first i ∷ rest i)

  batch_one : (budget : ℕ) (queries : List QueryParts) (xs ys : List (List ℕ)) → AreAnsweredAll p budget queries xs → AreAnsweredAll p budget queries ys
      → text_of xs ≡ text_of ys
  batch_one budget queries xs ys a b =
      let head = (codes "batch " ++ decimal (length queries)) in
      let each = answers_one budget queries a.answers b.answers a.each b.each in
      ap text_of a.in_order ∙ ap (λ t. head ++ 10 ∷ t) (text_of-joined a.answers ∙ ap concat each ∙ sym (text_of-joined b.answers)) ∙ sym (ap text_of b.in_order)

-- a batch has one status
batch_status : (p : LinkedProgram) (budget : ℕ) (rest : List ℕ) (s t : Status) (xs ys : List (List ℕ)) → IsBatchReply p budget rest s xs → IsBatchReply p budget rest t ys → s ≡ t
batch_status p budget rest s t xs ys (inl a) (inl b) = a.2.0 ∙ ap NotBatch (bad_one rest a.0 b.0 a.1 b.1) ∙ sym b.2.0
batch_status p budget rest s t xs ys (inl a) (inr b) = absurd (not_both rest b.0 a.0 b.1 a.1)
batch_status p budget rest s t xs ys (inr a) (inl b) = absurd (not_both rest a.0 b.0 a.1 b.1)
batch_status p budget rest s t xs ys (inr a) (inr b) = a.3 ∙ sym b.3

module _ (p : LinkedProgram) (budget : ℕ) (text : List ℕ) where
  -- what is said of queries
  abbrev SaysAll : List (List ℕ) → Type 0
  SaysAll lines = (queries : List QueryParts) × AreQueries text queries × AreAnsweredAll p budget queries lines

  batch_split : (s : Status) (lines : List (List ℕ)) → IsBatchReply p budget text s lines → (SaysAll lines × (s ≡ Done)) ⊎ Refuses s lines
  batch_split s lines (inl a) = inr (refused_by (NotBatch a.0) s lines (λ no. cc) tt a.2)
  batch_split s lines (inr (queries, are, a, done)) = inl ((queries, are, a), done)

  batches_one : IsInForm p → (xs ys : List (List ℕ)) → SaysAll xs → SaysAll ys → text_of xs ≡ text_of ys
  batches_one form xs ys a b =
      batch_one p form budget b.0 xs ys (subst (λ (qs : List QueryParts). AreAnsweredAll p budget qs xs) (queries_one text a.0 b.0 a.1 b.1) a.2) b.2

  -- the replies are one
  pub batch_ones : (Plain : Type 0) → AreOne p (IsBatchReply p budget text) Plain
  batch_ones Plain = ones p (IsBatchReply p budget text) Plain SaysAll batch_split (batch_status p budget text) (λ form plain. batches_one form)

-- where all lines are queries, they are answered
pub batch_enough : (p : LinkedProgram) (budget : ℕ) (rest : List ℕ) (s : Status) (lines : List (List ℕ)) → (queries : List QueryParts) × AreQueries rest queries
    → IsBatchReply p budget rest s lines → s ≡ Done
batch_enough p budget rest s lines has (inl a) = absurd (not_both rest has.0 a.0 has.1 a.1)
batch_enough p budget rest s lines has (inr a) = a.3

-- the queries that are answered are those that the lines spell
batch_answers : (p : LinkedProgram) (budget : ℕ) (rest : List ℕ) (lines : List (List ℕ)) → IsBatchReply p budget rest Done lines
    → (queries : List QueryParts) → AreQueries rest queries → AreAnsweredAll p budget queries lines
batch_answers p budget rest lines (inl a) queries are = absurd (let no : Done ≡ NotBatch a.0 = a.2.0 in cc)
batch_answers p budget rest lines (inr a) queries are =
    subst (λ (qs : List QueryParts). AreAnsweredAll p budget qs lines) (queries_one rest a.0 queries a.1 are) a.2

-- the line that repeats a query about a place
query_line : (p : LinkedProgram) (word method : List ℕ) (index : ℕ) (local : List ℕ) (n : Node) (line : List ℕ) → IsPlaceOf p method index local n
    → IsQueryLine p word n line → line ≡ word ++ codes " " ++ (method ++ codes " " ++ decimal index ++ codes " " ++ local)
query_line p word method index local n line place is =
    let here = subst (λ (m : Node). IsQueryLine p word m line) place.is is in
    let target = here.target_is in
    let at_is = target.at_is in
    let name_is = target.name_is in
    let found = place.is_method.first.holds in
    let text : at_is.method.text ≡ method = ap (λ (m : LinkedMethod). m.text) (same_Some at_is.method found.method (sym at_is.there ∙ found.there)) ∙ found.is_text in
    let at : target.at ≡ method ++ codes " " ++ decimal index = at_is.text_is ∙ ap (λ t. t ++ codes " " ++ decimal index) text in
    let owner = same_Some name_is.method place.method (sym name_is.there ∙ place.is_method.there) in
    let name : target.name ≡ local = same_Some target.name local
    (sym name_is.named ∙ ap (λ (m : LinkedMethod). slice_get m.locals place.local) owner ∙ place.is_local.holds) in
    here.line_is ∙ ap (λ t. word ++ codes " " ++ t) (target.text_is ∙ ap (λ t. t ++ codes " " ++ target.name) at
    ∙ ap (λ t. method ++ codes " " ++ decimal index ++ codes " " ++ t) name)

-- the answer to each query, if it isn't refused, has the line of the site of each object that a run brings
each_covered : (p : LinkedProgram) → IsWellLinked p → IsCovered p → (budget : ℕ) (queries : List QueryParts) (lines : List (List ℕ)) → AreAnsweredAll p budget queries lines
    → (old new : Option (List ℕ)) → Appends old new (text_of lines) → PrintsEachAllRuns p queries old new
each_covered p well covered budget queries lines all old new wrote = record {
  texts = texts p budget queries lines all;
  writes = writes_each p budget queries lines all old new wrote;
  covers = λ i q text here there n place.
      let own = own_lines p budget queries lines all i q text here there in
      subst (Covers q n) (sym own.2) (query_covered q n own.1.0 own.0 place own.1.1);
} where
  Covers : QueryParts → Node → List ℕ → Type 0
  Covers q n text = IsRefusalText text ⊎ (RepeatsQuery q text × TellsAllRuns p n text)

  query_covered : (q : QueryParts) (n : Node) (s : Status) (lines : List (List ℕ)) → IsPlaceOf p q.method q.index q.local n
      → IsPlaceReply p (asked_of budget q) (IsAnswerText p) s lines → Covers q n (text_of lines)
  query_covered q n s lines place (inl a) = absurd (place_there p q.method q.index q.local n place a.0 a.1)
  query_covered q n s lines place (inr (m, here, inl over)) = inl (codes "OverBudget " ++ decimal budget, ap text_of over.1.1)
  query_covered q n s lines place (inr (m, here, inr a)) =
      let same = place_one p q.method q.index q.local m n here place in
      let answered = subst (λ (n : Node). IsAnswered p (IsAnswerText p) budget n lines) same a.0 in
      let told = answered.told in
      inr (
        (
          told.lines ++ count_lines (length answered.sites) answered.demanded,
          told.text_is ∙ ap (λ l. text_of (l ∷ (told.lines ++ count_lines (length answered.sites) answered.demanded)))
              (query_line p (codes "points-to") q.method q.index q.local n told.query place told.query_is),
        ),
        tells_covered p well covered lines budget n answered,
      )

-- what is done covers each run
pub batch_covered : (p : LinkedProgram) → IsWellLinked p → IsCovered p → (old new : Option (List ℕ)) (lines : List (List ℕ)) → Appends old new (text_of lines)
    → (budget : ℕ) (rest : List ℕ) → IsBatchReply p budget rest Done lines → CoversBatch p rest old new
batch_covered p well covered old new lines wrote budget rest reply queries are =
    each_covered p well covered budget queries lines (batch_answers p budget rest lines reply queries are) old new wrote

-- what answers a query whose place is there, and whose demand is within the budget
answered_at : (p : LinkedProgram) (asked : PointsTo) (n : Node) (s : Status) (lines : List (List ℕ)) → IsPlaceOf p asked.method asked.index asked.local n
    → IsAffordable p (n ∷ []) asked.budget → IsPlaceReply p asked (IsAnswerText p) s lines → IsAnswered p (IsAnswerText p) asked.budget n lines
answered_at p asked n s lines place affordable (inl a) = absurd (place_there p asked.method asked.index asked.local n place a.0 a.1)
answered_at p asked n s lines place affordable (inr (m, here, inl over)) =
    let same = place_one p asked.method asked.index asked.local n m place here in
    absurd (HasMore-not asked.budget over.0 (subst (λ (n : Node). IsAffordable p (n ∷ []) asked.budget) same affordable))
answered_at p asked n s lines place affordable (inr (m, here, inr a)) =
    subst (λ (n : Node). IsAnswered p (IsAnswerText p) asked.budget n lines) (place_one p asked.method asked.index asked.local m n here place) a.0

-- each site of the answer to a query of a batch is evident
each_evident : (p : LinkedProgram) (budget : ℕ) (queries : List QueryParts) (lines : List (List ℕ)) → AreAnsweredAll p budget queries lines
    → (old new : Option (List ℕ)) → Appends old new (text_of lines) → PrintsEachShown p budget queries old new
each_evident p budget queries lines all old new wrote = record {
  texts = texts p budget queries lines all;
  writes = writes_each p budget queries lines all old new wrote;
  answers = own_lines p budget queries lines all;
  shown = λ i q text here there n place affordable.
      let own = own_lines p budget queries lines all i q text here there in
      let a = answered_at p (asked_of budget q) n own.1.0 own.0 place affordable own.1.1 in
      record {
        sites = a.sites;
        demanded = a.demanded;
        told = subst (IsAnswerText p n a.sites a.demanded) (sym own.2) a.told;
        shown = λ o has. evident p n o ((a.answer.answer.each o).0 has);
      };
}

-- there is evidence for what is done
pub batch_evident : (p : LinkedProgram) (old new : Option (List ℕ)) (lines : List (List ℕ)) → Appends old new (text_of lines)
    → (budget : ℕ) (rest : List ℕ) → IsBatchReply p budget rest Done lines → (queries : List QueryParts) → AreQueries rest queries
    → PrintsEachShown p budget queries old new
batch_evident p old new lines wrote budget rest reply queries are =
    each_evident p budget queries lines (batch_answers p budget rest lines reply queries are) old new wrote
