-- The text that the answers to a batch make.
use Rattle.std.proofs.Common.{◌≡◌, ℕ, zero, suc, ◌+◌, ◌++◌, List, [], ◌∷◌, ◌∙◌, Option, Some, ap, append-nil, append_assoc, arith, codes, length, map, refl, slice_get, subst, sym, take}
use Rattle.std.specs.Fmt.{decimal}
use Rattle.std.specs.List.{AllZip, concat, flat_map}
use Rattle.link_rules.specs.WellLinked.{IsWellLinked}
use Rattle.batch_join.specs.Told.{AreTold}
use Rattle.batch_lines.specs.Queries.{QueryParts}
use Rattle.report_text.proofs.Growing.{text_of-append}
use Rattle.report_text.specs.Lines.{text_of}
use Rattle.boom_top.specs.Batches.{AnswersQuery, AreAnsweredAll, Batch, IsOwnText, TellsNumber, TellsQuery, asked_of}
use Rattle.boom_top.proofs.PointsToReply.{place_text}

-- the lines of answers, one behind the other
abbrev pub joined_lines : List (List (List ℕ)) → List (List ℕ)
joined_lines answers = flat_map (λ (own : List (List ℕ)). own) answers

-- their text is that of each, one behind the other
pub text_of-joined : (answers : List (List (List ℕ))) → text_of (joined_lines answers) ≡ concat (map text_of answers)
text_of-joined [] = refl
text_of-joined (own ∷ answers) = text_of-append own (joined_lines answers) ∙ ap (λ t. text_of own ++ t) (text_of-joined answers)

-- the text that answers a query is the only one
pub own_text_one : (b : Batch) → IsWellLinked b.program → (q : QueryParts) (text other : List ℕ) → IsOwnText b q text → IsOwnText b q other → other ≡ text
own_text_one b well q text other is also =
    also.2 ∙ sym (place_text b.program well.form (asked_of b.budget q) is.1.0 also.1.0 is.0 also.0 is.1.1 also.1.1) ∙ sym is.2

-- texts that are told of all numbers are answers to all queries
answers_of : (b : Batch) (queries : List QueryParts) (texts : List (List ℕ)) → length texts ≡ length queries
    → ((i : ℕ) (text : List ℕ) → slice_get texts i ≡ Some text → TellsQuery b (slice_get queries i) text)
    → (answers : List (List (List ℕ))) × AllZip (AnswersQuery b.program b.budget) queries answers × (map text_of answers ≡ texts)
answers_of b [] [] count told = ([], tt, refl)
answers_of b [] (text ∷ texts) count told = absurd (omega (arith, count))
answers_of b (q ∷ queries) [] count told = absurd (omega (arith, count))
answers_of b (q ∷ queries) (text ∷ texts) count told =
    let own = (told 0 text refl).0 in
    let rest = answers_of b queries texts (omega (arith, count)) (λ i t e. told (suc i) t e) in
    let first = sym own.2 in
    let behind = rest.2 in
    (own.0 ∷ rest.0, (own.1, rest.1), cc)

zero_more : (i : ℕ) → 0 + i ≡ i
zero_more i = omega arith

pub told_answers : (b : Batch) (count : ℕ) (texts : List (List ℕ)) (text : List ℕ) → count ≡ length b.queries → AreTold (TellsNumber b) 0 count texts
    → text ≡ (codes "batch " ++ decimal (length texts)) ++ 10 ∷ concat texts
    → (lines : List (List ℕ)) × AreAnsweredAll b.program b.budget b.queries lines × (text ≡ text_of lines)
told_answers b count texts text same told is =
    let as_many : length texts ≡ length b.queries = told.count_is ∙ same in
    let found = answers_of b b.queries texts as_many (λ i t e. subst (λ n. TellsQuery b (slice_get b.queries n) t) (zero_more i) (told.each i t e)) in
    let head = codes "batch " ++ decimal (length b.queries) in
    let lines = head ∷ joined_lines found.0 in (
      lines,
      record { answers = found.0; each = found.1; in_order = refl },
      is ∙ ap (λ n. (codes "batch " ++ decimal n) ++ 10 ∷ concat texts) as_many
          ∙ ap (λ ts. head ++ 10 ∷ concat ts) (sym found.2) ∙ ap (λ t. head ++ 10 ∷ t) (sym (text_of-joined found.0)),
    )

-- what is told of a number that has a query
pub query_told : (b : Batch) → IsWellLinked b.program → (number : ℕ) (q : QueryParts) (text : List ℕ) → slice_get b.queries number ≡ Some q → IsOwnText b q text
    → TellsNumber b number text
query_told b well number q text there own =
    subst (λ (f : Option QueryParts). TellsQuery b f text) (sym there) (own, λ other also. own_text_one b well q text other own also)

-- one text more behind the others
texts_next : (texts : List (List ℕ)) (i : ℕ) (text : List ℕ) → slice_get texts i ≡ Some text → concat (take (suc i) texts) ≡ concat (take i texts) ++ text
texts_next [] i text e = cc
texts_next (t ∷ texts) zero text e = let same : t ≡ text = cc in append-nil t ∙ same
texts_next (t ∷ texts) (suc i) text e = ap (λ l. t ++ l) (texts_next texts i text e) ∙ sym (append_assoc t (concat (take i texts)) text)

pub concat_next : (texts : List (List ℕ)) (i : ℕ) (text head old new : List ℕ) → slice_get texts i ≡ Some text → old ≡ head ++ concat (take i texts)
    → new ≡ old ++ text → new ≡ head ++ concat (take (i + 1) texts)
concat_next texts i text head old new there before is =
    let next : i + 1 ≡ suc i = omega arith in
    is ∙ ap (λ l. l ++ text) before ∙ append_assoc head (concat (take i texts)) text ∙ ap (λ l. head ++ l) (sym (texts_next texts i text there))
    ∙ ap (λ n. head ++ concat (take n texts)) (sym next)
