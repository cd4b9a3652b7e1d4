-- A text is one batch, or has one first bad line.
use Rattle.std.proofs.Common.{◌≡◌, ℕ, zero, suc, ◌<◌, ◌++◌, ◌^◌, List, [], ◌∷◌, Some, length, slice_get, refl, sym, ap, ◌∙◌, inl, inr, arith, append-nil}
use Rattle.std.specs.Fmt.{decimal}
use Rattle.std.specs.List.{AllZip}
use Rattle.std.proofs.lemmas.Bool.{cases_lt}
use Rattle.std.proofs.lemmas.Fmt.{decimal_injective}
use Rattle.batch_lines.specs.Queries.{AreQueries, IsFirstBad, QueryParts, SpellsQuery, lines_in}
use Rattle.lists.proofs.Cutting.{cut_first}
use Rattle.batch_lines.proofs.Spelled.{number_lacks, zip_at, zip_length}

-- a line is one query
query_one : (line : List ℕ) (q r : QueryParts) → SpellsQuery line q → SpellsQuery line r → q ≡ r
query_one line q r a b =
    let first = cut_first 32 (decimal q.index) (q.local ++ 32 ∷ q.method) (decimal r.index) (r.local ++ 32 ∷ r.method) (number_lacks q.index a.small) (number_lacks r.index b.small)
    (sym a.in_order ∙ b.in_order) in
    let index_same : q.index ≡ r.index = decimal_injective q.index r.index (omega (arith, a.small)) (omega (arith, b.small)) first.0 in
    let words = cut_first 32 q.local q.method r.local r.method a.no_blank b.no_blank first.1 in
    rw (index_same, words.0, words.1) refl

queries_same : (lines : List (List ℕ)) (qs rs : List QueryParts) → AllZip SpellsQuery lines qs → AllZip SpellsQuery lines rs → qs ≡ rs
queries_same [] [] [] a b = refl
queries_same [] (q ∷ qs) rs a b = absurd a
queries_same [] [] (r ∷ rs) a b = absurd b
queries_same (l ∷ lines) [] rs a b = absurd a
queries_same (l ∷ lines) (q ∷ qs) [] a b = absurd b
queries_same (l ∷ lines) (q ∷ qs) (r ∷ rs) a b =
    let first = query_one l q r a.0 b.0 in
    let rest = queries_same lines qs rs a.1 b.1 in
    cc (first, rest)

pub queries_one : (text : List ℕ) (qs rs : List QueryParts) → AreQueries text qs → AreQueries text rs → qs ≡ rs
queries_one text qs rs a b = queries_same (lines_in text) qs rs a.spelled b.spelled

pub bad_one : (text : List ℕ) (at other : ℕ) → IsFirstBad text at → IsFirstBad text other → at ≡ other
bad_one text at other a b = elim (cases_lt at other) [
  | inl less ↦ absurd (a.bad (b.before at less))
  | inr least ↦ elim (cases_lt other at) [
    | inl less ↦ absurd (b.bad (a.before other less))
    | inr most ↦ omega (arith, least, most)
  ]
]

pub not_both : (text : List ℕ) (qs : List QueryParts) (at : ℕ) → AreQueries text qs → IsFirstBad text at → ⊥
not_both text qs at a b =
    let found = zip_at SpellsQuery (lines_in text) [] qs at a.spelled b.within in
    let as_many = zip_length SpellsQuery (lines_in text) qs a.spelled in
    b.bad (omega (arith, b.within, as_many, a.few), (found.0, found.1, ap (λ l. slice_get l at) (sym (append-nil (lines_in text))) ∙ found.2, found.3))
