-- The queries of a batch, a line each. Their form is this project's own.
use Rattle.std.specs.Prelude.{◌≡◌, ℕ, ◌^◌, ◌<◌, ◌≤◌, ◌++◌, List, [], ◌∷◌, IsUtf8, Some, length, slice_get}
use Rattle.std.specs.Fmt.{decimal}
use Rattle.std.specs.List.{AllZip}
use Rattle.lists.specs.Lists.{Has}
use Rattle.batch_lines.specs.Cuts.{lines_of}
use Rattle.batch_lines.specs.declared.queries.BatchQuery.{BatchQuery}

-- what a line asks: an index, a local and a method
pub record QueryParts : Type 0 where
  pub index : ℕ
  pub local : List ℕ
  pub method : List ℕ

abbrev pub parts_of : BatchQuery → QueryParts
parts_of q = record { index = q.index; local = q.local.now; method = q.method.now }

-- the line is the index, the local and the method, with a blank between each two. The number is decimal digits without a leading zero, below 2^32; the
-- local has no blank, and it and the method are UTF-8 and not empty
pub record SpellsQuery (line : List ℕ) (q : QueryParts) : Type 0 where
  pub in_order : line ≡ decimal q.index ++ 32 ∷ (q.local ++ 32 ∷ q.method)
  pub small : q.index < 2 ^ 32
  pub is_local : (0 < length q.local) × IsUtf8 q.local
  pub no_blank : Has q.local 32 → ⊥
  pub is_method : (0 < length q.method) × IsUtf8 q.method

-- all parts but the last, where this is empty
abbrev pub without_empty_end : List (List ℕ) → List (List ℕ)
without_empty_end [] = []
without_empty_end ([] ∷ []) = []
without_empty_end ((byte ∷ part) ∷ []) = (byte ∷ part) ∷ []
without_empty_end (part ∷ next ∷ parts) = part ∷ without_empty_end (next ∷ parts)

-- the lines of a text: a line feed ends each, but for the last, which may lack it
abbrev pub lines_in : List ℕ → List (List ℕ)
lines_in text = without_empty_end (lines_of text)

-- the lines of the text are these queries, 1,000 at most
pub record AreQueries (text : List ℕ) (queries : List QueryParts) : Type 0 where
  pub spelled : AllZip SpellsQuery (lines_in text) queries
  pub few : length queries ≤ 1000

-- the line with the number, from 0, is one of the first 1,000, and a query
abbrev pub HasQuery : List ℕ → ℕ → Type 0
HasQuery text number = (number < 1000) × ((line : List ℕ) × (q : QueryParts) × (slice_get (lines_in text) number ≡ Some line) × SpellsQuery line q)

-- the first line that is no query, or is the 1,001st
pub record IsFirstBad (text : List ℕ) (at : ℕ) : Type 0 where
  pub within : at < length (lines_in text)
  pub before : (number : ℕ) → number < at → HasQuery text number
  pub bad : HasQuery text at → ⊥
