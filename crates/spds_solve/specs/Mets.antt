-- Meets with their call strings, and their numbers.
use Rattle.std.specs.Prelude.{ℕ, List, map, slice_index_or}
use Rattle.link_sites.specs.declared.place.Place.{Place}
use Rattle.spds_solve.specs.declared.met.Met.{Met}
use Rattle.spds_tables.specs.declared.numbered.Met.{Met as Numbers}
use Rattle.spds_tables.specs.Triples.{no_place}

-- the numbers of a meet
abbrev pub numbers : Met → Numbers
numbers met = record { object = met.object; base = met.base; store = met.store }

-- those of a list
abbrev pub numbers_of : List Met → List Numbers
numbers_of mets = map numbers mets

-- the call that a mark stands for
abbrev pub call_at : List Place → ℕ → Place
call_at calls mark = slice_index_or calls mark no_place

-- the call string that has these marks
abbrev pub string_of : List Place → List ℕ → List Place
string_of calls word = map (call_at calls) word
