-- The order of sites, as numbers and bytes that are compared one after another.
use Rattle.std.specs.Prelude.{ℕ, List, [], ◌∷◌, slice_index_or}
use Rattle.std.specs.Cmp.Lexicographic.{slice_cmp}
use Rattle.std.specs.Ordering.{nat_cmp, ordering_then}
use Rattle.std.specs.declared.cmp.Ordering.{Ordering}
use Rattle.link_rules.specs.Linked.{LinkedProgram}
use Rattle.link_sites.specs.declared.site.Site.{Site}
use Rattle.link_sites.specs.declared.site.Site.TheVariants.{New, Nested, Raised, Text, Class}

-- those of a statement come first, by its method and index: what it makes, then inner levels of it, then what it raises, by kind; then texts, and
-- then class constants
abbrev pub numbers_of : Site → List ℕ
numbers_of (New place) = 0 ∷ place.method ∷ place.index ∷ 0 ∷ 0 ∷ []
numbers_of (Nested place level) = 0 ∷ place.method ∷ place.index ∷ 1 ∷ level ∷ []
numbers_of (Raised place kind) = 0 ∷ place.method ∷ place.index ∷ 2 ∷ kind ∷ []
numbers_of (Text number) = 1 ∷ 0 ∷ 0 ∷ 0 ∷ 0 ∷ []
numbers_of (Class number) = 2 ∷ 0 ∷ 0 ∷ 0 ∷ 0 ∷ []

-- the bytes of a constant
abbrev pub text_of : LinkedProgram → Site → List ℕ
text_of p (Text number) = slice_index_or p.texts number []
text_of p (Class number) = slice_index_or p.class_texts number []
text_of p (New place) = []
text_of p (Nested place level) = []
text_of p (Raised place kind) = []

-- how two sites compare
abbrev pub site_cmp : LinkedProgram → Site → Site → Ordering
site_cmp p a b = ordering_then (slice_cmp nat_cmp (numbers_of a) (numbers_of b)) (slice_cmp nat_cmp (text_of p a) (text_of p b))
