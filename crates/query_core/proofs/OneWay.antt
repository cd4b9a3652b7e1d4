-- Of two sites one is printed first.
use Rattle.std.proofs.Common.{◌≡◌, ℕ, inl, inr, List, ap, ◌∙◌, arith}
use Rattle.std.specs.Cmp.Lexicographic.{slice_cmp}
use Rattle.std.specs.Ordering.{nat_cmp, ordering_reverse}
use Rattle.std.specs.declared.cmp.Ordering.TheVariants.{Less, Greater}
use Rattle.std.proofs.lemmas.Cmp.{nat_list_cmp_total}
use Rattle.link_rules.specs.Linked.{LinkedProgram}
use Rattle.link_sites.specs.declared.place.Place.{Place}
use Rattle.link_sites.specs.declared.site.Site.{Site}
use Rattle.link_sites.specs.declared.site.Site.TheVariants as site
use Rattle.link_sites.specs.Places.{ComesBefore, IsSameStatement}
use Rattle.link_sites.specs.Sites.{IsTextBefore, Precedes}

-- no statement comes before one that comes before it
pub statements_one_way : (a b : Place) → ComesBefore a b → ComesBefore b a → ⊥
statements_one_way a b (inl p) (inl q) = omega arith
statements_one_way a b (inl p) (inr q) = omega arith
statements_one_way a b (inr p) (inl q) = omega arith
statements_one_way a b (inr p) (inr q) = omega arith

-- nor before itself
pub statements_apart : (a b : Place) → IsSameStatement a b → ComesBefore b a → ⊥
statements_apart a b same (inl q) = omega arith
statements_apart a b same (inr q) = omega arith

-- no text comes before one that comes before it
texts_one_way : (texts : List (List ℕ)) (a b : ℕ) → IsTextBefore texts a b → IsTextBefore texts b a → ⊥
texts_one_way texts a b (first, second, at_a, at_b, less) (other, another, from_b, from_a, more) =
    let same : other ≡ second = cc in
    let same_too : another ≡ first = cc in
    let back : slice_cmp nat_cmp second first ≡ Less = cc in
    let turned : slice_cmp nat_cmp first second ≡ Greater = nat_list_cmp_total.antisymm first second ∙ ap ordering_reverse back in
    cc

-- no site comes before one that comes before it
pub sites_one_way : (p : LinkedProgram) (a b : Site) → Precedes p a b → Precedes p b a → ⊥
sites_one_way p (site.New a) (site.New b) r s = statements_one_way a b r s
sites_one_way p (site.New a) (site.Nested b level) r s = elim r [ inl r ↦ statements_one_way a b r s | inr r ↦ statements_apart a b r s ]
sites_one_way p (site.New a) (site.Raised b kind) r s = elim r [ inl r ↦ statements_one_way a b r s | inr r ↦ statements_apart a b r s ]
sites_one_way p (site.Nested a level) (site.New b) r s = elim s [ inl s ↦ statements_one_way a b r s | inr s ↦ statements_apart b a s r ]
sites_one_way p (site.Nested a level) (site.Nested b other) r s = elim r [
  | inl r ↦ elim s [ inl s ↦ statements_one_way a b r s | inr s ↦ statements_apart b a s.0 r ]
  | inr r ↦ elim s [ inl s ↦ statements_apart a b r.0 s | inr s ↦ omega (arith, r.1, s.1) ]
]
sites_one_way p (site.Nested a level) (site.Raised b kind) r s = elim r [ inl r ↦ statements_one_way a b r s | inr r ↦ statements_apart a b r s ]
sites_one_way p (site.Raised a kind) (site.Nested b level) r s = elim s [ inl s ↦ statements_one_way a b r s | inr s ↦ statements_apart b a s r ]
sites_one_way p (site.Raised a kind) (site.New b) r s = elim s [ inl s ↦ statements_one_way a b r s | inr s ↦ statements_apart b a s r ]
sites_one_way p (site.Raised a kind) (site.Raised b other) r s = elim r [
  | inl r ↦ elim s [ inl s ↦ statements_one_way a b r s | inr s ↦ statements_apart b a s.0 r ]
  | inr r ↦ elim s [ inl s ↦ statements_apart a b r.0 s | inr s ↦ omega (arith, r.1, s.1) ]
]
sites_one_way p (site.New a) (site.Text b) r s = s
sites_one_way p (site.New a) (site.Class b) r s = s
sites_one_way p (site.Nested a level) (site.Text b) r s = s
sites_one_way p (site.Nested a level) (site.Class b) r s = s
sites_one_way p (site.Raised a kind) (site.Text b) r s = s
sites_one_way p (site.Raised a kind) (site.Class b) r s = s
sites_one_way p (site.Text a) (site.Text b) r s = texts_one_way p.texts a b r s
sites_one_way p (site.Text a) (site.Class b) r s = s
sites_one_way p (site.Text a) (site.New b) r s = r
sites_one_way p (site.Text a) (site.Nested b level) r s = r
sites_one_way p (site.Text a) (site.Raised b kind) r s = r
sites_one_way p (site.Class a) (site.Class b) r s = texts_one_way p.class_texts a b r s
sites_one_way p (site.Class a) (site.Text b) r s = r
sites_one_way p (site.Class a) (site.New b) r s = r
sites_one_way p (site.Class a) (site.Nested b level) r s = r
sites_one_way p (site.Class a) (site.Raised b kind) r s = r
