-- Sites in the order in which they are printed stand once.
use Rattle.std.proofs.Common.{◌≡◌, ℕ, ◌<◌, List, AllPairs, inl, inr, ap, ◌∙◌, subst, arith}
use Rattle.std.proofs.lemmas.Bool.{cases_lt}
use Rattle.std.proofs.lemmas.Cmp.{nat_list_cmp_total}
use Rattle.std.specs.Cmp.Lexicographic.{slice_cmp}
use Rattle.std.specs.Ordering.{nat_cmp, ordering_reverse}
use Rattle.std.specs.declared.cmp.Ordering.{Ordering}
use Rattle.std.specs.declared.cmp.Ordering.TheVariants.{Less}
use Rattle.call_side.proofs.Order.{ComesBefore-irreflexive}
use Rattle.lists.specs.Lists.{IsApart}
use Rattle.lists.proofs.Joined.{AllPairs-at}
use Rattle.link_rules.specs.Linked.{LinkedProgram}
use Rattle.link_sites.specs.declared.site.Site.{Site}
use Rattle.link_sites.specs.declared.site.Site.TheVariants.{New, Nested, Raised, Text, Class}
use Rattle.link_sites.specs.Sites.{IsTextBefore, Precedes}

not_less : (o : Ordering) → o ≡ ordering_reverse o → o ≡ Less → ⊥
not_less o e h = let r : o ≡ ordering_reverse Less = e ∙ ap ordering_reverse h in cc

text_once : (texts : List (List ℕ)) (a : ℕ) → IsTextBefore texts a a → ⊥
text_once texts a h =
    let same : h.1 ≡ h.0 = cc (h.2, h.3) in
    not_less (slice_cmp nat_cmp h.0 h.0) (nat_list_cmp_total.antisymm h.0 h.0) (subst (λ (t : List ℕ). slice_cmp nat_cmp h.0 t ≡ Less) same h.4)

-- no site precedes itself
Precedes-irreflexive : (p : LinkedProgram) (s : Site) → Precedes p s s → ⊥
Precedes-irreflexive p (New a) h = ComesBefore-irreflexive a h
Precedes-irreflexive p (Nested a level) h = elim h [ inl x ↦ ComesBefore-irreflexive a x | inr x ↦ (let less : level < level = x.1 in absurd (omega arith)) ]
Precedes-irreflexive p (Raised a kind) h = elim h [ inl x ↦ ComesBefore-irreflexive a x | inr x ↦ (let less : kind < kind = x.1 in absurd (omega arith)) ]
Precedes-irreflexive p (Text a) h = text_once p.texts a h
Precedes-irreflexive p (Class a) h = text_once p.class_texts a h

pub ascending_apart : (p : LinkedProgram) (sites : List Site) → AllPairs (Precedes p) sites → IsApart sites
ascending_apart p sites ordered i j x first second =
    elim (cases_lt i j) [
      | inl less ↦ absurd (Precedes-irreflexive p x (AllPairs-at (Precedes p) sites i j x x ordered less first second))
      | inr more ↦ elim (cases_lt j i) [
        | inl less ↦ absurd (Precedes-irreflexive p x (AllPairs-at (Precedes p) sites j i x x ordered less second first))
        | inr same ↦ omega arith
      ]
    ]
