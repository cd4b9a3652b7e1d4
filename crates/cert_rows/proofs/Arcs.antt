-- The steps of a small graph are its arcs.
use Rattle.std.proofs.Common.{◌≡◌, ◌↔◌, ◌≤◌, ◌⊎◌, inl, inr, ℕ, ◌+◌, List, [], Some, length, slice_get, take, sym, subst}
use Rattle.std.proofs.lemmas.List.{take_all}
use Rattle.lists.specs.Lists.{Has}
use Rattle.lists.proofs.Places.{Has-push, take-next}
use Rattle.way_find.specs.declared.ways.Step.{Step}
use Rattle.cert_rows.specs.declared.graph.Arc.{Arc}

abbrev pub a_step : ℕ → ℕ → Step ℕ
a_step label to = record { label = label; to = to }

abbrev pub an_arc : ℕ → ℕ → ℕ → Arc
an_arc from label to = record { from = from; label = label; to = to }

-- one arc more
pub arcs_next : (arcs : List Arc) (i : ℕ) (a : Arc) → slice_get arcs i ≡ Some a → (from : ℕ) (old new : List (Step ℕ))
    → ((label to : ℕ) → Has new (a_step label to) ↔ (Has old (a_step label to) ⊎ (a ≡ an_arc from label to)))
    → ((label to : ℕ) → Has old (a_step label to) ↔ Has (take i arcs) (an_arc from label to)) → (label to : ℕ)
    → Has new (a_step label to) ↔ Has (take (i + 1) arcs) (an_arc from label to)
arcs_next arcs i a there from old new adds was label to =
    let next = Has-push (take i arcs) a (an_arc from label to) in
    let more = take-next arcs i a there in (
      (λ has. subst (λ (xs : List Arc). Has xs (an_arc from label to)) (sym more) (elim ((adds label to).0 has) [
        | inl before ↦ next.1 (inl ((was label to).0 before))
        | inr e ↦ next.1 (inr (sym e))
      ])),
      (λ has. elim (next.0 (subst (λ (xs : List Arc). Has xs (an_arc from label to)) more has)) [
        | inl before ↦ (adds label to).1 (inl ((was label to).1 before))
        | inr e ↦ (adds label to).1 (inr (sym e))
      ]),
    )

-- of no arcs there is none
pub arcs_none : (arcs : List Arc) (from : ℕ) (steps : List (Step ℕ)) → steps ≡ [] → (label to : ℕ) → Has steps (a_step label to) ↔ Has (take 0 arcs) (an_arc from label to)
arcs_none arcs from steps empty label to = (
  (λ has. let h : Has [] (a_step label to) = subst (λ (xs : List (Step ℕ)). Has xs (a_step label to)) empty has in let at = h.1 in cc),
  (λ has. let at = has.1 in cc),
)

pub arcs_all : (arcs : List Arc) (i : ℕ) (from : ℕ) (steps : List (Step ℕ)) → length arcs ≤ i
    → ((label to : ℕ) → Has steps (a_step label to) ↔ Has (take i arcs) (an_arc from label to)) → (label to : ℕ) → Has steps (a_step label to) ↔ Has arcs (an_arc from label to)
arcs_all arcs i from steps all has label to = subst (λ (l : List Arc). Has steps (a_step label to) ↔ Has l (an_arc from label to)) (take_all i arcs all) (has label to)

-- any arc
abbrev pub no_arc : Arc
no_arc = an_arc 0 0 0
