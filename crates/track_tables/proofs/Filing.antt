-- Edges by their keys.
use Rattle.std.proofs.Common.{◌≡◌, ◌↔◌, ◌⊎◌, ℕ, List, [], ◌∷◌, ◌++◌, ap, sym, subst, inl, inr}
use Rattle.std.proofs.lemmas.Bool.{cases_eq}
use Rattle.call_side.specs.Indexed.{IsFiledBy}
use Rattle.demand_set.specs.declared.numbered.EdgeAt.{EdgeAt}
use Rattle.lists.specs.Lists.{Has}
use Rattle.lists.proofs.Places.{Has-push}
use Rattle.post_star.specs.declared.key.Key.TheVariants as key
use Rattle.post_star.specs.Groups.{Groups, IsAdded, found_at}
use Rattle.track_tables.specs.declared.returns.Return.{Return}
use Rattle.track_tables.specs.Making.{IsOnward, IsOnwardFrom}
use Rattle.track_tables.specs.Returns.{crossing_key, mark_key, source_of}

pub filed_from_node : (returns : List Return) (g : Groups Return) (node : ℕ) → IsFiledBy source_of returns g
    → (r : Return) → Has (found_at g (key.Node node)) r ↔ (Has returns r × (r.edge.from ≡ node))
filed_from_node returns g node filed r = (
  (λ h. let was = (filed (key.Node node) r).0 h in (was.0, let e = was.1 in cc)),
  (λ h. (filed (key.Node node) r).1 (h.0, ap key.Node h.1)),
)

pub filed_over : (returns : List Return) (g : Groups Return) (mark : ℕ) → IsFiledBy mark_key returns g
    → (r : Return) → Has (found_at g (key.Mark mark)) r ↔ (Has returns r × (r.mark ≡ mark))
filed_over returns g mark filed r = (
  (λ h. let was = (filed (key.Mark mark) r).0 h in (was.0, let e = was.1 in cc)),
  (λ h. (filed (key.Mark mark) r).1 (h.0, ap key.Mark h.1)),
)

pub filed_crossing : (returns : List Return) (g : Groups Return) (node mark : ℕ) → IsFiledBy crossing_key returns g
    → (r : Return) → Has (found_at g (key.Marked node mark)) r ↔ (Has returns r × (r.edge.from ≡ node) × (r.mark ≡ mark))
filed_crossing returns g node mark filed r = (
  (λ h. let was = (filed (key.Marked node mark) r).0 h in (was.0, (let e = was.1 in cc), let e = was.1 in cc)),
  (λ h. (filed (key.Marked node mark) r).1 (h.0, let from = h.1 in let over = h.2 in cc)),
)

-- an edge was filed under its source
pub onward_added : (old new : Groups EdgeAt) (edge : EdgeAt) → IsAdded old new (key.Node edge.from) edge → IsOnward edge.kind → (number : ℕ) (e : EdgeAt)
    → Has (found_at new (key.Node number)) e ↔ (Has (found_at old (key.Node number)) e ⊎ IsOnwardFrom number edge e)
onward_added old new edge added is number e = elim (cases_eq number edge.from) [
  | inl same ↦
      let here : found_at new (key.Node number) ≡ found_at old (key.Node number) ++ edge ∷ [] =
      subst (λ (n : ℕ). found_at new (key.Node n) ≡ found_at old (key.Node n) ++ edge ∷ []) (sym same) added.here in (
        (λ has. elim ((Has-push (found_at old (key.Node number)) edge e).0 (subst (λ (es : List EdgeAt). Has es e) here has)) [
          | inl was ↦ inl was
          | inr its ↦ inr (its, is, sym same)
        ]),
        (λ h. subst (λ (es : List EdgeAt). Has es e) (sym here) ((Has-push (found_at old (key.Node number)) edge e).1 (elim h [ inl was ↦ inl was | inr its ↦ inr its.0 ]))),
      )
  | inr other ↦
      let still = added.others (key.Node number) (λ same. other (let s = same in cc)) in (
        (λ has. inl (subst (λ (es : List EdgeAt). Has es e) still has)),
        (λ h. elim h [ inl was ↦ subst (λ (es : List EdgeAt). Has es e) (sym still) was | inr its ↦ absurd (other (sym its.2)) ]),
      )
]
