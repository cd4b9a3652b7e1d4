-- What is true of the edges of a list.
use Rattle.std.proofs.Common.{◌≡◌, ◌↔◌, ◌⊎◌, ℕ, ◌+◌, ◌≤◌, List, [], ◌∷◌, ◌++◌, Some, false, length, map, slice_get, take, refl, sym, ap, subst, ◌∙◌, inl, inr, arith}
use Rattle.std.proofs.lemmas.List.{take_all}
use Rattle.lists.specs.Lists.{Adds, Has, IsApart}
use Rattle.lists.proofs.Places.{Has-push, take-next}
use Rattle.lists.proofs.Joined.{Has-adds, slice_get-taken}
use Rattle.link_laws.proofs.Lists.{at_map, map_at}
use Rattle.spds_rules.specs.declared.edge.Edge.{Edge}
use Rattle.spds_rules.specs.declared.edge.EdgeKind.TheVariants.{Flow}
use Rattle.spds_rules.specs.declared.node.Node.{Node}
use Rattle.spds_rules.specs.declared.node.Var.TheVariants.{Local}
use Rattle.spds_rules.specs.declared.store.StoreAt.{StoreAt}
use Rattle.cert_replay.specs.declared.edges.Joined.{Joined}
use Rattle.cert_replay.specs.declared.edges.Step.{Step}
use Rattle.cert_replay.specs.declared.edges.Way.{Way}
use Rattle.cert_replay.specs.declared.edges.Way.TheVariants.{Fields, Calls, Returns, Only}
use Rattle.cert_replay.specs.Joins.{Goes, HasStep, IsStepAlong, IsStepOf, joined_by}
use Rattle.cert_laws.proofs.Givens.{taken_below}

-- what stands where no edge does, and where no store does
abbrev pub no_node : Node
no_node = record { place = record { method = 0; index = 0; raised = false }; var = Local 0 }

abbrev pub no_edge : Edge
no_edge = record { from = no_node; to = no_node; kind = Flow }

abbrev pub no_store : StoreAt
no_store = record { place = record { method = 0; index = 0; raised = false }; field = 0; base = no_node; arg = no_node }

-- one edge more
pub steps_next : (edges : List Edge) (i : ℕ) (edge : Edge) → slice_get edges i ≡ Some edge → (s : Step) → HasStep (take (i + 1) edges) s ↔ (HasStep (take i edges) s ⊎ IsStepAlong edge s)
steps_next edges i edge there s =
    subst (λ l. HasStep l s ↔ (HasStep (take i edges) s ⊎ IsStepAlong edge s)) (sym (take-next edges i edge there)) (
      λ h. elim ((Has-push (take i edges) edge h.0).0 h.1) [
        | inl before ↦ inl (h.0, before, h.2)
        | inr same ↦ inr (subst (λ e. IsStepAlong e s) same h.2)
      ],
      λ h. elim h [
        | inl before ↦ (before.0, (Has-push (take i edges) edge before.0).1 (inl before.1), before.2)
        | inr along ↦ (edge, (Has-push (take i edges) edge edge).1 (inr refl), along)
      ],
    )

-- the steps of an edge are those with one of the four things that may be true of it
pub along_one_of : (edge : Edge) (s : Step) → IsStepAlong edge s → ((IsStepOf edge Fields s ⊎ IsStepOf edge Calls s) ⊎ IsStepOf edge Returns s) ⊎ IsStepOf edge (Only edge.kind) s
along_one_of edge s along = by s.way refl along.2
  where
    same : (way : Way) → s.way ≡ way → s ≡ record { joined = record { from = edge.from; to = edge.to }; way = way }
    same way e = λ j. record { joined = record { from = along.0 j; to = along.1 j }; way = e j }

    by : (way : Way) → s.way ≡ way → Goes s.way edge.kind → ((IsStepOf edge Fields s ⊎ IsStepOf edge Calls s) ⊎ IsStepOf edge Returns s) ⊎ IsStepOf edge (Only edge.kind) s
    by Fields e goes = inl (inl (inl (subst (λ w. Goes w edge.kind) e goes, same Fields e)))
    by Calls e goes = inl (inl (inr (subst (λ w. Goes w edge.kind) e goes, same Calls e)))
    by Returns e goes = inl (inr (subst (λ w. Goes w edge.kind) e goes, same Returns e))
    by (Only kind) e goes =
        let is : kind ≡ edge.kind = subst (λ w. Goes w edge.kind) e goes in
        inr (refl, same (Only edge.kind) (e ∙ ap Only is))

pub of_along : (edge : Edge) (way : Way) (s : Step) → IsStepOf edge way s → IsStepAlong edge s
of_along edge way s is = (ap (λ x. x.joined.from) is.1, ap (λ x. x.joined.to) is.1, subst (λ w. Goes w edge.kind) (sym (ap (λ x. x.way) is.1)) is.0)

-- one store more
pub stored_next : (stores : List StoreAt) (i : ℕ) (s : StoreAt) (old new : List Joined) → IsApart (map joined_by stores) → slice_get stores i ≡ Some s → old ≡ map joined_by (take i stores)
    → Adds old (joined_by s) new → new ≡ map joined_by (take (i + 1) stores)
stored_next stores i s old new apart there e adds = elim adds [
  | inl has ↦
      let at = at_map joined_by (take i stores) has.0.0 (joined_by s) (subst (λ l. slice_get l has.0.0 ≡ Some (joined_by s)) e has.0.1) in
      let first = map_at joined_by stores has.0.0 at.0 (slice_get-taken i stores has.0.0 at.0 at.1) in
      let second = map_at joined_by stores i s there in
      let same = apart has.0.0 i (joined_by s) (first ∙ ap Some (sym at.2)) second in
      absurd (omega (arith, same, taken_below i stores has.0.0 at.0 at.1))
  | inr last ↦ last.1 ∙ ap (λ l. l ++ joined_by s ∷ []) e ∙ sym (map_push (take i stores)) ∙ ap (map joined_by) (sym (take-next stores i s there))
]
  where
    map_push : (xs : List StoreAt) → map joined_by (xs ++ s ∷ []) ≡ map joined_by xs ++ joined_by s ∷ []
    map_push [] = refl
    map_push (x ∷ xs) = ap (λ l. joined_by x ∷ l) (map_push xs)

-- an edge of which it is true has its step added
pub step_added : (edge : Edge) (way : Way) (old new : List Step) → Goes way edge.kind → Adds old (record { joined = record { from = edge.from; to = edge.to }; way = way }) new
    → (s : Step) → Has new s ↔ (Has old s ⊎ IsStepOf edge way s)
step_added edge way old new goes adds s =
    let has = Has-adds old new (record { joined = record { from = edge.from; to = edge.to }; way = way }) adds s in (
      λ h. elim (has.0 h) [ inl there ↦ inl there | inr same ↦ inr (goes, same) ],
      λ h. has.1 (elim h [ inl there ↦ inl there | inr is ↦ inr is.1 ]),
    )

-- another has none
pub step_left : (edge : Edge) (way : Way) (steps : List Step) → (Goes way edge.kind → ⊥) → (s : Step) → Has steps s ↔ (Has steps s ⊎ IsStepOf edge way s)
step_left edge way steps not s = (λ h. inl h, λ h. elim h [ inl there ↦ there | inr is ↦ absurd (not is.0) ])

-- one after another all steps of the edge are added
pub steps_added : (edge : Edge) (a b c d e : List Step) → ((s : Step) → Has b s ↔ (Has a s ⊎ IsStepOf edge Fields s)) → ((s : Step) → Has c s ↔ (Has b s ⊎ IsStepOf edge Calls s))
    → ((s : Step) → Has d s ↔ (Has c s ⊎ IsStepOf edge Returns s)) → ((s : Step) → Has e s ↔ (Has d s ⊎ IsStepOf edge (Only edge.kind) s))
    → (s : Step) → Has e s ↔ (Has a s ⊎ IsStepAlong edge s)
steps_added edge a b c d e first second third fourth s = (
  λ h. elim ((fourth s).0 h) [
    | inl in_d ↦ elim ((third s).0 in_d) [
      | inl in_c ↦ elim ((second s).0 in_c) [
        | inl in_b ↦ elim ((first s).0 in_b) [ inl in_a ↦ inl in_a | inr is ↦ inr (of_along edge Fields s is) ]
        | inr is ↦ inr (of_along edge Calls s is)
      ]
      | inr is ↦ inr (of_along edge Returns s is)
    ]
    | inr is ↦ inr (of_along edge (Only edge.kind) s is)
  ],
  λ h. elim h [
    | inl in_a ↦ (fourth s).1 (inl ((third s).1 (inl ((second s).1 (inl ((first s).1 (inl in_a)))))))
    | inr along ↦ elim (along_one_of edge s along) [
      | inl three ↦ elim three [
        | inl two ↦ elim two [
          | inl is ↦ (fourth s).1 (inl ((third s).1 (inl ((second s).1 (inl ((first s).1 (inr is)))))))
          | inr is ↦ (fourth s).1 (inl ((third s).1 (inl ((second s).1 (inr is)))))
        ]
        | inr is ↦ (fourth s).1 (inl ((third s).1 (inr is)))
      ]
      | inr is ↦ (fourth s).1 (inr is)
    ]
  ],
)

-- of no edges there is none
pub no_steps : (edges : List Edge) (s : Step) → Has [] s ↔ HasStep (take 0 edges) s
no_steps edges s = (λ h. let e = h.1 in cc, λ h. let e = h.1.1 in cc)

-- one edge more, where the steps of those before it are there
pub steps_more : (edges : List Edge) (i : ℕ) (edge : Edge) (old new : List Step) → slice_get edges i ≡ Some edge → ((s : Step) → Has old s ↔ HasStep (take i edges) s)
    → ((s : Step) → Has new s ↔ (Has old s ⊎ IsStepAlong edge s)) → (s : Step) → Has new s ↔ HasStep (take (i + 1) edges) s
steps_more edges i edge old new there before adds s =
    let next = steps_next edges i edge there s in (
      λ h. next.1 (elim ((adds s).0 h) [ inl had ↦ inl ((before s).0 had) | inr along ↦ inr along ]),
      λ h. (adds s).1 (elim (next.0 h) [ inl had ↦ inl ((before s).1 had) | inr along ↦ inr along ]),
    )

pub steps_all : (edges : List Edge) (i : ℕ) (steps : List Step) → length edges ≤ i → ((s : Step) → Has steps s ↔ HasStep (take i edges) s) → (s : Step) → Has steps s ↔ HasStep edges s
steps_all edges i steps all has s = subst (λ (l : List Edge). Has steps s ↔ HasStep l s) (take_all i edges all) (has s)
