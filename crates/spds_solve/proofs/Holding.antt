-- Sites of which a node may hold objects, one after another.
use Rattle.std.proofs.Common.{◌≡◌, ◌↔◌, ◌⊎◌, ℕ, zero, suc, ◌+◌, List, [], ◌∷◌, ◌++◌, Bool, true, false, Some, IsTrue, eqb, map, slice_get, take, inl, inr, refl, sym, ap, ◌∙◌, subst, true≢false}
use Rattle.std.proofs.lemmas.Bool.{eqb-false, eqb-true}
use Rattle.demand_set.specs.Demands.{DemandParts}
use Rattle.lists.specs.Lists.{Has, Adds}
use Rattle.lists.proofs.Places.{Has-push, take-next}
use Rattle.lists.specs.declared.groups.Keyed.{Keyed}
use Rattle.lists.specs.Filings.{kept_if}
use Rattle.lists.specs.Groups.{items_with}
use Rattle.link_rules.specs.Linked.{LinkedProgram}
use Rattle.link_sites.specs.declared.site.Site.{Site}
use Rattle.rule_cells.specs.Renamed.{number_in}
use Rattle.spds_rules.specs.declared.node.Node.{Node}
use Rattle.spds_rules.specs.Answers.{IsAnswered}
use Rattle.spds_rules.specs.Demand.{Asked}
use Rattle.spds_solve.specs.declared.arrivals.Arrival.{Arrival}
use Rattle.spds_solve.specs.Holders.{keyed_by_cell}
use Rattle.spds_solve.specs.Holding.{AreHolding, IsAskedAt}
use Rattle.spds_solve.specs.Solved.{IsSolved, SolvedParts}

-- the sites under a cell are those that come there
pub under_cell : (arrivals : List Arrival) (cell site : ℕ) → Has (items_with eqb (map keyed_by_cell arrivals) cell) site ↔ Has arrivals (record { site = site; cell = cell })
under_cell [] cell site = ((λ has. let no = has.1 in absurd cc), (λ has. let no = has.1 in absurd cc))
under_cell (a ∷ arrivals) cell site = by (eqb a.cell cell) refl (under_cell arrivals cell site)
  where
    is : Arrival
    is = record { site = site; cell = cell }

    front : {X : Type 0} (x y : X) (xs : List X) (i : ℕ) → slice_get (x ∷ xs) i ≡ Some y → (x ≡ y) ⊎ Has xs y
    front x y xs zero at = inl (let e : Some x ≡ Some y = at in cc)
    front x y xs (suc i) at = inr (i, at)

    by : (b : Bool) → eqb a.cell cell ≡ b → Has (items_with eqb (map keyed_by_cell arrivals) cell) site ↔ Has arrivals is
        → Has (items_with eqb (map keyed_by_cell (a ∷ arrivals)) cell) site ↔ Has (a ∷ arrivals) is
    by true e rest =
        let same : a.cell ≡ cell = eqb-true a.cell cell e in
        rw e (
          (λ has. elim (front a.site site (items_with eqb (map keyed_by_cell arrivals) cell) has.0 has.1) [
            | inl one ↦ (0, ap Some (ap (λ (n : ℕ). record { site = n; cell = a.cell }) one ∙ ap (λ (n : ℕ). record { site = site; cell = n }) same))
            | inr more ↦ let there = rest.0 more in (suc there.0, there.1)
          ]),
          (λ has. elim (front a is arrivals has.0 has.1) [
            | inl one ↦ (0, ap (λ (x : Arrival). Some x.site) one)
            | inr more ↦ let there = rest.1 more in (suc there.0, there.1)
          ]),
        )
    by false e rest =
        rw e (
          (λ has. let there = rest.0 has in (suc there.0, there.1)),
          (λ has. elim (front a is arrivals has.0 has.1) [
            | inl one ↦ absurd (eqb-false a.cell cell e (ap (λ (x : Arrival). x.cell) one))
            | inr more ↦ rest.1 more
          ]),
        )

module _ (s : SolvedParts) (node : ℕ) where
  -- a site is put in, or not
  pub asked_yes : (site : ℕ) (old new : List ℕ) → Adds old site new
      → ((p : LinkedProgram) (q : Asked) (d : DemandParts) (n : Node) (o : Site) → IsSolved p q d s → slice_get d.nodes node ≡ Some n → slice_get d.sites site ≡ Some o → IsAnswered p q n o)
      → IsAskedAt s node site old new
  asked_yes site old new adds answered p q d n other o solved there here = (
    (λ has. elim adds [
      | inl was ↦ inl (subst (λ (xs : List ℕ). Has xs other) was.1 has)
      | inr more ↦ elim ((Has-push old site other).0 (subst (λ (xs : List ℕ). Has xs other) more.1 has)) [
        | inl a ↦ inl a
        | inr e ↦ inr (e, answered p q d n o solved there (subst (λ (x : ℕ). slice_get d.sites x ≡ Some o) e here))
      ]
    ]),
    (λ h. elim adds [
      | inl was ↦ subst (λ (xs : List ℕ). Has xs other) (sym was.1) (elim h [ inl a ↦ a | inr e ↦ subst (λ (x : ℕ). Has old x) (sym e.0) was.0 ])
      | inr more ↦ subst (λ (xs : List ℕ). Has xs other) (sym more.1) ((Has-push old site other).1 (elim h [ inl a ↦ inl a | inr e ↦ inr e.0 ]))
    ]),
  )

  pub asked_no : (site : ℕ) (old : List ℕ)
      → ((p : LinkedProgram) (q : Asked) (d : DemandParts) (n : Node) (o : Site) → IsSolved p q d s → slice_get d.nodes node ≡ Some n → slice_get d.sites site ≡ Some o → IsAnswered p q n o → ⊥)
      → IsAskedAt s node site old old
  asked_no site old never p q d n other o solved there here = (
    (λ has. inl has),
    (λ h. elim h [
      | inl a ↦ a
      | inr e ↦ absurd (never p q d n o solved there (subst (λ (x : ℕ). slice_get d.sites x ≡ Some o) e.0 here) e.1)
    ]),
  )

  -- of the first sites those were put in of which the node may hold objects
  abbrev pub AreAsked : List ℕ → List ℕ → Type 0
  AreAsked first found = (p : LinkedProgram) (q : Asked) (d : DemandParts) (n : Node) (site : ℕ) (o : Site) → IsSolved p q d s → slice_get d.nodes node ≡ Some n
      → slice_get d.sites site ≡ Some o → Has found site ↔ (Has first site × IsAnswered p q n o)

  pub asked_none : AreAsked [] []
  asked_none p q d n site o solved there here = ((λ has. let no = has.1 in absurd cc), (λ h. let no = h.0.1 in absurd cc))

  pub asked_more : (first : List ℕ) (x : ℕ) (old new : List ℕ) → AreAsked first old → IsAskedAt s node x old new → AreAsked (first ++ x ∷ []) new
  asked_more first x old new was now p q d n site o solved there here =
      let before = was p q d n site o solved there here in
      let then = now p q d n site o solved there here in (
        (λ has. elim (then.0 has) [
          | inl a ↦ let h = before.0 a in ((Has-push first x site).1 (inl h.0), h.1)
          | inr e ↦ ((Has-push first x site).1 (inr e.0), e.1)
        ]),
        (λ h. then.1 (elim ((Has-push first x site).0 h.0) [ inl a ↦ inl (before.1 (a, h.1)) | inr e ↦ inr (e, h.1) ])),
      )

  -- where all that come to the cell were asked for, none is missed
  pub asked_all : (sites found : List ℕ) → ((site : ℕ) → Has sites site ↔ Has s.arrivals (record { site = site; cell = number_in s.call_cells node })) → AreAsked sites found
      → AreHolding s node found
  asked_all sites found come asked p q d n site o solved there here =
      let told = asked p q d n site o solved there here in
      let arrived = solved.arrived (record { site = site; cell = number_in s.call_cells node }) o node n here there refl in (
        (λ has. (told.0 has).1),
        (λ answered. told.1 ((come site).1 (arrived.1 answered.1), answered)),
      )
