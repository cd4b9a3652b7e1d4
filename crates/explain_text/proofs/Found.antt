-- What is found of a site among the lines of an answer.
use Rattle.std.proofs.Common.{◌≡◌, ℕ, zero, suc, List, [], ◌∷◌, ◌++◌, refl, sym, subst}
use Rattle.lists.specs.Lists.{Has}
use Rattle.link_rules.specs.Linked.{LinkedProgram}
use Rattle.link_sites.specs.declared.site.Site.{Site}
use Rattle.spds_rules.specs.declared.node.Node.{Node}
use Rattle.report_text.specs.Answers.{IsSiteLine}
use Rattle.explain_text.specs.Explanations.{AreExplanations, IsExplanation}

-- what stands in the second of two lists stands in both together
has_behind : {X : Type 0} (xs ys : List X) (x : X) → Has ys x → Has (xs ++ ys) x
has_behind [] ys x has = has
has_behind (z ∷ xs) ys x has = let behind = has_behind xs ys x has in (suc behind.0, behind.1)

module _ (p : LinkedProgram) (n : Node) where
  -- the lines of a site
  pub explanation_of : (sites : List Site) (lines : List (List ℕ)) → AreExplanations p n sites lines → (o : Site) → Has sites o
      → (own : List (List ℕ)) × IsExplanation p n o own
  explanation_of [] lines are o has = absurd (let e = has.1 in cc)
  explanation_of (site ∷ sites) lines are o (zero, e) = let same : site ≡ o = cc in (are.0, subst (λ (s : Site). IsExplanation p n s are.0) same are.2)
  explanation_of (site ∷ sites) lines are o (suc i, e) = explanation_of sites are.1 are.3 o (i, e)

  -- and its own line
  pub has_explained : (sites : List Site) (lines : List (List ℕ)) → AreExplanations p n sites lines → (o : Site) → Has sites o
      → (line : List ℕ) × IsSiteLine p o line × Has lines line
  has_explained [] lines are o has = absurd (let e = has.1 in cc)
  has_explained (site ∷ sites) lines are o (zero, e) =
      let same : site ≡ o = cc in
      let own = are.2 in
      let first : Has (are.0 ++ are.1) own.site =
      subst (λ (ls : List (List ℕ)). Has (ls ++ are.1) own.site) (sym own.lines_are) (0, refl) in
      (own.site, subst (λ (s : Site). IsSiteLine p s own.site) same own.site_is, subst (λ (ls : List (List ℕ)). Has ls own.site) (sym are.4) first)
  has_explained (site ∷ sites) lines are o (suc i, e) =
      let found = has_explained sites are.1 are.3 o (i, e) in
      (found.0, found.1, subst (λ (ls : List (List ℕ)). Has ls found.0) (sym are.4) (has_behind are.0 are.1 found.0 found.2))
