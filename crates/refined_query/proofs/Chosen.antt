-- What is found of an answer.
use Rattle.std.proofs.Common.{◌≡◌, ℕ, ◌+◌, ◌<◌, ◌≤◌, ◌⊎◌, ◌↔◌, List, Bool, Option, Some, None, length, slice_get, refl, sym, ap, ◌∙◌, subst, inl, inr, arith}
use Rattle.std.specs.Bool.{IsTrue}
use Rattle.std.specs.Option.{is_some}
use Rattle.std.proofs.lemmas.Bool.{cases_order}
use Rattle.class_rules.proofs.Selected.{selection_one}
use Rattle.class_rules.specs.Lookups.{Resolve}
use Rattle.class_rules.specs.Rows.{Sub}
use Rattle.lists.specs.Lists.{Adds, Has, HasMore}
use Rattle.lists.proofs.Places.{slice_get-below, Has-push}
use Rattle.link_rules.specs.Linked.{LinkedProgram}
use Rattle.link_rules.specs.WellLinked.{IsInForm}
use Rattle.link_sites.specs.declared.site.Site.{Site}
use Rattle.link_sites.specs.Sites.{IsSiteClass}
use Rattle.spds_nodes.proofs.Named.{IsSiteClass-below}
use Rattle.refined_query.specs.Selecting.{IsChosen, IsFoundFrom, StaysFor}
use Rattle.spds_rules.specs.declared.node.Node.{Node}
use Rattle.spds_rules.specs.Answers.{AreAnswered}
use Rattle.spds_rules.specs.Demand.{Demand, about}

-- by a look-up
pub has_there : (keys : List ℕ) (x : ℕ) (r : Option ℕ) (b : Bool) → ((i : ℕ) → (r ≡ Some i) ↔ (slice_get keys i ≡ Some x)) → b ≡ is_some r
    → IsTrue b ↔ Has keys x
has_there keys x (Some i) b finds e = (λ yes. (i, (finds i).0 refl), λ has. e)
has_there keys x None b finds e = (λ yes. cc (yes, e), λ has. let is = (finds has.0).1 has.1 in cc (is))

module _ (p : LinkedProgram) where
  -- the class of a site is one of the hierarchy
  pub site_within : (s : Site) (class : ℕ) → IsInForm p → IsSiteClass p s class → class < length p.rows.classes
  site_within s class form is = let below = IsSiteClass-below p s class form is in let same = form.tree in omega (arith, below, same)

  module _ (s : Site) (class key from : ℕ) (one : (c : ℕ) → IsSiteClass p s c → c ≡ from) where
    -- what look-up from the class finds
    pub row_found : (row target : ℕ) → IsSiteClass p s from → Sub p.rows from class → Resolve p.rows from key (Some row)
        → (slice_get p.method_rows target ≡ Some row) ↔ IsFoundFrom p s class key target
    row_found row target of_class below finds = (
      (λ numbered. record { from = from; of_class = of_class; below = below; row = row; finds = finds; numbered = numbered }),
      λ f. (let again = subst (λ c. Resolve p.rows c key (Some f.row)) (one f.from f.of_class) f.finds in
          let same = selection_one p.rows from key (Some f.row) (Some row) again finds in
          f.numbered ∙ same),
    )

    -- where it finds none
    pub none_found : (target : ℕ) → Resolve p.rows from key None → IsFoundFrom p s class key target → ⊥
    none_found target finds f =
        let again = subst (λ c. Resolve p.rows c key (Some f.row)) (one f.from f.of_class) f.finds in
        let same = selection_one p.rows from key (Some f.row) None again finds in
        cc (same)

  -- of so many of the sites, from the first on
  pub record IsChosenOf (sites : List Site) (class key count target : ℕ) : Type 0 where
    pub at : ℕ
    pub within : at < count
    pub site : Site
    pub there : slice_get sites at ≡ Some site
    pub found : IsFoundFrom p site class key target

  -- all of them
  pub chosen_all : (sites : List Site) (class key count target : ℕ) → length sites ≤ count
      → IsChosenOf sites class key count target ↔ IsChosen p sites class key target
  chosen_all sites class key count target end = (
    (λ c. (c.site, (c.at, c.there), c.found)),
    λ c. record { at = c.1.0; within = (let below = slice_get-below sites c.1.0 c.0 c.1.1 in omega (arith, below, end)); site = c.0; there = c.1.1; found = c.2 },
  )

  -- one more
  pub chosen_more : (sites : List Site) (class key count target : ℕ) (s : Site) → slice_get sites count ≡ Some s
      → IsChosenOf sites class key (count + 1) target ↔ (IsChosenOf sites class key count target ⊎ IsFoundFrom p s class key target)
  chosen_more sites class key count target s here = (
    (λ c. elim (cases_order c.at count) [
      | inl same ↦ (let is : c.site ≡ s = let a = c.there in cc (a, here, same) in inr (subst (λ x. IsFoundFrom p x class key target) is c.found))
      | inr apart ↦ elim apart [
        | inl below ↦ inl (record { at = c.at; within = below; site = c.site; there = c.there; found = c.found })
        | inr above ↦ (let w = c.within in absurd (omega (arith, w, above)))
      ]
    ]),
    λ either. elim either [
      | inl c ↦ (let w = c.within in record { at = c.at; within = omega (arith, w); site = c.site; there = c.there; found = c.found })
      | inr f ↦ record { at = count; within = omega arith; site = s; there = here; found = f }
    ],
  )

  -- none so far
  pub chosen_none : (sites : List Site) (class key target : ℕ) → IsChosenOf sites class key 0 target → ⊥
  chosen_none sites class key target c = let w = c.within in omega (arith, w)

  -- what is found of one more site comes besides
  pub chosen_step : (sites : List Site) (class key count : ℕ) (s : Site) (r : Option ℕ) (old new : List ℕ) → slice_get sites count ≡ Some s
      → ((target : ℕ) → (r ≡ Some target) ↔ IsFoundFrom p s class key target)
      → ((target : ℕ) → Has old target ↔ IsChosenOf sites class key count target) → ((target : ℕ) → Has new target ↔ (Has old target ⊎ (r ≡ Some target)))
      → (target : ℕ) → Has new target ↔ IsChosenOf sites class key (count + 1) target
  chosen_step sites class key count s r old new here finds was adds target = (
    (λ has. (chosen_more sites class key count target s here).1 (elim ((adds target).0 has) [
      | inl before ↦ inl ((was target).0 before)
      | inr found ↦ inr ((finds target).0 found)
    ])),
    λ c. (adds target).1 (elim ((chosen_more sites class key count target s here).0 c) [
      | inl before ↦ inl ((was target).1 before)
      | inr found ↦ inr ((finds target).1 found)
    ]),
  )

-- one that is added
pub added : (old new : List ℕ) (r : Option ℕ) (t : ℕ) → r ≡ Some t → Adds old t new → (target : ℕ) → Has new target ↔ (Has old target ⊎ (r ≡ Some target))
added old new r t is adds target = elim adds [
  | inl there ↦ (
    (λ has. inl (rw there.1 at has)),
    λ either. elim either [ inl has ↦ rw there.1 has | inr e ↦ (let same : t ≡ target = cc (e, is) in rw there.1 (subst (Has old) same there.0)) ],
  )
  | inr pushed ↦ (
    (λ has. elim ((Has-push old t target).0 (rw pushed.1 at has)) [ inl before ↦ inl before | inr e ↦ inr (is ∙ ap Some (sym e)) ]),
    λ either. elim either [
      | inl has ↦ rw pushed.1 ((Has-push old t target).1 (inl has))
      | inr e ↦ (let same : target ≡ t = cc (e, is) in rw pushed.1 ((Has-push old t target).1 (inr same)))
    ],
  )
]

-- none that is added
pub added_none : (old : List ℕ) (r : Option ℕ) → r ≡ None → (target : ℕ) → Has old target ↔ (Has old target ⊎ (r ≡ Some target))
added_none old r is target = ((λ has. inl has), λ either. elim either [ inl has ↦ has | inr e ↦ cc (e, is) ])

-- what is chosen of an answer is what stays, where the query doesn't demand more nodes than the budget allows
pub stays_is : (p : LinkedProgram) (budget : ℕ) (n : Node) (class key target : ℕ) (sites : List Site) (keys : List ℕ)
    → AreAnswered p (about n) n sites → (HasMore (Demand p (about n)) budget → ⊥) → (Has keys target ↔ IsChosen p sites class key target)
    → Has keys target ↔ StaysFor p budget n class key target
stays_is p budget n class key target sites keys are within finds = (
  (λ has. (let c = finds.0 has in
      inr (record {
        site = c.0;
        answered = (are.each c.0).0 c.1;
        from = c.2.from;
        of_class = c.2.of_class;
        below = c.2.below;
        row = c.2.row;
        finds = c.2.finds;
        numbered = c.2.numbered;
      }))),
  λ stays. elim stays [
    | inl more ↦ absurd (within more)
    | inr s ↦ finds.1 (
      s.site,
      (are.each s.site).1 s.answered,
      record { from = s.from; of_class = s.of_class; below = s.below; row = s.row; finds = s.finds; numbered = s.numbered },
    )
  ],
)
