-- Rules that are contracted one by one.
use Rattle.std.proofs.Common.{◌≡◌, ◌<◌, ◌+◌, ℕ, List, [], ◌∷◌, ◌++◌, get_or, take, length, slice_get, Some, length-append, refl, sym, ap, ◌∙◌, subst, inl, inr, arith}
use Rattle.std.proofs.lemmas.List.{take_all, take_more}
use Rattle.std.proofs.lemmas.Option.{slice_get-get_or}
use Rattle.auto_table.specs.declared.rule.Rule.{Rule}
use Rattle.lists.specs.Lists.{Has}
use Rattle.lists.proofs.Places.{slice_get-below, slice_get-pushed}
use Rattle.lists.proofs.Joined.{Has-left}
use Rattle.post_star.specs.Measures.{to_of}
use Rattle.post_star.proofs.Scopes.{has_last}
use Rattle.weight_laws.specs.Law.{Domain}
use Rattle.rule_cells.specs.declared.cells.Cell.{Cell}
use Rattle.rule_cells.specs.Cells.{AreContracted, moved}
use Rattle.rule_cells.specs.Made.{AreSources, head_at, offset_at}
use Rattle.rule_cells.proofs.Entering.{has_pushed}

module _ {W : Type 0} (d : Domain W) (cells : List (Cell W)) where
  abbrev pub Few : List (Rule W) → List (Rule W) → Type 0
  Few = AreContracted d (head_at d cells) (offset_at d cells)

  pub few_none : (rules : List (Rule W)) → Few (take 0 rules) []
  few_none rules r = ((λ has. cc has.1), (λ q. cc q.1.1))

  few_push : (rules few : List (Rule W)) (rule : Rule W) → head_at d cells (to_of rule) ≡ to_of rule → Few rules few
      → Few (rules ++ rule ∷ []) (few ++ moved d (head_at d cells) (offset_at d cells) rule ∷ [])
  few_push rules few rule leads was r = (
    (λ has. elim (has_pushed few (moved d (head_at d cells) (offset_at d cells) rule) r has) [
      | inl old ↦ let q = (was r).0 old in (q.0, Has-left rules (rule ∷ []) q.0 q.1, q.2, q.3)
      | inr new ↦ (rule, has_last rules rule, leads, new)
    ]),
    (λ q. elim (has_pushed rules rule q.0 q.1) [
      | inl old ↦ Has-left few (moved d (head_at d cells) (offset_at d cells) rule ∷ []) r ((was r).1 (q.0, old, q.2, q.3))
      | inr new ↦ subst (λ (x : Rule W). Has (few ++ moved d (head_at d cells) (offset_at d cells) rule ∷ []) x)
          (sym (q.3 ∙ ap (moved d (head_at d cells) (offset_at d cells)) new)) (has_last few (moved d (head_at d cells) (offset_at d cells) rule))
    ]),
  )

  few_skip : (rules few : List (Rule W)) (rule : Rule W) → (head_at d cells (to_of rule) ≡ to_of rule → ⊥) → Few rules few → Few (rules ++ rule ∷ []) few
  few_skip rules few rule leads was r = (
    (λ has. let q = (was r).0 has in (q.0, Has-left rules (rule ∷ []) q.0 q.1, q.2, q.3)),
    (λ q. elim (has_pushed rules rule q.0 q.1) [
      | inl old ↦ (was r).1 (q.0, old, q.2, q.3)
      | inr new ↦ absurd (leads (subst (λ (x : Rule W). head_at d cells (to_of x) ≡ to_of x) new q.2))
    ]),
  )

  -- one rule more leads to a head
  pub few_more : (rules few : List (Rule W)) (i : ℕ) (rule : Rule W) → i < length rules → head_at d cells (to_of (get_or rules i rule)) ≡ to_of (get_or rules i rule)
      → Few (take i rules) few → Few (take (i + 1) rules) (few ++ moved d (head_at d cells) (offset_at d cells) (get_or rules i rule) ∷ [])
  few_more rules few i rule below leads was =
      subst (λ (xs : List (Rule W)). Few xs (few ++ moved d (head_at d cells) (offset_at d cells) (get_or rules i rule) ∷ [])) (sym (take_more rules i rule below))
      (few_push (take i rules) few (get_or rules i rule) leads was)

  -- or doesn't
  pub few_less : (rules few : List (Rule W)) (i : ℕ) (rule : Rule W) → i < length rules
      → (head_at d cells (to_of (get_or rules i rule)) ≡ to_of (get_or rules i rule) → ⊥) → Few (take i rules) few → Few (take (i + 1) rules) few
  few_less rules few i rule below leads was =
      subst (λ (xs : List (Rule W)). Few xs few) (sym (take_more rules i rule below)) (few_skip (take i rules) few (get_or rules i rule) leads was)

  pub few_all : (rules few : List (Rule W)) (n : ℕ) → n ≡ length rules → Few (take n rules) few → Few rules few
  few_all rules few n e was = subst (λ (xs : List (Rule W)). Few xs few) (take_all n rules (omega arith)) was

  pub sources_none : (rules : List (Rule W)) → AreSources d cells rules [] []
  sources_none rules = record { many = refl; each = λ i source r at. cc }

  pub sources_more : (rules few : List (Rule W)) (sources : List ℕ) (i : ℕ) (q : Rule W) → slice_get rules i ≡ Some q
      → head_at d cells (to_of q) ≡ to_of q → AreSources d cells rules few sources
      → AreSources d cells rules (few ++ moved d (head_at d cells) (offset_at d cells) q ∷ []) (sources ++ i ∷ [])
  sources_more rules few sources i q at leads was = record {
    many = omega (arith, length-append sources (i ∷ []), length-append few (moved d (head_at d cells) (offset_at d cells) q ∷ []), was.many);
    each = λ j source r one two. elim (slice_get-pushed sources i j source one) [
      | inl old ↦ elim (slice_get-pushed few (moved d (head_at d cells) (offset_at d cells) q) j r two) [
        | inl too ↦ was.each j source r old too
        | inr new ↦ absurd (omega (arith, new.0, slice_get-below sources j source old, was.many))
      ]
      | inr end ↦ elim (slice_get-pushed few (moved d (head_at d cells) (offset_at d cells) q) j r two) [
        | inl old ↦ absurd (omega (arith, end.0, slice_get-below few j r old, was.many))
        | inr new ↦ (q, subst (λ (k : ℕ). slice_get rules k ≡ Some q) (sym end.1) at, record { leads = leads; is = new.1 })
      ]
    ];
  }

  -- the rules before a number are contracted
  pub record AreDone (rules : List (Rule W)) (i : ℕ) (few : List (Rule W)) (sources : List ℕ) : Type 0 where
    pub few_are : Few (take i rules) few
    pub sources_are : AreSources d cells rules few sources

  pub done_none : (rules : List (Rule W)) → AreDone rules 0 [] []
  done_none rules = record { few_are = few_none rules; sources_are = sources_none rules }

  pub done_more : (rules few few' : List (Rule W)) (sources sources' : List ℕ) (i : ℕ) (rule : Rule W) → i < length rules → rule ≡ get_or rules i rule
      → head_at d cells (to_of rule) ≡ to_of rule → few' ≡ few ++ moved d (head_at d cells) (offset_at d cells) rule ∷ [] → sources' ≡ sources ++ i ∷ []
      → AreDone rules i few sources → AreDone rules (i + 1) few' sources'
  done_more rules few few' sources sources' i rule below is leads a b was =
      subst (λ (xs : List (Rule W)). AreDone rules (i + 1) xs sources') (sym a) (subst (λ (ks : List ℕ). AreDone rules (i + 1) (few ++ moved d (head_at d cells) (offset_at d cells) rule ∷ []) ks) (sym b)
      (record {
        few_are = subst (λ (r : Rule W). Few (take (i + 1) rules) (few ++ moved d (head_at d cells) (offset_at d cells) r ∷ [])) (sym is)
            (few_more rules few i rule below (subst (λ (r : Rule W). head_at d cells (to_of r) ≡ to_of r) is leads) was.few_are);
        sources_are = sources_more rules few sources i rule (slice_get-get_or rules i rule below ∙ ap Some (sym is)) leads was.sources_are;
      }))

  pub done_less : (rules few few' : List (Rule W)) (sources sources' : List ℕ) (i : ℕ) (rule : Rule W) → i < length rules → rule ≡ get_or rules i rule
      → (head_at d cells (to_of rule) ≡ to_of rule → ⊥) → few' ≡ few → sources' ≡ sources → AreDone rules i few sources → AreDone rules (i + 1) few' sources'
  done_less rules few few' sources sources' i rule below is leads a b was =
      subst (λ (xs : List (Rule W)). AreDone rules (i + 1) xs sources') (sym a) (subst (λ (ks : List ℕ). AreDone rules (i + 1) few ks) (sym b)
      (record {
        few_are = few_less rules few i rule below (λ h. leads (subst (λ (r : Rule W). head_at d cells (to_of r) ≡ to_of r) (sym is) h)) was.few_are;
        sources_are = was.sources_are;
      }))
