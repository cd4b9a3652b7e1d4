-- How rules lead to nodes, rule by rule.
use Rattle.std.proofs.Common.{◌≡◌, ◌≢◌, ◌<◌, ◌≤◌, ◌⊎◌, ℕ, zero, suc, List, [], ◌∷◌, ◌++◌, drop, length, slice_get, slice_set, take, Some, length-set, refl, sym, ap, ◌∙◌, subst, inl, inr, arith}
use Rattle.std.proofs.lemmas.Bool.{cases_order}
use Rattle.std.proofs.lemmas.List.{take-append-le, take_all}
use Rattle.auto_table.specs.declared.rule.Rule.{Rule}
use Rattle.auto_table.specs.declared.rule.Rule.TheVariants.{Flow}
use Rattle.lists.specs.Lists.{Has}
use Rattle.lists.proofs.Places.{slice_get-below, slice_get-pushed, slice_get-set_other, slice_get-set_same}
use Rattle.lists.proofs.Joined.{Has-left}
use Rattle.post_star.specs.Measures.{to_of}
use Rattle.post_star.proofs.Scopes.{has_last}
use Rattle.rule_cells.specs.declared.entered.Entered.{Entered}
use Rattle.rule_cells.specs.declared.entered.Entered.TheVariants.{Never, Once, Otherwise}
use Rattle.rule_cells.specs.Entered.{AreEntered, IsEntered}

-- an element of a list with one more
pub has_pushed : {X : Type 0} (xs : List X) (x y : X) → Has (xs ++ x ∷ []) y → Has xs y ⊎ (y ≡ x)
has_pushed xs x y h = elim (slice_get-pushed xs x h.0 y h.1) [ inl old ↦ inl (h.0, old) | inr new ↦ inr new.1 ]

module _ {X : Type 0} where
  -- what was lent comes back whole
  pub returned : (n : ℕ) (new old : List X) → n ≡ length new → take n (new ++ drop (length new) old) ≡ new
  returned n new old e = take-append-le n new (drop (length new) old) (omega arith) ∙ take_all n new (omega arith)

module _ {W : Type 0} (count : ℕ) (rules : List (Rule W)) (kept : List ℕ) where
  -- the first rule, where it is a flow from below the count
  pub first_once : (rule : Rule W) (from to : ℕ) (weight : W) → rule ≡ Flow from to weight → from < count → IsEntered count rules kept (to_of rule) Never
      → IsEntered count (rules ++ rule ∷ []) kept (to_of rule) (Once from weight)
  first_once rule from to weight is low never =
      let leads_to : to_of rule ≡ to = ap to_of is in
      let flow : rule ≡ Flow from (to_of rule) weight = subst (λ (k : ℕ). rule ≡ Flow from k weight) (sym leads_to) is in (
        record {
          flow = subst (λ (r : Rule W). Has (rules ++ rule ∷ []) r) flow (has_last rules rule);
          only = λ r has leads. elim (has_pushed rules rule r has) [ inl old ↦ absurd (never.1 r old leads) | inr new ↦ new ∙ flow ];
          free = never.0;
        },
        low,
      )

  -- and where it isn't
  pub refused : (rule : Rule W) → ((m : ℕ) (w : W) → m < count → rule ≡ Flow m (to_of rule) w → ⊥) → IsEntered count (rules ++ rule ∷ []) kept (to_of rule) Otherwise
  refused rule not m w below only free = not m w below (only rule (has_last rules rule) refl)

  pub flow_refused : (rule : Rule W) (from to : ℕ) (weight : W) → rule ≡ Flow from to weight → count ≤ from
      → IsEntered count (rules ++ rule ∷ []) kept (to_of rule) Otherwise
  flow_refused rule from to weight is past = refused rule (λ m w below other. let same : from ≡ m = cc (is, other) in omega (arith, same, below, past))

  -- the same flow once more
  pub once_again : (rule : Rule W) (from n : ℕ) (weight : W) → to_of rule ≡ n → rule ≡ Flow from n weight → IsEntered count rules kept n (Once from weight)
      → IsEntered count (rules ++ rule ∷ []) kept n (Once from weight)
  once_again rule from n weight to is once = (
    record {
      flow = Has-left rules (rule ∷ []) (Flow from n weight) once.0.flow;
      only = λ r has leads. elim (has_pushed rules rule r has) [ inl old ↦ once.0.only r old leads | inr new ↦ new ∙ is ];
      free = once.0.free;
    },
    once.1,
  )

  -- another rule
  pub once_otherwise : (rule : Rule W) (from n : ℕ) (weight : W) → to_of rule ≡ n → (rule ≡ Flow from n weight → ⊥)
      → IsEntered count rules kept n (Once from weight) → IsEntered count (rules ++ rule ∷ []) kept n Otherwise
  once_otherwise rule from n weight to other once m w below only free =
      other (only rule (has_last rules rule) to ∙ sym (only (Flow from n weight) (Has-left rules (rule ∷ []) (Flow from n weight) once.0.flow) refl))

  -- what is otherwise stays so
  pub otherwise_more : (rule : Rule W) (n : ℕ) → IsEntered count rules kept n Otherwise → IsEntered count (rules ++ rule ∷ []) kept n Otherwise
  otherwise_more rule n was m w below only free = was m w below (λ r has leads. only r (Has-left rules (rule ∷ []) r has) leads) free

  -- a rule doesn't change how others lead to another node
  pub elsewhere : (rule : Rule W) (n : ℕ) (e : Entered W) → to_of rule ≢ n → IsEntered count rules kept n e → IsEntered count (rules ++ rule ∷ []) kept n e
  elsewhere rule n Never apart was = (
    was.0,
    λ r has leads. elim (has_pushed rules rule r has) [ inl old ↦ was.1 r old leads | inr new ↦ apart (ap to_of (sym new) ∙ leads) ],
  )
  elsewhere rule n (Once from weight) apart was = (
    record {
      flow = Has-left rules (rule ∷ []) (Flow from n weight) was.0.flow;
      only = λ r has leads. elim (has_pushed rules rule r has) [ inl old ↦ was.0.only r old leads | inr new ↦ absurd (apart (ap to_of (sym new) ∙ leads)) ];
      free = was.0.free;
    },
    was.1,
  )
  elsewhere rule n Otherwise apart was = otherwise_more rule n was

  -- one node more is kept, and others stay
  pub kept_elsewhere : (node n : ℕ) (e : Entered W) → node ≢ n → IsEntered count rules kept n e → IsEntered count rules (kept ++ node ∷ []) n e
  kept_elsewhere node n Never apart was = (λ has. elim (has_pushed kept node n has) [ inl old ↦ was.0 old | inr new ↦ apart (sym new) ], was.1)
  kept_elsewhere node n (Once from weight) apart was = (
    record {
      flow = was.0.flow;
      only = was.0.only;
      free = λ has. elim (has_pushed kept node n has) [ inl old ↦ was.0.free old | inr new ↦ apart (sym new) ];
    },
    was.1,
  )
  kept_elsewhere node n Otherwise apart was = λ m w below only free. was m w below only (λ has. free (Has-left kept (node ∷ []) n has))

  pub kept_here : (node : ℕ) → IsEntered count rules (kept ++ node ∷ []) node Otherwise
  kept_here node m w below only free = free (has_last kept node)

  -- one entry changes
  module _ (more : List (Rule W)) (also : List ℕ) (to : ℕ) (entries : List (Entered W)) (are : AreEntered count rules kept entries)
      (others : (n : ℕ) (e : Entered W) → to ≢ n → IsEntered count rules kept n e → IsEntered count more also n e) where
    pub entered_set : (e : Entered W) → to < length entries → IsEntered count more also to e → AreEntered count more also (slice_set entries to e)
    entered_set e below is = record {
      many = length-set entries to e ∙ are.many;
      each = λ n x at. elim (cases_order n to) [
        | inl same ↦
            let now : slice_get (slice_set entries to e) to ≡ Some e = slice_get-set_same entries to e below in
            let so : e ≡ x = cc (now, same, at) in
            subst (λ (k : ℕ). IsEntered count more also k x) (sym same) (subst (λ (y : Entered W). IsEntered count more also to y) so is)
        | inr apart ↦ elim apart [
          | inl less ↦ others n x (λ k. omega (arith, k, less)) (are.each n x (sym (slice_get-set_other entries to n e (λ k. omega (arith, k, less))) ∙ at))
          | inr greater ↦ others n x (λ k. omega (arith, k, greater)) (are.each n x (sym (slice_get-set_other entries to n e (λ k. omega (arith, k, greater))) ∙ at))
        ]
      ];
    }

    -- or none, where the node isn't among them
    pub entered_outside : length entries ≤ to → AreEntered count more also entries
    entered_outside past = record {
      many = are.many;
      each = λ n x at. others n x (λ k. omega (arith, k, past, slice_get-below entries n x at)) (are.each n x at);
    }

-- nothing leads to any node, and none is kept
pub entered_none : {W : Type 0} (count : ℕ) (entries : List (Entered W)) → length entries ≡ count
    → ((n : ℕ) (e : Entered W) → slice_get entries n ≡ Some e → e ≡ Never) → AreEntered count [] [] entries
entered_none {W} count entries many never = record {
  many = many;
  each = λ n e at. subst (λ (x : Entered W). IsEntered count [] [] n x) (sym (never n e at)) ((λ has. cc has.1), (λ r has leads. cc has.1));
}
