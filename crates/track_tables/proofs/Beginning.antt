-- Starts that come.
use Rattle.std.proofs.Common.{◌≡◌, ◌↔◌, ◌⊎◌, ℕ, ◌+◌, ◌<◌, List, [], ◌∷◌, ◌++◌, length, get_or, take, Some, slice_get, zero, suc, refl, sym, ◌∙◌, subst, inl, inr, arith}
use Rattle.call_side.specs.Bases.{AreLed, IsLast}
use Rattle.call_side.specs.Trails.{AreKept}
use Rattle.demand_set.specs.Demands.{DemandParts}
use Rattle.track_tables.specs.Held.{AreHeldAt}
use Rattle.lists.specs.Lists.{Has}
use Rattle.lists.proofs.Places.{slice_get-below, Has-push}
use Rattle.link_rules.specs.Linked.{LinkedProgram}
use Rattle.link_sites.specs.declared.site.Site.{Site}
use Rattle.post_star.specs.declared.bases.BaseStep.{BaseStep}
use Rattle.post_star.specs.declared.bases.Start.{Start}
use Rattle.post_star.specs.Derivations.{Leads}
use Rattle.spds_rules.specs.declared.node.Node.{Node}
use Rattle.spds_rules.specs.Answers.{IsAnswered}
use Rattle.spds_rules.specs.Demand.{Asked}
use Rattle.site_events.specs.Events.{AreAtPlaces}
use Rattle.spds_rules.specs.Nodes.{IsNode}
use Rattle.call_side.proofs.Lists.{Has-take_more}
use Rattle.track_tables.specs.declared.growth.Growth.{Growth}
use Rattle.track_tables.specs.Making.{AreAnswering, HasBegun}
use Rattle.track_tables.proofs.Growing.{kept_has}
use Rattle.weight_laws.specs.declared.rel.Rel.{Rel}

-- the method of a node leads to the root
pub node_led : (p : LinkedProgram) (steps : List BaseStep) (last : ℕ) → AreLed p steps → IsLast p last → (n : Node) → IsNode p n
    → (word : List ℕ) × Leads steps n.place.method word last
node_led p steps last led is_last n node =
    let below = slice_get-below node.method.code n.place.index node.code node.here in
    led.methods n.place.method (node.method, node.there, omega (arith, below)) last is_last

module _ (p : LinkedProgram) (nodes : List Node) (weight : Rel) where
  -- no node was looked at
  pub begun_none : (g : Growth) → HasBegun p nodes [] weight g g
  begun_none g = record {
    steps = refl;
    last = refl;
    rules = refl;
    starts = λ s. (λ has. inl has, λ h. elim h [ inl has ↦ has | inr none ↦ cc none.1.1 ]);
    reached = λ number x there. there;
    within = λ s has. inl has;
  }

  only_one : (number x : ℕ) → Has (number ∷ []) x → x ≡ number
  only_one number x has = by has.0 has.1
    where
      by : (i : ℕ) → slice_get (number ∷ []) i ≡ Some x → x ≡ number
      by zero h = cc
      by (suc i) h = cc

  -- the program has no such node
  pub begun_nowhere : (g : Growth) (number : ℕ) → ((n : Node) → slice_get nodes number ≡ Some n → IsNode p n → ⊥) → HasBegun p nodes (number ∷ []) weight g g
  begun_nowhere g number none = record {
    steps = refl;
    last = refl;
    rules = refl;
    starts = λ s. (
      λ has. inl has,
      λ h. elim h [
        | inl has ↦ has
        | inr at ↦ absurd (none at.2.node (subst (λ (x : ℕ). slice_get nodes x ≡ Some at.2.node) (only_one number at.0 at.1) at.2.there) at.2.is_node)
      ],
    );
    reached = λ number x there. there;
    within = λ s has. inl has;
  }

  -- a start came, and its node
  pub begun_one : (old new : Growth) (number : ℕ) (n : Node) → slice_get nodes number ≡ Some n → IsNode p n → new.work.steps ≡ old.work.steps
      → new.work.last ≡ old.work.last → new.work.rules ≡ old.work.rules
      → new.work.starts ≡ old.work.starts ++ record { base = n.place.method; node = number; weight = weight } ∷ []
      → AreKept old.reached.keys new.reached.keys → Has new.reached.keys number → HasBegun p nodes (number ∷ []) weight old new
  begun_one old new number n there node steps last rules starts kept has_number = record {
    steps = steps;
    last = last;
    rules = rules;
    starts = λ s. (
      (λ has. elim (split s has) [ inl was ↦ inl was | inr same ↦ inr (number, (0, refl), record { node = n; there = there; is_node = node; start_is = same }) ]),
      (λ h. elim h [
        | inl was ↦ subst (λ (ss : List (Start Rel)). Has ss s) (sym starts) ((Has-push old.work.starts it s).1 (inl was))
        | inr at ↦
            let same : at.0 ≡ number = only_one number at.0 at.1 in
            let found : slice_get nodes number ≡ Some at.2.node = subst (λ (x : ℕ). slice_get nodes x ≡ Some at.2.node) same at.2.there in
            let here : at.2.node ≡ n = cc in
            let is : s ≡ it = at.2.start_is ∙ subst (λ (m : Node). start_of m at.0 ≡ it) (sym here) (subst (λ (x : ℕ). start_of n x ≡ it) (sym same) refl) in
            subst (λ (ss : List (Start Rel)). Has ss s) (sym starts) ((Has-push old.work.starts it s).1 (inr is))
      ]),
    );
    reached = kept;
    within = λ s has. elim (split s has) [
      | inl was ↦ inl was
      | inr same ↦ inr (subst (λ (x : Start Rel). Has new.reached.keys x.node) (sym same) has_number)
    ];
  }
    where
      start_of : Node → ℕ → Start Rel
      start_of m x = record { base = m.place.method; node = x; weight = weight }

      it : Start Rel
      it = record { base = n.place.method; node = number; weight = weight }

      split : (s : Start Rel) → Has new.work.starts s → Has old.work.starts s ⊎ (s ≡ it)
      split s has = (Has-push old.work.starts it s).0 (subst (λ (ss : List (Start Rel)). Has ss s) starts has)

  -- one more node was looked at
  pub begun_more : (numbers : List ℕ) (index : ℕ) → index < length numbers → (first old new : Growth) → HasBegun p nodes (take index numbers) weight first old
      → HasBegun p nodes (get_or numbers index 0 ∷ []) weight old new → HasBegun p nodes (take (index + 1) numbers) weight first new
  begun_more numbers index below first old new was now = record {
    steps = now.steps ∙ was.steps;
    last = now.last ∙ was.last;
    rules = now.rules ∙ was.rules;
    starts = λ s. (
      (λ has. elim ((now.starts s).0 has) [
        | inl before ↦ elim ((was.starts s).0 before) [
          | inl earliest ↦ inl earliest
          | inr at ↦ inr (at.0, (Has-take_more numbers index 0 at.0 below).1 (inl at.1), at.2)
        ]
        | inr at ↦ inr (at.0, (Has-take_more numbers index 0 at.0 below).1 (inr (only_one (get_or numbers index 0) at.0 at.1)), at.2)
      ]),
      (λ h. elim h [
        | inl earliest ↦ (now.starts s).1 (inl ((was.starts s).1 (inl earliest)))
        | inr at ↦ elim ((Has-take_more numbers index 0 at.0 below).0 at.1) [
          | inl before ↦ (now.starts s).1 (inl ((was.starts s).1 (inr (at.0, before, at.2))))
          | inr same ↦ (now.starts s).1 (inr (at.0, (0, subst (λ (x : ℕ). slice_get (x ∷ []) 0 ≡ Some at.0) same refl), at.2))
        ]
      ]),
    );
    reached = λ number x there. now.reached number x (was.reached number x there);
    within = λ s has. elim (now.within s has) [
      | inl before ↦ elim (was.within s before) [
        | inl earliest ↦ inl earliest
        | inr there ↦ inr (kept_has old.reached.keys new.reached.keys s.node now.reached there)
      ]
      | inr there ↦ inr there
    ];
  }

-- the nodes at the places where a site is held are those that may hold objects of it
pub answering_held : (p : LinkedProgram) (q : Asked) (d : DemandParts) (a : Site) (numbers places found : List ℕ) → AreHeldAt p q d a numbers places
    → AreAtPlaces numbers places found → AreAnswering p q d.nodes a numbers found
answering_held p q d a numbers places found held at number n there = (
  (λ has.
      let i = (at number).0 has in
      let is = (held.each i.0).0 i.1 in
      let here = is.here in
      let read = i.2 in
      let same : is.number ≡ number = cc in
      let node = subst (λ (x : ℕ). slice_get d.nodes x ≡ Some is.node) same is.there in
      let one : is.node ≡ n = cc in
      ((i.0, i.2), subst (λ (m : Node). IsAnswered p q m a) one is.answered)),
  (λ h.
      let i = h.0 in
      (at number).1 (i.0, (held.each i.0).1 (record { number = number; here = i.1; node = n; there = there; answered = h.1 }), i.1)),
)
