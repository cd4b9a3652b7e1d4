-- The rules of edges.
use Rattle.std.proofs.Common.{◌≡◌, ◌↔◌, ◌⊎◌, ℕ, ◌+◌, ◌<◌, List, [], ◌∷◌, ◌++◌, length, get_or, take, Some, None, slice_get, true, refl, sym, ap, ◌∙◌, subst, inl, inr, rules}
use Rattle.auto_table.specs.declared.rule.Rule.{Rule}
use Rattle.auto_table.specs.declared.rule.Rule.TheVariants as rule
use Rattle.demand_set.specs.declared.numbered.EdgeAt.{EdgeAt}
use Rattle.lists.specs.Lists.{Has}
use Rattle.lists.proofs.Places.{Has-push}
use Rattle.link_rules.specs.Linked.{LinkedProgram}
use Rattle.link_sites.specs.declared.place.Place.{Place}
use Rattle.link_sites.specs.declared.site.Site.{Site}
use Rattle.post_star.specs.Measures.{to_of}
use Rattle.spds_rules.specs.declared.edge.EdgeKind.{EdgeKind}
use Rattle.spds_rules.specs.declared.edge.EdgeKind.TheVariants as edge
use Rattle.spds_rules.specs.declared.node.Node.{Node}
use Rattle.spds_rules.specs.Demand.{Asked}
use Rattle.call_side.proofs.Lists.{Has-take_more}
use Rattle.track_rules.specs.Protocols.{ProtocolParts}
use Rattle.track_systems.specs.Track.{IsLoaded}
use Rattle.track_systems.specs.Values.{IsWeight}
use Rattle.weight_laws.proofs.Meaning.{meaning}
use Rattle.track_tables.specs.Making.{AreLoaded, HasStepBy, IsRuleBy, IsRuleOf, IsTaken}
use Rattle.track_tables.specs.Systems.{LeadsAlong}
use Rattle.weight_laws.specs.contracts.rel.RelPartialEq.TheImpl as rels
use Rattle.weight_laws.specs.declared.rel.Rel.{Rel}
use Rattle.weight_laws.specs.Rel.{Relates, rel_domain}
use Rattle.weight_laws.specs.RelLaws.{rel_lawful}

-- what an index past the end reads
abbrev pub no_edge : EdgeAt
no_edge = record { from = 0; to = 0; kind = edge.Flow }

-- nothing leads anywhere
pub zero_weight : (Leads : ℕ → ℕ → Type 0) → ((i j : ℕ) → Leads i j → ⊥) → IsWeight rel_domain.zero Leads
zero_weight Leads none = record { meant = rel_lawful.zero_meant; each = λ i j low few. (λ h. absurd (meaning.zero i j low h), λ h. absurd (none i j h)) }

-- each state leads to itself
pub one_weight : IsWeight rel_domain.one (λ i j. j ≡ i)
one_weight = record { meant = rel_lawful.one_meant; each = λ i j low few. meaning.one i j low }

-- steps stay where rules do
pub step_kept : (calls : List Place) (old new : List (Rule Rel)) (kind : EdgeKind) (from to i j : ℕ) → ((r : Rule Rel) → Has old r → Has new r)
    → HasStepBy calls old kind from to i j → HasStepBy calls new kind from to i j
step_kept calls old new edge.Flow from to i j kept h = (h.0, kept _ h.1, h.2)
step_kept calls old new (edge.Call call) from to i j kept h = λ mark is. let s = h mark is in (s.0, kept _ s.1, s.2)
step_kept calls old new (edge.Return call) from to i j kept h = λ mark is. let s = h mark is in (s.0, kept _ s.1, s.2)
step_kept calls old new (edge.Load field) from to i j kept h = tt
step_kept calls old new edge.Jump from to i j kept h = tt

-- a step by the rules that an edge has with a weight
step_by : (calls : List Place) (rules : List (Rule Rel)) (kind : EdgeKind) (from to i j : ℕ) (w : Rel) → ((r : Rule Rel) → IsRuleBy calls kind from to w r → Has rules r)
    → Relates w i j → HasStepBy calls rules kind from to i j
step_by calls rules edge.Flow from to i j w has h = (w, has (rule.Flow from to w) refl, h)
step_by calls rules (edge.Call call) from to i j w has h = λ mark is. (w, has (rule.Push from to mark w) (mark, is, refl), h)
step_by calls rules (edge.Return call) from to i j w has h = λ mark is. (w, has (rule.Pop from mark to w) (mark, is, refl), h)
step_by calls rules (edge.Load field) from to i j w has h = tt
step_by calls rules edge.Jump from to i j w has h = tt

module _ (p : LinkedProgram) (k : ProtocolParts) (q : Asked) (a : Site) (nodes : List Node) (calls : List Place) where
  -- what is taken stays so
  pub taken_kept : (e : EdgeAt) (old new : List (Rule Rel)) → ((r : Rule Rel) → Has old r → Has new r) → IsTaken p k q a nodes calls e old
      → IsTaken p k q a nodes calls e new
  taken_kept e old new kept taken source target i j from_is to_is low few along =
      step_kept calls old new e.kind e.from e.to i j kept (taken source target i j from_is to_is low few along)

  -- the edge joins no nodes
  pub taken_from : (e : EdgeAt) (rules : List (Rule Rel)) → slice_get nodes e.from ≡ None → IsTaken p k q a nodes calls e rules
  taken_from e rules none source target i j from_is to_is low few along = cc

  pub taken_to : (e : EdgeAt) (rules : List (Rule Rel)) → slice_get nodes e.to ≡ None → IsTaken p k q a nodes calls e rules
  taken_to e rules none source target i j from_is to_is low few along = cc

  module _ (e : EdgeAt) (from to : Node) (from_is : slice_get nodes e.from ≡ Some from) (to_is : slice_get nodes e.to ≡ Some to) (w : Rel)
      (is_weight : IsWeight w (LeadsAlong p k q a from e.kind to)) where
    along_is : (source target : Node) (i j : ℕ) → slice_get nodes e.from ≡ Some source → slice_get nodes e.to ≡ Some target → i < 16 → j < 16
        → LeadsAlong p k q a source e.kind target i j → Relates w i j
    along_is source target i j source_is target_is low few along =
        let first : source ≡ from = cc in
        let second : target ≡ to = cc in
        (is_weight.each i j low few).1 (subst (λ (n : Node). LeadsAlong p k q a from e.kind n i j) second
        (subst (λ (n : Node). LeadsAlong p k q a n e.kind target i j) first along))

    -- no states lead along it
    pub taken_zero : (rules : List (Rule Rel)) → w ≡ rel_domain.zero → IsTaken p k q a nodes calls e rules
    taken_zero rules zero source target i j source_is target_is low few along =
        absurd (meaning.zero i j low (subst (λ (x : Rel). Relates x i j) zero (along_is source target i j source_is target_is low few along)))

    -- its rule is there
    pub taken_rule : (rules : List (Rule Rel)) → ((r : Rule Rel) → IsRuleBy calls e.kind e.from e.to w r → Has rules r) → IsTaken p k q a nodes calls e rules
    taken_rule rules has source target i j source_is target_is low few along =
        step_by calls rules e.kind e.from e.to i j w has (along_is source target i j source_is target_is low few along)

    -- a rule that came is that of the edge
    pub rule_came : (old : List (Rule Rel)) (r x : Rule Rel) → IsRuleBy calls e.kind e.from e.to w r → Has (old ++ r ∷ []) x
        → Has old x ⊎ IsRuleOf p k q a nodes calls e x
    rule_came old r x is_rule has = elim ((Has-push old r x).0 has) [
      | inl was ↦ inl was
      | inr same ↦ inr (record {
        source = from;
        target = to;
        from_is = from_is;
        to_is = to_is;
        weight = w;
        is_weight = is_weight;
        is_rule = subst (λ (y : Rule Rel). IsRuleBy calls e.kind e.from e.to w y) (sym same) is_rule;
      })
    ]

-- where a rule leads
pub rule_to : (calls : List Place) (kind : EdgeKind) (from to : ℕ) (w : Rel) (r : Rule Rel) → IsRuleBy calls kind from to w r → to ≡ to_of r
rule_to calls edge.Flow from to w r h = sym (ap to_of h)
rule_to calls (edge.Call call) from to w r h = sym (ap to_of h.2)
rule_to calls (edge.Return call) from to w r h = sym (ap to_of h.2)
rule_to calls (edge.Load field) from to w r h = absurd h
rule_to calls edge.Jump from to w r h = absurd h

-- the one rule that an edge has is there
pub one_rule : (calls : List Place) (e : EdgeAt) (w : Rel) (found : Rule Rel) (old rules : List (Rule Rel)) → rules ≡ old ++ found ∷ []
    → ((r : Rule Rel) → (Some found ≡ Some r) ↔ IsRuleBy calls e.kind e.from e.to w r) → (r : Rule Rel) → IsRuleBy calls e.kind e.from e.to w r → Has rules r
one_rule calls e w found old rules last exact r is_rule =
    let as_some : Some found ≡ Some r = (exact r).1 is_rule in
    let same : r ≡ found = cc in
    subst (λ (rs : List (Rule Rel)). Has rs r) (sym last) ((Has-push old found r).1 (inr same))

-- one more edge was looked at
pub each_more : (edges : List EdgeAt) (index : ℕ) → index < length edges → (R : EdgeAt → Rule Rel → Type 0) (first old new : List (Rule Rel))
    → ((r : Rule Rel) → Has old r → Has first r ⊎ ((e : EdgeAt) × Has (take index edges) e × R e r))
    → ((r : Rule Rel) → Has new r → Has old r ⊎ R (get_or edges index no_edge) r)
    → (r : Rule Rel) → Has new r → Has first r ⊎ ((e : EdgeAt) × Has (take (index + 1) edges) e × R e r)
each_more edges index below R first old new was now r has = elim (now r has) [
  | inl before ↦ elim (was r before) [
    | inl earliest ↦ inl earliest
    | inr earlier ↦ inr (earlier.0, (Has-take_more edges index no_edge earlier.0 below).1 (inl earlier.1), earlier.2)
  ]
  | inr here ↦ inr (get_or edges index no_edge, (Has-take_more edges index no_edge (get_or edges index no_edge) below).1 (inr refl), here)
]

pub all_more : (edges : List EdgeAt) (index : ℕ) → index < length edges → (Q : EdgeAt → Type 0) → ((e : EdgeAt) → Has (take index edges) e → Q e)
    → Q (get_or edges index no_edge) → (e : EdgeAt) → Has (take (index + 1) edges) e → Q e
all_more edges index below Q was now e has = elim ((Has-take_more edges index no_edge e below).0 has) [
  | inl before ↦ was e before
  | inr same ↦ subst Q (sym same) now
]

-- the derived test on relations is equality
pub same_rel : (x y : Rel) → rels.eq-value.it x y ≡ true → x ≡ y
same_rel x y e = search rules

-- the target of one more edge came in, if objects are loaded there
pub loaded_more : (edges : List EdgeAt) (index : ℕ) → index < length edges → (old new : List ℕ) → AreLoaded (take index edges) old
    → ((number : ℕ) → Has new number ↔ (Has old number ⊎ (IsLoaded (get_or edges index no_edge).kind × ((get_or edges index no_edge).to ≡ number))))
    → AreLoaded (take (index + 1) edges) new
loaded_more edges index below old new was now number = (
  (λ has. elim ((now number).0 has) [
    | inl before ↦ let e = (was number).0 before in (e.0, (Has-take_more edges index no_edge e.0 below).1 (inl e.1), e.2, e.3)
    | inr here ↦ (get_or edges index no_edge, (Has-take_more edges index no_edge (get_or edges index no_edge) below).1 (inr refl), here.0, here.1)
  ]),
  (λ e. elim ((Has-take_more edges index no_edge e.0 below).0 e.1) [
    | inl before ↦ (now number).1 (inl ((was number).1 (e.0, before, e.2, e.3)))
    | inr same ↦ (now number).1 (inr (subst (λ (x : EdgeAt). IsLoaded x.kind) same e.2, ap (λ (x : EdgeAt). x.to) (sym same) ∙ e.3))
  ]),
)
