use Rattle.std.proofs.Common.{ℕ, ◌↔◌, List, length, subst, inl, inr, ◌<◌, ◌≤◌, ◌⊎◌, ◌∙◌, arith}
use Rattle.std.proofs.lemmas.List.Elements.{Contains-get_or}
use Rattle.class_rules.specs.declared.rows.ClassRow.{ClassRow}
use Rattle.class_rules.specs.Rows.{rows_of, HasInterface, HasParent, IsOwnAncestor, NamesUnknown, Step}
use Rattle.class_order.specs.Tables.{ArePlaces, IsOver, IsReach, Under}
use Rattle.class_tree.proofs.Building.{step-below, interfaces_known, reach_map, acyclic_from_places, tells_declared, tells_near}
use Rattle.class_order.proofs.Reached.{proper_map}
use Rattle.class_tree.proofs.Held.{tells_holders}
use Rattle.class_tree.proofs.FirstInterfaces.{over_named}
use Rattle.class_tree.proofs.Owned.{owners_exact}
use Rattle.class_tree.proofs.tree.indexed.Goals as goal

pub places_of-requires-clause-known : goal.places_of-requires-clause-known
places_of-requires-clause-known c = λ a b u. rw c.requires.len (step-below _ _ a b c.requires.named.implements ((c.requires.steps a b).0 u))

pub reach_spans-requires-clause-known : goal.reach_spans-requires-clause-known
reach_spans-requires-clause-known c = λ a b u. rw c.requires.len (step-below _ _ a b c.requires.named.implements ((c.requires.steps a b).0 u))

pub near_spans-requires-clause-class : goal.near_spans-requires-clause-class
near_spans-requires-clause-class c = rw c.requires.len c.requires.named.implements

pub near_spans-requires-clause-interface : goal.near_spans-requires-clause-interface
near_spans-requires-clause-interface c = rw c.requires.len (interfaces_known c.args.classes.now c.args.implements.now c.requires.known)

pub near_spans-requires-clause-below : goal.near_spans-requires-clause-below
near_spans-requires-clause-below c = λ a b m. (c.requires.steps a b).1 (inr m)

pub reach_spans-requires-clause-places : goal.reach_spans-requires-clause-places
reach_spans-requires-clause-places c = rw (c.requires.len, c.as_slice-places.ensures.value) c.in_ok-numbering.ensures.own

pub near_spans-requires-clause-places : goal.near_spans-requires-clause-places
near_spans-requires-clause-places c = rw (c.requires.len, c.as_slice-places.ensures.value) c.in_ok-numbering.ensures.own

pub new-requires-2-clause-reach_len : goal.new-requires-2-clause-reach_len
new-requires-2-clause-reach_len c = c.in_ok-reach.ensures.len ∙ c.requires.len

pub new-requires-2-clause-near_len : goal.new-requires-2-clause-near_len
new-requires-2-clause-near_len c = c.in_ok-near.ensures.len ∙ c.requires.len

-- no class is its own ancestor, since ranks fall
acyclic : (classes : List ClassRow) (implements : List (ℕ × ℕ)) (below : List (List ℕ)) (places : List ℕ) → ((a b : ℕ) → Under below a b ↔ Step classes implements a b) → ArePlaces below places
    → (a : ℕ) → IsOwnAncestor classes implements a → ⊥
acyclic classes implements below places steps p = acyclic_from_places (Step classes implements) places (λ a b s. p.falls a b ((steps a b).1 s))

step_known : (classes : List ClassRow) (implements : List (ℕ × ℕ)) → ((a : ℕ) → NamesUnknown classes implements a → ⊥) → (a b : ℕ) → Step classes implements a b → b < length classes
step_known classes implements known a b above = elim (below_or b (length classes)) [ inl h ↦ h | inr h ↦ absurd (known a (b, above, h)) ]
  where
    below_or : (a b : ℕ) → (a < b) ⊎ (b ≤ a)
    below_or a b = grind arith

pub new-requires-clause-known : goal.new-requires-clause-known
new-requires-clause-known c = λ a b named. step_known c.args.classes.now c.args.implements.now c.requires.known a b (inl named)

pub new-requires-clause-acyclic : goal.new-requires-clause-acyclic
new-requires-clause-acyclic c = λ a p. acyclic _ _ _ _ c.requires.steps c.in_ok-ranks.ensures.places a
    (proper_map (HasParent c.args.classes.now) (Step c.args.classes.now c.args.implements.now) (λ x y named. inl named) a a p)

pub new-requires-clause-within : goal.new-requires-clause-within
new-requires-clause-within c = λ k d h. rw (← c.requires.len) (c.requires.order.settled.within _ (Contains-get_or c.args.order.now k d h))

pub new-requires-clause-all : goal.new-requires-clause-all
new-requires-clause-all c = λ k h. c.requires.order.all k (rw c.requires.len h)

pub new-requires-4-clause-known : goal.new-requires-4-clause-known
new-requires-4-clause-known c = λ a b m.
    let named = over_named c.args.implements.now c.in_ok-interfaces.interfaces c.in_ok-interfaces.ensures.lists a b m in
    omega (arith, c.in_ok-interfaces.ensures.len, step_known c.args.classes.now c.args.implements.now c.requires.known a b (inr named))

pub new-requires-4-clause-acyclic : goal.new-requires-4-clause-acyclic
new-requires-4-clause-acyclic c = λ a p. acyclic _ _ _ _ c.requires.steps c.in_ok-ranks.ensures.places a
    (proper_map (IsOver c.in_ok-interfaces.interfaces) (Step c.args.classes.now c.args.implements.now)
    (λ x y m. inr (over_named c.args.implements.now c.in_ok-interfaces.interfaces c.in_ok-interfaces.ensures.lists x y m)) a a p)

pub new-requires-4-clause-within : goal.new-requires-4-clause-within
new-requires-4-clause-within c = λ k d h. omega (arith, c.in_ok-interfaces.ensures.len, c.requires.len, c.requires.order.settled.within _ (Contains-get_or c.args.order.now k d h))

pub new-requires-3-clause-bodies : goal.new-requires-3-clause-bodies
new-requires-3-clause-bodies c = c.in_ok-members.ensures.bodies

pub invariant_of-result : goal.invariant_of-result
invariant_of-result c =
    let reached = reach_map (Under c.args.below.now) (Step c.args.classes.now c.args.implements.now) _ _ c.in_ok-numbering.numbering.numbers.items c.in_ok-reach.reach
    (λ a b u. (c.requires.steps a b).0 u) (λ a b s. (c.requires.steps a b).1 s) c.requires.len (rw c.as_slice-places.ensures.value at c.in_ok-reach.ensures) in
    let near = subst (λ n. IsReach (HasInterface c.args.implements.now) n c.in_ok-numbering.numbering.numbers.items c.in_ok-near.near) c.requires.len (rw c.as_slice-places.ensures.value at c.in_ok-near.ensures) in
    let declares = c.in_ok-members.ensures.declares in
    let near_fields = c.in_ok-members.ensures.near_fields in
    rw c.in_ok-rows.ensures (record {
      named = c.requires.named;
      hierarchy = record { known = c.requires.known; acyclic = acyclic _ _ _ _ c.requires.steps c.in_ok-ranks.ensures.places };
      ranked = record { len = c.in_ok-ranks.ensures.places.len ∙ c.requires.len; falls = λ a b s. c.in_ok-ranks.ensures.places.falls a b ((c.requires.steps a b).1 s) };
      placed = c.in_ok-numbering.ensures.own;
      few = c.requires.classes;
      interfaces_len = c.in_ok-interfaces.ensures.len;
      interfaces_are = c.in_ok-interfaces.ensures.lists;
      reached = reached;
      reached_near = near;
      declares = tells_declared (rows_of c.args.classes.now c.args.implements.now c.args.methods.now c.args.fields.now) _ _ _ declares.served c.requires.named reached (owners_exact _ _ _ _ declares);
      near_fields = tells_near (rows_of c.args.classes.now c.args.implements.now c.args.methods.now c.args.fields.now) _ _ _ near_fields.served c.requires.named near (owners_exact _ _ _ _ near_fields);
      field_owners = near_fields;
      bodies = c.in_ok-members.ensures.bodies;
      interface_rows = c.in_ok-members.ensures.interface_rows;
      holders = tells_holders (rows_of c.args.classes.now c.args.implements.now c.args.methods.now c.args.fields.now) _ declares.interfaces;
      fields = c.in_ok-members.ensures.own_fields;
      along = c.in_ok-inherited.ensures;
      firsts = c.in_ok-first_fields.ensures;
    })

pub returns-clause-acyclic : goal.returns-clause-acyclic
returns-clause-acyclic c = acyclic _ _ _ _ c.requires.steps c.in_ok-ranks.ensures.places
