-- What refuses a body beside its statements.
use Rattle.std.proofs.Common.{◌≡◌, ℕ, ◌<◌, ◌⊎◌, Option, None, Some, option_map, length, refl, subst, inl, inr, arith}
use Rattle.lists.specs.Lists.{IsLeast, Has}
use Rattle.jim_ast.specs.declared.syntax.Body.{Body}
use Rattle.link_rules.specs.declared.refusal.LinkKind.{LinkKind}
use Rattle.link_rules.specs.declared.refusal.LinkKind.TheVariants as rule
use Rattle.link_rules.specs.Bodies.{HasNoLabel, IsLabel}
use Rattle.link_rules.specs.Classes.{DeclaredMethod}
use Rattle.link_rules.specs.Faults.{HandlesAtEnd, RepeatsLabel, TrapsNoClass, TrapsNowhere}
use Rattle.link_rules.specs.Refusals.{number_of}
use Rattle.link_rules.specs.Statements.{HasBody}
use Rattle.link_rules.specs.World.{World}
use Rattle.link_faults.specs.Progress.{RefusesBody, RefusesEmpty, RefusesLabels, RefusesLocals, RefusesTraps}
use Rattle.link_faults.specs.Order.{IsFirstIn, IsFirstOf}
use Rattle.link_faults.specs.Traps.{IsFirstForTraps, TrapHandlesAtEnd, TrapIsUndeclared, TrapNamesNoLabel}
use Rattle.link_faults.proofs.FirstFaults.{Either}

-- the least index of a label that has the name of an earlier one
pub labels_first : (m : DeclaredMethod) (i : ℕ) → IsLeast (RepeatsLabel m) i → IsFirstOf (RefusesLabels m) (record { index = i; kind = rule.DuplicateLabel })
labels_first m i least = record { refuses = least.holds; first = first }
  where
    first : (index : ℕ) (kind : LinkKind) → RefusesLabels m index kind → ((index < i) ⊎ ((index ≡ i) × (number_of kind < 7))) → ⊥
    first index rule.DuplicateLabel h (inl below) = least.first index below h
    first index rule.DuplicateLabel h (inr same) = omega (arith, same.1)
    first index _ h before = absurd h

module _ (w : World) (m : DeclaredMethod) (body : Body) (in_body : HasBody m body) where
  -- a method has one body
  pub one_body : (b : Body) → HasBody m b → b ≡ body
  one_body b is = cc (is, in_body)

  no_label : (i : ℕ) → TrapsNowhere m i → TrapNamesNoLabel body
  no_label i t =
      let e = one_body t.body t.in_body in
      (t.trap, subst (λ (b : Body). Has b.traps t.trap) e t.there, (t.label, t.named, subst (λ (b : Body). HasNoLabel b.labels t.label) e t.missing))

  at_end : (i : ℕ) → HandlesAtEnd m i → TrapHandlesAtEnd body
  at_end i t =
      let e = one_body t.body t.in_body in
      (t.trap, subst (λ (b : Body). Has b.traps t.trap) e t.there, subst (λ (b : Body). IsLabel b.labels t.trap.with (length b.stmts)) e t.handler)

  undeclared : (i : ℕ) → TrapsNoClass w m i → TrapIsUndeclared w m.names body
  undeclared i t =
      let e = one_body t.body t.in_body in
      (t.trap, subst (λ (b : Body). Has b.traps t.trap) e t.there, t.missing)

  -- what is said of traps stands behind the statements
  traps_at_end : (i : ℕ) (kind : LinkKind) → RefusesTraps w m i kind → i ≡ length body.stmts
  traps_at_end i rule.UnknownLabel t = let e = one_body t.body t.in_body in subst (λ (b : Body). i ≡ length b.stmts) e t.at_end
  traps_at_end i rule.FallsOff t = let e = one_body t.body t.in_body in subst (λ (b : Body). i ≡ length b.stmts) e t.at_end
  traps_at_end i rule.UnknownClass t = let e = one_body t.body t.in_body in subst (λ (b : Body). i ≡ length b.stmts) e t.at_end
  traps_at_end i _ t = absurd t

  -- of the refusals there the one by the least rule is the first
  least_first : (kind : LinkKind) → RefusesTraps w m (length body.stmts) kind → ((i : ℕ) (j : LinkKind) → RefusesTraps w m i j → number_of j < number_of kind → ⊥)
      → IsFirstOf (RefusesTraps w m) (record { index = length body.stmts; kind = kind })
  least_first kind refuses least = record {
    refuses = refuses;
    first = λ i j h before. let e = traps_at_end i j h in elim before [ inl below ↦ omega (arith, e, below) | inr same ↦ least i j h same.1 ];
  }

  first_no_label : TrapNamesNoLabel body → IsFirstOf (RefusesTraps w m) (record { index = length body.stmts; kind = rule.UnknownLabel })
  first_no_label (trap, there, names) =
      least_first rule.UnknownLabel (record { body = body; in_body = in_body; trap = trap; there = there; label = names.0; named = names.1; missing = names.2; at_end = refl }) least
    where
      least : (i : ℕ) (j : LinkKind) → RefusesTraps w m i j → number_of j < 8 → ⊥
      least i rule.UnknownLabel h less = omega (arith, less)
      least i rule.FallsOff h less = omega (arith, less)
      least i rule.UnknownClass h less = omega (arith, less)
      least i _ h less = absurd h

  first_at_end : (TrapNamesNoLabel body → ⊥) → TrapHandlesAtEnd body → IsFirstOf (RefusesTraps w m) (record { index = length body.stmts; kind = rule.FallsOff })
  first_at_end labels (trap, there, handler) =
      least_first rule.FallsOff (record { body = body; in_body = in_body; trap = trap; there = there; handler = handler; at_end = refl }) least
    where
      least : (i : ℕ) (j : LinkKind) → RefusesTraps w m i j → number_of j < 9 → ⊥
      least i rule.UnknownLabel h less = labels (no_label i h)
      least i rule.FallsOff h less = omega (arith, less)
      least i rule.UnknownClass h less = omega (arith, less)
      least i _ h less = absurd h

  first_undeclared : (TrapNamesNoLabel body → ⊥) → (TrapHandlesAtEnd body → ⊥) → TrapIsUndeclared w m.names body
      → IsFirstOf (RefusesTraps w m) (record { index = length body.stmts; kind = rule.UnknownClass })
  first_undeclared labels ends (trap, there, missing) =
      least_first rule.UnknownClass (record { body = body; in_body = in_body; trap = trap; there = there; missing = missing; at_end = refl }) least
    where
      least : (i : ℕ) (j : LinkKind) → RefusesTraps w m i j → number_of j < 17 → ⊥
      least i rule.UnknownLabel h less = labels (no_label i h)
      least i rule.FallsOff h less = ends (at_end i h)
      least i rule.UnknownClass h less = omega (arith, less)
      least i _ h less = absurd h

  no_first : (TrapNamesNoLabel body → ⊥) → (TrapHandlesAtEnd body → ⊥) → (TrapIsUndeclared w m.names body → ⊥) → IsFirstIn (RefusesTraps w m) None
  no_first labels ends classes i rule.UnknownLabel h = labels (no_label i h)
  no_first labels ends classes i rule.FallsOff h = ends (at_end i h)
  no_first labels ends classes i rule.UnknownClass h = classes (undeclared i h)
  no_first labels ends classes i _ h = absurd h

  -- the least rule that refuses a trap refuses first
  pub traps_first : (o : Option LinkKind) → IsFirstForTraps w m.names body o → IsFirstIn (RefusesTraps w m) (option_map (λ kind. record { index = length body.stmts; kind = kind }) o)
  traps_first None h = no_first h.0 h.1 h.2
  traps_first (Some rule.UnknownLabel) h = first_no_label h
  traps_first (Some rule.FallsOff) h = first_at_end h.0 h.1
  traps_first (Some rule.UnknownClass) h = first_undeclared h.0 h.1 h.2
  traps_first (Some _) h = absurd h

-- the parts are all that is refused beside the statements
abbrev pub RefusesParts : World → DeclaredMethod → ℕ → LinkKind → Type 0
RefusesParts w m i kind = Either (Either (RefusesLocals m) (RefusesLabels m)) (Either (RefusesEmpty m) (RefusesTraps w m)) i kind

pub from_parts : (w : World) (m : DeclaredMethod) (i : ℕ) (kind : LinkKind) → RefusesParts w m i kind → RefusesBody w m i kind
from_parts w m i kind (inl (inl h)) = of_locals kind h
  where
    of_locals : (kind : LinkKind) → RefusesLocals m i kind → RefusesBody w m i kind
    of_locals rule.DuplicateLocal h = h
    of_locals _ h = absurd h
from_parts w m i kind (inl (inr h)) = of_labels kind h
  where
    of_labels : (kind : LinkKind) → RefusesLabels m i kind → RefusesBody w m i kind
    of_labels rule.DuplicateLabel h = h
    of_labels _ h = absurd h
from_parts w m i kind (inr (inl h)) = of_empty kind h
  where
    of_empty : (kind : LinkKind) → RefusesEmpty m i kind → RefusesBody w m i kind
    of_empty rule.FallsOff h = inr h
    of_empty _ h = absurd h
from_parts w m i kind (inr (inr h)) = of_traps kind h
  where
    of_traps : (kind : LinkKind) → RefusesTraps w m i kind → RefusesBody w m i kind
    of_traps rule.UnknownLabel h = h
    of_traps rule.FallsOff h = inl h
    of_traps rule.UnknownClass h = h
    of_traps _ h = absurd h

pub to_parts : (w : World) (m : DeclaredMethod) (i : ℕ) (kind : LinkKind) → RefusesBody w m i kind → RefusesParts w m i kind
to_parts w m i rule.DuplicateLocal h = inl (inl h)
to_parts w m i rule.DuplicateLabel h = inl (inr h)
to_parts w m i rule.UnknownLabel h = inr (inr h)
to_parts w m i rule.FallsOff (inl h) = inr (inr h)
to_parts w m i rule.FallsOff (inr h) = inr (inl h)
to_parts w m i rule.UnknownClass h = inr (inr h)
to_parts w m i _ h = absurd h
