use Rattle.std.proofs.Common.{inl, inr, refl, sym}
use Rattle.spds_rules.specs.contracts.store.StoreAtPartialEq.TheImpl.{eq-value}
use Rattle.demand_set.proofs.Selected.{has-found, not-found}
use Rattle.demand_set.proofs.SameKey.{same_store, self_store}
use Rattle.demand_set.proofs.listed.put_store.Goals as goal

pub returns-then-contains : goal.returns-then-contains
returns-then-contains c =
    let there = rw (c.if-contains.true, c.deref.ensures.value) at (sym c.contains.ensures.value) in
    inl (has-found (eq-value).it same_store self_store _ _ there, refl)

pub returns : goal.returns
returns c =
    let not = rw (c.if-contains.false, c.deref.ensures.value) at (sym c.contains.ensures.value) in
    inr (not-found (eq-value).it same_store self_store _ _ not, c.in_ok-push.ensures.items)
