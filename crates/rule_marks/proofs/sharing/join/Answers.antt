use Rattle.std.proofs.Common.{◌≡◌, ℕ, List, Bool, false, get_or, sym, subst}
use Rattle.rule_marks.proofs.sharing.join.Goals as goal

pub join_all-requires-clause-flags : goal.join_all-requires-clause-flags
join_all-requires-clause-flags g c = subst (λ (xs : List Bool). (n : ℕ) → get_or xs n false ≡ false) (sym c.deref_mut.ensures.value) c.in_ok-flags.ensures

pub returns : goal.returns
returns g c = rw (← c.in_ok-made.ensures.items) c.in_ok-join_all.ensures
