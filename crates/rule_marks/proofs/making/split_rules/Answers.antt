use Rattle.std.proofs.Common.{◌≡◌, ℕ, List, Bool, false, get_or, sym, subst}
use Rattle.rule_marks.proofs.making.split_rules.Goals as goal

pub write_all-requires-clause-entries : goal.write_all-requires-clause-entries
write_all-requires-clause-entries g c =
    subst (λ (xs : List Bool). (n : ℕ) → get_or xs n false ≡ false) (sym c.deref_mut.ensures.value) c.in_ok-entries.ensures

pub write_all-requires-clause-exits : goal.write_all-requires-clause-exits
write_all-requires-clause-exits g c =
    subst (λ (xs : List Bool). (n : ℕ) → get_or xs n false ≡ false) (sym c.deref_mut-2.ensures.value) c.in_ok-exits.ensures
