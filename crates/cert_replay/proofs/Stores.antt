-- Each pair of nodes stands at one place of those that the demanded stores join.
use Rattle.std.proofs.Common.{◌≡◌, List, Some, map, slice_get, sym, ap, subst, ◌∙◌}
use Rattle.lists.specs.Lists.{IsApart, AreAll}
use Rattle.link_rules.specs.Linked.{LinkedProgram}
use Rattle.link_laws.proofs.Lists.{at_map}
use Rattle.spds_rules.specs.declared.store.StoreAt.{StoreAt}
use Rattle.spds_rules.specs.Demand.{Asked, StoreIn}
use Rattle.cert_laws.proofs.Stores.{store_one}
use Rattle.cert_replay.specs.Joins.{joined_by}

pub stores_apart : (p : LinkedProgram) (q : Asked) (stores : List StoreAt) → AreAll (StoreIn p q) stores → IsApart (map joined_by stores)
stores_apart p q stores all i j pair first second =
    let a = at_map joined_by stores i pair first in
    let b = at_map joined_by stores j pair second in
    let same = sym a.2 ∙ b.2 in
    let one = store_one p a.0 b.0 (all.each a.0 (i, a.1)).0 (all.each b.0 (j, b.1)).0 (ap (λ x. x.from) same) (ap (λ x. x.to) same) in
    all.apart i j a.0 a.1 (subst (λ (s : StoreAt). slice_get stores j ≡ Some s) (sym one) b.1)
