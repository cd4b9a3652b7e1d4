-- What a graph was asked for.
use Rattle.std.proofs.Common.{◌≡◌, ◌∙◌, ℕ, ◌≤◌, ◌<◌, ◌+◌, List, [], ◌∷◌, ◌++◌, length, take, get_or, None, Some, ap, sym, append_assoc, arith, length-take}
use Rattle.std.proofs.lemmas.List.{append-nil, take_more}
use Rattle.std.specs.declared.option.Option.{Option}
use Rattle.lists.specs.Lists.{Has, IsApart}
use Rattle.lists.proofs.Joined.{slice_get-taken}
use Rattle.spds_rules.specs.declared.node.Node.{Node}
use Rattle.demand_set.specs.Graphs.{Asks}
use Rattle.demand_set.specs.Walks.{AsksFew}
use Rattle.demand_set.proofs.Appended.{Has-take}

-- nothing was asked for
pub Asks-none : (before : Option (List Node)) → Asks before [] before
Asks-none None = tt
Asks-none (Some xs) = ap Some (sym (append-nil xs))

-- twice something was asked for
pub Asks-twice : (before mid now : Option (List Node)) (first second : List Node) → Asks before first mid → Asks mid second now → Asks before (first ++ second) now
Asks-twice None mid now first second f s = tt
Asks-twice (Some xs) None now first second f s = cc
Asks-twice (Some xs) (Some ys) now first second f s =
    let same : ys ≡ xs ++ first = cc in
    s ∙ ap (λ zs. Some (zs ++ second)) same ∙ ap Some (append_assoc xs first second)

-- then nothing more was asked for
pub Asks-then_none : (before mid now : Option (List Node)) (nodes : List Node) → Asks before nodes mid → Asks mid [] now → Asks before nodes now
Asks-then_none before mid now nodes f s = rw append-nil at (Asks-twice before mid now nodes [] f s)

-- the first of some nodes with the fact were asked for, each once
pub AsksFew-take : (Fact : Node → Type 0) (most k : ℕ) (nodes : List Node) (before now : Option (List Node)) → ((n : Node) → Has nodes n → Fact n) → IsApart nodes → k ≤ most
    → Asks before (take k nodes) now → AsksFew Fact most before now
AsksFew-take Fact most k nodes before now each apart few asked = record {
  nodes = take k nodes;
  asked = asked;
  each = λ n h. each n (Has-take k nodes n h);
  apart = λ i j n a b. apart i j n (slice_get-taken k nodes i n a) (slice_get-taken k nodes j n b);
  few = omega (arith, length-take k nodes, few);
}

-- one more of them was asked for
pub Asks-take_more : (k : ℕ) (nodes : List Node) (d : Node) (before mid now : Option (List Node)) → k < length nodes → Asks before (take k nodes) mid
    → Asks mid (get_or nodes k d ∷ []) now → Asks before (take (k + 1) nodes) now
Asks-take_more k nodes d before mid now h first second = rw (take_more nodes k d h) (Asks-twice before mid now (take k nodes) (get_or nodes k d ∷ []) first second)
