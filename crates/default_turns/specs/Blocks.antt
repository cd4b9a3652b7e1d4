-- What is known of blocks of holders.
use Rattle.std.specs.Prelude.{ℕ, List, Option, IfSome}
use Rattle.std.specs.BTreeMap as tree
use Rattle.std.specs.Global.{Vec}
use Rattle.std.specs.Ordering.{nat_cmp}
use Rattle.class_order.specs.declared.spans.Span.{Span}
use Rattle.default_turns.specs.declared.blocks.Blocks.{Blocks}
use Rattle.default_turns.specs.declared.hops.Line.{Line}
use Rattle.default_turns.specs.Hops.{hop_at}
use Rattle.default_turns.specs.Stretches.{AddsReached, AreReached}

-- from these places one of the holders is reached that stand from that index up to where the jump from it leads
abbrev pub IsBlock : Line → ℕ → List Span → Type 0
IsBlock line at spans = AreReached line.placed.tree.now line.placed.layout.places.now line.holders.now at (hop_at line.hops.now at).jump spans

-- these places were added
abbrev pub AddsBlock : Line → ℕ → List Span → List Span → Type 0
AddsBlock line at old new = AddsReached line.placed.tree.now line.placed.layout.places.now line.holders.now at (hop_at line.hops.now at).jump old new

-- what is known of the block at an index
abbrev pub known_at : Blocks → ℕ → Option (Vec Span)
known_at blocks at = tree.get nat_cmp blocks.known at

-- what is known of a block is right
abbrev pub AreKnown : Line → Blocks → Type 0
AreKnown line blocks = (at : ℕ) → IfSome (known_at blocks at) (λ reached. IsBlock line at reached.items)
