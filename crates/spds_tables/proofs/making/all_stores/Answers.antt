use Rattle.std.proofs.Common.{◌≡◌, ◌<◌, ℕ, List, length, get_or, false, arith, subst}
use Rattle.lists.specs.Lists.{Has}
use Rattle.spds_rules.specs.declared.store.StoreAt.{StoreAt}
use Rattle.spds_rules.specs.declared.node.Node.{Node}
use Rattle.spds_rules.specs.declared.node.Var.TheVariants.{Local}
use Rattle.spds_tables.specs.PartsOf.{IsStoreOf}
use Rattle.call_side.proofs.Lists.{has-read}
use Rattle.spds_tables.proofs.SideBySide.{each_all, each_more}
use Rattle.spds_tables.proofs.making.all_stores.Goals as goal

abbrev no_node : Node
no_node = record { place = record { method = 0; index = 0; raised = false }; var = Local 0 }

abbrev no_store_at : StoreAt
no_store_at = record { place = no_node.place; field = 0; base = no_node; arg = no_node }

-- the store in hand is one of them
in_hand : (all items : List StoreAt) (i : ℕ) → items ≡ all → i < length items → Has all (get_or items i no_store_at)
in_hand all items i e below = subst (λ (xs : List StoreAt). Has xs (get_or items i no_store_at)) e (has-read items i no_store_at below)

pub store_nodes-requires-clause-base : goal.store_nodes-requires-clause-base
store_nodes-requires-clause-base c =
    c.requires.bases (get_or c.stores-store-items.result.now c.loop-store.store-index no_store_at)
    (in_hand c.args.demand.now.stores c.stores-store-items.result.now c.loop-store.store-index c.stores-store-items.ensures (omega arith))

pub store_nodes-requires-clause-arg : goal.store_nodes-requires-clause-arg
store_nodes-requires-clause-arg c =
    c.requires.args (get_or c.stores-store-items.result.now c.loop-store.store-index no_store_at)
    (in_hand c.args.demand.now.stores c.stores-store-items.result.now c.loop-store.store-index c.stores-store-items.ensures (omega arith))

pub loop-store-preserved : goal.loop-store-preserved
loop-store-preserved c =
    rw c.in_ok-push.ensures.items
    (each_more (IsStoreOf c.args.demand.now.nodes) c.stores-store-items.result.now c.loop-store.store-index no_store_at c.loop-store.stores.items _ (omega arith) c.loop-store.invariant
    c.store_nodes.ensures)

pub returns : goal.returns
returns c =
    rw (← c.stores-store-items.ensures)
    (each_all (IsStoreOf c.args.demand.now.nodes) c.stores-store-items.result.now c.loop-store.store-index c.loop-store.stores.items (omega arith) c.loop-store.invariant)
