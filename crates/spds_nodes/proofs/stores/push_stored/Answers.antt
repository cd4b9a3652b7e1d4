use Rattle.std.proofs.Common.{sym}
use Rattle.std.proofs.lemmas.Result.{on_ok_weaker}
use Rattle.link_rules.specs.declared.code.Code.TheVariants as code
use Rattle.spds_nodes.specs.Stored.{IsInnerStore, IsStoredBy}
use Rattle.spds_nodes.proofs.Filed.{IsFiled-none, IsFiled-same, stored_levels_is, stored_local, stores_one}
use Rattle.spds_nodes.proofs.stores.push_stored.Goals as goal

pub returns-else-into-field : goal.returns-else-into-field
returns-else-into-field c =
    rw c.in-Store.is
    (on_ok_weaker c.push_store.result
    (IsFiled-same c.args.place _ _ _ _
    (stored_local c.args.place c.args.field c.in-Store.base c.in-Store.arg (code.Store c.in-Store.base c.in-Store.into c.in-Store.arg)
    (λ w v. ((λ stores. (stores.1, stores.2)), (λ both. (sym c.if-into-field.false, both.0, both.1))))))
    c.push_store.ensures)

pub returns-else-field-ne0 : goal.returns-else-field-ne0
returns-else-field-ne0 c =
    rw c.in-StoreCell.is
    (on_ok_weaker c.push_store-in-StoreCell.result
    (IsFiled-same c.args.place _ _ _ _
    (stored_local c.args.place c.args.field c.in-StoreCell.base c.in-StoreCell.arg (code.StoreCell c.in-StoreCell.base c.in-StoreCell.arg)
    (λ w v. ((λ stores. (stores.1, stores.2)), (λ both. (c.if-field-ne0.false, both.0, both.1))))))
    c.push_store-in-StoreCell.ensures)

pub returns-else-field-ne0-2 : goal.returns-else-field-ne0-2
returns-else-field-ne0-2 c =
    on_ok_weaker c.push_levels.result
    (IsFiled-same c.args.place (IsInnerStore c.args.place c.in-NewMulti.levels) (IsStoredBy c.args.place c.args.field c.args.code.now) _ _
    (stored_levels_is c.args.place c.args.field c.in-NewMulti.levels c.args.code.now c.in-NewMulti.is c.if-field-ne0-2.false))
    c.push_levels.ensures

pub returns-in_default : goal.returns-in_default
returns-in_default c =
    IsFiled-none c.args.place _ _ (λ s is.
    stores_one c.args.code.now c.args.field is.0 is.1 is.2 (λ base into arg. c.in_default.not-Store base into arg) (λ base arg. c.in_default.not-StoreCell base arg)
    (λ to levels. c.in_default.not-NewMulti to levels))
