use Rattle.std.proofs.Common.{sym}
use Rattle.std.specs.Ordering.{eq_by_cmp}
use Rattle.link_rules.specs.Keys.{HasFieldKey, field_key}
use Rattle.link_classes.specs.contracts.keys.FieldKeyInOrd.TheImpl as field_key_ord
use Rattle.link_classes.specs.Keyed.{IsFieldKeyWithin, field_key_of}
use Rattle.link_classes.specs.Tables.{field_at}
use Rattle.link_classes.proofs.FirstMembers.{with_known_key, with_new_key}
use Rattle.link_classes.proofs.KeyTests.{makes_field, opens_field, same_field, told_field}
use Rattle.link_classes.proofs.tables.FieldKeys.number.Goals as goal

pub returns-in-Some : goal.returns-in-Some
returns-in-Some c = λ texts members next apart knows key last.
    with_known_key field_key HasFieldKey opens_field makes_field (IsFieldKeyWithin texts) (field_key_of texts) (eq_by_cmp (field_key_ord.ghosts).cmp) (same_field texts) (told_field texts apart)
    members next (field_at c.args.self.now) c.args.key c.in-Some.first knows key.within key.stands (sym c.in-Some.ensures.at)

pub returns-in_ok-insert-in-None : goal.returns-in_ok-insert-in-None
returns-in_ok-insert-in-None c = λ texts members next apart knows key last.
    with_new_key field_key HasFieldKey opens_field makes_field (IsFieldKeyWithin texts) (field_key_of texts) (eq_by_cmp (field_key_ord.ghosts).cmp) (same_field texts) (told_field texts apart)
    members next (field_at c.args.self.now) (field_at (record { numbers = c.insert.new.self })) c.args.key c.args.row knows key.within key.stands (sym c.in-None.ensures.at) last
    c.in_ok-insert-in-None.ensures.updates.0
