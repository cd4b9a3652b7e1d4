use Rattle.std.proofs.Common.{sym}
use Rattle.std.specs.Ordering.{eq_by_cmp}
use Rattle.link_rules.specs.Keys.{HasMethodKey, method_key}
use Rattle.link_classes.specs.contracts.keys.MethodKeyInOrd.TheImpl as method_key_ord
use Rattle.link_classes.specs.Keyed.{IsMethodKeyWithin, method_key_of}
use Rattle.link_classes.specs.Tables.{method_at}
use Rattle.link_classes.proofs.FirstMembers.{with_known_key, with_new_key}
use Rattle.link_classes.proofs.KeyTests.{makes_method, opens_method, same_method, told_method}
use Rattle.link_classes.proofs.tables.MethodKeys.number.Goals as goal

pub returns-in-Some : goal.returns-in-Some
returns-in-Some c = λ texts members next apart knows key last.
    with_known_key method_key HasMethodKey opens_method makes_method (IsMethodKeyWithin texts) (method_key_of texts) (eq_by_cmp (method_key_ord.ghosts).cmp) (same_method texts) (told_method texts apart)
    members next (method_at c.args.self.now) c.args.key c.in-Some.first knows key.within key.stands (sym c.in-Some.ensures.at)

pub returns-in_ok-insert-in-None : goal.returns-in_ok-insert-in-None
returns-in_ok-insert-in-None c = λ texts members next apart knows key last.
    with_new_key method_key HasMethodKey opens_method makes_method (IsMethodKeyWithin texts) (method_key_of texts) (eq_by_cmp (method_key_ord.ghosts).cmp) (same_method texts) (told_method texts apart)
    members next (method_at c.args.self.now) (method_at (record { numbers = c.insert.new.self })) c.args.key c.args.row knows key.within key.stands (sym c.in-None.ensures.at) last
    c.in_ok-insert-in-None.ensures.updates.0
