use Rattle.spds_tables.specs.Systems.{Reaches}
use Rattle.call_side.proofs.Truth.{word_found}
use Rattle.spds_tables.proofs.tables.share.Goals as goal

pub returns : goal.returns
returns c =
    let found = c.in_ok-shared.ensures in
    rw c.is_some.ensures
    (word_found (Reaches c.args.first.now.calls c.args.a) (Reaches c.args.second.now.calls c.args.b) c.in_ok-shared.shared found.first found.second found.none)
