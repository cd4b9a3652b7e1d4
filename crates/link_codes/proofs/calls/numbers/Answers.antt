use Rattle.std.proofs.Common.{◌≡◌, Some, slice_get}
use Rattle.std.proofs.lemmas.List.Elements.{All-get_or}
use Rattle.lists.specs.Lists.{Has}
use Rattle.link_codes.proofs.Present.{is_some_from}
use Rattle.lists.proofs.SideBySide.{Each-more}
use Rattle.link_codes.proofs.calls.numbers.Goals as goal

pub unwrap-requires : goal.unwrap-requires
unwrap-requires c =
    let has = All-get_or (Has c.args.numbering.now) c.args.rows.now c.loop-row.row-index 0 c.loop-row-test.true c.requires in
    is_some_from c.number.result has.0 ((c.number.ensures has.0).1 has.1)

pub loop-row-preserved : goal.loop-row-preserved
loop-row-preserved c =
    Each-more (λ row n. slice_get c.args.numbering.now n ≡ Some row) c.args.rows.now c.loop-row.numbers.items c.push.new.self.items c.loop-row.row-index 0 c.unwrap.result
    c.loop-row-test.true c.in_ok-push.ensures.items c.loop-row.invariant ((c.number.ensures c.unwrap.result).0 c.unwrap.ensures)
