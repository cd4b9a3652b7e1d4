use Rattle.std.proofs.Common.{arith, refl}
use Rattle.lists.proofs.Places.{slice_get-below}
use Rattle.report_text.proofs.Standing.{names_local}
use Rattle.step_rows.proofs.replies.local_at.Goals as goal

pub locals-requires : goal.locals-requires
locals-requires c =
    let stands = c.has_statement.ensures c.if-not-has_statement.false refl in
    slice_get-below _ _ _ stands.at.there

pub returns : goal.returns
returns c =
    let stands = c.has_statement.ensures c.if-not-has_statement.false refl in
    names_local _ _ _ _ _ stands c.locals.ensures (omega arith)
