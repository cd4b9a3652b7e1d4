use Rattle.std.proofs.Common.{All, arith, subst, sym, take}
use Rattle.std.proofs.lemmas.List.{take_all}
use Rattle.std.proofs.lemmas.List.Elements.{All-nil, All-push}
use Rattle.lists.proofs.Places.{slice_get-read, take-next}
use Rattle.cert_rules.specs.Spelled.{FitsLine}
use Rattle.cert_trace.proofs.fitting.all_fit.Goals as goal

pub loop-line-init : goal.loop-line-init
loop-line-init c = All-nil FitsLine

pub line_fits-requires : goal.line_fits-requires
line_fits-requires c = c.requires _ (c.loop-line.line-index, slice_get-read c.args.lines.now c.loop-line.line-index c.line-item.result c.loop-line-test.true c.line-item.is)

pub loop-line-preserved : goal.loop-line-preserved
loop-line-preserved c =
    let there = slice_get-read c.args.lines.now c.loop-line.line-index c.line-item.result c.loop-line-test.true c.line-item.is in
    subst (All FitsLine) (sym (take-next c.args.lines.now c.loop-line.line-index c.line-item.result there))
    (All-push FitsLine (take c.loop-line.line-index c.args.lines.now) c.line-item.result c.loop-line.invariant c.line_fits.ensures)

pub returns : goal.returns
returns c = subst (All FitsLine) (take_all c.loop-line.line-index c.args.lines.now (omega arith)) c.loop-line.invariant
