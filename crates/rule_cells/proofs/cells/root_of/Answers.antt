use Rattle.std.proofs.Common.{refl, sym, subst}
use Rattle.std.proofs.lemmas.Bool.{false≢true}
use Rattle.rule_cells.proofs.Rooting.{IsOnWay, down_below, way_begins, way_ended, way_falls, way_next}
use Rattle.rule_cells.proofs.cells.root_of.Goals as goal

pub up-init : goal.up-init
up-init g c = λ rules kept root told f.
    subst (λ (o : g.row.W.Denot). IsOnWay g.W.Weight.domain rules kept root c.args.cells.now c.args.cells.now c.args.node (record { head = c.args.node; offset = o }))
    (sym c.one.ensures) (way_begins g.met.W.Weight.laws rules kept told root c.args.cells.now c.args.node f)

pub shorten-before-requires : goal.shorten-before-requires
shorten-before-requires g c = down_below g.W.Weight.domain c.up.cells c.up.cell.head (c.up-test.ensures.0 refl)

pub up-preserved : goal.up-preserved
up-preserved g c = λ rules kept root told f.
    way_next g.met.W.Weight.laws rules kept told root c.args.cells.now c.args.node c.up.cells c.shorten-before.new.cells c.up.cell c.shorten-before.result c.joined-cell.result
    (down_below g.W.Weight.domain c.up.cells c.up.cell.head (c.up-test.ensures.0 refl)) c.shorten-before.ensures.had c.shorten-before.ensures.new c.joined-cell.ensures
    (c.up.invariant rules kept root told f)

pub up-smaller : goal.up-smaller
up-smaller g c =
    way_falls g.W.Weight.domain c.up.cells c.up.cell c.shorten-before.result c.joined-cell.result (c.up-test.ensures.0 refl) c.shorten-before.ensures.had
    c.joined-cell.ensures

pub returns-clause-kept : goal.returns-clause-kept
returns-clause-kept g c = λ rules kept root told f.
    way_ended g.met.W.Weight.laws rules kept told root c.args.cells.now c.args.node c.up.cells c.up.cell c.cell_of.result c.joined.result
    (λ down. false≢true (c.up-test.ensures.1 down)) c.cell_of.ensures c.joined.ensures (c.up.invariant rules kept root told f)

pub returns-clause-roots : goal.returns-clause-roots
returns-clause-roots g c = λ rules kept root told f. (c.up.invariant rules kept root told f).keeps
