use Rattle.std.proofs.Common.{◌≡◌, Some, slice_get, arith}
use Rattle.lists.proofs.Places.{slice_get-read}
use Rattle.spds_solve.proofs.Arriving.{arrived_all, arrived_more, arrived_none}
use Rattle.spds_solve.proofs.solver.all_arrivals.Goals as goal
use Rattle.spds_solve.proofs.solver.all_arrivals.Goals.{After-index-tables-site}

module _ (c : After-index-tables-site) where
  -- the tables in hand are those of the site
  there : slice_get c.args.tables.now c.loop-site.site ≡ Some c.index-tables-site.result
  there = slice_get-read c.args.tables.now c.loop-site.site c.index-tables-site.result (omega arith) c.index-tables-site.is

pub add_arrivals-requires : goal.add_arrivals-requires
add_arrivals-requires c = c.requires.calls c.index-tables-site.result (c.loop-site.site, there (goal.at.add_arrivals-requires c).After-index-tables-site)

pub loop-site-init : goal.loop-site-init
loop-site-init c = arrived_none c.args.tables.now c.args.arrivals.now c.requires.none

pub loop-site-preserved : goal.loop-site-preserved
loop-site-preserved c =
    arrived_more c.args.tables.now c.loop-site.arrivals c.add_arrivals.new.arrivals c.loop-site.site c.index-tables-site.result
    (there (goal.at.loop-site-preserved c).After-index-tables-site) c.loop-site.invariant c.in_ok-add_arrivals.ensures

pub returns : goal.returns
returns c = arrived_all c.args.tables.now c.loop-site.arrivals c.loop-site.site (omega arith) c.loop-site.invariant
