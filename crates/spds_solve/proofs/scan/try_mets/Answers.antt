use Rattle.std.proofs.Common.{arith}
use Rattle.post_star.proofs.Loops.{each_all}
use Rattle.std.proofs.lemmas.Option.{slice_get-get_or}
use Rattle.lists.specs.Lists.{Has}
use Rattle.call_side.proofs.Lists.{has-read}
use Rattle.spds_solve.specs.Looks.{IsCandidateAt}
use Rattle.spds_solve.specs.Mets.{numbers_of}
use Rattle.spds_solve.proofs.Looking.{each_next}
use Rattle.spds_solve.proofs.Scanning.{grown_keeps, grown_more, grown_none}
use Rattle.spds_solve.proofs.scan.try_mets.Goals as goal

pub loop-met-init : goal.loop-met-init
loop-met-init c =
    let view = c.args.view.now in
    record { all = λ i x low there. absurd (omega arith); grown = grown_none view.linked.now view.sites.now view.parts.now view.tables.now.each.items c.args.mets.now }

pub try_met-requires-clause-met : goal.try_met-requires-clause-met
try_met-requires-clause-met c = c.requires.inside _ (has-read c.args.found.now c.loop-met.met-index _ (omega arith))

pub loop-met-preserved : goal.loop-met-preserved
loop-met-preserved c =
    let view = c.args.view.now in
    let was = c.loop-met.invariant in
    let now = c.in_ok-try_met.ensures in
    record {
      all = each_next (λ m. IsCandidateAt view m → Has (numbers_of c.loop-met.mets) m) (λ m. IsCandidateAt view m → Has (numbers_of c.try_met.new.mets) m)
          c.args.found.now c.loop-met.met-index _ (slice_get-get_or c.args.found.now c.loop-met.met-index _ (omega arith))
          (λ m before candidate. grown_keeps view.linked.now view.sites.now view.parts.now view.tables.now.each.items _ _ now.grown m (before candidate)) now.all was.all;
      grown = grown_more view.linked.now view.sites.now view.parts.now view.tables.now.each.items c.args.mets.now _ _ was.grown now.grown;
    }

pub returns-clause-all : goal.returns-clause-all
returns-clause-all c m has =
    each_all (λ m. IsCandidateAt c.args.view.now m → Has (numbers_of c.loop-met.mets) m) c.args.found.now c.loop-met.met-index (omega arith) c.loop-met.invariant.all m has
