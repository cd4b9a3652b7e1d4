use Rattle.std.proofs.Common.{List, subst, sym, take, arith}
use Rattle.std.proofs.lemmas.List.{take_all as take_whole, take_more}
use Rattle.std.proofs.lemmas.Option.{slice_get-get_or}
use Rattle.link_laws.proofs.Lists.{at_all}
use Rattle.spds_solve.specs.Searches.{AreTaken}
use Rattle.spds_solve.proofs.Still.{still_self, still_then}
use Rattle.spds_solve.proofs.refresh.Tables.take_all.Goals as goal
use Rattle.spds_tables.specs.declared.numbered.Met.{Met}
use Rattle.spds_tables.specs.Parts.{IsInParts}

pub loop-at-init : goal.loop-at-init
loop-at-init c = record { still = still_self c.args.self.now; taken = c.requires.taken }

pub take-requires-clause-met : goal.take-requires-clause-met
take-requires-clause-met c =
    at_all (IsInParts c.args.parts.now) c.args.mets.now c.loop-at.at _ c.requires.mets (slice_get-get_or c.args.mets.now c.loop-at.at _ (omega arith))

pub take-requires-clause-taken : goal.take-requires-clause-taken
take-requires-clause-taken c = (take c.loop-at.at c.args.mets.now, c.loop-at.invariant.taken)

pub loop-at-preserved : goal.loop-at-preserved
loop-at-preserved c =
    let was = c.loop-at.invariant in
    let now = c.in_ok-take.ensures in
    let at = c.loop-at.at in
    let mets = c.args.mets.now in
    record {
      still = still_then c.args.self.now c.loop-at.self c.take.new.self was.still now.still;
      taken = subst (λ (xs : List Met). AreTaken c.args.parts.now xs c.take.new.self) (sym (take_more mets at _ (omega arith)))
          (now.taken (take at mets) was.taken (c.requires.opens at _ (slice_get-get_or mets at _ (omega arith))));
    }

pub returns-clause-taken : goal.returns-clause-taken
returns-clause-taken c =
    subst (λ (xs : List Met). AreTaken c.args.parts.now xs c.loop-at.self) (take_whole c.loop-at.at c.args.mets.now (omega arith)) c.loop-at.invariant.taken
