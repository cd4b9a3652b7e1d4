use Rattle.std.proofs.Common.{◌++◌, List, subst, sym, arith}
use Rattle.std.proofs.lemmas.List.{append-nil, take_all}
use Rattle.spds_tables.specs.declared.numbered.Met.{Met}
use Rattle.spds_tables.specs.Tables.{AreBuiltWithin}
use Rattle.spds_tables.proofs.Built.{caught_more, within_more}
use Rattle.spds_tables.proofs.tables.SiteTables.catch_up.Goals as goal
use Rattle.lists.proofs.Joined.{Has-left}

pub loop-met-init : goal.loop-met-init
loop-met-init c = record {
  job = c.requires.job;
  built = λ first all built opens. subst (λ (xs : List Met). AreBuiltWithin c.args.parts.now c.args.site xs all c.args.self.now) (sym (append-nil first)) built;
}

pub loop-met-preserved : goal.loop-met-preserved
loop-met-preserved c = record {
  job = c.in_ok-take_in.ensures.job;
  built = λ first all built opens.
      caught_more c.args.parts.now c.args.site first c.args.mets.now all c.loop-met.met-index _ c.loop-met.self c.take_in.new.self (omega arith)
      (λ some. c.in_ok-take_in.ensures.built some all) opens (c.loop-met.invariant.built first all built opens);
}

pub returns : goal.returns
returns c first built opens =
    let mets = c.args.mets.now in
    let within = within_more c.args.parts.now c.args.site first first (first ++ mets) c.args.self.now (λ m. Has-left first mets m) built in
    subst (λ (xs : List Met). AreBuiltWithin c.args.parts.now c.args.site (first ++ xs) (first ++ mets) c.loop-met.self) (take_all c.loop-met.met-index mets (omega arith))
    (c.loop-met.invariant.built first (first ++ mets) within opens)
