use Rattle.spds_solve.specs.declared.met.Met.{Met}
use Rattle.spds_solve.proofs.Scanning.{grown_none, grown_one, last_there}
use Rattle.spds_solve.proofs.scan.try_met.Goals as goal

pub returns-then-contains-clause-all : goal.returns-then-contains-clause-all
returns-then-contains-clause-all c candidate = c.contains.ensures.0 c.if-contains.true

pub returns-then-contains-clause-grown : goal.returns-then-contains-clause-grown
returns-then-contains-clause-grown c =
    let view = c.args.view.now in
    grown_none view.linked.now view.sites.now view.parts.now view.tables.now.each.items c.args.mets.now

pub returns-then-not-is_base-clause-all : goal.returns-then-not-is_base-clause-all
returns-then-not-is_base-clause-all c candidate = let h = c.is_base.ensures.1 candidate.0 in absurd cc

pub returns-then-not-is_base-clause-grown : goal.returns-then-not-is_base-clause-grown
returns-then-not-is_base-clause-grown c =
    let view = c.args.view.now in
    grown_none view.linked.now view.sites.now view.parts.now view.tables.now.each.items c.args.mets.now

pub returns-in_ok-add-clause-all : goal.returns-in_ok-add-clause-all
returns-in_ok-add-clause-all c candidate =
    last_there c.args.mets.now c.add.new.self (record { object = c.args.met.object; base = c.args.met.base; store = c.args.met.store; string = c.in-Some.string })
    c.in_ok-add.ensures

pub returns-in_ok-add-clause-grown : goal.returns-in_ok-add-clause-grown
returns-in_ok-add-clause-grown c =
    let view = c.args.view.now in
    let met : Met = record { object = c.args.met.object; base = c.args.met.base; store = c.args.met.store; string = c.in-Some.string } in
    grown_one view.linked.now view.sites.now view.parts.now view.tables.now.each.items c.args.mets.now c.add.new.self met c.in_ok-add.ensures
    (record { store = c.requires.met.store; base = c.is_base.ensures.0 c.if-not-is_base.false; shared = rw c.in-Some.is at c.in_ok-string.ensures.some })
