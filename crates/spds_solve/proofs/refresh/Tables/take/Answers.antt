use Rattle.std.proofs.Common.{refl, arith}
use Rattle.lists.proofs.Places.{slice_get-read}
use Rattle.spds_solve.proofs.Still.{took, took_still}
use Rattle.spds_solve.proofs.refresh.Tables.take.Goals as goal

pub index_mut-requires : goal.index_mut-requires
index_mut-requires c = omega (arith, c.requires.met.object, c.requires.taken.1.flags, c.args.self.now.changed.ok.0)

pub index_mut-requires-2 : goal.index_mut-requires-2
index_mut-requires-2 c = omega (arith, c.requires.met.object, c.requires.taken.1.count, c.args.self.now.each.ok.0)

pub catch_up-requires-clause-job : goal.catch_up-requires-clause-job
catch_up-requires-clause-job c =
    (c.requires.taken.1.built c.args.met.object _
    (slice_get-read c.args.self.now.each.items c.args.met.object c.index_mut-2.result.now (omega (arith, c.requires.met.object, c.requires.taken.1.count)) c.index_mut-2.ensures.value)).calls

pub returns-clause-still : goal.returns-clause-still
returns-clause-still c =
    took_still c.args.parts.now c.args.self.now _ c.args.met.object c.catch_up.new.self (omega (arith, c.requires.met.object, c.requires.taken.1.count)) refl
    (omega (arith, c.requires.met.object, c.requires.taken.1.flags)) refl

pub returns-clause-taken : goal.returns-clause-taken
returns-clause-taken c mets was opens =
    let there = slice_get-read c.args.self.now.each.items c.args.met.object c.index_mut-2.result.now (omega (arith, c.requires.met.object, c.requires.taken.1.count)) c.index_mut-2.ensures.value in
    took c.args.parts.now c.args.self.now _ c.args.met.object c.catch_up.new.self (omega (arith, c.requires.met.object, c.requires.taken.1.count)) refl
    (omega (arith, c.requires.met.object, c.requires.taken.1.flags)) refl mets c.args.met refl was
    (c.in_ok-catch_up.ensures mets (was.built c.args.met.object _ there) opens)
