use Rattle.std.proofs.Common.{take}
use Rattle.std.proofs.lemmas.List.{take_all}
use Rattle.std.proofs.lemmas.Option.{slice_get-get_or}
use Rattle.call_side.proofs.Filed.{filed_more}
use Rattle.lists.proofs.Places.{take-next}
use Rattle.track_tables.specs.declared.returns.Return.{Return}
use Rattle.track_tables.specs.Returns.{crossing_key, mark_key, source_of}
use Rattle.track_tables.proofs.Taken.{no_edge}
use Rattle.track_tables.proofs.returns.file.Goals as goal

abbrev no_return : Return
no_return = record { edge = no_edge; mark = 0 }

pub loop-back-preserved : goal.loop-back-preserved
loop-back-preserved c =
    let returns = c.args.returns.now in
    let index = c.loop-back.back-index in
    let there = slice_get-get_or returns index no_return c.loop-back-test.true in
    rw (take-next returns index _ there) (record {
      sources = filed_more source_of (take index returns) c.loop-back.by_source c.add.new.self _ c.in_ok-add.ensures.last c.loop-back.invariant.sources;
      marks = filed_more mark_key (take index returns) c.loop-back.by_mark c.add-in-loop-back.new.self _ c.in_ok-add-2.ensures.last c.loop-back.invariant.marks;
      both = filed_more crossing_key (take index returns) c.loop-back.by_both c.add-in-loop-back-2.new.self _ c.in_ok-add-3.ensures.last c.loop-back.invariant.both;
    })

pub returns : goal.returns
returns c = let all = take_all c.loop-back.back-index c.args.returns.now c.loop-back-test.false in rw all at c.loop-back.invariant
