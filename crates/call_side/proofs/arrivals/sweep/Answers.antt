use Rattle.std.proofs.Common.{◌≡◌, [], false, length, ltb, sym, arith}
use Rattle.std.proofs.lemmas.Bool.{ltb-false}
use Rattle.std.proofs.lemmas.List.{append-nil}
use Rattle.call_side.proofs.Arriving.{behind_more, nothing_behind, sweep_done, swept_more}
use Rattle.call_side.proofs.arrivals.sweep.Goals as goal

pub loop-entry-init : goal.loop-entry-init
loop-entry-init c = record { sound = λ are. are; behind = ([], sym (append-nil c.args.live.now.keys)); there = λ i e h at. absurd (omega arith) }

pub loop-entry-preserved : goal.loop-entry-preserved
loop-entry-preserved c =
    let was = c.loop-entry.invariant in
    let now = c.in_ok-try_entry.ensures in
    let entries = c.entries-entries.result.now in
    record {
      sound = λ are. now.sound (was.sound are);
      behind = behind_more c.args.live.now.keys _ _ was.behind now.behind;
      there = swept_more c.args.table.now c.args.live.now.keys c.loop-entry.live.keys c.try_entry.new.live.keys entries c.loop-entry.entry-index _ c.loop-entry-test.true was.behind now.behind now.there was.there;
    }

pub returns-clause-done : goal.returns-clause-done
returns-clause-done c e =
    let test : ltb c.len-before.result c.len.result ≡ false = cc in
    let one : c.len-before.result ≡ length c.args.live.now.keys = c.len-before.ensures.len in
    let two : c.len.result ≡ length c.loop-entry.live.keys = c.len.ensures.len in
    let short = ltb-false _ _ test in
    let same = nothing_behind c.args.live.now.keys c.loop-entry.live.keys c.loop-entry.invariant.behind (omega arith) in
    sweep_done c.args.table.now c.args.live.now.keys c.loop-entry.live.keys c.entries-entries.result.now c.loop-entry.entry-index c.entries-entries.ensures.listed c.loop-entry-test.false same c.loop-entry.invariant.there
