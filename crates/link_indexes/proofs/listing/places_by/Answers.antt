use Rattle.std.proofs.Common.{◌≡◌, ℕ, take, sym, ◌∙◌}
use Rattle.std.proofs.lemmas.List.{take_all}
use Rattle.std.proofs.lemmas.Result.{IfOk-weaker}
use Rattle.link_indexes.specs.Facts.{HasKey}
use Rattle.lists.specs.Filings.{items_under, row}
use Rattle.link_indexes.specs.Tables.{codes_of}
use Rattle.link_indexes.proofs.Filed.{IsFiled-same}
use Rattle.lists.proofs.Places.{length-taken, slice_get-read, take-next}
use Rattle.link_indexes.proofs.Listed.{ArePlacesBy-begin, ArePlacesBy-more, codes_of-all, codes_of-there}
use Rattle.link_indexes.proofs.listing.places_by.Goals as goal

pub loop-index-init : goal.loop-index-init
loop-index-init c = ArePlacesBy-begin {K = HasKey c.args.key} (take c.loop-number.number (codes_of c.args.methods.now)) (items_under c.loop-number.filing) c.loop-number.invariant

pub loop-index-preserved : goal.loop-index-preserved
loop-index-preserved c =
    let method = slice_get-read c.args.methods.now c.loop-number.number c.index-methods-number.result c.loop-number-test.true c.index-methods-number.is in
    let there = slice_get-read c.as_slice-code-items.result.now c.loop-index.index c.code-item.result c.loop-index-test.true c.code-item.is in
    let long = length-taken (codes_of c.args.methods.now) c.loop-number.number c.index-methods-number.result.code (codes_of-there c.args.methods.now c.loop-number.number c.index-methods-number.result method) in
    ArePlacesBy-more {K = HasKey c.args.key} (take c.loop-number.number (codes_of c.args.methods.now)) c.as_slice-code-items.result.now c.loop-index.index c.code-item.result _
    (items_under c.loop-index.filing) (items_under c.put_all.new.self) there (c.in_ok-number_of.ensures ∙ sym long) c.in_ok-number_of-2.ensures c.loop-index.invariant
    (IsFiled-same (items_under c.loop-index.filing) (items_under c.put_all.new.self) _ c.in_ok-put_all.ensures (λ n. ((c.keys.ensures n).1, (c.keys.ensures n).0)))

pub loop-number-preserved : goal.loop-number-preserved
loop-number-preserved c =
    let method = slice_get-read c.args.methods.now c.loop-number.number c.index-methods-number.result c.loop-number-test.true c.index-methods-number.is in
    let next = take-next (codes_of c.args.methods.now) c.loop-number.number c.index-methods-number.result.code (codes_of-there c.args.methods.now c.loop-number.number c.index-methods-number.result method) in
    let all = take_all c.loop-index.index c.as_slice-code-items.result.now c.loop-index-test.false in
    rw (next, ← c.as_slice-code-items.ensures) (rw all at c.loop-index.invariant)

pub returns : goal.returns
returns c =
    let all = codes_of-all c.args.methods.now c.loop-number.number c.loop-number-test.false in
    IfOk-weaker c.lists.result (λ rows. (n : ℕ) → row rows n ≡ items_under c.loop-number.filing n) _
    (λ rows same n. rw (same n) (let exact = c.loop-number.invariant n in rw all at exact)) c.lists.ensures
