use Rattle.std.proofs.Common.{◌<◌, ◌≤◌, length, arith}
use Rattle.default_turns.specs.Hops.{hop_at}
use Rattle.default_turns.proofs.Blocking.{block_added, block_made}
use Rattle.default_turns.proofs.Covered.{reached_added, reached_all, reached_next, reached_none}
use Rattle.default_turns.proofs.blocks.+blocks.Goals as goal

pub add_block-returns-in-Some-clause-added : goal.add_block-returns-in-Some-clause-added
add_block-returns-in-Some-clause-added t c =
    rw c.in_ok-extend_from_slice.ensures.items (block_added c.args.line c.args.at c.args.reached.now.items c.in-Some.known.now (c.in-Some.ensures c.args.line c.requires.known))

pub add_block-returns-in_err-put-clause-known : goal.add_block-returns-in_err-put-clause-known
add_block-returns-in_err-put-clause-known t c =
    c.put.ensures c.args.line c.in_ok-add_stretch.ensures.known (block_made c.args.line c.requires.line c.args.at c.requires.at c.spans.result.now c.add_stretch.new.reached.items
    c.in_ok-made-2.made.items c.spans.ensures (rw (← c.in_ok-made.ensures.items) c.in_ok-add_stretch.ensures.added) c.in_ok-made-2.ensures.apart c.in_ok-made-2.ensures.same)

pub add_block-returns-clause-added : goal.add_block-returns-clause-added
add_block-returns-clause-added t c =
    rw (c.in_ok-extend_from_slice-2.ensures.items, c.as_slice.ensures.value) (block_added c.args.line c.args.at c.args.reached.now.items c.in_ok-made-2.made.items
    (block_made c.args.line c.requires.line c.args.at c.requires.at c.spans.result.now c.add_stretch.new.reached.items c.in_ok-made-2.made.items c.spans.ensures
    (rw (← c.in_ok-made.ensures.items) c.in_ok-add_stretch.ensures.added) c.in_ok-made-2.ensures.apart c.in_ok-made-2.ensures.same))

pub add_block-returns-clause-known : goal.add_block-returns-clause-known
add_block-returns-clause-known t c =
    c.put.ensures c.args.line c.in_ok-add_stretch.ensures.known (block_made c.args.line c.requires.line c.args.at c.requires.at c.spans.result.now c.add_stretch.new.reached.items
    c.in_ok-made-2.made.items c.spans.ensures (rw (← c.in_ok-made.ensures.items) c.in_ok-add_stretch.ensures.added) c.in_ok-made-2.ensures.apart c.in_ok-made-2.ensures.same)

pub add_stretch-loop-at-init : goal.add_stretch-loop-at-init
add_stretch-loop-at-init t c = record {
  after = omega arith;
  within = λ i low lt. absurd (omega (arith, low, lt));
  known = c.requires.known;
  adds = reached_none c.args.line.placed.tree.now c.args.line.holders.now c.args.line.placed.layout.places.now c.args.stretch.from c.args.reached.now.items;
}

pub add_stretch-loop-at-preserved-then-hop-stretch : goal.add_stretch-loop-at-preserved-then-hop-stretch
add_stretch-loop-at-preserved-then-hop-stretch t c =
    let line = c.args.line in
    let at = c.loop-at in
    let hop = hop_at line.hops.now at.at in
    let in_all : at.at < length line.holders.now = omega (arith, c.loop-at-test.true, c.requires.stretch) in
    let is = c.requires.line.hops.each at.at in_all in
    record {
      after = omega (arith, at.invariant.after, is.forth, is.on);
      within = λ i low lt. omega (arith, lt, c.if-hop-stretch.true);
      known = c.in_ok-add_block.ensures.known;
      adds = reached_next line.placed.tree.now line.holders.now line.placed.layout.places.now c.args.stretch.from at.at hop.jump c.args.reached.now.items at.reached.items
          c.add_block.new.reached.items at.invariant.after (omega (arith, is.forth, is.on)) at.invariant.adds c.in_ok-add_block.ensures.added;
    }

pub add_stretch-loop-at-preserved : goal.add_stretch-loop-at-preserved
add_stretch-loop-at-preserved t c =
    let line = c.args.line in
    let at = c.loop-at in
    let hop = hop_at line.hops.now at.at in
    let in_all : at.at < length line.holders.now = omega (arith, c.loop-at-test.true, c.requires.stretch) in
    let is = c.requires.line.hops.each at.at in_all in
    let forth : at.at < c.min-at.result = grind (arith, is.forth, c.loop-at-test.true, c.min-at.ensures) in
    let early : c.min-at.result ≤ hop.next = grind (arith, c.min-at.ensures) in
    let within : c.min-at.result ≤ c.args.stretch.to = grind (arith, c.min-at.ensures) in
    record {
      after = omega (arith, at.invariant.after, forth);
      within = λ i low lt. omega (arith, lt, within);
      known = at.invariant.known;
      adds = rw c.in_ok-extend_from_slice.ensures.items (reached_next line.placed.tree.now line.holders.now line.placed.layout.places.now c.args.stretch.from at.at c.min-at.result
          c.args.reached.now.items at.reached.items _ at.invariant.after (omega (arith, forth)) at.invariant.adds
          (reached_added line.placed.tree.now line.holders.now line.placed.layout.places.now at.at c.min-at.result at.reached.items c.spans.result.now
          (c.spans.ensures c.min-at.result forth early)));
    }

pub add_stretch-returns-clause-added : goal.add_stretch-returns-clause-added
add_stretch-returns-clause-added t c =
    reached_all c.args.line.placed.tree.now c.args.line.holders.now c.args.line.placed.layout.places.now c.args.stretch.from c.loop-at.at c.args.stretch.to c.args.reached.now.items
    c.loop-at.reached.items c.loop-at.invariant.within (omega (arith, c.loop-at-test.false)) c.loop-at.invariant.adds
