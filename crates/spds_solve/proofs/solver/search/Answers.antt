use Rattle.std.proofs.Common.{◌≡◌, ◌+◌, ◌-◌, ◌<◌, ◌≤◌, ℕ, Bool, List, [], true, false, length, ap, subst, sym, if◌then◌else◌, refl, arith}
use Rattle.std.specs.declared.result.Result.TheVariants.{Ok}
use Rattle.spds_solve.specs.declared.met.Met.{Met}
use Rattle.spds_solve.specs.Composing.{AreComposed}
use Rattle.spds_solve.specs.Looks.{AreLooked}
use Rattle.spds_solve.specs.Searches.{AreFoundBy}
use Rattle.spds_solve.proofs.Composing.{composed_longer, has_longer, joined_longer, length_longer}
use Rattle.spds_solve.proofs.Looking.{looked_more, looked_none}
use Rattle.spds_solve.proofs.Turns.{all_mets, front_before, front_kept, mets_few}
use Rattle.spds_solve.proofs.Whole.{joined_inside}
use Rattle.spds_solve.proofs.solver.search.Goals as goal
use Rattle.spds_tables.specs.declared.numbered.Met.{Met as Numbers}

pub loop-goes_on-init : goal.loop-goes_on-init
loop-goes_on-init g c = record {
  taken = omega arith;
  inside = rw c.requires.none (λ k d below. absurd (omega arith));
  apart = rw c.requires.none (λ i j x a b. cc);
  looked = looked_none c.args.given.now.linked.now c.args.given.now.sites.now c.args.given.now.parts.now [] c.args.mets.now c.args.tables.now c.new-known.result c.requires.changed c.requires.taken
      (c.new-known.ensures c.args.given.now.parts.now c.args.mets.now);
  composed = subst (λ (xs : List Met). AreComposed xs c.new-ways.result) (sym c.requires.none) c.new-ways.ensures;
  found = rw c.requires.none AreFoundBy.none;
  done = λ e. cc;
}

pub turn-requires-clause-mets : goal.turn-requires-clause-mets
turn-requires-clause-mets g c =
    joined_inside c.args.given.now.linked.now c.args.given.now.sites.now c.args.given.now.parts.now c.loop-goes_on.mets c.compose.new.mets c.in_ok-compose.ensures.joined c.loop-goes_on.invariant.inside

pub turn-requires-clause-taken : goal.turn-requires-clause-taken
turn-requires-clause-taken g c =
    let more = length_longer c.loop-goes_on.mets c.compose.new.mets (joined_longer c.loop-goes_on.mets c.in_ok-compose.ensures.joined) in
    let was = c.loop-goes_on.invariant.taken in
    omega arith

pub turn-requires-clause-looked : goal.turn-requires-clause-looked
turn-requires-clause-looked g c =
    let old = c.loop-goes_on.mets in
    let mid = c.compose.new.mets in
    let longer = joined_longer old c.in_ok-compose.ensures.joined in
    let kept = front_kept old mid longer c.loop-goes_on.taken c.loop-goes_on.invariant.taken in
    subst (λ (xs : List Numbers). AreLooked c.args.given.now.linked.now c.args.given.now.sites.now c.args.given.now.parts.now xs mid c.loop-goes_on.tables c.loop-goes_on.known) (sym kept)
    (looked_more c.args.given.now.linked.now c.args.given.now.sites.now c.args.given.now.parts.now _ old mid c.loop-goes_on.tables c.loop-goes_on.known (has_longer old mid longer) c.loop-goes_on.invariant.looked)

pub turn-requires-clause-found : goal.turn-requires-clause-found
turn-requires-clause-found g c = AreFoundBy.composed c.loop-goes_on.mets c.loop-goes_on.invariant.found c.in_ok-compose.ensures.joined

pub loop-goes_on-preserved : goal.loop-goes_on-preserved
loop-goes_on-preserved g c =
    let turn = c.in_ok-goes_on.ensures in
    let was = c.loop-goes_on.invariant in
    let mid = c.compose.new.mets in
    let new = c.turn.new.mets in
    let before = c.as_slice-before.ensures.value in
    record {
      taken = rw before (length_longer mid new turn.behind);
      inside = turn.mets;
      apart = turn.apart;
      looked = rw before (rw (front_before mid new turn.behind) turn.looked);
      composed = composed_longer mid new turn.behind c.compose.new.ways c.in_ok-compose.ensures.composed;
      found = turn.found;
      done = λ e. turn.done (ap Ok e);
    }

-- a turn that goes on finds more, and one that doesn't is the last
smaller : (b : Bool) (all new old : ℕ) → (b ≡ true → (old < new) × (new ≤ all)) → (if b then 1 + (all - new) else 0) < 1 + (all - old)
smaller true all new old h = let k = h refl in omega (arith, k.0, k.1)
smaller false all new old h = omega arith

pub loop-goes_on-smaller : goal.loop-goes_on-smaller
loop-goes_on-smaller g c =
    let turn = c.in_ok-goes_on.ensures in
    let longer = length_longer c.loop-goes_on.mets c.compose.new.mets (joined_longer c.loop-goes_on.mets c.in_ok-compose.ensures.joined) in
    let all = length (all_mets (length c.args.given.now.parts.now.starts.items) (length c.args.given.now.parts.now.stores.items)) in
    let falls = smaller c.in_ok-goes_on.goes_on all (length c.turn.new.mets) (length c.loop-goes_on.mets)
    (λ e. ((let more = turn.more (ap Ok e) in omega arith), mets_few c.args.given.now.parts.now c.turn.new.mets turn.apart turn.mets)) in
    rw c.loop-goes_on-test.true falls
