use Rattle.std.proofs.Common.{◌≡◌, ◌≤◌, ℕ, List, Some, None, length, slice_get, inl, inr, sym, ◌∙◌}
use Rattle.std.proofs.lemmas.Bool.{cases_lt}
use Rattle.lists.proofs.Places.{slice_get-there}
use Rattle.call_side.specs.declared.pairs.Pair.{Pair}
use Rattle.call_side.specs.Search.{asked}
use Rattle.call_side.proofs.Coming.{kept_has}
use Rattle.call_side.proofs.Searching.{done_more, share_none}
use Rattle.call_side.proofs.search.find_end.Goals as goal

-- no pair has the number
past : (pairs : List Pair) (number : ℕ) → slice_get pairs number ≡ None → length pairs ≤ number
past pairs number none = elim (cases_lt number (length pairs)) [
  | inl below ↦ let there = (slice_get-there pairs number below).1 in cc
  | inr more ↦ more
]

pub loop-pair-preserved : goal.loop-pair-preserved
loop-pair-preserved c =
    let q = asked c.args.question.now in
    let on = c.in_ok-go_on.ensures in
    let there : slice_get c.loop-pair.seen.pairs.keys c.loop-pair.number ≡ Some c.in-Some.pair = sym c.in-Some.ensures.value in
    record {
      trail = on.trail;
      begun = λ pair word start spells. kept_has c.loop-pair.seen.pairs.keys c.go_on.new.seen.pairs.keys pair on.kept (c.loop-pair.invariant.begun pair word start spells);
      done = done_more q c.loop-pair.number c.in-Some.pair c.loop-pair.seen.pairs.keys c.go_on.new.seen.pairs.keys there on.kept c.loop-pair.invariant.done on.led
          (let none = rw c.in_default-2.is at c.in_ok-way.ensures.none in none);
    }

pub returns-clause-none : goal.returns-clause-none
returns-clause-none c =
    let none : slice_get c.loop-pair.seen.pairs.keys c.loop-pair.number ≡ None = sym c.pair.ensures.value ∙ c.in_default.is in
    share_none (asked c.args.question.now) c.loop-pair.number c.loop-pair.seen.pairs.keys (past c.loop-pair.seen.pairs.keys c.loop-pair.number none) c.loop-pair.invariant.done c.loop-pair.invariant.begun
