use Rattle.std.proofs.Common.{◌≡◌, List, Some, slice_get, sym, subst, arith}
use Rattle.std.proofs.lemmas.Bool.{ltb-true}
use Rattle.lists.proofs.Places.{slice_get-read}
use Rattle.link_laws.proofs.Lists.{map_at}
use Rattle.spds_solve.specs.Solved.{IsOfBases, SpellsCalls}
use Rattle.spds_solve.proofs.Celled.{strings_shared}
use Rattle.spds_solve.proofs.solved.Solved.one_string.Goals as goal
use Rattle.spds_solve.proofs.solved.Solved.one_string.Goals.{In-Some, In-Some-get}
use Rattle.spds_tables.specs.declared.tables.SiteTables.{SiteTables}

module _ (c : In-Some) where
  -- the tables of the first site
  there : slice_get c.self.inside.tables.items c.args.object ≡ Some c.in-Some.first.now
  there =
      let below = ltb-true _ _ (sym c.in-Some.ensures.lookup.0) in
      subst (λ (xs : List SiteTables). slice_get xs c.args.object ≡ Some c.in-Some.first.now) c.deref.ensures.value
      (slice_get-read c.deref.result.now c.args.object c.in-Some.first.now (omega arith) c.in-Some.ensures.lookup.1)

  -- are over the bases
  of_bases : IsOfBases c.self.inside.parts.bases c.in-Some.first.now
  of_bases = c.self.invariant c.in-Some.first.now (c.args.object, there)

module _ (c : In-Some-get) where
  -- those of the second
  there_too : slice_get c.self.inside.tables.items c.args.base ≡ Some c.in-Some-get.second.now
  there_too =
      let below = ltb-true _ _ (sym c.in-Some-get.ensures.lookup.0) in
      subst (λ (xs : List SiteTables). slice_get xs c.args.base ≡ Some c.in-Some-get.second.now) c.deref-2.ensures.value
      (slice_get-read c.deref-2.result.now c.args.base c.in-Some-get.second.now (omega arith) c.in-Some-get.ensures.lookup.1)

  -- too
  of_bases_too : IsOfBases c.self.inside.parts.bases c.in-Some-get.second.now
  of_bases_too = c.self.invariant c.in-Some-get.second.now (c.args.base, there_too)

pub share-requires-clause-first : goal.share-requires-clause-first
share-requires-clause-first c = (of_bases (goal.at.share-requires-clause-first c).In-Some).calls

pub share-requires-clause-second : goal.share-requires-clause-second
share-requires-clause-second c = (of_bases_too (goal.at.share-requires-clause-second c).In-Some-get).calls

pub share-requires-clause-first_steps : goal.share-requires-clause-first_steps
share-requires-clause-first_steps c = (of_bases (goal.at.share-requires-clause-first_steps c).In-Some).steps

pub share-requires-clause-second_steps : goal.share-requires-clause-second_steps
share-requires-clause-second_steps c = (of_bases_too (goal.at.share-requires-clause-second_steps c).In-Some-get).steps

pub share-requires-clause-first_last : goal.share-requires-clause-first_last
share-requires-clause-first_last c = (of_bases (goal.at.share-requires-clause-first_last c).In-Some).last

pub share-requires-clause-second_last : goal.share-requires-clause-second_last
share-requires-clause-second_last c = (of_bases_too (goal.at.share-requires-clause-second_last c).In-Some-get).last

pub returns : goal.returns
returns c =
    let first = map_at (λ (t : SiteTables). t.calls) c.self.inside.tables.items c.args.object c.in-Some.first.now (there (goal.at.returns c).In-Some) in
    let second = map_at (λ (t : SiteTables). t.calls) c.self.inside.tables.items c.args.base c.in-Some-get.second.now (there_too (goal.at.returns c).In-Some-get) in
    rw (← c.self.view_is) (λ p q d o x n m solved object base a b.
    let job = solved.calls c.args.object o object in
    let other = solved.calls c.args.base x base in
    let same : job.0 ≡ c.in-Some.first.now.calls = cc (job.1, first) in
    let same_too : other.0 ≡ c.in-Some-get.second.now.calls = cc (other.1, second) in
    let words = subst (SpellsCalls p q d _ o) same job.2 in
    let others = subst (SpellsCalls p q d _ x) same_too other.2 in
    let shared = strings_shared p q d _ o x c.in-Some.first.now.calls c.in-Some-get.second.now.calls words others c.args.a c.args.b n m a b in
    let found = rw (c.call_cell-a.ensures, c.call_cell-b.ensures) at c.in_ok-shared.ensures in
    ((λ h. shared.0 (found.0 h)), (λ h. found.1 (shared.1 h))))
