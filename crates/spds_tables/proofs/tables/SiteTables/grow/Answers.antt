use Rattle.std.proofs.Common.{◌≡◌, ◌<◌, ◌++◌, inl, inr, ℕ, List, length, subst, sym, ap, ◌∙◌, arith, refl}
use Rattle.std.proofs.lemmas.Bool.{eqb-false, eqb-true}
use Rattle.lists.specs.Lists.{Has}
use Rattle.lists.proofs.Places.{slice_get-below, slice_get-there}
use Rattle.spds_tables.specs.declared.numbered.Met.{Met}
use Rattle.spds_tables.specs.declared.numbered.StartAt.{StartAt}
use Rattle.spds_tables.specs.declared.tables.SiteTables.{SiteTables}
use Rattle.spds_tables.specs.Tables.{AreBuilt, IsAskedOf, Opens}
use Rattle.spds_tables.proofs.Built.{among_or, grown_longer, opens_among, settled_built, stored_begun}
use Rattle.spds_tables.proofs.tables.SiteTables.grow.Goals as goal
use Rattle.spds_tables.proofs.tables.SiteTables.grow.Goals.{In_ok-asked}

module _ (c : In_ok-asked) (site : ℕ) (mets : List Met) (was : AreBuilt c.args.parts.now site mets c.args.self.now) where
  -- settling keeps what is built
  built : AreBuilt c.args.parts.now site mets c.settle.new.self
  built = rw c.in_ok-settle.ensures (settled_built c.args.parts.now site mets c.args.self.now was)

  -- what is asked for opens
  opens : (s : StartAt) → Has c.in_ok-asked.asked.items s → Opens c.args.parts.now site mets s
  opens s has = Opens.asked c.settle.new.self.begun c.settle.new.self.calls built.calls built.opened (inl ((c.in_ok-asked.ensures s).0 has).0)

  -- where nothing is asked for, nothing is missing
  closed : length c.in_ok-asked.asked.items ≡ 0 → (s : StartAt)
      → IsAskedOf c.args.parts.now site mets c.settle.new.self.calls s → Has c.settle.new.self.begun s
  closed e s (inl jump) = elim (among_or c.settle.new.self.begun s) [
    | inl has ↦ has
    | inr not ↦
        let has = (c.in_ok-asked.ensures s).1 (jump, not) in
        let below = slice_get-below c.in_ok-asked.asked.items has.0 s has.1 in
        absurd (omega arith)
  ]
  closed e s (inr store) = stored_begun c.args.parts.now site mets c.settle.new.self built s store

module _ (c : In_ok-asked) where
  -- where something is, it is new
  longer : (new : SiteTables) (behind : List StartAt) → 0 < length c.in_ok-asked.asked.items → ((s : StartAt) → Has c.in_ok-asked.asked.items s → Has new.begun s)
      → new.begun ≡ c.settle.new.self.begun ++ behind → length c.args.self.now.begun < length new.begun
  longer new behind some all e =
      let first = slice_get-there c.in_ok-asked.asked.items 0 some in
      let has : Has c.in_ok-asked.asked.items first.0 = (0, first.1) in
      let grown = grown_longer c.settle.new.self.begun new.begun behind first.0 e (all first.0 has) ((c.in_ok-asked.ensures first.0).0 has).1 in
      let same = ap (λ (t : SiteTables). length t.begun) c.in_ok-settle.ensures in
      omega arith

pub returns-then-is_empty-clause-built : goal.returns-then-is_empty-clause-built
returns-then-is_empty-clause-built c site mets was = built (goal.at.returns-then-is_empty-clause-built c).In_ok-asked site mets was

pub returns-then-is_empty-clause-done : goal.returns-then-is_empty-clause-done
returns-then-is_empty-clause-done c _ site mets was =
    let at = (goal.at.returns-then-is_empty-clause-done c).In_ok-asked in
    record {
      built = built at site mets was;
      fields = rw c.in_ok-settle.ensures refl;
      calls = rw c.in_ok-settle.ensures refl;
      closed = closed at site mets was (let none = eqb-true _ _ (sym c.is_empty.ensures ∙ c.if-is_empty.true) in omega (arith, c.in_ok-asked.asked.ok.0));
    }

pub open-requires-clause-among : goal.open-requires-clause-among
open-requires-clause-among c s has =
    let here : Has c.in_ok-asked.asked.items s = subst (λ (xs : List StartAt). Has xs s) c.deref.ensures.value has in
    let some = c.requires.built in
    opens_among c.args.parts.now some.0 some.1 (opens (goal.at.open-requires-clause-among c).In_ok-asked some.0 some.1 some.2 s here)

pub open-requires-clause-job : goal.open-requires-clause-job
open-requires-clause-job c =
    let some = c.requires.built in
    (built (goal.at.open-requires-clause-job c).In_ok-asked some.0 some.1 some.2).calls

pub returns-clause-built : goal.returns-clause-built
returns-clause-built c site mets was =
    let at = (goal.at.returns-clause-built c).In_ok-asked in
    c.in_ok-open.ensures.built site mets mets (built at site mets was)
    (λ s has. opens at site mets was s (subst (λ (xs : List StartAt). Has xs s) c.deref.ensures.value has))

pub returns-clause-more : goal.returns-clause-more
returns-clause-more c _ =
    let behind = c.in_ok-open.ensures.behind in
    let some = eqb-false _ _ (sym c.is_empty.ensures ∙ c.if-is_empty.false) in
    longer (goal.at.returns-clause-more c).In_ok-asked c.open.new.self behind.0 (omega (arith, c.in_ok-asked.asked.ok.0)) (rw c.deref.ensures.value at c.in_ok-open.ensures.begun) behind.1
