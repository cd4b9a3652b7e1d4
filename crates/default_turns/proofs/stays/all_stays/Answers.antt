use Rattle.std.proofs.Common.{◌≡◌, ℕ, Option, Some, get_or, refl, subst}
use Rattle.std.proofs.lemmas.List.{take_all}
use Rattle.std.proofs.lemmas.List.Elements.{Contains-get_or}
use Rattle.default_turns.specs.declared.holders.Holder.{Holder}
use Rattle.default_turns.proofs.Staying.{AreStaysOf, stays_all, stays_more, stays_none, stays_skip}
use Rattle.default_turns.proofs.stays.all_stays.Goals as goal
use Rattle.default_turns.proofs.stays.all_stays.Goals.{in-Some+in_ok-add_stays, in_default}

abbrev none : Holder
none = record { interface = 0; place = 0 }

-- one row is found
row_is : (found : Option ℕ) (row other : ℕ) → found ≡ Some row → found ≡ Some other → other ≡ row
row_is found row other e f = cc

pub loop-holder-init : goal.loop-holder-init
loop-holder-init c = record {
  known = c.new-blocks.ensures c.args.line;
  stays = rw c.new-stays.ensures.items (stays_none c.args.line.placed.tree.now c.args.line.placed.layout.places.now c.args.key c.args.line.holders.now);
}

pub own_default-requires : goal.own_default-requires
own_default-requires c =
    let items = c.args.line.holders.now in
    (c.requires.holders _).0 (get_or items c.loop-holder.holder-index none, Contains-get_or items c.loop-holder.holder-index none c.loop-holder-test.true, refl)

pub add_stays-requires-clause-interface : goal.add_stays-requires-clause-interface
add_stays-requires-clause-interface c =
    c.requires.line.placed.known _ (Contains-get_or c.args.line.holders.now c.loop-holder.holder-index none c.loop-holder-test.true)

pub loop-holder-preserved : goal.loop-holder-preserved
loop-holder-preserved c =
    let items = c.args.line.holders.now in
    let at = c.loop-holder in
    let rows = c.args.line.placed.tree.now in
    let places = c.args.line.placed.layout.places.now in
    elim c.match-own_default.branch [
      | in-Some+in_ok-add_stays w ↦ record {
        known = rw w.blocks-is w.in_ok-add_stays.ensures.known;
        stays = rw w.stays-is (stays_more rows places c.args.key items at.holder-index none c.loop-holder-test.true at.stays.items at.invariant.stays w.in-Some.row
            w.add_stays.new.stays.items ((c.own_default.ensures _).0 w.in-Some.is) (λ other has. row_is _ _ other w.in-Some.is ((c.own_default.ensures other).1 has))
            w.in_ok-add_stays.ensures.added);
      }
      | in_default w ↦ record {
        known = rw w.blocks-is at.invariant.known;
        stays = rw w.stays-is (stays_skip rows places c.args.key items at.holder-index none c.loop-holder-test.true at.stays.items at.invariant.stays
            (λ row has. w.in_default.not-Some row ((c.own_default.ensures row).1 has)));
      }
    ]

pub returns : goal.returns
returns c =
    let items = c.args.line.holders.now in
    let at = c.loop-holder in
    let rows = c.args.line.placed.tree.now in
    let places = c.args.line.placed.layout.places.now in
    stays_all rows places c.args.key items at.stays.items c.requires.holders
    (subst (λ xs. AreStaysOf rows places c.args.key items xs at.stays.items) (take_all at.holder-index items c.loop-holder-test.false) at.invariant.stays)
