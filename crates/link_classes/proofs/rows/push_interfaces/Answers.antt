use Rattle.std.proofs.Common.{ℕ, ◌<◌, ◌++◌, length, map, refl, sym, subst, ◌∙◌, get_or}
use Rattle.std.proofs.lemmas.List.{take_all}
use Rattle.std.proofs.lemmas.Option.{slice_get-get_or}
use Rattle.lists.proofs.Places.{slice_get-below}
use Rattle.jim_ast.specs.declared.names.NameId.{NameId}
use Rattle.lists.specs.Lists.{Each}
use Rattle.link_rules.specs.Names.{text_of}
use Rattle.link_rules.specs.World.{IsInterfacePair}
use Rattle.link_classes.specs.Seen.{seen_classes}
use Rattle.link_classes.proofs.Growing.{Each-more}
use Rattle.link_classes.proofs.Within.{interfaces_within, name_placed}
use Rattle.link_classes.proofs.rows.push_interfaces.Goals as goal

pub bounds-class-interface : goal.bounds-class-interface
bounds-class-interface c =
    let names = interfaces_within c.args.class.now.names.now c.args.class.now.class.now c.requires.class.within in
    let named = subst (λ xs. (k : ℕ) (d : NameId) → k < length xs → (get_or xs k d).0 < length c.args.class.now.names.now) (sym c.as_slice-interfaces.ensures) names in
    (name_placed c.args.order.now.all.now.texts c.args.class.now _ c.requires.class (named c.loop-interface.interface-index (record { 0 = 0 }) c.loop-interface-test.true)).0

pub number_or_end-above-requires-clause-name : goal.number_or_end-above-requires-clause-name
number_or_end-above-requires-clause-name c =
    let names = interfaces_within c.args.class.now.names.now c.args.class.now.class.now c.requires.class.within in
    let named = subst (λ xs. (k : ℕ) (d : NameId) → k < length xs → (get_or xs k d).0 < length c.args.class.now.names.now) (sym c.as_slice-interfaces.ensures) names in
    let placed = name_placed c.args.order.now.all.now.texts c.args.class.now _ c.requires.class (named c.loop-interface.interface-index (record { 0 = 0 }) c.loop-interface-test.true) in
    slice_get-below c.args.order.now.all.now.texts _ _ (placed.1 (record { 0 = 0 }))

pub loop-interface-preserved : goal.loop-interface-preserved
loop-interface-preserved c = λ before sides.
    let all = seen_classes c.args.order.now.classes.items in
    let interface : NameId = get_or c.as_slice-interfaces.result.now c.loop-interface.interface-index (record { 0 = 0 }) in
    let names = interfaces_within c.args.class.now.names.now c.args.class.now.class.now c.requires.class.within in
    let named = subst (λ xs. (k : ℕ) (d : NameId) → k < length xs → (get_or xs k d).0 < length c.args.class.now.names.now) (sym c.as_slice-interfaces.ensures) names in
    let placed = name_placed c.args.order.now.all.now.texts c.args.class.now interface c.requires.class (named c.loop-interface.interface-index (record { 0 = 0 }) c.loop-interface-test.true) in
    rw c.in_ok-push.ensures.items
    (Each-more (IsInterfacePair all) before (λ i. record { class = c.args.number; name = text_of c.args.class.now.names.now i }) c.as_slice-interfaces.result.now c.loop-interface.interface-index
    interface c.loop-interface.pairs.items (c.args.number, c.number_or_end-above.result)
    (c.loop-interface.invariant before sides) c.loop-interface-test.true
    (slice_get-get_or c.as_slice-interfaces.result.now c.loop-interface.interface-index (record { 0 = 0 }) c.loop-interface-test.true)
    (refl, c.number_or_end-above.ensures (text_of c.args.class.now.names.now interface) (placed.1 (record { 0 = 0 }))))

pub returns : goal.returns
returns c = λ before sides.
    let all = seen_classes c.args.order.now.classes.items in
    subst (λ xs. Each (IsInterfacePair all) (before ++ map (λ i. record { class = c.args.number; name = text_of c.args.class.now.names.now i }) xs) c.loop-interface.pairs.items)
    (take_all c.loop-interface.interface-index c.as_slice-interfaces.result.now c.loop-interface-test.false ∙ c.as_slice-interfaces.ensures)
    (c.loop-interface.invariant before sides)
