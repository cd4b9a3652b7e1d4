use Rattle.std.proofs.Common.{refl, rules}
use Rattle.std.proofs.lemmas.Result.{on_ok_weaker}
use Rattle.report_text.proofs.Growing.{AddsText-weaker}
use Rattle.report_text.proofs.Made.{fits_code, made_array, made_class, makes_array, makes_one, read_there}
use Rattle.report_text.proofs.sites.push_made.Goals as goal

pub class_name-requires : goal.class_name-requires
class_name-requires c =
    let at = read_there _ c.args.place.method c.args.place.index _ c.code.result.now _ _ c.requires.1 c.code.ensures c.in-New.is in
    (fits_code _ _ _ _ c.tell_form.ensures at.0).1

pub push_array-requires : goal.push_array-requires
push_array-requires c =
    let at = read_there _ c.args.place.method c.args.place.index _ c.code.result.now _ _ c.requires.1 c.code.ensures c.in-NewArray.is in
    makes_array _ _ _ _ at.0 tt

pub push_array-requires-in-NewMulti : goal.push_array-requires-in-NewMulti
push_array-requires-in-NewMulti c =
    let at = read_there _ c.args.place.method c.args.place.index _ c.code.result.now _ _ c.requires.1 c.code.ensures c.in-NewMulti.is in
    makes_array _ _ _ _ at.0 tt

pub unreachable-requires : goal.unreachable-requires
unreachable-requires c =
    let at = read_there _ c.args.place.method c.args.place.index _ c.code.result.now _ _ c.requires.1 c.code.ensures refl in
    makes_one c.args.level _ at.1 (λ to class. c.in_default.not-New to class) c.in_default.not-NewArray (λ to levels. c.in_default.not-NewMulti to levels)

pub returns-in-New : goal.returns-in-New
returns-in-New c =
    let at = read_there _ c.args.place.method c.args.place.index _ c.code.result.now _ _ c.requires.1 c.code.ensures c.in-New.is in
    let made = made_class _ c.args.place c.args.level _ _ _ c.tell_form.ensures at.0 c.class_name.ensures in
    search (rules, made)

pub returns-in-NewArray : goal.returns-in-NewArray
returns-in-NewArray c =
    let at = read_there _ c.args.place.method c.args.place.index _ c.code.result.now _ _ c.requires.1 c.code.ensures c.in-NewArray.is in
    on_ok_weaker c.push_array.result
    (AddsText-weaker _ _ _ _ (λ text typed. made_array c.args.linked.now c.args.place c.args.level 1 _ text (λ m same. same) at.0 typed)) c.push_array.ensures

pub returns-in-NewMulti : goal.returns-in-NewMulti
returns-in-NewMulti c =
    let at = read_there _ c.args.place.method c.args.place.index _ c.code.result.now _ _ c.requires.1 c.code.ensures c.in-NewMulti.is in
    on_ok_weaker c.push_array-in-NewMulti.result
    (AddsText-weaker _ _ _ _ (λ text typed. made_array c.args.linked.now c.args.place c.args.level _ _ text (λ m same. same) at.0 typed)) c.push_array-in-NewMulti.ensures
