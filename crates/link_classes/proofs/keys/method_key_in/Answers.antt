use Rattle.std.proofs.Common.{◌≡◌, ◌<◌, length, map, subst}
use Rattle.std.proofs.lemmas.List.{take_all}
use Rattle.std.proofs.lemmas.List.Elements.{All-push}
use Rattle.std.proofs.lemmas.Option.{slice_get-get_or}
use Rattle.jim_ast.specs.declared.names.NameId.{NameId}
use Rattle.link_rules.specs.Conditions.{type_names}
use Rattle.link_rules.specs.Names.{type_key}
use Rattle.link_classes.specs.Classes.{texts_at}
use Rattle.link_classes.specs.Keyed.{IsTypeWithin, type_of}
use Rattle.link_classes.proofs.Growing.{map-more}
use Rattle.link_classes.proofs.Within.{name_at, part_all}
use Rattle.link_classes.proofs.keys.method_key_in.Goals as goal

pub type_in-param-requires : goal.type_in-param-requires
type_in-param-requires c = part_all (λ (id : NameId). id.0 < length c.args.ids.now) type_names c.args.params.now c.loop-ty.ty-index _ c.requires.params
    (slice_get-get_or c.args.params.now c.loop-ty.ty-index _ c.loop-ty-test.true)

pub loop-ty-preserved : goal.loop-ty-preserved
loop-ty-preserved c = record {
  same = λ texts. rw c.in_ok-push.ensures.items
      (map-more (λ t. type_key texts (type_of t)) (type_key (texts_at texts c.args.ids.now)) c.loop-ty.types.items c.type_in-param.result c.args.params.now c.loop-ty.ty-index _
      (c.loop-ty.invariant.same texts) c.loop-ty-test.true (slice_get-get_or c.args.params.now c.loop-ty.ty-index _ c.loop-ty-test.true) (c.type_in-param.ensures.same texts));
  within = λ texts all. rw c.in_ok-push.ensures.items
      (All-push (IsTypeWithin texts) c.loop-ty.types.items c.type_in-param.result (c.loop-ty.invariant.within texts all) (c.type_in-param.ensures.within texts all));
}

pub returns : goal.returns
returns c = λ texts all.
    let same = subst (λ ps. map (λ t. type_key texts (type_of t)) c.loop-ty.types.items ≡ map (type_key (texts_at texts c.args.ids.now)) ps)
    (take_all c.loop-ty.ty-index c.args.params.now c.loop-ty-test.false) (c.loop-ty.invariant.same texts) in
    let name = name_at texts c.args.ids.now c.args.name c.requires.name in
    let result = c.type_in-result.ensures.same texts in
    record {
      stands = λ i. record { name = name i; params = same i; result = result i; is_static = c.args.is_static };
      within = record {
        name = all c.args.name.0 (record { 0 = 0 }) c.requires.name;
        params = c.loop-ty.invariant.within texts all;
        result = c.type_in-result.ensures.within texts all;
      };
    }
