use Rattle.std.proofs.Common.{◌≡◌, [], sym, ◌∙◌}
use Rattle.std.proofs.lemmas.Option.{get_or_from_slice_get}
use Rattle.link_rules.specs.Classes.{class_name}
use Rattle.link_classes.specs.Seen.{seen_class}
use Rattle.link_classes.proofs.Growing.{seen_there}
use Rattle.link_classes.proofs.checks.refused.Goals as goal

pub returns-in-Ok : goal.returns-in-Ok
returns-in-Ok c = λ told place e.
    let kind : told ≡ c.args.kind = cc (e) in
    let placed : c.from_string.result ≡ place = cc (e) in
    let class = c.index-class.result.now in
    let named : class_name (seen_class class) ≡ c.text.result.now = get_or_from_slice_get class.names.now class.class.now.name.0 c.text.result.now [] c.text.ensures in (
      kind,
      record {
        class = seen_class class;
        there = seen_there c.args.order.now.classes.items c.args.number class c.requires.number c.index-class.ensures;
        named = named ∙ sym c.in-Ok.ensures.ok ∙ sym c.from_string.ensures ∙ placed;
      },
    )
