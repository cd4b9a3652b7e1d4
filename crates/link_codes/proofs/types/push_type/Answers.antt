use Rattle.std.specs.String.{string_bytes}
use Rattle.link_classes.specs.Classes.{texts_at}
use Rattle.link_rules.specs.Names.{base_text}
use Rattle.link_codes.proofs.Texts.{text_more}
use Rattle.link_codes.proofs.types.push_type.Goals as goal

pub loop-preserved : goal.loop-preserved
loop-preserved c =
    text_more (string_bytes c.push_str.new.self) (string_bytes c.loop.text) (string_bytes c.args.text.now) (base_text (texts_at c.args.names.now c.args.ids.now) c.args.ty.base) c.loop.counter
    c.loop.invariant c.in_ok-push_str.ensures.bytes
