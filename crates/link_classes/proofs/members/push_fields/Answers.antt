use Rattle.std.proofs.Common.{refl, arith}
use Rattle.std.proofs.lemmas.Grind.{common_steps}
use Rattle.std.proofs.lemmas.List.Elements.{All-push}
use Rattle.std.proofs.lemmas.Option.{slice_get-get_or}
use Rattle.link_classes.specs.Seen.{IsFieldSeen}
use Rattle.link_classes.proofs.Known.{seen_field_of}
use Rattle.link_classes.proofs.members.push_fields.Goals as goal

pub loop-decl-preserved : goal.loop-decl-preserved
loop-decl-preserved c = record {
  pushed = grind (arith, common_steps);
  few = omega (arith, c.in_ok-push.ensures.len, c.push.new.self.ok.0, c.if-len.false, c.len.ensures, c.loop-decl.fields.ok.0);
  known = rw c.in_ok-push.ensures.items
      (All-push (IsFieldSeen c.args.all.now) c.loop-decl.fields.items _ c.loop-decl.invariant.known
      (seen_field_of c.args.all.now c.args.class.now c.loop-decl.decl-index _ c.requires.seen
      (rw (← c.as_slice-decls.ensures) (slice_get-get_or c.as_slice-decls.result.now c.loop-decl.decl-index _ c.loop-decl-test.true)) refl refl));
}
