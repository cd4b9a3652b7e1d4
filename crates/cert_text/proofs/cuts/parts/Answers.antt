use Rattle.cert_text.proofs.Marks.{parts_end, parts_next}
use Rattle.cert_text.proofs.cuts.parts.Goals as goal

pub loop-part-preserved : goal.loop-part-preserved
loop-part-preserved c =
    parts_next c.args.mark c.loop-part.parts.items c.in-Some.part c.push.new.self.items c.loop-part.rest.now c.in-Some.behind.now c.args.text.now c.in_ok-push.ensures.items c.in-Some.ensures.some
    c.in-Some.ensures.first c.loop-part.invariant

pub returns : goal.returns
returns c = parts_end c.args.mark c.loop-part.parts.items c.loop-part.rest c.push-2.new.self.items c.args.text.now c.in_ok-push-2.ensures.items c.in_default.ensures.none c.loop-part.invariant
