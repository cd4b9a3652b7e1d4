use Rattle.call_side.proofs.Coding.{either_way, work_led, work_same, work_started}
use Rattle.call_side.proofs.work.CallWork.add_start.Goals as goal

pub add_start-requires : goal.add_start-requires
add_start-requires c = record {
  led = work_led c.self.inside.common.value c.self.inside.work c.self.invariant c.args.start.base c.if-start-ge-BASES.false (rw (← c.self.view_is) at c.requires.led);
}

pub invariant_of-self : goal.invariant_of-self
invariant_of-self c =
    either_way c.add_start.result _ _ _ c.add_start.ensures.ok c.add_start.ensures.err
    (work_started c.self.inside.common.value c.self.inside.work c.add_start.new.self c.self.invariant c.args.start (c.if-start-ge-NODES.false, c.if-start-ge-BASES.false))
    (work_same c.self.inside.common.value c.self.inside.work c.add_start.new.self c.self.invariant)
