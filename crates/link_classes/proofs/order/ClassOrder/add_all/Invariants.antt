use Rattle.std.proofs.Common.{◌≡◌, ◌++◌, map, take}
use Rattle.link_classes.specs.Seen.{IsOrder, seen_classes}
use Rattle.link_classes.proofs.order.ClassOrder.add_all.Given as goal

abbrev pub invariant-loop-class : goal.invariant-loop-class
invariant-loop-class l = record {
  added : seen_classes l.self.classes.items ≡ seen_classes l.fn.self.classes.items ++ map (λ c. record { names = l.program.names; class = c }) (take l.class-index l.classes);
  order : IsOrder l.self;
  names : l.self.all.now ≡ l.fn.self.all.now;
}
