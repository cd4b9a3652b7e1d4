use Rattle.std.proofs.Common.{◌≡◌, List, map, drop}
use Rattle.link_rules.specs.Classes.{DeclaredClass, IsCompleted}
use Rattle.link_classes.specs.Seen.{IsOrder, seen_classes}
use Rattle.link_classes.proofs.order.ClassOrder.add_new.Given as goal

abbrev pub invariant-loop-class : goal.invariant-loop-class
invariant-loop-class l = record {
  goes_on : (all : List DeclaredClass) → IsCompleted (seen_classes l.self.classes.items) (map (λ c. record { names = l.program.names; class = c }) (drop l.class-index l.classes)) all
      → IsCompleted (seen_classes l.fn.self.classes.items) (map (λ c. record { names = l.program.names; class = c }) l.classes) all;
  order : IsOrder l.self;
  names : l.self.all.now ≡ l.fn.self.all.now;
}
