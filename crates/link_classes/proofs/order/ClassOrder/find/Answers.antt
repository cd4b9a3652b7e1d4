use Rattle.std.proofs.Common.{◌≡◌, length, inr, arith}
use Rattle.std.proofs.lemmas.List.{length-map}
use Rattle.link_classes.specs.Seen.{seen_class, seen_classes}
use Rattle.link_classes.proofs.Within.{named_has}
use Rattle.link_classes.proofs.order.ClassOrder.find.Goals as goal

pub returns-in-None : goal.returns-in-None
returns-in-None c =
    let counted : c.len.result ≡ length (seen_classes c.args.self.now.classes.items) =
    omega (arith, c.len.ensures, c.args.self.now.classes.ok.0, length-map c.args.self.now.classes.items seen_class) in
    inr (counted, λ m named. c.in-None.ensures.none (named_has c.args.self.now c.args.name.now m c.requires named))
