use Rattle.std.proofs.Common.{◌≡◌, ℕ, ◌<◌, Some, length, subst, arith}
use Rattle.std.specs.Prelude.{◌↔◌}
use Rattle.std.proofs.lemmas.List.{length-map}
use Rattle.link_rules.specs.Classes.{IsNamed}
use Rattle.link_rules.specs.Names.{text_of}
use Rattle.link_faults.proofs.Named.{text_of-map}
use Rattle.link_faults.proofs.mentioned.class_number.Goals as goal

pub returns : goal.returns
returns c =
    let m = c.args.method.now in
    let below : c.args.class.0 < length m.ids.now = omega (arith, length-map m.ids.now (text_of m.all.now)) in
    let same = text_of-map c.args.classes.now.texts m.ids.now m.all.now c.args.class (record { 0 = 0 }) c.requires.known.all below in
    subst (λ t. (n : ℕ) → (c.number.result ≡ Some n) ↔ IsNamed c.args.classes.now.world.classes t n) same c.number.ensures
