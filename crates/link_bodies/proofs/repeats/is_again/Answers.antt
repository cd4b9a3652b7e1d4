use Rattle.std.proofs.Common.{subst}
use Rattle.link_bodies.specs.Places.{IsFirstPlace}
use Rattle.link_bodies.proofs.repeats.is_again.Goals as goal

pub returns-in-None : goal.returns-in-None
returns-in-None c names knows =
    let none = subst (IsFirstPlace names c.args.name) c.in-None.is (c.find.ensures names knows) in
    ((λ h. cc), λ (i, below, there). absurd (none (i, there)))
