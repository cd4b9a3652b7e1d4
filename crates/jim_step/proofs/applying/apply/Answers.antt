use Rattle.std.proofs.Common.{◌≡◌, ◌<◌, Some, arith, get_or, slice_get}
use Rattle.std.proofs.lemmas.Option.{slice_get-get_or}
use Rattle.std.proofs.lemmas.Result.{on_ok_weaker}
use Rattle.jim_step.proofs.applying.apply.Goals as goal

pub returns-in-Raises-clause-ok : goal.returns-in-Raises-clause-ok
returns-in-Raises-clause-ok c =
    let below : c.in-Raises.kind < 6 = rw c.in-Raises.is at c.requires.about.fits in
    let there : slice_get c.args.classes.now.exceptions c.in-Raises.kind ≡ Some (get_or c.args.classes.now.exceptions c.in-Raises.kind 0) =
    slice_get-get_or c.args.classes.now.exceptions c.in-Raises.kind 0 (omega (arith, c.requires.named.six)) in
    on_ok_weaker c.raise.result
    (λ moves at stands. rw c.in-Raises.is (
      get_or c.args.classes.now.exceptions c.in-Raises.kind 0,
      c.requires.named.exceptions c.in-Raises.kind (get_or c.args.classes.now.exceptions c.in-Raises.kind 0) there,
      moves at stands,
    ))
    c.raise.ensures.ok
