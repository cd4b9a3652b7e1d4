use Rattle.std.proofs.Common.{◌≡◌, ◌∙◌, List, Ok, Err, ap, subst, sym, ℕ}
use Rattle.cert_make.specs.Numbers.{AreNumbers, up_to}
use Rattle.cert_make.proofs.Ascending.{up_to_searched}
use Rattle.cert_make.proofs.needs.Needed.up_to.Goals as goal

pub returns-in-Ok : goal.returns-in-Ok
returns-in-Ok c =
    let are = subst AreNumbers (sym c.deref.ensures.value) c.self.invariant in
    let is : c.deref.result.now ≡ c.args.self.now = let a = c.deref.ensures.value in let b = c.self.view_is in cc in
    let s = up_to_searched c.deref.result.now are.ascending c.args.number (Ok c.in-Ok.at) c.in-Ok.ensures.position in
    sym s.1 ∙ ap (λ (xs : List ℕ). up_to xs c.args.number) is

pub returns-in-Err : goal.returns-in-Err
returns-in-Err c =
    let are = subst AreNumbers (sym c.deref.ensures.value) c.self.invariant in
    let is : c.deref.result.now ≡ c.args.self.now = let a = c.deref.ensures.value in let b = c.self.view_is in cc in
    let s = up_to_searched c.deref.result.now are.ascending c.args.number (Err c.in-Err.at) c.in-Err.ensures.position in
    sym s.1 ∙ ap (λ (xs : List ℕ). up_to xs c.args.number) is
