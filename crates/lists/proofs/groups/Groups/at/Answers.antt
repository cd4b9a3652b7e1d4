use Rattle.std.proofs.Common.{◌≡◌, [], Some, slice_get, refl, ap, sym, ◌∙◌}
use Rattle.lists.specs.Filings.{row}
use Rattle.lists.proofs.Grouped.{found_in-exact}
use Rattle.lists.proofs.groups.Groups.at.Goals as goal

pub returns-in-Some : goal.returns-in-Some
returns-in-Some g c =
    let keys = c.self.inside.numbers.keys in
    let lists = c.self.inside.rows in
    let number = c.in-Some.number in
    let at : slice_get keys number ≡ Some c.args.key = (c.in-Some.ensures number).0 refl in
    rw (← c.self.view_is) (c.get.ensures ∙ sym (found_in-exact g.K.PartialEq.eq g.met.K.Eq.laws g.met.K.Key.same keys (row lists) c.args.key (row lists number)
    (λ i here. let e : Some number ≡ Some i = (c.in-Some.ensures i).1 here in let same : i ≡ number = cc in ap (row lists) same) (λ missing. absurd (missing (number, at)))))

pub returns-in-None : goal.returns-in-None
returns-in-None g c =
    let keys = c.self.inside.numbers.keys in
    let lists = c.self.inside.rows in
    rw (← c.self.view_is) (sym (found_in-exact g.K.PartialEq.eq g.met.K.Eq.laws g.met.K.Key.same keys (row lists) c.args.key []
    (λ i here. let e = (c.in-None.ensures i).1 here in cc) (λ missing. refl)))
