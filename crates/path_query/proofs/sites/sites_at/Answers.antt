use Rattle.std.proofs.Common.{◌<◌, List, length, get_or, sym, subst}
use Rattle.std.proofs.lemmas.Option.{slice_get-get_or}
use Rattle.link_sites.specs.declared.site.Site.{Site}
use Rattle.path_query.proofs.Numbering.{each_put}
use Rattle.path_query.proofs.sites.sites_at.Goals as goal

pub bounds-sites-number : goal.bounds-sites-number
bounds-sites-number c =
    let i = c.loop-number.number-index in
    let k = get_or c.args.numbers.now i 0 in
    subst (λ (xs : List Site). k < length xs) (sym c.sites.ensures) (c.requires k (i, slice_get-get_or c.args.numbers.now i 0 c.loop-number-test.true))

pub loop-number-preserved : goal.loop-number-preserved
loop-number-preserved c =
    let i = c.loop-number.number-index in
    let k = get_or c.args.numbers.now i 0 in
    each_put c.args.demand.now.sites c.sites.result.now c.args.numbers.now i c.loop-number.sites.items c.push.new.self.items _ c.sites.ensures c.loop-number-test.true
    (c.requires k (i, slice_get-get_or c.args.numbers.now i 0 c.loop-number-test.true)) c.loop-number.invariant c.in_ok-push.ensures.items
