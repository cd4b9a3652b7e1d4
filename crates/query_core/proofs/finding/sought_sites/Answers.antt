use Rattle.std.proofs.Common.{◌≡◌, ℕ, ◌+◌, List, [], ◌∷◌, ◌++◌, Some, slice_get, get_or, length, take, ap, sym, subst, ◌∙◌, arith}
use Rattle.std.proofs.lemmas.Option.{get_or_from_slice_get}
use Rattle.link_sites.specs.declared.site.Site.{Site}
use Rattle.lists.proofs.Places.{slice_get-there}
use Rattle.query_core.specs.Sought.{IsSought, asked_of}
use Rattle.query_core.proofs.Kept.{AreKept, kept_all, kept_more, kept_same}
use Rattle.query_core.proofs.Posed.{sought_site}
use Rattle.query_core.proofs.finding.sought_sites.Goals as goal
use Rattle.query_core.proofs.finding.sought_sites.Goals.{then-branch+in_ok-push, else-branch}

-- what was read and pushed is the site there
pushed : (kept read all new : List Site) (i : ℕ) (x d : Site) → read ≡ all → slice_get all i ≡ Some x → new ≡ kept ++ get_or read i d ∷ [] → new ≡ kept ++ x ∷ []
pushed kept read all new i x d same there is =
    let at : get_or all i d ≡ x = get_or_from_slice_get all i x d there in
    is ∙ ap (λ (xs : List Site). kept ++ get_or xs i d ∷ []) same ∙ ap (λ (y : Site). kept ++ y ∷ []) at

pub loop-site-preserved : goal.loop-site-preserved
loop-site-preserved c = λ p a b posed.
    let all = c.args.demand.now.sites in
    let size = c.sites-site-end.ensures in
    let there = slice_get-there all c.loop-site.site (let less = c.loop-site-test.true in omega (arith, ap length size, less)) in
    let tells = c.in_ok-is_sought.ensures p a b c.args.demand.now there.0 posed there.1 in
    let old = c.loop-site.invariant p a b posed in
    elim c.if-branch.branch [
      | then-branch+in_ok-push w ↦ rw w.sites-is
          (subst (λ (kept : List Site). AreKept p (IsSought p (asked_of a b) a b) (take (c.loop-site.site + 1) all) kept)
          (sym (pushed c.loop-site.sites.items w.sites.result.now all w.push.new.self.items c.loop-site.site there.0 _ w.sites.ensures there.1 w.in_ok-push.ensures.items))
          (kept_more p (IsSought p (asked_of a b) a b) all c.loop-site.sites.items c.loop-site.site there.0 there.1 old posed.demand.sites.ordered
          (tells.0 w.if-branch.true)))
      | else-branch w ↦ rw w.sites-is
          (kept_same p (IsSought p (asked_of a b) a b) all c.loop-site.sites.items c.loop-site.site there.0 there.1 old
          (λ sought. cc (tells.1 sought, w.if-branch.false)))
    ]

pub returns : goal.returns
returns c = λ p a b posed.
    let size = c.sites-site-end.ensures in
    kept_all p (IsSought p (asked_of a b) a b) c.args.demand.now.sites c.loop-site.sites.items c.loop-site.site
    (let past = c.loop-site-test.false in omega (arith, ap length size, past))
    (c.loop-site.invariant p a b posed)
    (λ o sought. (posed.demand.sites.each o).1 (sought_site p (asked_of a b) a b o sought))
