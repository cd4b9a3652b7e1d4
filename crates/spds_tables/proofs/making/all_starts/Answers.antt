use Rattle.std.proofs.Common.{◌≡◌, ◌↔◌, List, length, subst, sym, inl, inr, length-append, ◌∷◌, [], arith}
use Rattle.std.proofs.lemmas.Bool.{cases_lt}
use Rattle.lists.specs.Lists.{Has}
use Rattle.lists.proofs.Places.{slice_get-below}
use Rattle.spds_tables.specs.declared.numbered.StartAt.{StartAt}
use Rattle.spds_tables.specs.Making.{IsStartHere}
use Rattle.spds_tables.proofs.Made.{gathered_here, row_last, row_more}
use Rattle.spds_tables.proofs.making.all_starts.Goals as goal

pub loop-site-preserved : goal.loop-site-preserved
loop-site-preserved c =
    let was = c.loop-site.invariant in
    let old = c.loop-site.all.items in
    let new = c.in_ok-starts_among.field-0 in
    let p = c.args.linked.now in
    let nodes = c.args.demand.now.nodes in
    rw c.in_ok-push.ensures.items (record {
      count = omega (arith, length-append old (new ∷ []), was.count);
      each = λ site o below there. elim (cases_lt site c.loop-site.site) [
        | inl less ↦ λ s.
            subst (λ (xs : List StartAt). Has xs s ↔ IsStartHere p nodes o s) (sym (row_more old new site (let n = was.count in omega arith))) (was.each site o less there s)
        | inr more ↦ λ s.
            let last : site ≡ length old = (let n = was.count in omega arith) in
            let same : c.loop-site.site ≡ site = omega arith in
            let numbers = c.starts.ensures o (rw same there) in
            let gathered = rw c.nodes.ensures at c.in_ok-starts_among.ensures in
            rw (last, row_last old new) (gathered_here p nodes o c.starts.result.now new.items numbers gathered s)
      ];
    })

pub returns-clause-each : goal.returns-clause-each
returns-clause-each c site o there s =
    let below = slice_get-below c.args.demand.now.sites site o there in
    c.loop-site.invariant.each site o (omega arith) there s
