use Rattle.std.proofs.Common.{◌≡◌, ℕ, [], ◌∷◌, inl, inr, sym, subst, length-append, arith}
use Rattle.lists.proofs.Places.{slice_get-pushed}
use Rattle.spds_solve.proofs.refresh.all_tables.Goals as goal
use Rattle.spds_tables.specs.declared.tables.SiteTables.{SiteTables}
use Rattle.spds_tables.specs.Tables.{AreBuilt}

pub loop-site-preserved : goal.loop-site-preserved
loop-site-preserved c =
    let was = c.loop-site.invariant in
    let old = c.loop-site.all.items in
    let new = c.in_ok-new.field-0 in
    let parts = c.args.parts.now in
    rw c.in_ok-push.ensures.items (record {
      count = omega (arith, length-append old (new ∷ []), was.count);
      each = λ site t there. elim (slice_get-pushed old new site t there) [
        | inl before ↦ was.each site t before
        | inr last ↦
            let at : site ≡ c.loop-site.site = (let e = last.0 in let n = was.count in omega arith) in
            subst (λ (x : SiteTables). AreBuilt parts site [] x) (sym last.1) (subst (λ (n : ℕ). AreBuilt parts n [] new) (sym at) c.in_ok-new.ensures)
      ];
    })
