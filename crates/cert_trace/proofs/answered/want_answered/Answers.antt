use Rattle.std.proofs.Common.{◌≡◌, ◌∙◌, inl, inr, ℕ, suc, ◌+◌, List, Some, length, slice_get, ap, refl, subst, sym, arith}
use Rattle.std.proofs.lemmas.Option.{slice_get-get_or}
use Rattle.lists.proofs.Places.{slice_get-below}
use Rattle.link_sites.specs.declared.site.Site.{Site}
use Rattle.spds_rules.specs.Answers.{IsAnswered}
use Rattle.cert_laws.proofs.Sound.{some_same}
use Rattle.cert_work.specs.Wants.{IsEverywhere}
use Rattle.cert_trace.proofs.Wanted.{less_next}
use Rattle.cert_trace.proofs.answered.want_answered.Goals as goal

pub loop-number-init : goal.loop-number-init
loop-number-init c = record { ahead = refl; wanted = λ p q n solved target i o low. absurd (omega arith) }

pub loop-number-preserved : goal.loop-number-preserved
loop-number-preserved c =
    let number = c.loop-number.number in
    let sites = c.args.demand.now.sites in
    let next = c.in_ok-number.ensures in
    let first = slice_get-get_or _ _ _ c.loop-number-test.true in
    record {
      ahead = c.in_ok-want_if.ensures.ahead ∙ c.loop-number.invariant.ahead;
      wanted = λ p q n solved target i o low there is. elim (less_next i number (omega (arith, low, next))) [
        | inl under ↦ c.in_ok-want_if.ensures.kept o (c.loop-number.invariant.wanted p q n solved target i o under there is)
        | inr here ↦
            let again : slice_get sites number ≡ Some o = subst (λ (k : ℕ). slice_get sites k ≡ Some o) here there in
            let same = some_same (sym first ∙ subst (λ (xs : List Site). slice_get xs number ≡ Some o) (sym c.sites-sites.ensures) again) in
            let read = subst (λ (x : Site). slice_get sites number ≡ Some x) (sym same) again in
            subst (IsEverywhere c.want_if.new.wants) same
            (c.in_ok-want_if.ensures.wanted p q c.args.demand.now n solved read target (subst (IsAnswered p q n) (sym same) is))
      ];
    }

pub returns-clause-wanted : goal.returns-clause-wanted
returns-clause-wanted c = λ p q n solved target i o there is.
    let low = slice_get-below c.args.demand.now.sites i o there in
    let many = ap length c.sites-sites.ensures in
    let all = c.loop-number-test.false in
    c.loop-number.invariant.wanted p q n solved target i o (omega (arith, low, many, all)) there is
