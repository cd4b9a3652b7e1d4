use Rattle.std.proofs.Common.{◌≡◌, inl, inr, ℕ, suc, ◌+◌, ◌++◌, List, Some, length, slice_get, refl, subst, sym, arith}
use Rattle.lists.proofs.Places.{slice_get-append_left, slice_get-below, slice_get-there}
use Rattle.cert_lines.specs.declared.keys.Spot.{Spot}
use Rattle.cert_trace.specs.Settled.{IsFollowedBack}
use Rattle.cert_trace.proofs.Wanted.{followed_more, less_next, wider_more, wider_none}
use Rattle.cert_trace.proofs.wanting.want_all.Goals as goal

pub loop-at-init : goal.loop-at-init
loop-at-init c = record { wider = wider_none _; followed = λ i spot low. absurd (omega arith) }

pub loop-at-preserved : goal.loop-at-preserved
loop-at-preserved c =
    let was = c.loop-at.invariant in
    let now = c.in_ok-want_back.ensures in
    let keys = c.loop-at.wants.spots.keys in
    let at = c.loop-at.at in
    let less = c.loop-at-test.true in
    let many = c.len.ensures.value in
    record {
      wider = wider_more _ _ _ was.wider now.wider;
      followed = λ i spot low there.
          let before = slice_get-there keys i (omega (arith, low, less, many)) in
          let again = slice_get-append_left keys now.wider.more i before.0 before.1 in
          let here : slice_get (keys ++ now.wider.more) i ≡ Some spot = subst (λ (ks : List Spot). slice_get ks i ≡ Some spot) now.wider.spots there in
          let same : before.0 ≡ spot = cc in
          let was_there : slice_get keys i ≡ Some spot = subst (λ (x : Spot). slice_get keys i ≡ Some x) same before.1 in
          elim (less_next i at low) [
            | inl under ↦ followed_more _ _ now.wider c.args.grounds.now spot (was.followed i spot under was_there)
            | inr is ↦
                let read : slice_get keys at ≡ Some spot = subst (λ (k : ℕ). slice_get keys k ≡ Some spot) is was_there in
                let one : c.key-spot.result ≡ spot = (let key = c.key-spot.ensures in cc) in
                subst (IsFollowedBack c.want_back.new.wants c.args.grounds.now) one now.back
          ];
    }

pub returns-clause-back : goal.returns-clause-back
returns-clause-back c = λ spot has.
    let low = slice_get-below c.loop-at.wants.spots.keys has.0 spot has.1 in
    let all = c.loop-at-test.false in
    let many = c.len.ensures.value in
    c.loop-at.invariant.followed has.0 spot (omega (arith, low, all, many)) has.1
