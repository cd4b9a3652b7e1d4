use Rattle.std.proofs.Common.{◌≡◌, ℕ, List, [], ◌∷◌, Bool, true, false, not, IsTrue, length, refl, sym, ap, subst, true≢false}
use Rattle.std.specs.Bool.{◌==◌}
use Rattle.std.proofs.Math.Dec.{eqb-suc-zero}
use Rattle.lists.specs.Lists.{Has}
use Rattle.type_track.proofs.Posing.{at_held, held_at}
use Rattle.type_track.proofs.search.may_come.Goals as goal

-- a list that isn't empty has an element, and one that has one isn't empty
some_first : (xs : List ℕ) → IsTrue (not (length xs == 0)) → (i : ℕ) × Has xs i
some_first [] h = absurd (true≢false (sym h))
some_first (x ∷ xs) h = (x, (0, refl))

first_some : (xs : List ℕ) (i : ℕ) → Has xs i → IsTrue (not (length xs == 0))
first_some [] i has = absurd (let no = has.1 in cc)
first_some (x ∷ xs) i has = ap not (eqb-suc-zero (length xs))

pub returns : goal.returns
returns c = λ q a posed there.
    let s = c.args.search.now in
    let site = c.args.site in (
      (λ yes.
          let i = some_first c.at.result.now (subst (λ (b : Bool). IsTrue (not b)) c.is_empty.ensures yes) in
          let r = held_at q s posed site a there i.0 (subst (λ (xs : List ℕ). Has xs i.0) c.at.ensures i.1) in
          (r.0, (i.0, r.1), r.2)),
      (λ h.
          let at = h.1 in
          let has = at_held q s posed site a there at.0 h.0 at.1 h.2 in
          subst (λ (b : Bool). IsTrue (not b)) (sym c.is_empty.ensures) (first_some c.at.result.now at.0 (subst (λ (xs : List ℕ). Has xs at.0) (sym c.at.ensures) has))),
    )
