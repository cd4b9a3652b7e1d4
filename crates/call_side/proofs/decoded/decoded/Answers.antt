use Rattle.std.proofs.Common.{◌+◌, ◌++◌, ◌∷◌, [], ℕ, get_or, sym, subst, inl, inr, arith}
use Rattle.call_side.proofs.Decoding.{decoded_all, decoded_alone, decoded_behind, decoded_none, decoded_short, IsDecodedTo}
use Rattle.call_side.proofs.decoded.decoded.Goals as goal

pub loop-at-init : goal.loop-at-init
loop-at-init c = rw c.new-plain.ensures.items (decoded_none c.args.word.now)

pub returns-then-own-word : goal.returns-then-own-word
returns-then-own-word c = elim c.own_place-own.ensures [
  | inl p ↦ decoded_short c.args.word.now c.loop-at.plain.items c.loop-at.at 0 c.loop-at.invariant c.loop-at-test.true p.0 (omega arith)
  | inr p ↦ absurd (omega arith)
]

pub loop-at-preserved : goal.loop-at-preserved
loop-at-preserved c =
    let word = c.args.word.now in
    let plain = c.loop-at.plain.items in
    rw c.in_ok-push.ensures.items
    (elim c.own_place-own.ensures [
      | inl p ↦ subst (λ (n : ℕ). IsDecodedTo word (n + 1) (plain ++ get_or word n 0 ∷ [])) (sym p.1)
          (decoded_behind word plain c.loop-at.at 0 c.loop-at.invariant c.loop-at-test.true p.0 (omega arith))
      | inr p ↦ subst (λ (n : ℕ). IsDecodedTo word (n + 1) (plain ++ get_or word n 0 ∷ [])) (sym p.1)
          (decoded_alone word plain c.loop-at.at 0 c.loop-at.invariant c.loop-at-test.true p.0)
    ])

pub returns : goal.returns
returns c = decoded_all c.args.word.now c.loop-at.plain.items c.loop-at.at c.loop-at.invariant c.loop-at-test.false
