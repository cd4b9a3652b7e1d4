use Rattle.std.proofs.Common.{◌≡◌, ◌≢◌, ◌∙◌, ℕ, ◌/◌, ◌^◌, ◌<◌, ◌≤◌, List, length, ap, arith, get_or, drop, below_more, get_or-set_other, get_or-set_same}
use Rattle.std.specs.Int.RustNames.{bit_and, bit_or}
use Rattle.std.proofs.lemmas.List.FromFn.{fill_by_all}
use Rattle.std.proofs.lemmas.Nat.{and_le_r}
use Rattle.weight_laws.specs.Rel.{reached}
use Rattle.weight_laws.proofs.Unions.{reached_fours}
use Rattle.weight_laws.proofs.rel.composed.Goals as goal

-- what four tables of unions give for a word
led : (r low second third high : List ℕ) (w : ℕ) → w < 2 ^ 16
    → ((s : ℕ) → s < 16 → get_or low s 0 ≡ reached s (drop 0 r) 4) → ((s : ℕ) → s < 16 → get_or second s 0 ≡ reached s (drop 4 r) 4)
    → ((s : ℕ) → s < 16 → get_or third s 0 ≡ reached s (drop 8 r) 4) → ((s : ℕ) → s < 16 → get_or high s 0 ≡ reached s (drop 12 r) 4)
    → bit_or (bit_or (bit_or (get_or low (bit_and w 15) 0) (get_or second (bit_and (w / 2 ^ 4) 15) 0)) (get_or third (bit_and (w / 2 ^ 8) 15) 0)) (get_or high (w / 2 ^ 12) 0) ≡ reached w r 16
led r low second third high w fits a b c d =
    let first = a (bit_and w 15) (let h : bit_and w 15 ≤ 15 = and_le_r w 15 in omega arith) in
    let next = b (bit_and (w / 2 ^ 4) 15) (let h : bit_and (w / 2 ^ 4) 15 ≤ 15 = and_le_r (w / 2 ^ 4) 15 in omega arith) in
    let more = c (bit_and (w / 2 ^ 8) 15) (let h : bit_and (w / 2 ^ 8) 15 ≤ 15 = and_le_r (w / 2 ^ 8) 15 in omega arith) in
    let last = d (w / 2 ^ 12) (omega arith) in
    rw (first, next, more, last) (reached_fours w r)

pub loop-word-preserved : goal.loop-word-preserved
loop-word-preserved c =
    let at : c.loop-word.word-index < length c.loop-word.word-items = omega arith in
    let word = led c.args.second.now c.unions-to_3.result c.unions-to_7.result c.unions-to_11.result c.unions-to_15.result
    (get_or c.loop-word.word-items c.loop-word.word-index 0) (omega arith) c.unions-to_3.ensures.each c.unions-to_7.ensures.each c.unions-to_11.ensures.each c.unions-to_15.ensures.each in
    record {
      done = below_more _ _
          (λ k h. let other : k ≢ c.loop-word.word-index = omega arith in rw get_or-set_other (c.loop-word.invariant.done k h))
          (rw get_or-set_same (word ∙ ap (λ (x : ℕ). reached x c.args.second.now 16) (c.loop-word.invariant.kept c.loop-word.word-index (omega arith))));
      kept = λ k h. let other : k ≢ c.loop-word.word-index = omega arith in rw get_or-set_other (c.loop-word.invariant.kept k (omega arith));
    }

pub returns : goal.returns
returns c = fill_by_all (λ i. reached (get_or c.args.first.now i 0) c.args.second.now 16) c.loop-word.word-items 16 0 c.loop-word-test.array_long (λ k h. c.loop-word.invariant.done k (omega arith))
