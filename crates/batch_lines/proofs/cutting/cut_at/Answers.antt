use Rattle.std.proofs.Common.{◌≡◌, ℕ, ◌-◌, Bool, true, false, List, drop, length, take, refl, sym, ap, ◌∙◌, arith}
use Rattle.std.specs.Str.{bytes_eq}
use Rattle.std.proofs.Math.Seq.{take-length}
use Rattle.batch_lines.proofs.Marked.{last_before, last_behind, marked_before, marked_behind, none_before, one_more}
use Rattle.batch_lines.proofs.cutting.cut_at.Goals as goal
use Rattle.batch_lines.proofs.cutting.cut_at.Goals.{then-eq-2, else-eq-2}

-- what the comparison with the mark says of a line
compared : (line mark bytes : List ℕ) (told is : Bool) → mark ≡ bytes → told ≡ bytes_eq line mark → told ≡ is → bytes_eq line bytes ≡ is
compared line mark bytes told is same e f = ap (bytes_eq line) (sym same) ∙ sym e ∙ f

pub returns-then-eq-clause-program : goal.returns-then-eq-clause-program
returns-then-eq-clause-program c =
    marked_before c.args.mark.now c.args.text.now c.loop-line.left.now c.loop-line.at c.loop-line.invariant c.in-Some.line.now c.in-Some.behind.now c.in-Some.ensures.some
    c.in-Some.ensures.first (compared c.in-Some.line.now c.as_bytes.result.now c.args.mark.now c.eq.result true c.as_bytes.ensures.value c.eq.ensures c.if-eq.true)

pub returns-then-eq-clause-rest : goal.returns-then-eq-clause-rest
returns-then-eq-clause-rest c =
    marked_behind c.args.mark.now c.args.text.now c.loop-line.left.now c.loop-line.at c.loop-line.invariant c.in-Some.line.now c.in-Some.behind.now c.in-Some.ensures.some
    c.in-Some.ensures.first (compared c.in-Some.line.now c.as_bytes.result.now c.args.mark.now c.eq.result true c.as_bytes.ensures.value c.eq.ensures c.if-eq.true)

pub loop-line-preserved : goal.loop-line-preserved
loop-line-preserved c =
    one_more c.args.mark.now c.args.text.now c.loop-line.left.now c.loop-line.at c.loop-line.invariant c.in-Some.line.now c.in-Some.behind.now c.in-Some.ensures.some
    c.in-Some.ensures.first (compared c.in-Some.line.now c.as_bytes.result.now c.args.mark.now c.eq.result false c.as_bytes.ensures.value c.eq.ensures c.if-eq.false) _ refl

pub returns-clause-program : goal.returns-clause-program
returns-clause-program c = elim c.if-eq-2.branch [
  | then-eq-2 w ↦
      ap (λ n. take n c.args.text.now) w.end-is
      ∙ last_before c.args.mark.now c.args.text.now c.loop-line.left.now c.loop-line.at c.loop-line.invariant c.in_default.ensures.none
      (compared c.loop-line.left.now c.as_bytes-2.result.now c.args.mark.now c.eq-2.result true c.as_bytes-2.ensures.value c.eq-2.ensures w.if-eq-2.true)
  | else-eq-2 w ↦
      ap (λ n. take n c.args.text.now) w.end-is ∙ take-length c.args.text.now
      ∙ none_before c.args.mark.now c.args.text.now c.loop-line.left.now c.loop-line.at c.loop-line.invariant c.in_default.ensures.none
      (compared c.loop-line.left.now c.as_bytes-2.result.now c.args.mark.now c.eq-2.result false c.as_bytes-2.ensures.value c.eq-2.ensures w.if-eq-2.false)
]

pub returns-clause-rest : goal.returns-clause-rest
returns-clause-rest c =
    let none : length c.args.text.now - length c.args.text.now ≡ 0 = omega arith in
    ap (λ n. take n (drop (length c.args.text.now) c.args.text.now)) none
    ∙ sym (last_behind c.args.mark.now c.args.text.now c.loop-line.left.now c.loop-line.at c.loop-line.invariant c.in_default.ensures.none)
