use Rattle.std.proofs.Common.{◌≡◌, [], ◌∷◌, refl, sym, ◌∙◌}
use Rattle.cert_text.specs.Heads.{line_of_five}
use Rattle.cert_text.specs.Words.{AreWordsOf}
use Rattle.cert_text.proofs.LineWords.{five, five_words}
use Rattle.cert_text.proofs.NodeWords.{none_iff}
use Rattle.cert_text.proofs.lines.of_five.Goals as goal

pub returns-in_err-head : goal.returns-in_err-head
returns-in_err-head c =
    rw c.from_residual.ensures (none_iff {P = AreWordsOf (c.args.head_word.now ∷ c.args.side_word.now ∷ c.args.from.now ∷ c.args.second.now ∷ c.args.node_word.now ∷ [])} (λ l is.
    let f = five c.args.head_word.now c.args.side_word.now c.args.from.now c.args.second.now c.args.node_word.now l is in
    let read = (c.in_err-head.ensures f.h).1 f.is_head in cc))

pub returns-in_err-side : goal.returns-in_err-side
returns-in_err-side c =
    rw c.from_residual-in_err-side.ensures (none_iff {P = AreWordsOf (c.args.head_word.now ∷ c.args.side_word.now ∷ c.args.from.now ∷ c.args.second.now ∷ c.args.node_word.now ∷ [])} (λ l is.
    let f = five c.args.head_word.now c.args.side_word.now c.args.from.now c.args.second.now c.args.node_word.now l is in
    let read = (c.in_err-side.ensures f.s).1 f.is_side in cc))

pub returns : goal.returns
returns c = λ l. (
  λ e. five_words c.args.head_word.now c.args.side_word.now c.args.from.now c.args.second.now c.args.node_word.now c.in_ok-head.head c.in_ok-side.side c.in_ok-from.from c.in_ok-second.second c.in_ok-node.node l
      ((c.in_ok-head.ensures c.in_ok-head.head).0 refl) ((c.in_ok-side.ensures c.in_ok-side.side).0 refl) ((c.in_ok-from.ensures c.in_ok-from.from).0 refl)
      ((c.in_ok-second.ensures c.in_ok-second.second).0 refl) ((c.in_ok-node.ensures c.in_ok-node.node).0 refl) (sym c.line_of_five.ensures ∙ e),
  λ is.
      let f = five c.args.head_word.now c.args.side_word.now c.args.from.now c.args.second.now c.args.node_word.now l is in
      let e1 = (c.in_ok-head.ensures f.h).1 f.is_head in
      let h : c.in_ok-head.head ≡ f.h = cc in
      let e2 = (c.in_ok-side.ensures f.s).1 f.is_side in
      let s : c.in_ok-side.side ≡ f.s = cc in
      let e3 = (c.in_ok-from.ensures f.i).1 f.is_from in
      let i : c.in_ok-from.from ≡ f.i = cc in
      let e4 = (c.in_ok-second.ensures f.j).1 f.is_second in
      let j : c.in_ok-second.second ≡ f.j = cc in
      let e5 = (c.in_ok-node.ensures f.n).1 f.is_node in
      let n : c.in_ok-node.node ≡ f.n = cc in
      c.line_of_five.ensures ∙ (λ k. line_of_five (h k) (s k) (i k) (j k) (n k)) ∙ f.is_line,
)
