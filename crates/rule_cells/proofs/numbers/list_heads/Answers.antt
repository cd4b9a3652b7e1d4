use Rattle.std.proofs.Common.{◌≡◌, ◌+◌, ◌∷◌, ◌++◌, [], List, ℕ, arith, length, sym, ap, ◌∙◌, subst}
use Rattle.rule_cells.specs.Renamed.{AreHeadsTo, with_head}
use Rattle.rule_cells.proofs.Numbering.{heads_more, heads_none}
use Rattle.rule_cells.proofs.numbers.list_heads.Goals as goal

pub loop-node-init : goal.loop-node-init
loop-node-init g c = rw (c.new-heads.ensures.items, c.in_ok-numbers.ensures.items) (heads_none g.W.Weight.domain c.args.cells.now)

pub loop-node-preserved : goal.loop-node-preserved
loop-node-preserved g c =
    let d = g.W.Weight.domain in
    let cells = c.args.cells.now in
    let heads = c.loop-node.heads in
    let numbers = c.loop-node.numbers in
    let number : c.len-number.result ≡ length heads.items = c.len-number.ensures ∙ heads.ok.0 in
    let more = heads_more d cells c.loop-node.node heads.items numbers.items c.loop-node.invariant in
    subst (λ (hs : List ℕ). AreHeadsTo d cells (c.loop-node.node + 1) hs c.push.new.self.items) (sym c.in_ok-list_head.ensures)
    (subst (λ (ns : List ℕ). AreHeadsTo d cells (c.loop-node.node + 1) (with_head d cells heads.items c.loop-node.node) ns) (sym (c.in_ok-push.ensures.items ∙ ap (λ (n : ℕ). numbers.items ++ n ∷ []) number)) more)

pub returns : goal.returns
returns g c =
    let all : c.loop-node.node ≡ c.args.count = omega arith in
    subst (λ (n : ℕ). AreHeadsTo g.W.Weight.domain c.args.cells.now n c.loop-node.heads.items c.loop-node.numbers.items) all c.loop-node.invariant
