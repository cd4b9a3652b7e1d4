use Rattle.std.proofs.Common.{◌≡◌, ◌+◌, ◌<◌, length, ap, ◌∙◌, arith}
use Rattle.std.proofs.lemmas.Grind.{get_or_default_zero}
use Rattle.lists.specs.Chains.{slot_of}
use Rattle.lists.proofs.Filed.{IsFiled-put}
use Rattle.lists.proofs.chains.Chains.put.Goals as goal

pub returns-clause-filed : goal.returns-clause-filed
returns-clause-filed g c = λ keys last filed.
    let heads = c.args.self.now.heads in
    let as_many : c.len.result ≡ length heads.items = c.len.ensures ∙ heads.ok.0 in
    let within : c.slot-slot.result < length heads.items = omega (arith, c.slot-slot.ensures.within, as_many) in
    IsFiled-put g.K.Key.spread keys heads.items c.args.self.now.next.items c.args.key c.args.number filed last c.requires.room
    c.slot-slot.result (c.slot-slot.ensures.value ∙ ap (slot_of (g.K.Key.spread c.args.key)) as_many) within
    c.index.result.now (c.index.ensures ∙ get_or_default_zero heads.items c.slot-slot.result c.index.result.now within) (c.args.number + 1) (omega arith)
