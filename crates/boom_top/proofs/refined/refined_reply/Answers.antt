use Rattle.std.proofs.Common.{refl, inl, inr}
use Rattle.boom_words.specs.Commands.{refined_of}
use Rattle.boom_top.specs.Refined.{IsRefinedNodeReply, IsRefinedReply}
use Rattle.boom_top.specs.declared.status.Status.TheVariants as status
use Rattle.boom_top.proofs.Replied.{passed, told}
use Rattle.boom_top.proofs.refined.refined_reply.Goals as goal

pub returns-in-Ok : goal.returns-in-Ok
returns-in-Ok g c =
    passed (IsRefinedNodeReply c.args.linked.now (refined_of c.args.asked.now c.args.rounds) c.in-Ok.node) (IsRefinedReply c.args.linked.now (refined_of c.args.asked.now c.args.rounds))
    c.node_reply.result (λ s lines h. inr (c.in-Ok.node, c.in-Ok.ensures.ok, h)) c.node_reply.ensures

pub returns-in-Err : goal.returns-in-Err
returns-in-Err g c =
    told (IsRefinedReply c.args.linked.now (refined_of c.args.asked.now c.args.rounds)) c.refused.result (status.NoSuchPlace c.in-Err.which) c.refused.ensures
    (inl (c.in-Err.which, c.in-Err.ensures.missing, (refl, refl)))
