use Rattle.std.proofs.Common.{refl, inl, inr}
use Rattle.explain_text.proofs.Asked.{place_named}
use Rattle.boom_words.specs.Commands.{paths_of}
use Rattle.boom_top.specs.Paths.{IsPathFrom, IsPathReply}
use Rattle.boom_top.specs.declared.status.Status.TheVariants as status
use Rattle.boom_top.proofs.Replied.{passed, told}
use Rattle.boom_top.proofs.paths.path_reply.Goals as goal

pub node_reply-requires-clause-node : goal.node_reply-requires-clause-node
node_reply-requires-clause-node g c κs within =
    place_named c.args.linked.now c.args.asked.now.method.now c.args.asked.now.index c.args.asked.now.local.now c.in-Ok.node c.in-Ok.ensures.ok

pub returns-in-Ok : goal.returns-in-Ok
returns-in-Ok g c =
    passed (IsPathFrom c.args.linked.now (paths_of c.args.asked.now c.args.path.now) c.in-Ok.node) (IsPathReply c.args.linked.now (paths_of c.args.asked.now c.args.path.now)) c.node_reply.result
    (λ s lines h. inr (c.in-Ok.node, c.in-Ok.ensures.ok, h)) c.node_reply.ensures

pub returns-in-Err : goal.returns-in-Err
returns-in-Err g c =
    told (IsPathReply c.args.linked.now (paths_of c.args.asked.now c.args.path.now)) c.refused.result (status.NoSuchPlace c.in-Err.which) c.refused.ensures
    (inl (c.in-Err.which, c.in-Err.ensures.missing, (refl, refl)))
