use Rattle.std.proofs.Common.{refl, sym, subst, inl, inr}
use Rattle.query_core.specs.declared.places.Which.TheVariants as which
use Rattle.path_query.specs.Fields.{ArePathFields}
use Rattle.boom_words.specs.Commands.{paths_of}
use Rattle.boom_top.specs.Paths.{IsFieldsReply, IsPathFrom}
use Rattle.boom_top.specs.declared.status.Status.TheVariants as status
use Rattle.boom_top.proofs.Replied.{passed, told}
use Rattle.boom_top.proofs.paths.node_reply.Goals as goal

pub returns-in-Some : goal.returns-in-Some
returns-in-Some g c =
    let are = rw c.in-Some.is at c.in_ok-fields.ensures.some in
    passed (IsFieldsReply c.args.linked.now (paths_of c.args.asked.now c.args.path.now) c.args.node c.as_slice.result.now)
    (IsPathFrom c.args.linked.now (paths_of c.args.asked.now c.args.path.now) c.args.node) c.fields_reply.result
    (λ s lines h. inr (c.as_slice.result.now, subst (ArePathFields c.args.linked.now c.args.path.now) (sym c.as_slice.ensures.value) are, h))
    c.fields_reply.ensures

pub returns-in-None : goal.returns-in-None
returns-in-None g c =
    told (IsPathFrom c.args.linked.now (paths_of c.args.asked.now c.args.path.now) c.args.node) c.refused.result (status.NoSuchPlace which.Field) c.refused.ensures
    (inl (rw c.in-None.is at c.in_ok-fields.ensures.none, (refl, refl)))
