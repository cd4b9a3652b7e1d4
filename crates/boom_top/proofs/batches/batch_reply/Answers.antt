use Rattle.std.proofs.Common.{Err, ap, inl, refl}
use Rattle.boom_top.specs.Batches.{IsBatchReply}
use Rattle.boom_top.specs.declared.status.Status.TheVariants.{NotBatch}
use Rattle.boom_top.proofs.Replied.{told}
use Rattle.boom_top.proofs.batches.batch_reply.Goals as goal

pub returns-in-Err-NotBatch : goal.returns-in-Err-NotBatch
returns-in-Err-NotBatch g c =
    told (IsBatchReply c.args.linked.now c.args.budget c.args.text.now) c.refused.result (NotBatch c.in-Err-NotBatch.at) c.refused.ensures
    (inl (c.in-Err-NotBatch.at, c.in-Err-NotBatch.ensures.bad c.in-Err-NotBatch.at (ap Err c.in-Err-NotBatch.field-0-is), (refl, refl)))
