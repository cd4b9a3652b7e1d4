use Rattle.link_faults.proofs.BodyFaults.{labels_first}
use Rattle.link_faults.proofs.beside.labels_fault.Goals as goal

pub returns : goal.returns
returns c = λ m in_body. labels_first m c.in_ok-index.index (c.in_ok-index.ensures.some m in_body)
