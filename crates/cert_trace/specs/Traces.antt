-- The trace of a node's answer.
use Rattle.std.specs.Prelude.{◌≡◌, map}
use Rattle.link_rules.specs.Linked.{LinkedProgram}
use Rattle.spds_rules.specs.declared.node.Node.{Node}
use Rattle.spds_rules.specs.Systems.{Meets}
use Rattle.cert_rules.specs.Certified.{AreGiven}
use Rattle.spds_rules.specs.Demand.{about}
use Rattle.cert_rules.specs.Lengths.{lengths_of}
use Rattle.cert_rules.specs.Told.{as_told}
use Rattle.cert_work.specs.declared.work.Work.{Work}
use Rattle.cert_work.specs.Work.{AreEndsFiled}
use Rattle.cert_trace.specs.Closed.{AreClosed}
use Rattle.cert_trace.specs.Readings.{AreAllFiled}

-- its lines give their facts for the query of the node, each with its length, they are closed over all meets of the query, and files tell them all, those
-- that put objects somewhere at ends
pub record IsTraceOf (p : LinkedProgram) (t : Node) (k : Work) : Type 0 where
  pub given : AreGiven p t k.written.lines k.written.given
  pub told : k.written.lengths ≡ map as_told (lengths_of k.written.lines)
  pub closed : AreClosed p t k.written (Meets p (about t))
  pub filed : AreAllFiled k
  pub ends : AreEndsFiled p t k
