use Rattle.cert_replay.proofs.Judged.{claim_no_fact}
use Rattle.cert_replay.proofs.judging.fact_of.Goals as goal

pub returns-in-Start : goal.returns-in-Start
returns-in-Start c = rw c.in-Start.is c.start.ensures

pub returns-in-Jump : goal.returns-in-Jump
returns-in-Jump c = rw c.in-Jump.is c.jump.ensures

pub returns-in-Put : goal.returns-in-Put
returns-in-Put c = rw c.in-Put.is c.put.ensures

pub returns-in-Flow : goal.returns-in-Flow
returns-in-Flow c = rw c.in-Flow.is c.flow.ensures

pub returns-in-PushField : goal.returns-in-PushField
returns-in-PushField c = rw c.in-PushField.is c.push_field.ensures

pub returns-in-PushCall : goal.returns-in-PushCall
returns-in-PushCall c = rw c.in-PushCall.is c.push_call.ensures

pub returns-in-LinkField : goal.returns-in-LinkField
returns-in-LinkField c = rw c.in-LinkField.is c.link_field.ensures

pub returns-in-LinkCall : goal.returns-in-LinkCall
returns-in-LinkCall c = rw c.in-LinkCall.is c.link_call.ensures

pub returns-in-Pop : goal.returns-in-Pop
returns-in-Pop c = rw c.in-Pop.is c.pop.ensures

pub returns-in-BasePop : goal.returns-in-BasePop
returns-in-BasePop c = rw c.in-BasePop.is c.base_pop.ensures

pub returns-in-Shared : goal.returns-in-Shared
returns-in-Shared c = rw c.in-Shared.is (rw (c.as_slice.ensures, c.as_slice-in-Shared.ensures, c.as_slice-in-Shared-2.ensures) at c.shared.ensures)

pub returns-in-Meet : goal.returns-in-Meet
returns-in-Meet c = rw c.in-Meet.is c.meet.ensures

pub returns-in-Claim : goal.returns-in-Claim
returns-in-Claim c = rw c.in-Claim.is (claim_no_fact c.args.view.now.linked.now c.args.view.now.target c.args.given.now c.in-Claim.field c.in-Claim.call)
