use Rattle.std.proofs.Common.{length, sym, ap, arith}
use Rattle.query_core.proofs.Posed.{few_sites}
use Rattle.site_events.proofs.Asking.{is_query}
use Rattle.type_track.specs.Receivers.{asked_for}
use Rattle.type_track.proofs.tracking.verdict_over.Goals as goal

pub findings_over-requires-clause-few : goal.findings_over-requires-clause-few
findings_over-requires-clause-few g c =
    omega (arith, few_sites c.args.linked.now (asked_for c.args.statements.now) c.args.demand.now c.requires.demand, c.requires.few)

pub returns-clause-verdict : goal.returns-clause-verdict
returns-clause-verdict g c =
    let p = c.args.linked.now in
    let k = c.args.protocol.now in
    let statements = c.args.statements.now in
    record {
      q = asked_for statements;
      query = is_query p k statements c.requires.statements;
      findings = rw c.from_vec.ensures c.in_ok-findings.ensures;
      size = (c.args.demand.now.nodes, c.requires.demand.nodes, ap length (sym c.nodes.ensures));
    }
