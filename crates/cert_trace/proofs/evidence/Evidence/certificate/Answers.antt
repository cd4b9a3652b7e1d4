use Rattle.std.proofs.Common.{List, sym, subst, All}
use Rattle.lists.specs.Lists.{IsApart}
use Rattle.cert_rules.specs.declared.line.Line.{Line}
use Rattle.cert_rules.specs.Spelled.{FitsLine}
use Rattle.cert_trace.specs.Explained.{IsExplained}
use Rattle.cert_make.proofs.Anew.{can_cite_back}
use Rattle.cert_trace.proofs.Shown.{claimed, of_target, shortest_told}
use Rattle.cert_trace.proofs.evidence.Evidence.certificate.Goals as goal

pub claim-claims-requires : goal.claim-claims-requires
claim-claims-requires c =
    let r = c.requires.answered in
    let at = of_target r.0 r.1 c.args.self.now r.2 c.args.site r.3 in
    record { answered = (r.0, at.0, at.1) }

pub certificate_of-requires : goal.certificate_of-requires
certificate_of-requires c =
    let r = c.requires.answered in
    let lines = c.lines.result.now in
    let claims = c.claim-claims.result in
    let at = of_target r.0 r.1 c.args.self.now r.2 c.args.site r.3 in
    let can = claimed r.0 r.1 c.args.self.now r.2 c.args.site r.3 lines claims.field claims.call c.lines.ensures (c.claim-claims.ensures r.0 at.0 at.1) in
    can_cite_back r.0 r.1 lines c.args.site claims.field claims.call can

pub returns : goal.returns
returns c = λ p t is answered.
    let at = of_target p t c.args.self.now is c.args.site answered in
    let lines = c.lines.result.now in
    let claims = c.claim-claims.result in
    let can = claimed p t c.args.self.now is c.args.site answered lines claims.field claims.call c.lines.ensures (c.claim-claims.ensures p at.0 at.1) in
    let found = c.in_ok-lines.ensures in
    let shown : IsExplained p t c.args.site (record { target = c.args.self.now.target; lines = c.in_ok-lines.lines.items }) = record {
      is_target = is.is_target;
      certified = found.certified p t c.args.site can;
      apart = found.once (subst (λ (ls : List Line). IsApart ls) (sym c.lines.ensures) is.apart);
      lean = found.lean;
      shortest = shortest_told p t c.args.site c.in_ok-lines.lines.items _ found.length can.shortest;
      fits = found.fits (subst (λ (ls : List Line). All FitsLine ls) (sym c.lines.ensures) is.fits);
      few = found.few;
    } in
    subst (λ (ls : List Line). IsExplained p t c.args.site (record { target = c.args.self.now.target; lines = ls })) (sym c.from_vec.ensures) shown
