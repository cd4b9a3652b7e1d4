use Rattle.std.proofs.Common.{◌≡◌, ◌∙◌, refl, subst, sym}
use Rattle.cert_lines.specs.Noted.{IsThere}
use Rattle.cert_lines.specs.declared.keys.Known.{Known}
use Rattle.cert_work.proofs.Giving.{flow_gives, flow_long, there_told}
use Rattle.cert_work.proofs.Working.{cites_from}
use Rattle.cert_work.proofs.along.flow.Goals as goal

pub at-known-requires : goal.at-known-requires
at-known-requires c =
    let h = c.args.held.now in
    (h.side, h.site, h.entry, h.node, c.known.ensures _ (cites_from c.args.written.now.given h.number _ c.requires.held.gives))

pub add_known-requires-clause-known : goal.add_known-requires-clause-known
add_known-requires-clause-known c =
    let h = c.args.held.now in
    let moved = c.at-known.ensures h.side h.site h.entry h.node (c.known.ensures _ (cites_from c.args.written.now.given h.number _ c.requires.held.gives)) in rw moved refl

pub add_known-requires-clause-gives : goal.add_known-requires-clause-gives
add_known-requires-clause-gives c =
    let h = c.args.held.now in
    let moved = c.at-known.ensures h.side h.site h.entry h.node (c.known.ensures _ (cites_from c.args.written.now.given h.number _ c.requires.held.gives)) in
    rw moved (flow_gives c.args.view.now c.args.written.now h c.requires.held c.args.edge.now c.requires.edge c.requires.from c.requires.keeps)

pub add_known-requires-clause-long : goal.add_known-requires-clause-long
add_known-requires-clause-long c =
    c.one_more-length.ensures ∙ sym (flow_long c.args.view.now c.args.written.now c.args.held.now c.requires.held c.args.edge.now.to)

pub returns-clause-there : goal.returns-clause-there
returns-clause-there c =
    let h = c.args.held.now in
    let moved = c.at-known.ensures h.side h.site h.entry h.node (c.known.ensures _ (cites_from c.args.written.now.given h.number _ c.requires.held.gives)) in
    there_told c.add_known.new.written _ _ c.one_more-length.result c.one_more-length.ensures
    (subst (λ (k : Known). IsThere c.add_known.new.written k.fact c.one_more-length.result) moved c.in_ok-add_known.ensures.there)
