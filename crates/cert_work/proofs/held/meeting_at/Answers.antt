use Rattle.std.proofs.Common.{◌≡◌, ◌∙◌, ap}
use Rattle.spds_rules.specs.declared.store.StoreAt.{StoreAt}
use Rattle.cert_work.proofs.Working.{cites_from}
use Rattle.cert_work.proofs.held.meeting_at.Goals as goal

pub returns-clause-arg : goal.returns-clause-arg
returns-clause-arg c =
    let g = cites_from c.args.written.now.given c.args.number _ c.requires.3 in
    let same : c.in-Met.store ≡ c.requires.1 = cc (g, c.fact.ensures, c.in-Met.is) in ap (λ (s : StoreAt). s.arg) same ∙ c.requires.2
