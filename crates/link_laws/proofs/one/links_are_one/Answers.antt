use Rattle.link_laws.proofs.OneLink.{link_one}
use Rattle.link_laws.proofs.OneRefusal.{refused_one}
use Rattle.link_laws.proofs.one.links_are_one.Goals as goal

pub returns-clause-link : goal.returns-clause-link
returns-clause-link c = link_one

pub returns-clause-refusal : goal.returns-clause-refusal
returns-clause-refusal c = refused_one
