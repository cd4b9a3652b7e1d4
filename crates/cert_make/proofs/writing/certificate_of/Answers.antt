use Rattle.std.proofs.Common.{rules}
use Rattle.cert_rules.specs.declared.line.Line.TheVariants.{Claim}
use Rattle.cert_make.proofs.Found.{needed_within}
use Rattle.cert_make.proofs.Written.{is_part}
use Rattle.cert_make.proofs.writing.certificate_of.Goals as goal

pub selected_lines-requires : goal.selected_lines-requires
selected_lines-requires c = λ number has.
    needed_within c.args.lines.now (Claim c.args.claim.field c.args.claim.call) c.requires number ((c.in_ok-needed.ensures.exact number).0 has)

pub returns : goal.returns
returns c =
    let part =
    is_part c.args.lines.now c.args.claim.field c.args.claim.call c.in_ok-needed.needed c.requires c.in_ok-needed.ensures.exact c.in_ok-needed.ensures.ascending c.in_ok-certificate.certificate.items
    c.in_ok-renumbered.field-0 c.push.new.self.items c.in_ok-certificate.ensures c.in_ok-renumbered.ensures c.in_ok-push.ensures.items in
    record { certified = part.certified; length = part.long; lean = part.lean; once = part.once; fits = part.fits; few = search rules }
