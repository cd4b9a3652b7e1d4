use Rattle.std.proofs.Common.{◌≡◌, true, false}
use Rattle.jim_grammar.specs.Sets.{is_odd_type}
use Rattle.jim_stmts.specs.Leads.{lead_at}
use Rattle.jim_build.proofs.Parts.{decl_odd, decl_type}
use Rattle.jim_build.proofs.decls.skip_type.Goals as goal

pub returns-then-is_odd_type-clause-rest : goal.returns-then-is_odd_type-clause-rest
returns-then-is_odd_type-clause-rest c = λ x r h.
    let odd : is_odd_type (lead_at c.args.reader.now) ≡ true = cc in
    let d = decl_odd x _ r h odd in c.skip.ensures.rest _ _ d.1

pub returns-else-is_odd_type-clause-rest : goal.returns-else-is_odd_type-clause-rest
returns-else-is_odd_type-clause-rest c = λ x r h.
    let odd : is_odd_type (lead_at c.args.reader.now) ≡ false = cc in
    let d = decl_type x _ r h odd in c.ty.ensures.rest d.0 _ d.1 (λ e. cc)
