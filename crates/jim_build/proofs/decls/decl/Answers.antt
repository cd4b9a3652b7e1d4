use Rattle.std.proofs.Common.{List, refl}
use Rattle.jim_ast.specs.declared.names.NameId.{NameId}
use Rattle.jim_build.specs.Splits.{declared_by}
use Rattle.jim_build.proofs.Parts.{declared_locals}
use Rattle.jim_build.proofs.decls.decl.Goals as goal

pub returns-clause-locals : goal.returns-clause-locals
returns-clause-locals c = λ x r h.
    let behind = c.skip_type.ensures.rest x r h in
    rw (c.in_ok-extend_from_slice.ensures.items, c.as_slice.ensures, c.in_ok-names.ensures.names (declared_by x).0 _ behind (λ e. cc), declared_locals x) (refl {A = List NameId})
