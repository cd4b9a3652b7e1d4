use Rattle.std.proofs.Common.{sym, ◌∙◌, string_bytes}
use Rattle.jim_ast.proofs.Texts.{slice_get-own, slice_get-same}
use Rattle.jim_ast.proofs.notes.has_number.Goals as goal

pub returns-then-number-texts : goal.returns-then-number-texts
returns-then-number-texts c = (
  λ same. slice_get-same string_bytes _ _ _ _ _ c.if-number-texts.true c.index-texts-number.is c.as_bytes.ensures.value (sym c.same_bytes.ensures ∙ same),
  λ here. c.same_bytes.ensures ∙ slice_get-own string_bytes _ _ _ _ _ c.if-number-texts.true c.index-texts-number.is c.as_bytes.ensures.value here,
)
