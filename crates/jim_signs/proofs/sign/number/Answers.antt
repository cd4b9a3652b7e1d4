use Rattle.lists.proofs.Places.{slice_get-below}
use Rattle.jim_signs.proofs.NameLemmas.{with_text-adds, place_of-slice_get}
use Rattle.jim_signs.proofs.sign.number.Goals as goal

pub returns-clause-names : goal.returns-clause-names
returns-clause-names c = with_text-adds _ _ _ c.in_ok-id.ensures.last

pub returns-clause-place : goal.returns-clause-place
returns-clause-place c = place_of-slice_get _ _ _ c.in_ok-id.ensures.apart c.in_ok-id.ensures.added

pub returns-clause-within : goal.returns-clause-within
returns-clause-within c = slice_get-below _ _ _ c.in_ok-id.ensures.added
