use Rattle.std.proofs.Common.{◌≡◌, false, true}
use Rattle.type_track.proofs.barred.is_barred.Goals as goal

pub returns-in-Some : goal.returns-in-Some
returns-in-Some c = (
  (λ t. let no : false ≡ true = t in cc),
  (λ h. absurd (h.1 _ c.in-Some.ensures.some)),
)
