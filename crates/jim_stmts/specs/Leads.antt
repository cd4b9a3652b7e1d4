-- The classes of the next tokens, `Other` where there is none.
use Rattle.std.specs.Prelude.{IsTrue, List, [], ◌∷◌}
use Rattle.jim_text.specs.declared.lead.Lead.{Lead}
use Rattle.jim_text.specs.declared.lead.Lead.TheVariants as lead
use Rattle.jim_signs.specs.declared.seen.Sign.{Sign}
use Rattle.jim_grammar.specs.Sets.{is_not_end}

abbrev pub lead_at : List Sign → Lead
lead_at [] = lead.Other
lead_at (s ∷ r) = s.lead

abbrev pub second_at : List Sign → Lead
second_at [] = lead.Other
second_at (s ∷ r) = lead_at r

abbrev pub third_at : List Sign → Lead
third_at [] = lead.Other
third_at (s ∷ r) = second_at r

-- a token is left that is none of `;`, `{` and `}`
abbrev pub GoesOn : List Sign → Type 0
GoesOn [] = ⊥
GoesOn (s ∷ r) = IsTrue (is_not_end s.lead)
