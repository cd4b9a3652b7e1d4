-- The parts of the linked program of an accepted one.
use Rattle.std.specs.Prelude.{◌≡◌, ℕ, List}
use Rattle.link_program.specs.Parts.{AreParts, program_of}
use Rattle.link_program.specs.declared.parts.CodePart.{CodePart}
use Rattle.link_reach.specs.Reaches.{AreReached}
use Rattle.link_rules.specs.Linked.{IsLinkOf}
use Rattle.link_rules.specs.World.{World}
use Rattle.jim_link.specs.Made.{AreAllMade}
use Rattle.jim_link.specs.declared.made.Made.{Made}
use Rattle.jim_link.specs.declared.rows.Parts.{Parts}

-- the methods of a part, and the constants that they use
abbrev pub made_in : CodePart → Made
made_in c = record { methods = c.methods; constants = record { texts = c.constants.texts; class_texts = c.constants.class_texts } }

-- the part has these rows, and what is made
pub record IsCodeOf (its_rows : List ℕ) (its_made : Made) (c : CodePart) : Type 0 where
  pub rows : c.rows ≡ its_rows
  pub made : made_in c ≡ its_made

-- the methods that a run may reach, and the root
pub record AreCodes (w : World) (initialized : List ℕ) (c : CodePart) : Type 0 where
  pub reached : AreReached w c.rows
  pub made : AreAllMade w c.rows initialized (made_in c)

-- the parts are those of the linked program
pub record ArePartsOf (w : World) (p : Parts) : Type 0 where
  pub parts : AreParts p.code p.members
  pub linked : IsLinkOf w (program_of p.code p.members w.rows)
