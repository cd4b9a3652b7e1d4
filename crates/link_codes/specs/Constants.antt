-- Constants as they are numbered.
use Rattle.std.specs.Prelude.{ℕ, ◌++◌, List}
use Rattle.std.specs.List.{filter_map}
use Rattle.jim_ast.specs.declared.syntax.Imm.{Imm}
use Rattle.link_rules.specs.Linked.{class_text_in, text_in}
use Rattle.lists.specs.Lists.{FirstSeen}
use Rattle.link_classes.specs.Numbered.{Keeps}
use Rattle.link_codes.specs.declared.constants.Constants.{Constants}

-- each constant keeps its number
pub record Extends (old new : Constants) : Type 0 where
  pub texts : Keeps old.texts new.texts
  pub class_texts : Keeps old.class_texts new.class_texts

-- after those that were used before, the constants among these operands are used, in order
pub record Uses (names : List (List ℕ)) (operands : List Imm) (old new : Constants) : Type 0 where
  pub kept : Extends old new
  pub texts : (uses : List (List ℕ)) → FirstSeen uses old.texts → FirstSeen (uses ++ filter_map (text_in names) operands) new.texts
  pub class_texts : (uses : List (List ℕ)) → FirstSeen uses old.class_texts → FirstSeen (uses ++ filter_map (class_text_in names) operands) new.class_texts
