-- A program that tokens derive is as linking asks.
use Rattle.std.proofs.Common.{ℕ, ◌<◌, List, [], length, flat_map, sym, subst}
use Rattle.std.proofs.lemmas.List.Elements.{All-from_recursion}
use Rattle.lists.specs.Lists.{Has}
use Rattle.jim_ast.specs.declared.names.NameId.{NameId}
use Rattle.jim_ast.specs.declared.syntax.Class.{Class}
use Rattle.jim_ast.specs.declared.syntax.Program.{Program}
use Rattle.jim_text.specs.declared.Token.{Token}
use Rattle.jim_signs.specs.Names.{names_of}
use Rattle.jim_grammar.specs.Grammar as grammar
use Rattle.jim_build.specs.Classes.{classes_of}
use Rattle.jim_parse.specs.Derives.{Derives}
use Rattle.link_rules.specs.Conditions.{AreWithin, IsRead, class_names}
use Rattle.read_laws.proofs.LowSigns.{signs_low}
use Rattle.read_laws.proofs.LowTrees.{AreLow, low_spell}
use Rattle.read_laws.proofs.LowClasses.{classes_low}
use Rattle.read_laws.proofs.ReadBodies.{bodies_read}

-- by any tree that spells the tokens and means the classes
pub derived_read : (bytes : List ℕ) (tokens : List Token) (program : Program) → Derives bytes tokens program → IsRead program
derived_read bytes tokens program derived =
    let tree = derived.tree in
    let count = length (names_of bytes tokens) in
    let low = classes_low count tree (low_spell count grammar.program tree [] (subst (AreLow count) (sym derived.spelled) (signs_low bytes tokens))).0 in
    let within : AreWithin (names_of bytes tokens) (flat_map class_names (classes_of tree)) =
    All-from_recursion (λ (id : NameId). id.0 < count) (flat_map class_names (classes_of tree)) low in
    record {
      names =
          subst (λ (names : List (List ℕ)). AreWithin names (flat_map class_names program.classes)) (sym derived.names)
          (subst (λ (classes : List Class). AreWithin (names_of bytes tokens) (flat_map class_names classes)) (sym derived.classes) within);
      bodies = λ c m body class method is. bodies_read tree c m body (subst (λ (classes : List Class). Has classes c) derived.classes class) method is;
    }
