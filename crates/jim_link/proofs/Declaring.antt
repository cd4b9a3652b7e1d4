-- Whether each of some classes is declared.
use Rattle.std.proofs.Common.{◌≡◌, ℕ, zero, suc, ◌<◌, true, List, [], ◌∷◌, Some, length, slice_get, get_or, refl, sym, ap, subst, ◌∙◌, arith, All}
use Rattle.std.specs.Prelude.{◌↔◌, IsTrue, flat_map}
use Rattle.std.proofs.lemmas.Option.{get_or_from_slice_get, slice_get-get_or}
use Rattle.lists.proofs.Places.{slice_get-below}
use Rattle.lists.proofs.Joined.{slice_get-mapped}
use Rattle.jim_ast.specs.declared.syntax.Class.{Class}
use Rattle.jim_ast.specs.declared.syntax.Program.{Program}
use Rattle.link_classes.proofs.Within.{part_within}
use Rattle.link_program.proofs.Found.{at_map}
use Rattle.link_rules.specs.Classes.{IsNamed, class_name, classes_of}
use Rattle.link_rules.specs.Conditions.{AreWithin, class_names}

-- the first of a list and the others
pub all_cons : {X : Type 0} (P : X → Type 0) (x : X) (xs : List X) → P x → All P xs → All P (x ∷ xs)
all_cons P x xs first rest zero d below = first
all_cons P x xs first rest (suc k) d below = rest k d (omega arith)

-- the first has the fact
pub all_head : {X : Type 0} (P : X → Type 0) (x : X) (xs : List X) → All P (x ∷ xs) → P x
all_head P x xs all = all 0 x (omega arith)

-- so have the others
pub all_tail : {X : Type 0} (P : X → Type 0) (x : X) (xs : List X) → All P (x ∷ xs) → All P xs
all_tail P x xs all k d below = all (suc k) d (omega arith)

-- no element
pub none_all : {X : Type 0} (P : X → Type 0) → IsTrue true ↔ All P []
none_all P = (λ t k d below. absurd (omega arith), λ all. refl)

-- the class that is looked at
pub class_at : (classes seen : List Class) (i : ℕ) (c : Class) → seen ≡ classes → i < length seen → c ≡ get_or seen i c → slice_get classes i ≡ Some c
class_at classes seen i c same below read = subst (λ (cs : List Class). slice_get cs i ≡ Some c) same (slice_get-get_or seen i c below ∙ ap Some (sym read))

-- its name is one of the program's
pub name_within : (program : Program) (i : ℕ) (c : Class) → AreWithin program.names (flat_map class_names program.classes) → slice_get program.classes i ≡ Some c
    → c.name.0 < length program.names
name_within program i c within there = part_within class_names program.names program.classes i c within there 0 c.name (omega arith)

-- it has this name
pub named_at : (program : Program) (i : ℕ) (c : Class) (text : List ℕ) → slice_get program.classes i ≡ Some c → slice_get program.names c.name.0 ≡ Some text
    → IsNamed (classes_of program) text i
named_at program i c text there name = record {
  class = record { names = program.names; class = c };
  there = at_map (λ (d : Class). record { names = program.names; class = d }) program.classes i c there;
  named = get_or_from_slice_get program.names c.name.0 text [] name;
}

-- it has no other
pub other_name : (program : Program) (i : ℕ) (c : Class) (text name : List ℕ) → slice_get program.classes i ≡ Some c → slice_get program.names c.name.0 ≡ Some text
    → IsNamed (classes_of program) name i → text ≡ name
other_name program i c text name there is named =
    let here = named_at program i c text there is in
    let same : here.class ≡ named.class = cc (here.there, named.there) in
    sym here.named ∙ ap class_name same ∙ named.named

-- a class that is named is one of those that were looked at
pub named_below : (program : Program) (n : ℕ) (name : List ℕ) → IsNamed (classes_of program) name n → n < length program.classes
named_below program n name named =
    let found = slice_get-mapped (λ (d : Class). record { names = program.names; class = d }) program.classes n named.class named.there in
    slice_get-below program.classes n found.0 found.1
