-- The runs of a linked program.
use Rattle.std.specs.Prelude.{◌≡◌, ℕ, zero, suc, ◌++◌, List, [], ◌∷◌, None, codes, length, map, replicate}
use Rattle.std.specs.List.{range_with_len}
use Rattle.link_rules.specs.Linked.{LinkedMethod, LinkedProgram}
use Rattle.link_rules.specs.WellLinked.{IsRoot}
use Rattle.link_sites.specs.declared.site.Site.{Site}
use Rattle.link_sites.specs.declared.site.Site.TheVariants as site
use Rattle.link_sites.specs.Sites.{IsNamedClass}
use Rattle.step_rules.specs.declared.parts.Value.TheVariants.{Null}
use Rattle.step_rules.specs.States.{HeapObject, State, new_frame, new_object, running}
use Rattle.step_rules.specs.Steps.{Step}

-- an object of the class for each of so many constants
abbrev pub constants : (ℕ → Site) → ℕ → ℕ → List HeapObject
constants site_of class count = map (λ i. new_object (site_of i) class) (range_with_len 0 count)

-- the state before the root's first statement: the heap has an object for each text and each class constant, and static fields are null
abbrev pub first_state : LinkedProgram → ℕ → LinkedMethod → ℕ → ℕ → State
first_state p number root string class = record {
  frames = new_frame number root None [] ∷ [];
  heap = constants (λ i. site.Text i) string (length p.texts) ++ constants (λ i. site.Class i) class (length p.class_texts);
  statics = replicate p.static_count Null;
  ending = running;
}

-- the state with which each run begins
pub record IsFirstState (p : LinkedProgram) (s : State) : Type 0 where
  pub number : ℕ
  pub root : LinkedMethod
  pub is_root : IsRoot p number root
  pub string : ℕ
  pub is_string : IsNamedClass p (codes "java.lang.String") string
  pub class : ℕ
  pub is_class : IsNamedClass p (codes "java.lang.Class") class
  pub is_state : s ≡ first_state p number root string class

-- the states that runs reach in so many steps
pub data Run (p : LinkedProgram) : ℕ → State → Type 0 where
  begins : {s : State} → IsFirstState p s → Run p zero s
  steps : {count choice : ℕ} {s next : State} → Run p count s → Step p s choice next → Run p (suc count) next
