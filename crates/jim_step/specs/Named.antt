-- The classes that a machine looks up once.
use Rattle.std.specs.Prelude.{◌≡◌, ℕ, Some, codes, length, slice_get}
use Rattle.jim_step.specs.declared.classes.Classes.{Classes}
use Rattle.link_rules.specs.Classes.{object_name}
use Rattle.link_rules.specs.Linked.{LinkedProgram}
use Rattle.link_sites.specs.Sites.{IsClassOfRaised, IsNamedClass}

-- each class has its name
pub record AreNamed (p : LinkedProgram) (classes : Classes) : Type 0 where
  pub object : IsNamedClass p object_name classes.object
  pub string : IsNamedClass p (codes "java.lang.String") classes.string
  pub class : IsNamedClass p (codes "java.lang.Class") classes.class
  pub six : length classes.exceptions ≡ 6
  pub exceptions : (kind class : ℕ) → slice_get classes.exceptions kind ≡ Some class → IsClassOfRaised p kind class
