-- What a call names and may run.
use Rattle.std.specs.Prelude.{◌≡◌, ℕ, ◌<◌, ◌↔◌, List, Option, Some, None, IsTrue, All, length}
use Rattle.lists.specs.Lists.{Has}
use Rattle.link_rules.specs.Classes.{IsDeclared, IsNamed, methods_of}
use Rattle.link_rules.specs.Conditions.{AreWithin, method_sig_names}
use Rattle.link_rules.specs.Faults.{FindsSeveral}
use Rattle.link_rules.specs.Names.{text_of}
use Rattle.link_rules.specs.Statements.{PlainCall}
use Rattle.link_rules.specs.Targets.{MayRun}
use Rattle.link_rules.specs.World.{World}
use Rattle.link_faults.specs.declared.callees.Callee.{Callee}
use Rattle.link_faults.specs.declared.parts.Called.{Called}
use Rattle.link_faults.specs.Parts.{AreNamed, seen_call}

-- the only class and key that the call names, the methods that it may run, and whether several default methods are there for it
pub record IsCallee (w : World) (names : List (List ℕ)) (c : PlainCall) (k : Callee) : Type 0 where
  pub named : AreNamed w names c k.class k.key
  pub only_class : (n : ℕ) → IsNamed w.classes (text_of names c.sig.class) n → k.class ≡ n
  pub within : All (λ row. row < length (methods_of w.classes)) k.rows.items
  pub rows : (row : ℕ) → Has k.rows.items row ↔ MayRun w c.mode k.class k.key row
  pub is_several : IsTrue k.several ↔ FindsSeveral w c.mode k.class k.key

-- the call's class isn't declared, or the callee is the call's
abbrev pub IsCalleeOf : World → List (List ℕ) → PlainCall → Option Callee → Type 0
IsCalleeOf w names c None = IsDeclared w.classes (text_of names c.sig.class) → ⊥
IsCalleeOf w names c (Some k) = IsCallee w names c k

-- the names of the call, if there is one, are among these
abbrev pub IsCallWithin : List (List ℕ) → Option Called → Type 0
IsCallWithin names (Some c) = AreWithin names (method_sig_names c.sig.now)
IsCallWithin names None = Unit {0}

-- the callee is that of the call, if there is one
abbrev pub IsCalleeIf : World → List (List ℕ) → Option Called → Option Callee → Type 0
IsCalleeIf w names (Some c) callee = IsCalleeOf w names (seen_call c) callee
IsCalleeIf w names None callee = callee ≡ None
