-- What holds of narrowing, whatever is kept.
use Rattle.std.specs.Prelude.{◌≡◌, List}
use Rattle.link_rules.specs.Linked.{LinkedProgram}
use Rattle.link_rules.specs.WellLinked.{IsInForm, IsWellLinked}
use Rattle.narrow_rules.specs.declared.kept.Kept.{Kept}
use Rattle.narrow_rules.specs.Narrowed.{IsNarrowed}

-- what is left of a well-linked program is well linked
abbrev pub NarrowedIsWell : Type 0
NarrowedIsWell = (p q : LinkedProgram) (kept : List Kept) → IsWellLinked p → IsNarrowed p kept q → IsWellLinked q

-- what is left of a program in form is in form
abbrev pub NarrowedKeepsForm : Type 0
NarrowedKeepsForm = (p q : LinkedProgram) (kept : List Kept) → IsInForm p → IsNarrowed p kept q → IsInForm q

-- one program is left
abbrev pub HasOneNarrowed : Type 0
HasOneNarrowed = (p one two : LinkedProgram) (kept : List Kept) → IsNarrowed p kept one → IsNarrowed p kept two → one ≡ two
