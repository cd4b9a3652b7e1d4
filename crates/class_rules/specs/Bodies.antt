-- Which methods have a body.
use Rattle.std.specs.Prelude.{Bool, true, false}
use Rattle.class_rules.specs.declared.rows.BodyKind.{BodyKind}
use Rattle.class_rules.specs.declared.rows.BodyKind.TheVariants.{Plain, Native, Missing}

-- a native method counts as one with a body
abbrev pub has_body : BodyKind → Bool
has_body Plain = true
has_body Native = true
has_body Missing = false
