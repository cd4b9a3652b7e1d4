use Rattle.std.proofs.Common.{◌≡◌, ℕ, Bool, Option, Some, None, IsTrue, IfSome, IfNone, is_some}
use Rattle.link_rules.specs.Refusals.{IsEntry, IsFirst, RefusesWhole, whole}
use Rattle.link_rules.specs.World.{World}
use Rattle.link_rules.specs.declared.refusal.LinkKind.{LinkKind}
use Rattle.link_rules.specs.declared.refusal.LinkKind.TheVariants as rule
use Rattle.link_classes.specs.Held.{world_of}
use Rattle.link_classes.specs.RowTables.{IsSound}
use Rattle.link_classes.proofs.FirstRefusals.{first_no_entry, none_refuses}
use Rattle.link_classes.proofs.classes.Classes.has_entry.Goals as goal

module _ (w : World) (sound : IsSound w) where
  passed : (o : Option ℕ) (b : Bool) → b ≡ is_some o → IfSome o (IsEntry w) → IsTrue b → (kind : LinkKind) (number : ℕ) → RefusesWhole w kind number → ⊥
  passed (Some row) b e some is = none_refuses w sound row some
  passed None b e some is = cc (e, is)

  refused : (o : Option ℕ) (b : Bool) → b ≡ is_some o → IfNone o ((row : ℕ) → IsEntry w row → ⊥) → (IsTrue b → ⊥) → IsFirst w (whole rule.NoEntry 0)
  refused None b e none not = first_no_entry w sound none
  refused (Some row) b e none not = absurd (not e)

pub returns-clause-passed : goal.returns-clause-passed
returns-clause-passed c =
    let w = world_of c.self.inside.order c.self.inside.tree c.self.inside.entry.now in
    rw (← c.self.view_is) (passed w c.self.invariant.sound c.entry_row.result c.is_some.result c.is_some.ensures (rw (← c.self.view_is) at c.entry_row.ensures.some))

pub returns-clause-refused : goal.returns-clause-refused
returns-clause-refused c =
    let w = world_of c.self.inside.order c.self.inside.tree c.self.inside.entry.now in
    rw (← c.self.view_is) (refused w c.self.invariant.sound c.entry_row.result c.is_some.result c.is_some.ensures (rw (← c.self.view_is) at c.entry_row.ensures.none))
