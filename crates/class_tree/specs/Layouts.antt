-- What the places of classes tell.
use Rattle.std.specs.Prelude.{◌<◌, ◌^◌, length}
use Rattle.class_tree.specs.declared.layout.Layout.{Layout}
use Rattle.class_rules.specs.Lookups.{own_body}
use Rattle.class_rules.specs.Rows.{Rows, Step}
use Rattle.class_order.specs.Tables.{HavePlaces, IsReach}
use Rattle.class_tree.specs.Turns.{TellPaths}

-- each class has a place; the places of a class and of those below it are its spans; and look-ups of methods along the parents turn between places
pub record LaysOut (rows : Rows) (layout : Layout) : Type 0 where
  pub few : length rows.classes < 2 ^ 32
  pub placed : HavePlaces (length rows.classes) layout.places.now
  pub reached : IsReach (Step rows.classes rows.implements) (length rows.classes) layout.places.now layout.reach.now
  pub methods : TellPaths rows.classes (own_body rows.methods) layout.places.now layout.methods.now
