-- What turns tell of one class.
use Rattle.std.proofs.Common.{◌≡◌, ℕ, ◌<◌, List, length, get_or, ap, subst, sym, ◌∙◌, arith}
use Rattle.lists.proofs.Elements.{same_read}
use Rattle.class_rules.specs.Lookups.{IsDefault}
use Rattle.class_rules.specs.Rows.{Rows}
use Rattle.class_tree.specs.declared.tree.Defaults.{Defaults}
use Rattle.class_tree.specs.Defaults.{AreDefaults}
use Rattle.default_turns.specs.declared.turns.DefaultTurn.{DefaultTurn}
use Rattle.default_turns.specs.Turns.{TellDefaults, defaults_at}

-- what is read off them at the place of the class are its default methods
pub told_at : (rows : Rows) (places : List ℕ) (key class place : ℕ) (turns read : List DefaultTurn) (d : Defaults) → TellDefaults rows places key turns → length places ≡ length rows.classes
    → class < length rows.classes → place ≡ get_or places class place → read ≡ turns → d ≡ defaults_at read place → AreDefaults (IsDefault rows class key) d
told_at rows places key class place turns read d told len h at same is = subst (AreDefaults (IsDefault rows class key))
    (sym (is ∙ ap (λ ts. defaults_at ts place) same ∙ ap (defaults_at turns) (at ∙ same_read places class place 0 (omega (arith, h, len))))) (told.exact class h)
