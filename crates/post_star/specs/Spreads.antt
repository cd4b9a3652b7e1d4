-- The numbers by which keys are spread.
use Rattle.std.specs.Prelude.{ℕ, ◌+◌, ◌*◌, ◌^◌}
use Rattle.post_star.specs.declared.key.Key.{Key}
use Rattle.post_star.specs.declared.key.Key.TheVariants.{Node, Mark, Marked}

abbrev pub key_spread : Key → ℕ
key_spread (Node node) = node
key_spread (Mark mark) = mark
key_spread (Marked node mark) = node * 2 ^ 32 + mark
