-- What rules and base steps are looked for by is one, or it is told apart.
use Rattle.std.proofs.Common.{◌≡◌, ◌≢◌, ◌⊎◌, true, false, rules}
use Rattle.lists.proofs.OneKey.{one_key as one_or_apart}
use Rattle.post_star.specs.declared.key.Key.{Key}
use Rattle.post_star.specs.contracts.key.KeyPartialEq.TheImpl as keys

-- the derived test on keys is equality
same_key : (a b : Key) → keys.eq-value.it a b ≡ true → a ≡ b
same_key a b h = search rules

self_key : (a : Key) → keys.eq-value.it a a ≡ true
self_key a = search rules

-- two keys are one, or the test tells them apart
pub one_key : (a b : Key) → ((a ≡ b) × (keys.eq-value.it a b ≡ true)) ⊎ ((a ≢ b) × (keys.eq-value.it a b ≡ false))
one_key a b = one_or_apart keys.eq-value.it self_key same_key a b
