use Rattle.std.proofs.Common.{◌≡◌, ◌↔◌, ℕ, List, Some, subst}
use Rattle.link_sites.specs.declared.place.Place.{Place}
use Rattle.cert_text.specs.Words.{SpellsNumbers, SpellsString}
use Rattle.cert_text.proofs.LineWords.{shared_iff}
use Rattle.cert_text.proofs.lines.shared.Goals as goal

pub returns : goal.returns
returns c =
    shared_iff c.args.first.now c.args.second.now c.args.string_word.now c.in-Some.first c.in-Some-2.second c.in-Some-3.string
    (subst (λ o. (x : List ℕ) → (o ≡ Some x) ↔ SpellsNumbers c.args.first.now x) c.in-Some.is c.in_ok-first.ensures)
    (subst (λ o. (x : List ℕ) → (o ≡ Some x) ↔ SpellsNumbers c.args.second.now x) c.in-Some-2.is c.in_ok-second.ensures)
    (subst (λ o. (x : List Place) → (o ≡ Some x) ↔ SpellsString c.args.string_word.now x) c.in-Some-3.is c.in_ok-string.ensures)
