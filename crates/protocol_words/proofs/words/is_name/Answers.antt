use Rattle.std.proofs.Common.{◌≡◌, ◌<◌, length, Bool, true, false, not, refl, arith, sym, ap, ◌∙◌, true≢false, lit<}
use Rattle.std.proofs.lemmas.Bool.Decides.{nat_tests}
use Rattle.track_rules.specs.Protocols.{IsName}
use Rattle.protocol_words.proofs.Names.{contains_has, contains_none, name_unless}
use Rattle.protocol_words.proofs.words.is_name.Goals as goal
use Rattle.protocol_words.proofs.words.is_name.Goals.{then-not-is_empty, else-not-is_empty}

not_true : (b : Bool) → not b ≡ true → b ≡ false
not_true true e = absurd (true≢false (sym e))
not_true false e = refl

not_false : (b : Bool) → not b ≡ false → b ≡ true
not_false true e = refl
not_false false e = absurd (true≢false e)

pub returns-then-not-contains : goal.returns-then-not-contains
returns-then-not-contains c = elim c.if-not-is_empty.branch [
  | then-not-is_empty w ↦
      let test = c.is_empty.ensures in
      let some : 0 < length c.args.text.now = grind (arith, nat_tests, w.if-not-is_empty.true) in
      let blank : w.contains.result ≡ false = not_true _ (sym w.value-is ∙ c.if-not-contains.true) in
      name_unless c.args.text.now c.contains-then-not-contains.result some (contains_none 32 c.args.text.now w.contains.result w.contains.ensures.cases (lit< tt) blank)
      (contains_has 59 c.args.text.now _ c.contains-then-not-contains.ensures.cases (lit< tt)) (contains_none 59 c.args.text.now _ c.contains-then-not-contains.ensures.cases (lit< tt))
  | else-not-is_empty w ↦ let value = w.value-is in let empty = w.if-not-is_empty.false in absurd (true≢false (sym c.if-not-contains.true ∙ value ∙ ap not empty))
]

pub returns-else-not-contains : goal.returns-else-not-contains
returns-else-not-contains c = (
  λ e. absurd (true≢false (sym e ∙ c.if-not-contains.false)),
  λ (name : IsName c.args.text.now). elim c.if-not-is_empty.branch [
    | then-not-is_empty w ↦
        let blank : w.contains.result ≡ true = not_false _ (sym w.value-is ∙ c.if-not-contains.false) in
        absurd (name.no_blank (contains_has 32 c.args.text.now w.contains.result w.contains.ensures.cases (lit< tt) blank))
    | else-not-is_empty w ↦ let some = name.some in let test = c.is_empty.ensures in absurd (grind (arith, nat_tests, w.if-not-is_empty.false))
  ],
)
