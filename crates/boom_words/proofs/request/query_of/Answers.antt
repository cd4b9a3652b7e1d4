use Rattle.std.proofs.Common.{rules, ◌≡◌, ℕ, List, [], ◌∷◌, map, string_bytes, ap, sym, ◌∙◌, arith, refl}
use Rattle.std.specs.Fmt.{decimal}
use Rattle.boom_words.specs.Requests.{NoRequest}
use Rattle.boom_words.specs.Commands.{place_words}
use Rattle.boom_words.specs.declared.word.NotRead.TheVariants.{Refused}
use Rattle.boom_words.proofs.Elements.{five, four, one, two}
use Rattle.boom_words.proofs.Words.{names_place, names_wider_place, placed_words}
use Rattle.boom_words.proofs.request.query_of.Goals as goal

pub returns-in_ok-number_to-in-len1-clause-some : goal.returns-in_ok-number_to-in-len1-clause-some
returns-in_ok-number_to-in-len1-clause-some c =
    let words : map string_bytes c.args.words.now ≡ decimal c.in_ok-number_to-in-len1.field-0 ∷ [] =
    ap (map string_bytes) (one c.args.words.now c.budget-item.result (omega arith) c.budget-item.is)
    ∙ ap (λ word. word ∷ []) (sym c.deref.ensures ∙ c.in_ok-number_to-in-len1.ensures.some.0) in
    rw words c.budget_query.ensures.some

pub returns-in-len2-clause-some : goal.returns-in-len2-clause-some
returns-in-len2-clause-some c =
    let words : map string_bytes c.args.words.now ≡ c.deref-in-len2.result.now ∷ c.deref-in-len2-2.result.now ∷ [] =
    ap (map string_bytes) (two c.args.words.now c.word-item.result c.last-item.result (omega arith) c.word-item.is c.last-item.is)
    ∙ rw (c.deref-in-len2.ensures, c.deref-in-len2-2.ensures) refl in
    rw words c.pair_query.ensures.some

pub returns-in_err-asked-in-len4-clause-none : goal.returns-in_err-asked-in-len4-clause-none
returns-in_err-asked-in-len4-clause-none c =
    let words : map string_bytes c.args.words.now
    ≡ c.deref-in-len4.result.now ∷ c.deref-in-len4-2.result.now ∷ c.deref-in-len4-3.result.now ∷ c.deref-in-len4-4.result.now ∷ [] =
    ap (map string_bytes) (four c.args.words.now c.method-item.result c.index-item.result c.local-item.result c.budget-item-then-words-lt5.result (omega arith)
    c.method-item.is c.index-item.is c.local-item.is c.budget-item-then-words-lt5.is)
    ∙ rw (c.deref-in-len4.ensures, c.deref-in-len4-2.ensures, c.deref-in-len4-3.ensures, c.deref-in-len4-4.ensures) refl in
    let none : c.in_err-asked-in-len4.field-0.0 ≡ Refused → (entry : List ℕ) → NoRequest (c.args.first.now ∷ entry ∷ map string_bytes c.args.words.now) =
    (λ refused entry r h.
    let named = names_place c.args.first.now entry _ _ _ _ r (rw words at h) in c.in_err-asked-in-len4.ensures.none refused named.0 named.1) in
    search rules

placed : (c : goal.After-place_query) → map string_bytes c.args.words.now ≡ place_words c.in_ok-asked-in-len4.field-0 []
placed c =
    ap (map string_bytes) (four c.args.words.now c.method-item.result c.index-item.result c.local-item.result c.budget-item-then-words-lt5.result (omega arith)
    c.method-item.is c.index-item.is c.local-item.is c.budget-item-then-words-lt5.is)
    ∙ rw (c.deref-in-len4.ensures, c.deref-in-len4-2.ensures, c.deref-in-len4-3.ensures, c.deref-in-len4-4.ensures) refl
    ∙ placed_words c.in_ok-asked-in-len4.field-0 _ _ _ _ c.in_ok-asked-in-len4.ensures.some []

pub returns-in_ok-asked-in-len4-clause-some : goal.returns-in_ok-asked-in-len4-clause-some
returns-in_ok-asked-in-len4-clause-some c = rw (placed c) c.place_query.ensures.some

pub returns-in_ok-asked-in-len4-clause-none : goal.returns-in_ok-asked-in-len4-clause-none
returns-in_ok-asked-in-len4-clause-none c = rw (placed c) c.place_query.ensures.none

pub returns-in_err-asked-in-len5-clause-none : goal.returns-in_err-asked-in-len5-clause-none
returns-in_err-asked-in-len5-clause-none c =
    let words = five c.args.words.now c.method-item-then-words-lt6.result c.index-item-then-words-lt6.result c.local-item-then-words-lt6.result
    c.word-item-then-words-lt6.result c.budget-item-then-words-lt6.result (omega arith) c.method-item-then-words-lt6.is c.index-item-then-words-lt6.is
    c.local-item-then-words-lt6.is c.word-item-then-words-lt6.is c.budget-item-then-words-lt6.is in
    let none : c.in_err-asked-in-len5.field-0.0 ≡ Refused → (entry : List ℕ) → NoRequest (c.args.first.now ∷ entry ∷ map string_bytes c.args.words.now) =
    (λ refused entry r h.
    let named = names_wider_place c.args.first.now entry _ _ _ _ _ r (rw words at h) in
    c.in_err-asked-in-len5.ensures.none refused named.0 (rw (c.deref-in-len5.ensures, c.deref-in-len5-2.ensures, c.deref-in-len5-3.ensures, c.deref-in-len5-4.ensures) named.1)) in
    search rules

widely_placed : (c : goal.After-wider_query) → map string_bytes c.args.words.now ≡ place_words c.in_ok-asked-in-len5.asked (c.deref-in-len5-5.result.now ∷ [])
widely_placed c =
    ap (map string_bytes) (five c.args.words.now c.method-item-then-words-lt6.result c.index-item-then-words-lt6.result c.local-item-then-words-lt6.result
    c.word-item-then-words-lt6.result c.budget-item-then-words-lt6.result (omega arith) c.method-item-then-words-lt6.is c.index-item-then-words-lt6.is
    c.local-item-then-words-lt6.is c.word-item-then-words-lt6.is c.budget-item-then-words-lt6.is)
    ∙ rw (c.deref-in-len5.ensures, c.deref-in-len5-2.ensures, c.deref-in-len5-3.ensures, c.deref-in-len5-4.ensures, c.deref-in-len5-5.ensures) refl
    ∙ placed_words c.in_ok-asked-in-len5.asked _ _ _ _ c.in_ok-asked-in-len5.ensures.some (c.deref-in-len5-5.result.now ∷ [])

pub returns-in_ok-asked-in-len5-clause-some : goal.returns-in_ok-asked-in-len5-clause-some
returns-in_ok-asked-in-len5-clause-some c = rw (widely_placed c) c.wider_query.ensures.some

pub returns-in_ok-asked-in-len5-clause-none : goal.returns-in_ok-asked-in-len5-clause-none
returns-in_ok-asked-in-len5-clause-none c = rw (widely_placed c) c.wider_query.ensures.none
