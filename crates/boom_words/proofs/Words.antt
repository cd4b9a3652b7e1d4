-- The words of a request, by their number and their first.
use Rattle.std.proofs.Common.{◌≡◌, ℕ, ◌^◌, ◌<◌, ◌≤◌, List, [], ◌∷◌, ◌++◌, ap, get_or, length, nat_eq, refl, sym, ◌∙◌, true≢false, arith}
use Rattle.std.specs.Fmt.{decimal}
use Rattle.std.specs.Str.{bytes_eq}
use Rattle.std.proofs.lemmas.Fmt.{decimal_injective}
use Rattle.boom_words.specs.Requests.{Alias, AreChoices, IsQuestion, IsRequest, IsWithinBounds, Paths, PointsTo, Question, Refined, Request, RunFor, Typestate, alias, batch, choices_word, demo, explain, paths, points_to, question_words, refined, replay, run, typestate}
use Rattle.boom_words.specs.Commands.{IsPlaced, place_words, points_to_of}
use Rattle.boom_words.specs.declared.request.Asked.{Asked}

place_of_four : (first entry m i l b : List ℕ) (named : List ℕ) (q : Question) → IsQuestion (first ∷ entry ∷ m ∷ i ∷ l ∷ b ∷ []) named q
    → (asked : PointsTo) × IsPlaced m i l b asked
place_of_four first entry m i l b named (points_to a) h =
    let e = h.in_order in
    (a, record { is_method = cc; is_index = cc; is_local = cc; is_budget = cc; small_index = h.within.0; small_budget = h.within.1 })
place_of_four first entry m i l b named (explain a) h =
    let e = h.in_order in
    (a, record { is_method = cc; is_index = cc; is_local = cc; is_budget = cc; small_index = h.within.0; small_budget = h.within.1 })
place_of_four first entry m i l b named q h = absurd (true≢false (ap (λ all. nat_eq (length all) 6) h.in_order))

-- four words behind an entry name a place
pub names_place : (first entry m i l b : List ℕ) (r : Request) → IsRequest (first ∷ entry ∷ m ∷ i ∷ l ∷ b ∷ []) r → (asked : PointsTo) × IsPlaced m i l b asked
names_place first entry m i l b r h = place_of_four first entry m i l b r.entry r.question h

place_of_five : (first entry m i l x b : List ℕ) (named : List ℕ) (q : Question) → IsQuestion (first ∷ entry ∷ m ∷ i ∷ l ∷ x ∷ b ∷ []) named q
    → (asked : PointsTo) × IsPlaced m i l b asked
place_of_five first entry m i l x b named (alias a) h =
    let e = h.in_order in (
      record { method = a.method; index = a.index; local = a.first; budget = a.budget },
      record { is_method = cc; is_index = cc; is_local = cc; is_budget = cc; small_index = h.within.0; small_budget = h.within.1 },
    )
place_of_five first entry m i l x b named (paths a) h =
    let e = h.in_order in (
      record { method = a.method; index = a.index; local = a.local; budget = a.budget },
      record { is_method = cc; is_index = cc; is_local = cc; is_budget = cc; small_index = h.within.0; small_budget = h.within.1 },
    )
place_of_five first entry m i l x b named (refined a) h =
    let e = h.in_order in (
      record { method = a.method; index = a.index; local = a.local; budget = a.budget },
      record { is_method = cc; is_index = cc; is_local = cc; is_budget = cc; small_index = h.within.0; small_budget = h.within.1 },
    )
place_of_five first entry m i l x b named q h = absurd (true≢false (ap (λ all. nat_eq (length all) 7) h.in_order))

-- five words behind an entry name a place, with a word before its budget
pub names_wider_place : (first entry m i l x b : List ℕ) (r : Request) → IsRequest (first ∷ entry ∷ m ∷ i ∷ l ∷ x ∷ b ∷ []) r
    → (asked : PointsTo) × IsPlaced m i l b asked
names_wider_place first entry m i l x b r h = place_of_five first entry m i l x b r.entry r.question h

-- the words of a place that was read are those that name it
pub placed_words : (a : Asked) (m i l b : List ℕ) → IsPlaced m i l b (points_to_of a) → (between : List (List ℕ)) → m ∷ i ∷ l ∷ (between ++ b ∷ []) ≡ place_words a between
placed_words a m i l b is between = rw (is.is_method, is.is_index, is.is_local, is.is_budget) refl

-- a number below 2^32 is printed in its own way
number_one : (m n : ℕ) → m < 2 ^ 32 → n < 2 ^ 32 → decimal m ≡ decimal n → m ≡ n
number_one m n p q e = decimal_injective m n (omega (arith, p)) (omega (arith, q)) e

no_boxes : (first word : List ℕ) (named : List ℕ) (q : Question) → IsQuestion (first ∷ word ∷ []) named q → word ≡ decimal 0 → ⊥
no_boxes first word named (demo boxes) h zero_boxes =
    let e = h.in_order in
    let some = h.within.0 in
    let few = h.within.1 in
    let none : boxes ≡ 0 = number_one boxes 0 (omega (arith, few)) (omega arith) cc in
    omega (arith, some, none)
no_boxes first word named q h zero_boxes = absurd (true≢false (ap (λ all. nat_eq (length all) 2) h.in_order))

-- the demo has a box
pub has_boxes : (first word : List ℕ) (r : Request) → IsRequest (first ∷ word ∷ []) r → word ≡ decimal 0 → ⊥
has_boxes first word r h = no_boxes first word r.entry r.question h

-- a word names one list of choices
choices_one : (a b : List ℕ) → choices_word a ≡ choices_word b → AreChoices a → AreChoices b → a ≡ b
choices_one [] [] e v w = refl
choices_one [] (c ∷ cs) e v w = let same : 45 ≡ c = cc in let digit : 48 ≤ c = (w.1 0 0 (omega arith)).0 in absurd (omega (arith, same, digit))
choices_one (c ∷ cs) [] e v w = let same : c ≡ 45 = cc in let digit : 48 ≤ c = (v.1 0 0 (omega arith)).0 in absurd (omega (arith, same, digit))
choices_one (c ∷ cs) (d ∷ ds) e v w = e

abbrev place_words_of : PointsTo → List (List ℕ)
place_words_of a = a.method ∷ decimal a.index ∷ a.local ∷ decimal a.budget ∷ []

-- four words name one place
place_one : (a b : PointsTo) → place_words_of a ≡ place_words_of b → (a.index < 2 ^ 32) × (a.budget < 2 ^ 32) → (b.index < 2 ^ 32) × (b.budget < 2 ^ 32) → a ≡ b
place_one a b e v w =
    let method : a.method ≡ b.method = cc in
    let index : a.index ≡ b.index = number_one a.index b.index v.0 w.0 cc in
    let local : a.local ≡ b.local = cc in
    let budget : a.budget ≡ b.budget = number_one a.budget b.budget v.1 w.1 cc in
    rw (method, index, local, budget) refl

abbrev request : List ℕ → Question → Request
request entry q = record { entry = entry; question = q }

same_request : (a b : List ℕ) (q p : Question) → q ≡ p → a ≡ b → request a q ≡ request b p
same_request a b q p e f = rw (f, e) refl

question_one : (named other : List ℕ) (q p : Question) → question_words named q ≡ question_words other p → IsWithinBounds named q → IsWithinBounds other p
    → request named q ≡ request other p
question_one named other (points_to a) (points_to b) e v w =
    let same : place_words_of a ≡ place_words_of b = cc in
    same_request named other (points_to a) (points_to b) (ap points_to (place_one a b same v w)) cc
question_one named other (explain a) (explain b) e v w =
    let same : place_words_of a ≡ place_words_of b = cc in
    same_request named other (explain a) (explain b) (ap explain (place_one a b same v w)) cc
question_one named other (alias a) (alias b) e v w =
    let method : a.method ≡ b.method = cc in
    let index : a.index ≡ b.index = number_one a.index b.index v.0 w.0 cc in
    let first : a.first ≡ b.first = cc in
    let second : a.second ≡ b.second = cc in
    let budget : a.budget ≡ b.budget = number_one a.budget b.budget v.1 w.1 cc in
    let same : a ≡ b = rw (method, index, first, second, budget) refl in
    same_request named other (alias a) (alias b) (ap alias same) cc
question_one named other (paths a) (paths b) e v w =
    let method : a.method ≡ b.method = cc in
    let index : a.index ≡ b.index = number_one a.index b.index v.0 w.0 cc in
    let local : a.local ≡ b.local = cc in
    let fields : a.fields ≡ b.fields = cc in
    let budget : a.budget ≡ b.budget = number_one a.budget b.budget v.1 w.1 cc in
    let same : a ≡ b = rw (method, index, local, fields, budget) refl in
    same_request named other (paths a) (paths b) (ap paths same) cc
question_one named other (refined a) (refined b) e v w =
    let few = v.2 in
    let none_more = w.2 in
    let method : a.method ≡ b.method = cc in
    let index : a.index ≡ b.index = number_one a.index b.index v.0 w.0 cc in
    let local : a.local ≡ b.local = cc in
    let rounds : a.rounds ≡ b.rounds = number_one a.rounds b.rounds (omega (arith, few)) (omega (arith, none_more)) cc in
    let budget : a.budget ≡ b.budget = number_one a.budget b.budget v.1 w.1 cc in
    let same : a ≡ b = rw (method, index, local, rounds, budget) refl in
    same_request named other (refined a) (refined b) (ap refined same) cc
question_one named other (run a) (run b) e v w =
    let few = v.0 in
    let none_more = w.0 in
    let steps : a.steps ≡ b.steps = number_one a.steps b.steps (omega (arith, few)) (omega (arith, none_more)) cc in
    let choices : a.choices ≡ b.choices = choices_one a.choices b.choices (let same = e in cc) v.1 w.1 in
    let same : a ≡ b = rw (steps, choices) refl in
    same_request named other (run a) (run b) (ap run same) cc
question_one named other (replay a) (replay b) e v w = same_request named other (replay a) (replay b) (ap replay (number_one a b v w cc)) cc
question_one named other (typestate a) (typestate b) e v w =
    let protocol : a.protocol ≡ b.protocol = cc in
    let budget : a.budget ≡ b.budget = number_one a.budget b.budget v w cc in
    let same : a ≡ b = rw (protocol, budget) refl in
    same_request named other (typestate a) (typestate b) (ap typestate same) cc
question_one named other (batch a) (batch b) e v w = same_request named other (batch a) (batch b) (ap batch (number_one a b v w cc)) cc
question_one named other (demo a) (demo b) e v w =
    let few = v.1 in
    let none_more = w.1 in
    same_request named other (demo a) (demo b) (ap demo (number_one a b (omega (arith, few)) (omega (arith, none_more)) cc)) (v.2 ∙ sym w.2)
question_one named other q p e v w = absurd (true≢false (ap (λ all. bytes_eq (get_or (question_words named q) 0 []) (get_or all 0 [])) e))

-- words are one request
pub request_one : (words : List (List ℕ)) (r s : Request) → IsRequest words r → IsRequest words s → r ≡ s
request_one words r s h k = question_one r.entry s.entry r.question s.question (sym h.in_order ∙ k.in_order) h.within k.within
