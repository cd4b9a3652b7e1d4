-- The place at which tokens are refused.
use Rattle.std.proofs.Common.{◌≡◌, ◌≢◌, ℕ, zero, suc, ◌+◌, ◌<◌, ◌≤◌, ◌⊎◌, inl, inr, List, [], ◌∷◌, ◌++◌, map, take, drop, All, refl, sym, ap, ◌∙◌, subst, arith, append_assoc}
use Rattle.std.proofs.lemmas.List.{map-append, length-map, take-append-drop}
use Rattle.jim_text.specs.declared.Token.{Token}
use Rattle.jim_text.specs.declared.lead.Lead.TheVariants as lead
use Rattle.jim_signs.specs.declared.seen.Sign.{Sign}
use Rattle.jim_signs.specs.Names.{names_of}
use Rattle.jim_signs.specs.Pieces.{Piece, piece_lead}
use Rattle.jim_signs.specs.Signs.{sign_of, signs_of}
use Rattle.jim_signs.proofs.PieceLemmas.{has_token}
use Rattle.jim_grammar.specs.Laws.{leads}
use Rattle.jim_grammar.specs.Refusals as text
use Rattle.jim_grammar.proofs.Classes.{go_by_classes, have_known_classes}
use Rattle.jim_parse.specs.Derives.{GoesOn, IsRefusedAt, sign_of_piece}

-- none of the signs has the class that no token has
abbrev pub AreKnown : List Sign → Type 0
AreKnown signs = All (λ (s : Sign). s.lead ≢ lead.Other) signs

-- tokens of given classes
pieces_for : (more : List Sign) → AreKnown more → (pieces : List Piece) × (leads (map sign_of_piece pieces) ≡ leads more)
pieces_for [] known = ([], refl)
pieces_for (s ∷ more) known = by (has_token s.lead) (pieces_for more (λ k d short. known (suc k) d (omega arith)))
  where
    by : (s.lead ≡ lead.Other) ⊎ ((piece : Piece) × (piece_lead piece ≡ s.lead)) → ((pieces : List Piece) × (leads (map sign_of_piece pieces) ≡ leads more))
        → (pieces : List Piece) × (leads (map sign_of_piece pieces) ≡ leads (s ∷ more))
    by (inl other) later = absurd (known 0 s (omega arith) other)
    by (inr (piece, is)) later = (piece ∷ later.0, ap (λ k. k ∷ leads (map sign_of_piece later.0)) is ∙ ap (λ ls. s.lead ∷ ls) later.1)

-- where the first n tokens and some signs are a program, the tokens go on to one
goes_on : (bytes : List ℕ) (tokens : List Token) (n : ℕ) (more : List Sign) → AreKnown more → text.Derives (take n (signs_of bytes tokens) ++ more) → GoesOn bytes tokens n
goes_on bytes tokens n more known derived =
    let pieces = pieces_for more known in
    let front = take n (signs_of bytes tokens) in
    let same : leads (front ++ more) ≡ leads (front ++ map sign_of_piece pieces.0) =
    map-append (λ (s : Sign). s.lead) front more ∙ ap (λ ls. leads front ++ ls) (sym pieces.1)
    ∙ sym (map-append (λ (s : Sign). s.lead) front (map sign_of_piece pieces.0)) in
    record { more = pieces.0; derived = go_by_classes (front ++ more) (front ++ map sign_of_piece pieces.0) same derived }

-- a shorter begin of a begin
take_less : (n at : ℕ) (xs : List Sign) → n ≤ at → take n (take at xs) ≡ take n xs
take_less zero at xs less = refl
take_less (suc n) zero xs less = absurd (omega arith)
take_less (suc n) (suc at) [] less = refl
take_less (suc n) (suc at) (x ∷ xs) less = ap (λ ys. x ∷ ys) (take_less n at xs (omega arith))

-- and so they do from each shorter begin
goes_on_before : (bytes : List ℕ) (tokens : List Token) (at : ℕ) (more : List Sign) → text.Derives (take at (signs_of bytes tokens) ++ more)
    → (n : ℕ) → n ≤ at → GoesOn bytes tokens n
goes_on_before bytes tokens at more derived n less =
    let signs = signs_of bytes tokens in
    let between = drop n (take at signs) in
    let front : take at signs ++ more ≡ take n signs ++ (between ++ more) =
    ap (λ xs. xs ++ more) (sym (take-append-drop n (take at signs)) ∙ ap (λ xs. xs ++ between) (take_less n at signs less)) ∙ append_assoc (take n signs) between more in
    let known = subst AreKnown front (have_known_classes (take at signs ++ more) derived) in
    goes_on bytes tokens n (between ++ more) (All-behind (take n signs) (between ++ more) known) (subst text.Derives front derived)
  where
    All-behind : (xs ys : List Sign) → AreKnown (xs ++ ys) → AreKnown ys
    All-behind [] ys known = known
    All-behind (x ∷ xs) ys known = All-behind xs ys (λ k d short. known (suc k) d (omega arith))

-- where the grammar refuses the signs of tokens, the tokens are refused
pub least_refuses : (bytes : List ℕ) (tokens : List Token) (signs : List Sign) → signs ≡ signs_of bytes tokens → (at : ℕ) → text.Least signs at → IsRefusedAt bytes tokens at
least_refuses bytes tokens signs same at least =
    let here : text.Least (signs_of bytes tokens) at = subst (λ w. text.Least w at) same least in
    let long = length-map tokens (sign_of bytes (names_of bytes tokens)) in
    record {
      within = omega (arith, here.within, long);
      begun = goes_on_before bytes tokens at here.viable.0 here.viable.1;
      refused = λ less goes. here.refused (omega (arith, less, long)) (map sign_of_piece goes.more) goes.derived;
      none = λ program derived. here.whole (record { tree = derived.tree; spells = derived.spelled });
    }

-- at one place at most
pub one_place : (bytes : List ℕ) (tokens : List Token) (a b : ℕ) → IsRefusedAt bytes tokens a → IsRefusedAt bytes tokens b → a ≡ b
one_place bytes tokens a b p q = by (order a b)
  where
    order : (a b : ℕ) → (a ≡ b) ⊎ (a < b) ⊎ (b < a)
    order a b = grind arith

    by : (a ≡ b) ⊎ (a < b) ⊎ (b < a) → a ≡ b
    by (inl e) = e
    by (inr (inl less)) = absurd (p.refused (omega (arith, q.within)) (q.begun (a + 1) (omega arith)))
    by (inr (inr less)) = absurd (q.refused (omega (arith, p.within)) (p.begun (b + 1) (omega arith)))
