-- The signs as the list of names grows.
use Rattle.std.proofs.Common.{if◌then◌else◌, ◌≡◌, ◌≢◌, ℕ, zero, suc, ◌+◌, ◌<◌, ◌≤◌, Bool, true, false, List, [], ◌∷◌, ◌++◌, length, take, get_or, map, slice_get, Option, Some, None, All, IfSome, refl, sym, ap, ap₂, ◌∙◌, subst, arith, length-append, append-nil, append_assoc}
use Rattle.std.specs.List.{list_any, AllZip}
use Rattle.std.specs.Str.{bytes_eq}
use Rattle.std.proofs.lemmas.List.Elements.{All-push, All-weaker, All-head, All-tail, All-nil}
use Rattle.std.proofs.lemmas.List.{take_more}
use Rattle.std.proofs.lemmas.List.Sums.{fold-append}
use Rattle.jim_text.specs.declared.Kind.{Kind}
use Rattle.jim_text.specs.declared.Kind.TheVariants as kind
use Rattle.jim_text.specs.declared.Token.{Token}
use Rattle.jim_text.specs.Spelling.{Spells}
use Rattle.jim_text.specs.Lexes.{Begins, Reads, Lexes, IsNext, NoneBegins, StopsAt}
use Rattle.jim_text.proofs.ReadLemmas.{order_few, read_order, stop_no_list}
use Rattle.jim_text.specs.Lexes.Reads.{ends, blank, comment, token as read_token}
use Rattle.jim_text.specs.declared.lead.Lead.TheVariants.{Other}
use Rattle.jim_signs.specs.declared.seen.Sign.{Sign}
use Rattle.jim_signs.specs.Names.{text_of, contents, with_contents, names_of}
use Rattle.jim_signs.specs.Signs.{AreRead, IsNamed, number_of, sign_of, IsBelow}
use Rattle.jim_signs.proofs.NameLemmas.{place_of-append, slice_get-place_of, list_any-more, list_any-with_text}

-- a sign of a class other than the rest
abbrev pub IsClassed : Sign → Type 0
IsClassed sign = sign.lead ≢ Other

-- what is said is among the names
abbrev pub IsKnown : List (List ℕ) → Option (List ℕ) → Type 0
IsKnown names None = Unit {0}
IsKnown names (Some text) = list_any (bytes_eq text) names ≡ true

abbrev pub IsKnownToken : List ℕ → List (List ℕ) → Token → Type 0
IsKnownToken bytes names token = IsKnown names (contents token.kind (text_of bytes token))

-- the names that come with one more are the names before and some more
more_with : (names : List (List ℕ)) (said : Option (List ℕ)) → (more : List (List ℕ)) × (with_contents names said ≡ names ++ more)
more_with names None = ([], sym (append-nil names))
more_with names (Some text) = by (list_any (bytes_eq text) names)
  where
    by : (t : Bool) → (more : List (List ℕ)) × ((if t then names else names ++ text ∷ []) ≡ names ++ more)
    by true = ([], sym (append-nil names))
    by false = (text ∷ [], refl)

known_more : (names more : List (List ℕ)) (said : Option (List ℕ)) → IsKnown names said → IsKnown (names ++ more) said
known_more names more None h = h
known_more names more (Some text) h = list_any-more names more text h

pub known_with : (names : List (List ℕ)) (said : Option (List ℕ)) → IsKnown (with_contents names said) said
known_with names None = tt
known_with names (Some text) = list_any-with_text names text

number_more : (names more : List (List ℕ)) (k : Kind) (text : List ℕ) → IsKnown names (contents k text) → number_of (names ++ more) k text ≡ number_of names k text
number_more names more kind.Name text h = place_of-append names more _ h
number_more names more kind.Text text h = place_of-append names more _ h
number_more names more kind.Word text h = refl
number_more names more kind.Number text h = refl
number_more names more kind.At text h = refl
number_more names more kind.Mark text h = refl

-- signs of known tokens stay as they are
map_more : (bytes : List ℕ) (names more : List (List ℕ)) (tokens : List Token) → All (IsKnownToken bytes names) tokens
    → map (sign_of bytes (names ++ more)) tokens ≡ map (sign_of bytes names) tokens
map_more bytes names more [] h = refl
map_more bytes names more (token ∷ tokens) h =
    let of : ℕ → Sign = λ n. record (sign_of bytes names token) { text = n } in
    let first : sign_of bytes (names ++ more) token ≡ sign_of bytes names token = ap of (number_more names more token.kind (text_of bytes token) (All-head (IsKnownToken bytes names) token tokens h)) in
    ap₂ (λ x xs. x ∷ xs) first (map_more bytes names more tokens (All-tail (IsKnownToken bytes names) token tokens h))

named : (bytes : List ℕ) (names : List (List ℕ)) (token : Token) → IsKnownToken bytes names token → IsNamed bytes names token (sign_of bytes names token)
named bytes names token h = by token.kind (text_of bytes token) h
  where
    by : (k : Kind) (text : List ℕ) → IsKnown names (contents k text) → IfSome (contents k text) (λ said. slice_get names (number_of names k text) ≡ Some said)
    by kind.Name text h = slice_get-place_of names _ h
    by kind.Text text h = slice_get-place_of names _ h
    by kind.Word text h = tt
    by kind.Number text h = tt
    by kind.At text h = tt
    by kind.Mark text h = tt

-- the names and the signs of the first tokens
pub record SignsOf (bytes : List ℕ) (tokens : List Token) (names : List (List ℕ)) (signs : List Sign) : Type 0 where
  pub the_names : names ≡ names_of bytes tokens
  pub the_signs : signs ≡ map (sign_of bytes names) tokens
  pub known : All (IsKnownToken bytes names) tokens
  pub low : All (IsBelow (length names)) signs
  pub classed : All IsClassed signs

pub no_signs : (bytes : List ℕ) → SignsOf bytes [] [] []
no_signs bytes = record { the_names = refl; the_signs = refl; known = All-nil (IsKnownToken bytes []); low = All-nil (IsBelow 0); classed = All-nil IsClassed }

map-push : {X Y : Type 0} (f : X → Y) (xs : List X) (x : X) → map f (xs ++ x ∷ []) ≡ map f xs ++ f x ∷ []
map-push f [] x = refl
map-push f (y ∷ xs) x = ap (λ s. f y ∷ s) (map-push f xs x)

-- and with one token more
more_signs : (bytes : List ℕ) (tokens : List Token) (names new : List (List ℕ)) (signs : List Sign) (token : Token) (sign : Sign) → SignsOf bytes tokens names signs
    → new ≡ with_contents names (contents token.kind (text_of bytes token)) → sign ≡ sign_of bytes new token → IsBelow (length new) sign → IsClassed sign
    → SignsOf bytes (tokens ++ token ∷ []) new (signs ++ sign ∷ [])
more_signs bytes tokens names new signs token sign so_far e f below class =
    let said = contents token.kind (text_of bytes token) in
    let grown = more_with names said in
    let more = grown.0 in
    let longer : new ≡ names ++ more = e ∙ grown.1 in
    record {
      the_names = e ∙ ap (λ n. with_contents n said) so_far.the_names ∙ sym (fold-append (λ names token. with_contents names (contents token.kind (text_of bytes token))) [] tokens (token ∷ []));
      the_signs = rw (map-push (sign_of bytes new) tokens token) (ap₂ (λ s x. s ++ x ∷ []) (so_far.the_signs ∙ sym (map_more bytes names more tokens so_far.known) ∙ ap (λ n. map (sign_of bytes n) tokens) (sym longer)) f);
      known = All-push (IsKnownToken bytes new) tokens token
          (All-weaker (IsKnownToken bytes names) (IsKnownToken bytes new) (λ t h. subst (λ n. IsKnownToken bytes n t) (sym longer) (known_more names more _ h)) tokens so_far.known)
          (subst (λ n. IsKnown n said) (sym e) (known_with names said));
      low = All-push (IsBelow (length new)) signs sign
          (All-weaker (IsBelow (length names)) (IsBelow (length new)) (λ s h naming. omega (arith, h naming, longer_length more longer)) signs so_far.low)
          below;
      classed = All-push IsClassed signs sign so_far.classed class;
    }
  where
    longer_length : (more : List (List ℕ)) → new ≡ names ++ more → length names ≤ length new
    longer_length more longer = omega (arith, ap length longer, length-append names more)

-- the same of the token at a place
pub next_signs : (bytes : List ℕ) (tokens : List Token) (i : ℕ) (d : Token) (names new : List (List ℕ)) (signs : List Sign) (sign : Sign) → i < length tokens
    → SignsOf bytes (take i tokens) names signs
    → new ≡ with_contents names (contents (get_or tokens i d).kind (text_of bytes (get_or tokens i d))) → sign ≡ sign_of bytes new (get_or tokens i d) → IsBelow (length new) sign → IsClassed sign
    → SignsOf bytes (take (i + 1) tokens) new (signs ++ sign ∷ [])
next_signs bytes tokens i d names new signs sign within so_far e f below class =
    rw (take_more tokens i d within) (more_signs bytes (take i tokens) names new signs (get_or tokens i d) sign so_far e f below class)

take_whole : (i : ℕ) (tokens : List Token) → length tokens ≤ i → take i tokens ≡ tokens
take_whole zero [] h = refl
take_whole (suc i) [] h = refl
take_whole zero (token ∷ tokens) h = absurd (omega arith)
take_whole (suc i) (token ∷ tokens) h = ap (λ l. token ∷ l) (take_whole i tokens (omega arith))

-- the signs of all tokens name what the tokens say
pub all_named : (bytes : List ℕ) (tokens : List Token) (i : ℕ) (names : List (List ℕ)) (signs : List Sign) → length tokens ≤ i → SignsOf bytes (take i tokens) names signs → AllZip (IsNamed bytes names) tokens signs
all_named bytes tokens i names signs all so_far =
    let whole : take i tokens ≡ tokens = take_whole i tokens all in
    rw so_far.the_signs (subst (λ l. AllZip (IsNamed bytes names) l (map (sign_of bytes names) (take i tokens))) whole (over (take i tokens) so_far.known))
  where
    over : (tokens : List Token) → All (IsKnownToken bytes names) tokens → AllZip (IsNamed bytes names) tokens (map (sign_of bytes names) tokens)
    over [] h = tt
    over (token ∷ tokens) h = (named bytes names token (All-head (IsKnownToken bytes names) token tokens h), over tokens (All-tail (IsKnownToken bytes names) token tokens h))

-- each token of a text stands at its place
pub token_begins : {bytes : List ℕ} {from to : ℕ} {tokens : List Token} → Reads bytes from to tokens → (i : ℕ) (t : Token) → slice_get tokens i ≡ Some t → Begins bytes t.kind t.from t.to
token_begins (ends e) i t h = cc
token_begins (blank less b more) i t h = token_begins more i t h
token_begins (comment here more) i t h = token_begins more i t h
token_begins {bytes} (read_token first place here more) zero t h = let same : first ≡ t = cc in subst (λ (t : Token). Begins bytes t.kind t.from t.to) same here.begins
token_begins (read_token first place here more) (suc i) t h = token_begins more i t h

-- a token of a kind is spelled as that kind
pub spelled : (bytes : List ℕ) (t : Token) (k : Kind) → t.kind ≡ k → Begins bytes t.kind t.from t.to → Spells k bytes t.from t.to
spelled bytes t k e here = subst (λ k. Spells k bytes t.from t.to) e here.spelled

-- the names and the signs of the tokens up to a place, however the bytes go on from there
pub record ReadSigns (bytes : List ℕ) (at : ℕ) (names : List (List ℕ)) (signs : List Sign) : Type 0 where
  pub tokens : List Token
  pub read : (to : ℕ) (rest : List Token) → Reads bytes at to rest → Reads bytes 0 to (tokens ++ rest)
  pub so_far : SignsOf bytes tokens names signs

pub no_read : (bytes : List ℕ) → ReadSigns bytes 0 [] []
no_read bytes = record { tokens = []; read = λ to rest more. more; so_far = no_signs bytes }

-- and with the next token
pub more_read : (bytes : List ℕ) (at : ℕ) (names new : List (List ℕ)) (signs more : List Sign) (next : Token) → ReadSigns bytes at names signs → IsNext bytes at next
    → new ≡ with_contents names (contents next.kind (text_of bytes next)) → more ≡ signs ++ sign_of bytes new next ∷ [] → IsBelow (length new) (sign_of bytes new next)
    → IsClassed (sign_of bytes new next) → ReadSigns bytes next.to new more
more_read bytes at names new signs more next before here e f below class = record {
  tokens = before.tokens ++ next ∷ [];
  read = λ to rest further. rw append_assoc (before.read to (next ∷ rest) (here.reads to rest further));
  so_far = subst (λ s. SignsOf bytes (before.tokens ++ next ∷ []) new s) (sym f) (more_signs bytes before.tokens names new signs next (sign_of bytes new next) before.so_far e refl below class);
}

-- at the end they are those of all tokens
pub all_read : (bytes : List ℕ) (at : ℕ) (names : List (List ℕ)) (signs : List Sign) → ReadSigns bytes at names signs → Reads bytes at (length bytes) [] → AreRead bytes names signs
all_read bytes at names signs before end =
    let tokens = before.tokens in
    let lexed : Lexes bytes tokens = rw append-nil at (before.read (length bytes) [] end) in
    let whole : take (length tokens) tokens ≡ tokens = take_whole (length tokens) tokens (omega arith) in
    record {
      tokens = tokens;
      lexed = lexed;
      few = omega (arith, order_few tokens 0 (length bytes) (read_order lexed));
      the_names = before.so_far.the_names;
      the_signs = before.so_far.the_signs ∙ ap (λ n. map (sign_of bytes n) tokens) before.so_far.the_names;
      named = all_named bytes tokens (length tokens) names signs (omega arith) (subst (λ l. SignsOf bytes l names signs) (sym whole) before.so_far);
      below = before.so_far.low;
      known = before.so_far.classed;
    }

-- where nothing goes on the bytes have no tokens
pub none_read : (bytes : List ℕ) (at stop : ℕ) (names : List (List ℕ)) (signs : List Sign) → ReadSigns bytes at names signs → Reads bytes at stop [] → stop < length bytes
    → NoneBegins bytes stop → ((tokens : List Token) → ¬ (Lexes bytes tokens)) × StopsAt bytes stop
none_read bytes at stop names signs before end low none =
    let here : StopsAt bytes stop = record { tokens = before.tokens; reached = rw append-nil at (before.read stop [] end); before = low; stuck = none } in
    (stop_no_list here, here)
