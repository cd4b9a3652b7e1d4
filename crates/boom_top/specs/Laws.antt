-- What is asked has one reply.
use Rattle.std.specs.Prelude.{◌≡◌, ℕ, List}
use Rattle.boom_words.specs.Requests.{Question, Request, IsRequest, explain}
use Rattle.report_text.specs.Lines.{text_of}
use Rattle.boom_top.specs.Replies.{IsReply}
use Rattle.boom_top.specs.declared.status.Status.{Status}

-- the question asks for certificates, of which a site may have several
abbrev pub AsksWhy : Question → Type 0
AsksWhy (explain asked) = Unit {0}
AsksWhy _ = ⊥

-- The reply to words over bytes has one status, and one text unless the words ask for certificates.
abbrev pub RepliesAreOne : Type 0
RepliesAreOne = (words : List (List ℕ)) (bytes : List ℕ) (s t : Status) (xs ys : List (List ℕ)) → IsReply words bytes s xs → IsReply words bytes t ys
    → (s ≡ t) × (((r : Request) → IsRequest words r → AsksWhy r.question → ⊥) → text_of xs ≡ text_of ys)
