-- Whether a command is the demo's.
use Rattle.std.proofs.Common.{◌≡◌, ℕ, List, refl}
use Rattle.boom_words.specs.Commands.{question_of}
use Rattle.boom_words.specs.declared.request.Query.{Query}
use Rattle.boom_words.specs.declared.request.Query.TheVariants as query
use Rattle.demo_text.specs.Demo.{demo_source}
use Rattle.boom_top.specs.Queries.{IsDemo, source_of}

-- the demo is about its own text
pub own_source : (q : Query) (boxes : ℕ) → q ≡ query.Demo boxes → (bytes : List ℕ) → demo_source boxes ≡ source_of (question_of q) bytes
own_source q boxes e bytes = rw e refl

-- other commands are about the bytes that are read
pub read_source : (q : Query) → ((boxes : ℕ) → q ≡ query.Demo boxes → ⊥) → (bytes : List ℕ) → bytes ≡ source_of (question_of q) bytes
read_source (query.Demo boxes) other bytes = absurd (other boxes refl)
read_source _ other bytes = refl

pub other_question : (q : Query) → ((boxes : ℕ) → q ≡ query.Demo boxes → ⊥) → IsDemo (question_of q) → ⊥
other_question (query.Demo boxes) other is = other boxes refl
other_question _ other is = is
