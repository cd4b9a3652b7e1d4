-- What was written, and what the status then says.
use Rattle.std.proofs.Common.{◌≡◌, ℕ, ◌+◌, ◌<◌, List, [], length, Option, Some, None, Result, Ok, Err, ap, refl, sym, ◌∙◌, subst, ◌⊎◌, inl, inr, arith}
use Rattle.std.specs.Result.{IfErr, IfOk}
use Rattle.std.specs.Option.{IfSome}
use Rattle.std.specs.Io.KnownBytes.{Appends}
use Rattle.boom_io.specs.Causes.{Rose}
use Rattle.boom_io.specs.Whole.{AppendsProperPrefix, TakesFirst, TakesWithin}
use Rattle.boom_io.specs.declared.whole.ReadAll.{ReadAll}
use Rattle.std.specs.Global.{Vec}
use Rattle.report_text.specs.Lines.{text_of}
use Rattle.boom_words.specs.Requests.{Request, Typestate, IsQuestion, IsRequest, typestate}
use Rattle.boom_words.proofs.Words.{request_one}
use Rattle.boom_top.specs.Parts.{IsGiven, Makes, Sends, status_of}
use Rattle.boom_top.specs.Demands.{IsAnswerable}
use Rattle.boom_top.specs.Evidence.{HasEvidence}
use Rattle.boom_top.specs.Queries.{Accepted, TakesAtMost, rest_in, source_of}
use Rattle.boom_top.specs.Replies.{GivesUp, IsReply, IsReplyTo}
use Rattle.boom_top.specs.Runs.{CoversAllRuns}
use Rattle.boom_top.specs.declared.query.NoReply.{NoReply}
use Rattle.boom_top.specs.declared.query.NoReply.TheVariants as none
use Rattle.boom_top.specs.declared.query.Reply.{Reply}
use Rattle.boom_top.specs.declared.status.Status.{Status}
use Rattle.boom_top.specs.declared.status.Status.TheVariants.{Done, Usage, ReadFault, WriteFault, NoMemory}
use Rattle.boom_top.specs.Safety.{SaysSafe}
use Rattle.track_rules.specs.Protocols.{IsProtocolOf, ProtocolParts}
use Rattle.track_runs.specs.Monitor.{IsSafe}
use Rattle.boom_top.proofs.Asked.{covers, enough, evidence, safe}
use Rattle.boom_top.proofs.Once.{source_given, source_one}

-- what is said of the bytes that were read is said of those that were left
pub IfSome-read : {A : Type 0} (o : Option A) (v : A) (P : A → Type 0) → IfSome o (λ x. v ≡ x) → P v → IfSome o P
IfSome-read (Some x) v P e p = subst P e p
IfSome-read None v P e p = tt

-- where the first limit + 1 bytes were taken of those that were left, these are more than the limit
pub IfSome-long : (n : ℕ) (old new : Option (List ℕ)) (P : List ℕ → Type 0) → TakesFirst (n + 1) old new → ((bytes : List ℕ) → n < length bytes → P bytes) → IfSome old P
IfSome-long n None new P takes p = tt
IfSome-long n (Some xs) None P takes p = absurd takes
IfSome-long n (Some xs) (Some ys) P takes p = p xs (omega (arith, takes.0))

-- where nothing is read nothing is taken
pub takes_nothing : (most : ℕ) (left : Option (List ℕ)) → TakesAtMost most left left
takes_nothing most None = ([], tt, omega arith)
takes_nothing most (Some xs) = ([], refl, omega arith)

-- a read of at most so many bytes takes one more at most
pub takes_at_most : (limit : ℕ) (old new : Option (List ℕ)) (result : Result (Vec ℕ) ReadAll) → TakesWithin limit old new result → TakesAtMost (limit + 1) old new
takes_at_most limit old new result t = (t.taken, t.consumed, t.within)

-- so is said of the bytes that a command is about what is said of those that were left, where these are told
pub IfSome-about : {A : Type 0} (o : Option A) (P : A → Type 0) (D : Type 0) → IfSome o P → (D → (x : A) → P x) → (x : A) → (o ≡ Some x) ⊎ D → P x
IfSome-about {A} o P D h f x (inl e) = subst (λ (q : Option A). IfSome q P) e h
IfSome-about o P D h f x (inr d) = f d x

-- words have one status
words_one : (words : List (List ℕ)) (bytes : List ℕ) (s t : Status) (xs ys : List (List ℕ)) → IsReply words bytes s xs → IsReply words bytes t ys → s ≡ t
words_one words bytes s t xs ys (inl a) (inl b) = a.1.0 ∙ sym b.1.0
words_one words bytes s t xs ys (inl a) (inr b) = absurd (a.0 b.0 b.1)
words_one words bytes s t xs ys (inr a) (inl b) = absurd (b.0 a.0 a.1)
words_one words bytes s t xs ys (inr a) (inr b) =
    let same = subst (λ (r : Request). IsReplyTo r bytes s xs) (request_one words a.0 b.0 a.1 b.1) a.2 in
    source_one b.0 (source_of b.0.question bytes) s t xs ys same b.2

-- a reply to words that are a request is one to the request
reply_to : (words : List (List ℕ)) (bytes : List ℕ) (r : Request) → IsRequest words r → (s : Status) (lines : List (List ℕ)) → IsReply words bytes s lines → IsReplyTo r bytes s lines
reply_to words bytes r is s lines (inl a) = absurd (a.0 r is)
reply_to words bytes r is s lines (inr a) = subst (λ (q : Request). IsReplyTo q bytes s lines) (request_one words a.0 r a.1 is) a.2

-- a status that gives up is no status of a reply
given_up : (s : Status) → GivesUp s → IsGiven s → ⊥
given_up ReadFault up given = given
given_up WriteFault up given = given
given_up NoMemory up given = given
given_up _ up given = absurd up

-- a reply to words doesn't give up
pub reply_stands : (words : List (List ℕ)) (bytes : List ℕ) (s : Status) (lines : List (List ℕ)) → IsReply words bytes s lines → GivesUp s → ⊥
reply_stands words bytes s lines (inl a) up = subst GivesUp a.1.0 up
reply_stands words bytes s lines (inr a) up = given_up s up (source_given a.0 (source_of a.0.question bytes) s lines a.2)

-- where no read failed, want of memory is the only reason for no reply
pub only_memory : (made : Result Reply NoReply) → (made ≡ Err none.ReadFault → ⊥) → (e : NoReply) → made ≡ Err e → e ≡ none.NoMemory
only_memory made calm none.ReadFault is = absurd (calm is)
only_memory made calm none.NoMemory is = refl

-- the status where there is no reply gives up
lost : (e : NoReply) → GivesUp (status_of e)
lost none.ReadFault = tt
lost none.NoMemory = tt

-- what was sent, by what was made
module _ (old new : Option (List ℕ)) (before now : ℕ) (result : Status) (X : Type 0) where
  abbrev pub Sent : Reply → Type 0
  Sent reply = Sends reply.status reply.text.items old new before now result

  abbrev pub Unsent : NoReply → Type 0
  Unsent e = (result ≡ status_of e) × X

  module _ (words : List (List ℕ)) (bytes : List ℕ) where
    abbrev pub Made : Reply → Type 0
    Made reply = Makes (IsReply words bytes) reply

    pub replied : (made : Result Reply NoReply) → IfOk made Sent → IfErr made Unsent → IfOk made Made
        → GivesUp result ⊎ ((lines : List (List ℕ)) × IsReply words bytes result lines × Appends old new (text_of lines))
    replied (Err e) sent unsent is = inl (subst GivesUp (sym unsent.0) (lost e))
    replied (Ok reply) sent unsent is = elim sent [
      | inl whole ↦ inr (is.0, subst (λ (s : Status). IsReply words bytes s is.0) (sym whole.0) is.1, subst (λ (t : List ℕ). Appends old new t) is.2 whole.1)
      | inr part ↦ inl (subst GivesUp (sym part.0) tt)
    ]

    pub partly : (made : Result Reply NoReply) → IfOk made Sent → IfErr made Unsent → IfOk made Made → result ≡ WriteFault
        → (s : Status) × (lines : List (List ℕ)) × IsReply words bytes s lines × AppendsProperPrefix old new (text_of lines)
    partly (Err none.ReadFault) sent unsent is fault = absurd (let no : ReadFault ≡ WriteFault = sym unsent.0 ∙ fault in cc)
    partly (Err none.NoMemory) sent unsent is fault = absurd (let no : NoMemory ≡ WriteFault = sym unsent.0 ∙ fault in cc)
    partly (Ok reply) sent unsent is fault = elim sent [
      | inl whole ↦ absurd (reply_stands words bytes reply.status is.0 is.1 (subst GivesUp (sym fault ∙ whole.0) tt))
      | inr part ↦ (reply.status, is.0, is.1, subst (λ (t : List ℕ). AppendsProperPrefix old new t) is.2 part.2)
    ]

    pub exactly : (made : Result Reply NoReply) → IfOk made Sent → IfErr made Unsent → IfOk made Made
        → (s : Status) (lines : List (List ℕ)) → IsReply words bytes s lines → (result ≡ s) ⊎ GivesUp result
    exactly (Err e) sent unsent is s lines h = inr (subst GivesUp (sym unsent.0) (lost e))
    exactly (Ok reply) sent unsent is s lines h = elim sent [
      | inl whole ↦ inl (whole.0 ∙ words_one words bytes reply.status s is.0 lines is.1 h)
      | inr part ↦ inr (subst GivesUp (sym part.0) tt)
    ]

    pub soundly : (made : Result Reply NoReply) → IfOk made Sent → IfErr made Unsent → IfOk made Made
        → result ≡ Done → (r : Request) → IsRequest words r → (a : Accepted r bytes) → CoversAllRuns a.linked (rest_in r.question (source_of r.question bytes)) r.question old new
    soundly (Err none.ReadFault) sent unsent is done r is_request a = absurd (let no : ReadFault ≡ Done = sym unsent.0 ∙ done in cc)
    soundly (Err none.NoMemory) sent unsent is done r is_request a = absurd (let no : NoMemory ≡ Done = sym unsent.0 ∙ done in cc)
    soundly (Ok reply) sent unsent is done r is_request a = elim sent [
      | inl whole ↦
          let to = reply_to words bytes r is_request reply.status is.0 is.1 in
          let status : reply.status ≡ Done = sym whole.0 ∙ done in
          covers r bytes a old new is.0 (subst (λ (t : List ℕ). Appends old new t) is.2 whole.1)
          (subst (λ (s : Status). IsReplyTo r bytes s is.0) status to)
      | inr part ↦ absurd (let no : WriteFault ≡ Done = sym part.0 ∙ done in cc)
    ]

    pub safely : (made : Result Reply NoReply) → IfOk made Sent → IfErr made Unsent → IfOk made Made
        → result ≡ Done → (entry : List ℕ) (asked : Typestate) → IsQuestion words entry (typestate asked)
        → (a : Accepted (record { entry = entry; question = typestate asked }) bytes) (k : ProtocolParts) → IsProtocolOf a.linked asked.protocol k
        → SaysSafe old new → IsSafe a.linked k
    safely (Err none.ReadFault) sent unsent is done entry asked is_request a k of says = absurd (let no : ReadFault ≡ Done = sym unsent.0 ∙ done in cc)
    safely (Err none.NoMemory) sent unsent is done entry asked is_request a k of says = absurd (let no : NoMemory ≡ Done = sym unsent.0 ∙ done in cc)
    safely (Ok reply) sent unsent is done entry asked is_request a k of says = elim sent [
      | inl whole ↦
          let r : Request = record { entry = entry; question = typestate asked } in
          let to = reply_to words bytes r is_request reply.status is.0 is.1 in
          let status : reply.status ≡ Done = sym whole.0 ∙ done in
          safe entry asked bytes a old new is.0 (subst (λ (t : List ℕ). Appends old new t) is.2 whole.1)
          (subst (λ (s : Status). IsReplyTo r bytes s is.0) status to) k of says
      | inr part ↦ absurd (let no : WriteFault ≡ Done = sym part.0 ∙ done in cc)
    ]

    pub evidently : (made : Result Reply NoReply) → IfOk made Sent → IfErr made Unsent → IfOk made Made
        → result ≡ Done → (r : Request) → IsRequest words r → (a : Accepted r bytes)
        → HasEvidence a.linked (rest_in r.question (source_of r.question bytes)) r.question old new
    evidently (Err none.ReadFault) sent unsent is done r is_request a = absurd (let no : ReadFault ≡ Done = sym unsent.0 ∙ done in cc)
    evidently (Err none.NoMemory) sent unsent is done r is_request a = absurd (let no : NoMemory ≡ Done = sym unsent.0 ∙ done in cc)
    evidently (Ok reply) sent unsent is done r is_request a = elim sent [
      | inl whole ↦
          let to = reply_to words bytes r is_request reply.status is.0 is.1 in
          let status : reply.status ≡ Done = sym whole.0 ∙ done in
          evidence r bytes a old new is.0 (subst (λ (t : List ℕ). Appends old new t) is.2 whole.1)
          (subst (λ (s : Status). IsReplyTo r bytes s is.0) status to)
      | inr part ↦ absurd (let no : WriteFault ≡ Done = sym part.0 ∙ done in cc)
    ]

    pub completely : (made : Result Reply NoReply) → IfOk made Sent → IfErr made Unsent → IfOk made Made → (Failed : Type 0)
        → (made ≡ Err none.ReadFault → Failed) → IsAnswerable words bytes → ¬ Failed → ¬ Rose before now → (result ≡ Done) ⊎ (result ≡ NoMemory)
    completely (Err e) sent unsent is Failed fault can read calm =
        inr (unsent.0 ∙ ap status_of (only_memory (Err e) (λ h. read (fault h)) e refl))
    completely (Ok reply) sent unsent is Failed fault can read calm = elim sent [
      | inl whole ↦
          let to = reply_to words bytes can.request can.requested reply.status is.0 is.1 in
          inl (whole.0 ∙ enough can.request bytes can.accepted reply.status is.0 to can.answer)
      | inr part ↦ absurd (calm part.1)
    ]

  -- what was made has the status that was answered, unless a write failed
  pub IfOk-status : (made : Result Reply NoReply) (s : Status) (P : Type 0) → IfOk made Sent → IfErr made Unsent → (GivesUp s → ⊥)
      → IfOk made (λ reply. reply.status ≡ s → P) → result ≡ s → P
  IfOk-status (Err e) s P sent unsent stands p is = absurd (stands (subst GivesUp (sym unsent.0 ∙ is) (lost e)))
  IfOk-status (Ok reply) s P sent unsent stands p is = elim sent [
    | inl whole ↦ p (sym whole.0 ∙ is)
    | inr part ↦ absurd (stands (subst GivesUp (sym part.0 ∙ is) tt))
  ]

  -- a status that gives up, other than a write fault, is that of no reply
  pub unsent_by : (made : Result Reply NoReply) (e : NoReply) → IfOk made Sent → IfErr made Unsent → IfOk made (λ reply. GivesUp reply.status → ⊥)
      → result ≡ status_of e → (made ≡ Err e) × X
  unsent_by (Err none.ReadFault) none.ReadFault sent unsent stands is = (refl, unsent.1)
  unsent_by (Err none.NoMemory) none.NoMemory sent unsent stands is = (refl, unsent.1)
  unsent_by (Err none.ReadFault) none.NoMemory sent unsent stands is = absurd (let no : ReadFault ≡ NoMemory = sym unsent.0 ∙ is in cc)
  unsent_by (Err none.NoMemory) none.ReadFault sent unsent stands is = absurd (let no : NoMemory ≡ ReadFault = sym unsent.0 ∙ is in cc)
  unsent_by (Ok reply) e sent unsent stands is = elim sent [
    | inl whole ↦ absurd (stands (subst GivesUp (sym is ∙ whole.0) (lost e)))
    | inr part ↦ absurd (not_write e (sym part.0 ∙ is))
  ]
    where
      not_write : (e : NoReply) → WriteFault ≡ status_of e → ⊥
      not_write none.ReadFault h = cc
      not_write none.NoMemory h = cc

  -- a write fault is a write that failed
  pub write_failed : (made : Result Reply NoReply) → IfOk made Sent → IfErr made Unsent → IfOk made (λ reply. GivesUp reply.status → ⊥)
      → result ≡ WriteFault → Rose before now
  write_failed (Err none.ReadFault) sent unsent stands is = absurd (let no : ReadFault ≡ WriteFault = sym unsent.0 ∙ is in cc)
  write_failed (Err none.NoMemory) sent unsent stands is = absurd (let no : NoMemory ≡ WriteFault = sym unsent.0 ∙ is in cc)
  write_failed (Ok reply) sent unsent stands is = elim sent [
    | inl whole ↦ absurd (stands (subst GivesUp (sym is ∙ whole.0) tt))
    | inr part ↦ part.1
  ]

  -- words that are no command are refused, unless a write fails or memory is lacking
  pub refused_words : (made : Result Reply NoReply) → IfOk made Sent → IfErr made Unsent → IfOk made (λ reply. reply.status ≡ Usage)
      → ((e : NoReply) → made ≡ Err e → e ≡ none.NoMemory) → (result ≡ Usage) ⊎ (result ≡ WriteFault) ⊎ (result ≡ NoMemory)
  refused_words (Err e) sent unsent usage calm = inr (inr (unsent.0 ∙ ap status_of (calm e refl)))
  refused_words (Ok reply) sent unsent usage calm = elim sent [
    | inl whole ↦ inl (whole.0 ∙ usage)
    | inr part ↦ inr (inl part.0)
  ]

  -- a read that failed is told
  pub read_lost : (made : Result Reply NoReply) → IfErr made Unsent → made ≡ Err none.ReadFault → result ≡ ReadFault
  read_lost made unsent is = (subst (λ (m : Result Reply NoReply). IfErr m Unsent) is unsent).0
