-- What is asked has one status: the checks, each in one way.
use Rattle.std.proofs.Common.{◌≡◌, ℕ, List, ◌∙◌, ap, arith, inl, inr, subst, sym}
use Rattle.jim_ast.specs.declared.syntax.Program.{Program}
use Rattle.jim_parse.proofs.ProgramLemmas.{spells_one}
use Rattle.link_rules.specs.Linked.{LinkedProgram}
use Rattle.link_laws.proofs.OneLink.{link_one}
use Rattle.boom_words.specs.Requests.{Request}
use Rattle.boom_top.specs.Parts.{IsGiven}
use Rattle.boom_top.specs.Queries.{program_in, rest_in}
use Rattle.boom_top.specs.Replies.{IsJoinedReply, IsLinkedReply, IsProgramReply, IsSourceReply, IsTextReply}
use Rattle.boom_top.specs.declared.status.Status.{Status}
use Rattle.boom_top.specs.declared.status.Status.TheVariants.{NotLinked}
use Rattle.boom_top.proofs.Commands.{linked_ones}
use Rattle.boom_top.proofs.Spelled.{error_one, given_unread, not_refused, prelude_one, spelled_read, unread_one}
use Rattle.boom_top.proofs.Splits.{split_given}

module _ (r : Request) (rest : List ℕ) where
  -- a program and the stand-ins
  joined_one : (input prelude : Program) (s t : Status) (xs ys : List (List ℕ)) → IsJoinedReply r rest input prelude s xs → IsJoinedReply r rest input prelude t ys → s ≡ t
  joined_one input prelude s t xs ys (inl a) (inl b) = a.2.0 ∙ ap NotLinked (error_one input prelude r.entry a.0 b.0 a.1 b.1) ∙ sym b.2.0
  joined_one input prelude s t xs ys (inl a) (inr b) = absurd (not_refused input prelude r.entry b.0 a.0 b.1 a.1)
  joined_one input prelude s t xs ys (inr a) (inl b) = absurd (not_refused input prelude r.entry a.0 b.0 a.1 b.1)
  joined_one input prelude s t xs ys (inr a) (inr b) =
      (linked_ones b.0 r.entry rest r.question).status s t xs ys
      (subst (λ (p : LinkedProgram). IsLinkedReply p r.entry rest r.question s xs) (link_one input prelude r.entry a.0 b.0 a.1 b.1) a.2) b.2

  -- a program
  program_one : (input : Program) (s t : Status) (xs ys : List (List ℕ)) → IsProgramReply r rest input s xs → IsProgramReply r rest input t ys → s ≡ t
  program_one input s t xs ys (inl a) (inl b) = a.1.0 ∙ sym b.1.0
  program_one input s t xs ys (inl a) (inr b) = absurd (a.0 b.0 b.1)
  program_one input s t xs ys (inr a) (inl b) = absurd (b.0 a.0 a.1)
  program_one input s t xs ys (inr a) (inr b) =
      joined_one input b.0 s t xs ys (subst (λ (p : Program). IsJoinedReply r rest input p s xs) (prelude_one a.0 b.0 a.1 b.1) a.2) b.2

  -- the program's part of a text
  text_one : (text : List ℕ) (s t : Status) (xs ys : List (List ℕ)) → IsTextReply r rest text s xs → IsTextReply r rest text t ys → s ≡ t
  text_one text s t xs ys (inl a) (inl b) = unread_one text s t a.0 b.0
  text_one text s t xs ys (inl a) (inr b) = absurd (spelled_read text b.0 s b.1 a.0)
  text_one text s t xs ys (inr a) (inl b) = absurd (spelled_read text a.0 t a.1 b.0)
  text_one text s t xs ys (inr a) (inr b) =
      program_one b.0 s t xs ys (subst (λ (p : Program). IsProgramReply r rest p s xs) (spells_one text a.0 b.0 a.1 b.1) a.2) b.2

module _ (r : Request) where
  -- any text
  pub source_one : (text : List ℕ) (s t : Status) (xs ys : List (List ℕ)) → IsSourceReply r text s xs → IsSourceReply r text t ys → s ≡ t
  source_one text s t xs ys (inl a) (inl b) = a.1.0 ∙ sym b.1.0
  source_one text s t xs ys (inl a) (inr b) = let long = a.0 in let short = b.0 in absurd (omega (arith, long, short))
  source_one text s t xs ys (inr a) (inl b) = let long = b.0 in let short = a.0 in absurd (omega (arith, long, short))
  source_one text s t xs ys (inr a) (inr b) = text_one r (rest_in r.question text) (program_in r.question text) s t xs ys a.1 b.1

  -- a reply to a text has one of the statuses that a text has, or what is asked of its program
  pub source_given : (text : List ℕ) (s : Status) (lines : List (List ℕ)) → IsSourceReply r text s lines → IsGiven s
  source_given text s lines (inl a) = subst IsGiven (sym a.1.0) tt
  source_given text s lines (inr (a, inl b)) = given_unread (program_in r.question text) s b.0
  source_given text s lines (inr (a, inr (input, spelled, inl b))) = subst IsGiven (sym b.1.0) tt
  source_given text s lines (inr (a, inr (input, spelled, inr (prelude, is, inl b)))) = subst IsGiven (sym b.2.0) tt
  source_given text s lines (inr (a, inr (input, spelled, inr (prelude, is, inr (p, links, b))))) =
      split_given s lines ((linked_ones p r.entry (rest_in r.question text) r.question).split s lines b)
