-- What a request about a program that is linked is answered.
use Rattle.std.proofs.Common.{◌≡◌, ℕ, List, Option, arith, inl, inr, subst}
use Rattle.std.specs.Io.KnownBytes.{Appends}
use Rattle.jim_ast.specs.declared.syntax.Program.{Program}
use Rattle.jim_parse.proofs.ProgramLemmas.{spells_one}
use Rattle.link_rules.specs.Conditions.{IsRead}
use Rattle.link_rules.specs.Linked.{LinkedProgram}
use Rattle.link_rules.specs.WellLinked.{IsWellLinked}
use Rattle.link_laws.proofs.OneLink.{link_one}
use Rattle.link_laws.proofs.Whole.{links_well}
use Rattle.read_laws.proofs.Programs.{derived_read}
use Rattle.run_covers.proofs.Whole.{links_covered}
use Rattle.run_covers.specs.Covers.{IsCovered}
use Rattle.track_rules.specs.Protocols.{IsProtocolOf, ProtocolParts}
use Rattle.track_runs.specs.Monitor.{IsSafe}
use Rattle.boom_words.specs.Requests.{Request, Typestate, typestate}
use Rattle.report_text.specs.Lines.{text_of}
use Rattle.boom_top.specs.Demands.{HasAnswer}
use Rattle.boom_top.specs.Evidence.{HasEvidence}
use Rattle.boom_top.specs.Queries.{Accepted, program_in, rest_in, source_of}
use Rattle.boom_top.specs.Replies.{IsJoinedReply, IsLinkedReply, IsProgramReply, IsReplyTo, IsTextReply}
use Rattle.boom_top.specs.Runs.{CoversAllRuns}
use Rattle.boom_top.specs.Safety.{SaysSafe}
use Rattle.boom_top.specs.declared.status.Status.{Status}
use Rattle.boom_top.specs.declared.status.Status.TheVariants.{Done}
use Rattle.boom_top.proofs.Commands.{linked_covered, linked_enough, linked_evident}
use Rattle.boom_top.proofs.Spelled.{not_refused, prelude_one, spelled_read}
use Rattle.boom_top.proofs.TypestateReply.{typestate_safe}

module _ (r : Request) (bytes : List ℕ) (q : Accepted r bytes) where
  -- the program's part of the text
  abbrev text : List ℕ
  text = program_in r.question (source_of r.question bytes)

  -- what stands behind it
  abbrev rest : List ℕ
  rest = rest_in r.question (source_of r.question bytes)

  input_read : IsRead q.input
  input_read = derived_read text q.spelled.tokens q.input q.spelled.derived

  prelude_read : IsRead q.links.prelude
  prelude_read = let spelled = q.links.is_prelude.spelled in derived_read _ spelled.tokens q.links.prelude spelled.derived

  pub well : IsWellLinked q.linked
  well = links_well q.input q.links.prelude r.entry q.linked input_read prelude_read q.links.is_prelude.nine q.links.links

  covered : IsCovered q.linked
  covered = links_covered q.input q.links.prelude r.entry q.linked input_read prelude_read q.links.is_prelude.nine q.links.links

  module _ (s : Status) (lines : List (List ℕ)) where
    abbrev Reached : LinkedProgram → Type 0
    Reached p = IsLinkedReply p r.entry rest r.question s lines

    by_joined : IsJoinedReply r rest q.input q.links.prelude s lines → Reached q.linked
    by_joined (inl a) = absurd (not_refused q.input q.links.prelude r.entry q.linked a.0 q.links.links a.1)
    by_joined (inr a) = subst Reached (link_one q.input q.links.prelude r.entry a.0 q.linked a.1 q.links.links) a.2

    by_program : IsProgramReply r rest q.input s lines → Reached q.linked
    by_program (inl a) = absurd (a.0 q.links.prelude q.links.is_prelude)
    by_program (inr a) =
        by_joined (subst (λ (p : Program). IsJoinedReply r rest q.input p s lines) (prelude_one a.0 q.links.prelude a.1 q.links.is_prelude) a.2)

    by_text : IsTextReply r rest text s lines → Reached q.linked
    by_text (inl a) = absurd (spelled_read text q.input s q.spelled a.0)
    by_text (inr a) = by_program (subst (λ (p : Program). IsProgramReply r rest p s lines) (spells_one text a.0 q.input a.1 q.spelled) a.2)

    -- a reply to the bytes is one about the linked program
    reaches : IsReplyTo r bytes s lines → Reached q.linked
    reaches (inl a) = let long = a.0 in let short = q.short in absurd (omega (arith, long, short))
    reaches (inr a) = by_text a.1

    -- what can be answered is
    pub enough : IsReplyTo r bytes s lines → HasAnswer q.linked rest r.question → s ≡ Done
    enough reply has = linked_enough q.linked r.entry rest r.question s lines has (reaches reply)

  -- what is done covers each run
  pub covers : (old new : Option (List ℕ)) (lines : List (List ℕ)) → Appends old new (text_of lines) → IsReplyTo r bytes Done lines
      → CoversAllRuns q.linked rest r.question old new
  covers old new lines wrote reply = linked_covered q.linked r.entry rest well old new lines wrote covered r.question (reaches Done lines reply)

  -- and there is evidence for it
  pub evidence : (old new : Option (List ℕ)) (lines : List (List ℕ)) → Appends old new (text_of lines) → IsReplyTo r bytes Done lines
      → HasEvidence q.linked rest r.question old new
  evidence old new lines wrote reply = linked_evident q.linked r.entry rest well old new lines wrote r.question (reaches Done lines reply)

-- where the answer about a protocol says safe, no run breaks it
pub safe : (entry : List ℕ) (asked : Typestate) (bytes : List ℕ) (q : Accepted (record { entry = entry; question = typestate asked }) bytes) (old new : Option (List ℕ))
    (lines : List (List ℕ)) → Appends old new (text_of lines) → IsReplyTo (record { entry = entry; question = typestate asked }) bytes Done lines
    → (k : ProtocolParts) → IsProtocolOf q.linked asked.protocol k → SaysSafe old new → IsSafe q.linked k
safe entry asked bytes q old new lines wrote reply k is says =
    let r : Request = record { entry = entry; question = typestate asked } in
    typestate_safe q.linked (well r bytes q) (covered r bytes q) old new lines wrote entry asked k (reaches r bytes q Done lines reply) is says
