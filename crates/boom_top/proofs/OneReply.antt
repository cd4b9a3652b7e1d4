-- What is asked is answered by one text, unless certificates are asked for.
use Rattle.std.proofs.Common.{◌≡◌, ℕ, ◌⊎◌, List, ◌∙◌, ap, inl, inr, subst, sym}
use Rattle.jim_ast.specs.declared.syntax.Program.{Program}
use Rattle.jim_parse.proofs.ProgramLemmas.{spells_one}
use Rattle.link_rules.specs.Linked.{LinkedProgram, Links}
use Rattle.link_laws.proofs.OneLink.{link_one}
use Rattle.boom_words.proofs.Words.{request_one}
use Rattle.boom_words.specs.Requests.{Request}
use Rattle.report_text.specs.Lines.{text_of}
use Rattle.boom_top.specs.Laws.{AsksWhy, RepliesAreOne}
use Rattle.boom_top.specs.Queries.{Accepted, rest_in, source_of}
use Rattle.boom_top.specs.Replies.{IsLinkedReply, IsReplyTo, IsUnread}
use Rattle.boom_top.specs.declared.status.Status.{Status}
use Rattle.boom_top.specs.declared.status.Status.TheVariants.{BadPrelude, Done, NotLinked, TooLong}
use Rattle.boom_top.proofs.Asked.{well}
use Rattle.boom_top.proofs.Commands.{linked_ones}
use Rattle.boom_top.proofs.Once.{source_one}
use Rattle.boom_top.proofs.Spelled.{given_unread, prelude_one}
use Rattle.boom_top.proofs.Splits.{Refuses, refusals_one, refused_by}

module _ (r : Request) (bytes : List ℕ) where
  -- a reply about a program that is linked
  abbrev SaysLinked : Status → List (List ℕ) → Type 0
  SaysLinked s lines = (q : Accepted r bytes) × IsLinkedReply q.linked r.entry (rest_in r.question (source_of r.question bytes)) r.question s lines

  not_done : (text : List ℕ) (s : Status) → IsUnread text s → s ≡ Done → ⊥
  not_done text s unread done = subst (IsUnread text) done unread

  source_split : (s : Status) (lines : List (List ℕ)) → IsReplyTo r bytes s lines → SaysLinked s lines ⊎ Refuses s lines
  source_split s lines (inl a) = inr (refused_by TooLong s lines (λ no. cc) tt a.1)
  source_split s lines (inr (short, inl a)) = inr (record { told = a.1; undone = not_done _ s a.0; given = given_unread _ s a.0 })
  source_split s lines (inr (short, inr (input, spelled, inl a))) = inr (refused_by BadPrelude s lines (λ no. cc) tt a.1)
  source_split s lines (inr (short, inr (input, spelled, inr (prelude, is, inl a)))) = inr (refused_by (NotLinked a.0) s lines (λ no. cc) tt a.2)
  source_split s lines (inr (short, inr (input, spelled, inr (prelude, is, inr (p, links, reply))))) = inl (
    record { short = short; input = input; spelled = spelled; linked = p; links = record { prelude = prelude; is_prelude = is; links = links } },
    reply,
  )

  -- the bytes have one linked program
  accepted_one : (q o : Accepted r bytes) → q.linked ≡ o.linked
  accepted_one q o =
      let input = spells_one _ q.input o.input q.spelled o.spelled in
      let prelude = prelude_one q.links.prelude o.links.prelude q.links.is_prelude o.links.is_prelude in
      let links = subst (λ (u : Program). Links u q.links.prelude r.entry q.linked) input q.links.links in
      link_one o.input o.links.prelude r.entry q.linked o.linked (subst (λ (u : Program). Links o.input u r.entry q.linked) prelude links) o.links.links

  source_text : (AsksWhy r.question → ⊥) → (s t : Status) (xs ys : List (List ℕ)) → s ≡ t → SaysLinked s xs ⊎ Refuses s xs → SaysLinked t ys ⊎ Refuses t ys
      → text_of xs ≡ text_of ys
  source_text plain s t xs ys same (inl (q, a)) (inl (o, b)) =
      let moved = subst (λ (p : LinkedProgram). IsLinkedReply p r.entry (rest_in r.question (source_of r.question bytes)) r.question s xs) (accepted_one q o) a in
      (linked_ones o.linked r.entry (rest_in r.question (source_of r.question bytes)) r.question).text (well r bytes o).form plain s t xs ys same moved b
  source_text plain s t xs ys same (inl (q, a)) (inr b) =
      elim ((linked_ones q.linked r.entry (rest_in r.question (source_of r.question bytes)) r.question).split s xs a) [
        | inl done ↦ absurd (b.undone (sym same ∙ done))
        | inr own ↦ refusals_one s t xs ys same own b
      ]
  source_text plain s t xs ys same (inr a) (inl (q, b)) =
      elim ((linked_ones q.linked r.entry (rest_in r.question (source_of r.question bytes)) r.question).split t ys b) [
        | inl done ↦ absurd (a.undone (same ∙ done))
        | inr own ↦ refusals_one s t xs ys same a own
      ]
  source_text plain s t xs ys same (inr a) (inr b) = refusals_one s t xs ys same a b

-- the replies to words are one
pub replies_one : RepliesAreOne
replies_one words bytes s t xs ys (inl a) (inl b) = (a.1.0 ∙ sym b.1.0, λ plain. ap text_of (a.1.1 ∙ sym b.1.1))
replies_one words bytes s t xs ys (inl a) (inr (r, is, b)) = absurd (a.0 r is)
replies_one words bytes s t xs ys (inr (r, is, a)) (inl b) = absurd (b.0 r is)
replies_one words bytes s t xs ys (inr (q, asked, a)) (inr (r, is, b)) =
    let one = subst (λ (q : Request). IsReplyTo q bytes s xs) (request_one words q r asked is) a in
    let same = source_one r (source_of r.question bytes) s t xs ys one b in
    (same, λ plain. source_text r bytes (plain r is) s t xs ys same (source_split r bytes s xs one) (source_split r bytes t ys b))
