-- What is known of what is asked of a linked program, by the lemmas of each command: its replies are one, it is answered, it covers each run, and there is
-- evidence for it.
use Rattle.std.proofs.Common.{◌≡◌, ℕ, List, Option}
use Rattle.std.specs.Io.KnownBytes.{Appends}
use Rattle.link_rules.specs.Linked.{LinkedProgram}
use Rattle.link_rules.specs.WellLinked.{IsWellLinked}
use Rattle.run_covers.specs.Covers.{IsCovered}
use Rattle.boom_words.specs.Requests.{Question, alias, batch, demo, explain, paths, points_to, refined, replay, run, typestate}
use Rattle.report_text.specs.Answers.{IsAnswerText}
use Rattle.report_text.specs.Lines.{text_of}
use Rattle.explain_text.specs.Explanations.{IsExplainText}
use Rattle.boom_top.specs.Demo.{IsDemoText, demo_asked}
use Rattle.boom_top.specs.Demands.{HasAnswer}
use Rattle.boom_top.specs.Evidence.{HasEvidence}
use Rattle.boom_top.specs.Laws.{AsksWhy}
use Rattle.boom_top.specs.Replies.{IsLinkedReply}
use Rattle.boom_top.specs.Runs.{CoversAllRuns}
use Rattle.boom_top.specs.declared.status.Status.{Status}
use Rattle.boom_top.specs.declared.status.Status.TheVariants.{Done}
use Rattle.boom_top.proofs.AliasReply.{alias_covered, alias_enough, alias_evident, alias_ones}
use Rattle.boom_top.proofs.BatchReply.{batch_covered, batch_enough, batch_evident, batch_ones}
use Rattle.boom_top.proofs.DemoReply.{demo_ones}
use Rattle.boom_top.proofs.ExplainReply.{explain_covered, explain_evident, explain_ones}
use Rattle.boom_top.proofs.PathReply.{path_covered, path_enough, path_ones}
use Rattle.boom_top.proofs.PlaceReply.{place_enough}
use Rattle.boom_top.proofs.PointsToReply.{place_covered, place_evident, points_to_ones}
use Rattle.boom_top.proofs.RefinedReply.{refined_covered, refined_enough, refined_evident, refined_ones}
use Rattle.boom_top.proofs.ReplayReply.{replay_enough, replay_evident, replay_ones}
use Rattle.boom_top.proofs.RunReply.{run_ones}
use Rattle.boom_top.proofs.Splits.{AreOne}
use Rattle.boom_top.proofs.TypestateReply.{typestate_enough, typestate_ones}

module _ (p : LinkedProgram) (entry rest : List ℕ) where
  -- the replies to it are one
  pub linked_ones : (q : Question) → AreOne p (IsLinkedReply p entry rest q) (AsksWhy q → ⊥)
  linked_ones (points_to asked) = points_to_ones p asked _
  linked_ones (explain asked) = explain_ones p asked
  linked_ones (alias asked) = alias_ones p asked _
  linked_ones (paths asked) = path_ones p asked _
  linked_ones (run asked) = run_ones p entry asked _
  linked_ones (replay budget) = replay_ones p budget rest _
  linked_ones (typestate asked) = typestate_ones p entry asked _
  linked_ones (batch budget) = batch_ones p budget rest _
  linked_ones (refined asked) = refined_ones p asked _
  linked_ones (demo boxes) = demo_ones p boxes _

  -- what can be answered is
  pub linked_enough : (q : Question) (s : Status) (lines : List (List ℕ)) → HasAnswer p rest q → IsLinkedReply p entry rest q s lines → s ≡ Done
  linked_enough (points_to asked) s lines has reply = place_enough p asked (IsAnswerText p) s lines has reply
  linked_enough (explain asked) s lines has reply = place_enough p asked (IsExplainText p) s lines has reply
  linked_enough (alias asked) s lines has reply = alias_enough p asked s lines has reply
  linked_enough (paths asked) s lines has reply = path_enough p asked s lines has reply
  linked_enough (run asked) s lines has reply = reply.1
  linked_enough (replay budget) s lines has reply = replay_enough p s lines budget rest has reply
  linked_enough (typestate asked) s lines has reply = typestate_enough p s lines entry asked has reply
  linked_enough (batch budget) s lines has reply = batch_enough p budget rest s lines has reply
  linked_enough (refined asked) s lines has reply = refined_enough p asked s lines has reply
  linked_enough (demo boxes) s lines has reply = place_enough p (demo_asked boxes) (λ n. IsDemoText p boxes) s lines has reply

  module _ (well : IsWellLinked p) (old new : Option (List ℕ)) (lines : List (List ℕ)) (wrote : Appends old new (text_of lines)) where
    -- what is done covers each run
    pub linked_covered : IsCovered p → (q : Question) → IsLinkedReply p entry rest q Done lines → CoversAllRuns p rest q old new
    linked_covered covered (points_to asked) reply = place_covered p well covered old new lines wrote asked reply
    linked_covered covered (explain asked) reply = explain_covered p well covered old new lines wrote asked reply
    linked_covered covered (alias asked) reply = alias_covered p well covered old new lines wrote asked reply
    linked_covered covered (paths asked) reply = path_covered p well covered asked old new lines wrote reply
    linked_covered covered (run asked) reply = tt
    linked_covered covered (replay budget) reply = tt
    linked_covered covered (typestate asked) reply = tt
    linked_covered covered (batch budget) reply = batch_covered p well covered old new lines wrote budget rest reply
    linked_covered covered (refined asked) reply = refined_covered p well covered asked old new lines wrote reply
    linked_covered covered (demo boxes) reply = tt

    -- and there is evidence for it
    pub linked_evident : (q : Question) → IsLinkedReply p entry rest q Done lines → HasEvidence p rest q old new
    linked_evident (points_to asked) reply = place_evident p old new lines wrote asked reply
    linked_evident (explain asked) reply = explain_evident p old new lines wrote asked reply
    linked_evident (alias asked) reply = alias_evident p old new lines wrote asked reply
    linked_evident (paths asked) reply = tt
    linked_evident (run asked) reply = tt
    linked_evident (replay budget) reply = replay_evident p well old new lines wrote budget rest reply
    linked_evident (typestate asked) reply = tt
    linked_evident (batch budget) reply = batch_evident p old new lines wrote budget rest reply
    linked_evident (refined asked) reply = refined_evident p asked old new lines wrote reply
    linked_evident (demo boxes) reply = tt
