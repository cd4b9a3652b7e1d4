-- What `typestate` is answered.
use Rattle.std.proofs.Common.{◌≡◌, ℕ, suc, ◌++◌, ◌⊎◌, List, [], ◌∷◌, ◌∙◌, Option, Some, ap, arith, codes, inl, inr, length, map, refl, slice_get, subst, sym}
use Rattle.std.proofs.lemmas.List.{length-map}
use Rattle.std.proofs.lemmas.Option.{same_Some}
use Rattle.std.specs.Io.KnownBytes.{Appends}
use Rattle.lists.specs.Lists.{Counts, Each, HasMore}
use Rattle.link_rules.specs.Linked.{LinkedClass, LinkedProgram}
use Rattle.link_rules.specs.WellLinked.{IsInForm, IsWellLinked}
use Rattle.link_sites.specs.Places.{ComesBefore}
use Rattle.link_sites.specs.Sites.{Precedes}
use Rattle.spds_rules.specs.Demand.{Asked, Demand}
use Rattle.spds_rules.specs.declared.node.Node.{Node}
use Rattle.run_covers.specs.Covers.{IsCovered}
use Rattle.demand_set.proofs.Counts.{HasMore-not}
use Rattle.track_rules.specs.Protocols.{IsProtocolOf, ProtocolParts}
use Rattle.track_runs.specs.Monitor.{IsSafe}
use Rattle.track_systems.specs.Findings.{AreFindings, Found, HasNoFinding, IsToldBefore}
use Rattle.track_sound.proofs.Sounding.{safe_where_nothing_found}
use Rattle.site_events.specs.EventStatements.{IsQuery}
use Rattle.track_verdicts.specs.Found.{found_of}
use Rattle.track_verdicts.specs.Verdicts.{IsBeyond, IsVerdict, IsWithin}
use Rattle.track_verdicts.specs.declared.verdict.Finding.{Finding}
use Rattle.track_verdicts.specs.declared.verdict.Verdict.{Verdict}
use Rattle.query_core.proofs.Determined.{counts_more, counts_one}
use Rattle.query_core.proofs.OneWay.{sites_one_way, statements_apart, statements_one_way}
use Rattle.query_core.proofs.Ordered.{ordered_one}
use Rattle.boom_words.specs.Requests.{Typestate}
use Rattle.report_text.specs.Lines.{text_of}
use Rattle.track_report.specs.Reports.{IsUnsafeLine, verdict_lines}
use Rattle.boom_top.specs.Safety.{SaysSafe}
use Rattle.boom_top.specs.Typestates.{IsJudgeable, IsJudged, IsProtocolReply, IsTypestateReply}
use Rattle.boom_top.specs.declared.status.Status.{Status}
use Rattle.boom_top.specs.declared.status.Status.TheVariants.{Done, NotProtocol, OverBudget}
use Rattle.boom_top.proofs.Ending.{says_none}
use Rattle.boom_top.proofs.OneText.{each_one, place_text_one, site_text_one}
use Rattle.boom_top.proofs.Splits.{AreOne, Refuses, ones, refused_by}
use Rattle.boom_top.proofs.Worded.{no_protocol_one, protocol_one, protocol_there}

-- no node stands before one that stands before it
one_way : (a b : Node) → ComesBefore a.place b.place → ComesBefore b.place a.place → ⊥
one_way a b (inl p) (inl q) = omega arith
one_way a b (inl p) (inr q) = omega arith
one_way a b (inr p) (inl q) = omega arith
one_way a b (inr p) (inr q) = omega arith

module _ (p : LinkedProgram) (k : ProtocolParts) where
  -- a protocol asks one query
  query_one : (q r : Asked) → IsQuery p k q → IsQuery p k r → q ≡ r
  query_one q r x y =
      let targets = ordered_one (λ (a b : Node). ComesBefore a.place b.place) one_way q.targets r.targets x.ordered y.ordered
      (λ n has. (y.asked.receivers n).1 ((x.asked.receivers n).0 has)) (λ n has. (x.asked.receivers n).1 ((y.asked.receivers n).0 has)) in
      let reach = x.asked.tracked ∙ sym y.asked.tracked in
      (λ i. record { targets = targets i; reach = reach i })

  -- a verdict within the budget isn't beyond it
  judged_within : (entry : List ℕ) (budget : ℕ) (lines : List (List ℕ)) → IsJudged p entry budget k lines → IsBeyond p k budget → ⊥
  judged_within entry budget lines a over =
      let same = query_one over.0 a.is_verdict.q over.1 a.is_verdict.query in
      let more = subst (λ (q : Asked). HasMore (Demand p q) budget) same over.2 in
      let above = counts_more (Demand p a.is_verdict.q) a.verdict.demanded budget a.is_verdict.size more in
      let most = a.affordable in
      omega (arith, above, most)

  -- and nor is a demand
  demand_within : (budget : ℕ) → IsWithin p k budget → IsBeyond p k budget → ⊥
  demand_within budget few over =
      HasMore-not budget (subst (λ (q : Asked). HasMore (Demand p q) budget) (query_one over.0 few.0 over.1 few.1) over.2) few.2

  no_finding : (verdict : Verdict) (is : IsVerdict p k verdict) → verdict.findings ≡ [] → HasNoFinding p k is.q
  no_finding verdict is none a place event i found =
      let told : Found = record { site = a; place = place; event = event; state = i } in
      let has = (is.findings.each told).1 found in
      let there = subst (λ (fs : List Finding). slice_get (map found_of fs) has.0 ≡ Some told) none has.1 in
      cc

  -- where there is no finding no run breaks the protocol
  safe_verdict : IsWellLinked p → IsCovered p → (verdict : Verdict) → IsVerdict p k verdict → verdict.findings ≡ [] → IsSafe p k
  safe_verdict well covered verdict is none = safe_where_nothing_found p well covered k is.q is.query.asked (no_finding verdict is none)

module _ (p : LinkedProgram) (form : IsInForm p) where
  -- a finding has one line, by what it names
  unsafe_one : (k : ProtocolParts) (f g : Finding) (a b : List ℕ) → found_of f ≡ found_of g → IsUnsafeLine p k f a → IsUnsafeLine p k g b → a ≡ b
  unsafe_one k f g a b same x y =
      let one = subst (λ (h : Found). IsUnsafeLine p k (record { site = h.site; place = h.place; state = h.state; event = h.event }) a) same x in
      let site = site_text_one p form g.site one.site y.site one.site_is y.site_is in
      let place = place_text_one p form g.place one.place y.place one.place_is y.place_is in
      let state = same_Some one.state y.state (sym one.state_is ∙ y.state_is) in
      let event = same_Some one.event y.event (sym one.event_is ∙ y.event_is) in
      one.line_is ∙ (λ i. codes "unsafe " ++ site i ++ codes " at " ++ place i ++ codes " state " ++ state i ++ codes " event " ++ event i) ∙ sym y.line_is

  unsafe_lines_one : (k : ProtocolParts) (fs gs : List Finding) (xs ys : List (List ℕ)) → map found_of fs ≡ map found_of gs → Each (IsUnsafeLine p k) fs xs
      → Each (IsUnsafeLine p k) gs ys → xs ≡ ys
  unsafe_lines_one k [] [] xs ys same x y = each_one (IsUnsafeLine p k) (λ f a b u v. unsafe_one k f f a b refl u v) [] xs ys x y
  unsafe_lines_one k [] (g ∷ gs) xs ys same x y = cc
  unsafe_lines_one k (f ∷ fs) [] xs ys same x y = cc
  unsafe_lines_one k (f ∷ fs) (g ∷ gs) [] ys same x y = absurd (let long = x.as_many in omega (arith, long))
  unsafe_lines_one k (f ∷ fs) (g ∷ gs) (l ∷ xs) [] same x y = absurd (let long = y.as_many in omega (arith, long))
  unsafe_lines_one k (f ∷ fs) (g ∷ gs) (l ∷ xs) (m ∷ ys) same x y =
      let head : found_of f ≡ found_of g = cc in
      let tail : map found_of fs ≡ map found_of gs = cc in
      let first = unsafe_one k f g l m head (x.each 0 f l refl refl) (y.each 0 g m refl refl) in
      let long = x.as_many in
      let also = y.as_many in
      let rest = unsafe_lines_one k fs gs xs ys tail
      (record { as_many = omega (arith, long); each = λ i a b u v. x.each (suc i) a b u v }) (record { as_many = omega (arith, also); each = λ i a b u v. y.each (suc i) a b u v }) in
      cc (first, rest)

  -- of two findings one is told first
  found_one_way : (a b : Found) → IsToldBefore p a b → IsToldBefore p b a → ⊥
  found_one_way a b (inl r) (inl s) = sites_one_way p a.site b.site r s
  found_one_way a b (inl r) (inr s) = let again = subst (λ o. Precedes p a.site o) s.0 r in sites_one_way p a.site a.site again again
  found_one_way a b (inr r) (inl s) = let again = subst (λ o. Precedes p b.site o) r.0 s in sites_one_way p b.site b.site again again
  found_one_way a b (inr r) (inr s) = elim r.1 [
    | inl before ↦ elim s.1 [ inl after ↦ statements_one_way a.place b.place before after | inr at ↦ statements_apart b.place a.place at.0 before ]
    | inr here ↦ elim s.1 [ inl after ↦ statements_apart a.place b.place here.0 after | inr at ↦ let less = here.1 in let more = at.1 in omega (arith, less, more) ]
  ]

  -- what is told of a protocol
  judged_one : (entry : List ℕ) (budget : ℕ) (k : ProtocolParts) (xs ys : List (List ℕ)) → IsJudged p entry budget k xs → IsJudged p entry budget k ys
      → text_of xs ≡ text_of ys
  judged_one entry budget k xs ys a b =
      let query = query_one p k a.is_verdict.q b.is_verdict.q a.is_verdict.query b.is_verdict.query in
      let found = subst (λ (q : Asked). AreFindings p k q (map found_of a.verdict.findings)) query a.is_verdict.findings in
      let size = subst (λ (q : Asked). Counts (Demand p q) a.verdict.demanded) query a.is_verdict.size in
      let others = b.is_verdict.findings in
      let findings = ordered_one (IsToldBefore p) found_one_way (map found_of a.verdict.findings) (map found_of b.verdict.findings) found.ordered others.ordered
      (λ f has. (others.each f).1 ((found.each f).0 has)) (λ f has. (found.each f).1 ((others.each f).0 has)) in
      let demanded = counts_one (Demand p b.is_verdict.q) a.verdict.demanded b.verdict.demanded size b.is_verdict.size in
      let count : length a.verdict.findings ≡ length b.verdict.findings =
      sym (length-map a.verdict.findings found_of) ∙ ap length findings ∙ length-map b.verdict.findings found_of in
      let class = same_Some a.told.head_is.class b.told.head_is.class (sym a.told.head_is.there ∙ b.told.head_is.there) in
      let head : a.told.head ≡ b.told.head =
      a.told.head_is.line_is ∙ ap (λ (c : LinkedClass). codes "typestate " ++ entry ++ codes " " ++ c.name) class ∙ sym b.told.head_is.line_is in
      let lines = unsafe_lines_one k a.verdict.findings b.verdict.findings a.told.lines b.told.lines findings a.told.lines_are b.told.lines_are in
      a.told.text_is ∙ (λ i. text_of (head i ∷ (lines i ++ verdict_lines (count i) (demanded i)))) ∙ sym b.told.text_is

module _ (p : LinkedProgram) (entry : List ℕ) (asked : Typestate) where
  -- a protocol has one status
  protocol_status : (k : ProtocolParts) (s t : Status) (xs ys : List (List ℕ)) → IsProtocolReply p entry asked.budget k s xs → IsProtocolReply p entry asked.budget k t ys → s ≡ t
  protocol_status k s t xs ys (inl a) (inl b) = a.1.0 ∙ sym b.1.0
  protocol_status k s t xs ys (inl a) (inr b) = absurd (judged_within p k entry asked.budget ys b.0 a.0)
  protocol_status k s t xs ys (inr a) (inl b) = absurd (judged_within p k entry asked.budget xs a.0 b.0)
  protocol_status k s t xs ys (inr a) (inr b) = a.1 ∙ sym b.1

  -- so has a word
  typestate_status : (s t : Status) (xs ys : List (List ℕ)) → IsTypestateReply p entry asked s xs → IsTypestateReply p entry asked t ys → s ≡ t
  typestate_status s t xs ys (inl a) (inl b) = a.2.0 ∙ ap NotProtocol (no_protocol_one p asked.protocol a.0 b.0 a.1 b.1) ∙ sym b.2.0
  typestate_status s t xs ys (inl a) (inr b) = absurd (protocol_there p asked.protocol b.0 a.0 b.1 a.1)
  typestate_status s t xs ys (inr a) (inl b) = absurd (protocol_there p asked.protocol a.0 b.0 a.1 b.1)
  typestate_status s t xs ys (inr a) (inr b) =
      protocol_status b.0 s t xs ys
      (subst (λ (k : ProtocolParts). IsProtocolReply p entry asked.budget k s xs) (protocol_one p asked.protocol a.0 b.0 a.1 b.1) a.2) b.2

  -- what is said of a protocol
  abbrev SaysVerdict : List (List ℕ) → Type 0
  SaysVerdict lines = (k : ProtocolParts) × IsProtocolOf p asked.protocol k × IsJudged p entry asked.budget k lines

  typestate_split : (s : Status) (lines : List (List ℕ)) → IsTypestateReply p entry asked s lines → (SaysVerdict lines × (s ≡ Done)) ⊎ Refuses s lines
  typestate_split s lines (inl a) = inr (refused_by (NotProtocol a.0) s lines (λ no. cc) tt a.2)
  typestate_split s lines (inr (k, is, inl over)) = inr (refused_by (OverBudget asked.budget) s lines (λ no. cc) tt over.1)
  typestate_split s lines (inr (k, is, inr a)) = inl ((k, is, a.0), a.1)

  verdicts_one : IsInForm p → (xs ys : List (List ℕ)) → SaysVerdict xs → SaysVerdict ys → text_of xs ≡ text_of ys
  verdicts_one form xs ys a b =
      judged_one p form entry asked.budget b.0 xs ys (subst (λ (k : ProtocolParts). IsJudged p entry asked.budget k xs) (protocol_one p asked.protocol a.0 b.0 a.1 b.1) a.2) b.2

  -- the replies are one
  pub typestate_ones : (Plain : Type 0) → AreOne p (IsTypestateReply p entry asked) Plain
  typestate_ones Plain = ones p (IsTypestateReply p entry asked) Plain SaysVerdict typestate_split typestate_status (λ form plain. verdicts_one form)

module _ (p : LinkedProgram) (s : Status) (lines : List (List ℕ)) where
  -- a protocol whose demand is within the budget is done
  protocol_enough : (entry : List ℕ) (asked : Typestate) (k : ProtocolParts) → IsProtocolReply p entry asked.budget k s lines
      → (j : ProtocolParts) → j ≡ k → IsWithin p j asked.budget → s ≡ Done
  protocol_enough entry asked k (inl over) j same few = absurd (demand_within p k asked.budget (subst (λ (x : ProtocolParts). IsWithin p x asked.budget) same few) over.0)
  protocol_enough entry asked k (inr a) j same few = a.1

  pub typestate_enough : (entry : List ℕ) (asked : Typestate) → IsJudgeable p asked → IsTypestateReply p entry asked s lines → s ≡ Done
  typestate_enough entry asked has (inl a) = absurd (protocol_there p asked.protocol has.0 a.0 has.1 a.1)
  typestate_enough entry asked has (inr a) =
      protocol_enough entry asked a.0 a.2 has.0 (protocol_one p asked.protocol has.0 a.0 has.1 a.1) has.2

module _ (p : LinkedProgram) (well : IsWellLinked p) (covered : IsCovered p) (old new : Option (List ℕ)) (lines : List (List ℕ)) (wrote : Appends old new (text_of lines)) where
  -- where what is done says safe, no run breaks the protocol
  pub typestate_safe : (entry : List ℕ) (asked : Typestate) (k : ProtocolParts) → IsTypestateReply p entry asked Done lines → IsProtocolOf p asked.protocol k
      → SaysSafe old new → IsSafe p k
  typestate_safe entry asked k (inl a) is says = absurd (let no : Done ≡ NotProtocol a.0 = a.2.0 in cc)
  typestate_safe entry asked k (inr (j, of, inl over)) is says = absurd (let no : Done ≡ OverBudget asked.budget = over.1.0 in cc)
  typestate_safe entry asked k (inr (j, of, inr a)) is says =
      let none = says_none p j entry a.0.verdict (text_of lines) a.0.told old new wrote says in
      subst (IsSafe p) (protocol_one p asked.protocol j k of is) (safe_verdict p j well covered a.0.verdict a.0.is_verdict none)
