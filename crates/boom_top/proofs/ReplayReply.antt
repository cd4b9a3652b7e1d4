-- What `replay` is answered.
use Rattle.std.proofs.Common.{◌≡◌, ℕ, ◌++◌, ◌⊎◌, List, [], ◌∷◌, ◌∙◌, Option, ap, codes, inl, inr, subst, sym}
use Rattle.std.specs.Fmt.{decimal}
use Rattle.std.specs.Io.KnownBytes.{Appends}
use Rattle.lists.proofs.Joined.{last_one}
use Rattle.link_rules.specs.Linked.{LinkedProgram}
use Rattle.link_rules.specs.WellLinked.{IsInForm, IsWellLinked}
use Rattle.link_sites.specs.declared.site.Site.{Site}
use Rattle.spds_rules.specs.Demand.{Demand, about}
use Rattle.spds_rules.specs.declared.node.Node.{Node}
use Rattle.cert_rules.specs.Certified.{IsCertified}
use Rattle.cert_rules.specs.Given.{Cites, Facts}
use Rattle.cert_rules.specs.Spelled.{SpellsCertificate}
use Rattle.cert_rules.specs.declared.certificate.Certificate.{Certificate}
use Rattle.cert_rules.specs.declared.fact.Entry.TheVariants.{Base}
use Rattle.cert_rules.specs.declared.fact.Fact.TheVariants.{At}
use Rattle.cert_rules.specs.declared.line.Side.TheVariants.{Field}
use Rattle.cert_text.proofs.OneText.{bad_one, certificate_one, spelled_bad}
use Rattle.cert_laws.proofs.Givens.{cites_one}
use Rattle.cert_laws.proofs.OneFact.{given_one}
use Rattle.cert_laws.proofs.Sound.{certified_answered}
use Rattle.query_core.proofs.Determined.{counts_one}
use Rattle.report_text.specs.Answers.{IsAcceptedText}
use Rattle.report_text.specs.Lines.{text_of}
use Rattle.cert_query.proofs.Outcomes.{over_accepted, rejected_accepted, rejected_at_one, rejected_over}
use Rattle.cert_query.specs.Replays.{IsAccepted}
use Rattle.boom_top.specs.Replays.{IsCertificateOf, IsCertificateReply, IsClaimTold, IsReplayReply, PrintsCertified}
use Rattle.boom_top.specs.declared.status.Status.{Status}
use Rattle.boom_top.specs.declared.status.Status.TheVariants.{Done, NotCertificate, OverBudget, Rejected}
use Rattle.boom_top.proofs.OneText.{query_line_one, worded_one}
use Rattle.boom_top.proofs.Splits.{AreOne, Refuses, ones, refused_by}

module _ (p : LinkedProgram) (form : IsInForm p) where
  accepted_text_one : (n : Node) (o : Site) (demanded : ℕ) (a b : List ℕ) → IsAcceptedText p n o demanded a → IsAcceptedText p n o demanded b → a ≡ b
  accepted_text_one n o demanded a b x y =
      let query = query_line_one p form (codes "accepted") n x.query y.query x.query_is y.query_is in
      let line = worded_one p form (codes "site ") o x.line y.line x.line_is y.line_is in
      x.text_is ∙ (λ i. text_of (query i ∷ line i ∷ (codes "demanded " ++ decimal demanded) ∷ [])) ∙ sym y.text_is

  -- lines are certified for one site
  certified_site : (c : Certificate) (o x : Site) → IsCertified p c.target c.lines o → IsCertified p c.target c.lines x → o ≡ x
  certified_site c o x a b =
      let given = given_one p c.target c.lines a.given b.given a.are_given b.are_given in
      let last = last_one (a.last.0) (b.last.0) _ _ (sym a.last.1 ∙ b.last.1) in
      let field : a.field ≡ b.field = cc (last.1) in
      let moved = subst (λ (g : Facts). Cites g a.field (At Field o Base c.target)) given a.of_site in
      let first = subst (λ (n : ℕ). Cites b.given n (At Field o Base c.target)) field moved in
      let same = cites_one b.given b.field (At Field o Base c.target) (At Field x Base c.target) first b.of_site in
      cc

  -- what is told of a certificate
  claim_one : (budget : ℕ) (c : Certificate) (xs ys : List (List ℕ)) → IsClaimTold p budget c xs → IsClaimTold p budget c ys → text_of xs ≡ text_of ys
  claim_one budget c xs ys a b =
      let node : a.node ≡ b.node = a.accepted.is_target ∙ sym b.accepted.is_target in
      let site = certified_site c a.site b.site a.accepted.certified b.accepted.certified in
      let demanded = counts_one (Demand p (about c.target)) a.demanded b.demanded a.accepted.askable.size b.accepted.askable.size in
      let moved = subst (λ (n : Node). IsAcceptedText p n b.site b.demanded (text_of xs)) node
      (subst (λ (d : ℕ). IsAcceptedText p a.node b.site d (text_of xs)) demanded
      (subst (λ (s : Site). IsAcceptedText p a.node s a.demanded (text_of xs)) site a.told)) in
      accepted_text_one b.node b.site b.demanded (text_of xs) (text_of ys) moved b.told

module _ (p : LinkedProgram) (budget : ℕ) where
  -- a certificate has one status
  certificate_status : (c : Certificate) (s t : Status) (xs ys : List (List ℕ)) → IsCertificateReply p budget c s xs → IsCertificateReply p budget c t ys → s ≡ t
  certificate_status c s t xs ys (inl a) (inl b) = a.2.0 ∙ ap Rejected (rejected_at_one p budget c a.0 b.0 a.1 b.1) ∙ sym b.2.0
  certificate_status c s t xs ys (inl a) (inr (inl b)) = absurd (rejected_over p budget c a.0 a.1 b.0)
  certificate_status c s t xs ys (inl a) (inr (inr b)) = absurd (rejected_accepted p budget c a.0 b.0.node b.0.site b.0.demanded a.1 b.0.accepted)
  certificate_status c s t xs ys (inr (inl a)) (inl b) = absurd (rejected_over p budget c b.0 b.1 a.0)
  certificate_status c s t xs ys (inr (inl a)) (inr (inl b)) = a.1.0 ∙ sym b.1.0
  certificate_status c s t xs ys (inr (inl a)) (inr (inr b)) = absurd (over_accepted p budget c b.0.node b.0.site b.0.demanded a.0 b.0.accepted)
  certificate_status c s t xs ys (inr (inr a)) (inl b) = absurd (rejected_accepted p budget c b.0 a.0.node a.0.site a.0.demanded b.1 a.0.accepted)
  certificate_status c s t xs ys (inr (inr a)) (inr (inl b)) = absurd (over_accepted p budget c a.0.node a.0.site a.0.demanded b.0 a.0.accepted)
  certificate_status c s t xs ys (inr (inr a)) (inr (inr b)) = a.1 ∙ sym b.1

  -- so has a text
  replay_status : (text : List ℕ) (s t : Status) (xs ys : List (List ℕ)) → IsReplayReply p budget text s xs → IsReplayReply p budget text t ys → s ≡ t
  replay_status text s t xs ys (inl a) (inl b) = a.2.0 ∙ ap NotCertificate (bad_one text a.0 b.0 a.1 b.1) ∙ sym b.2.0
  replay_status text s t xs ys (inl a) (inr b) = absurd (spelled_bad text b.0 a.0 b.1 a.1)
  replay_status text s t xs ys (inr a) (inl b) = absurd (spelled_bad text a.0 b.0 a.1 b.1)
  replay_status text s t xs ys (inr a) (inr b) =
      certificate_status b.0 s t xs ys (subst (λ (c : Certificate). IsCertificateReply p budget c s xs) (certificate_one text a.0 b.0 a.1 b.1) a.2) b.2

  module _ (text : List ℕ) where
    -- what is said of a certificate
    abbrev SaysClaim : List (List ℕ) → Type 0
    SaysClaim lines = (c : Certificate) × SpellsCertificate text c × IsClaimTold p budget c lines

    replay_split : (s : Status) (lines : List (List ℕ)) → IsReplayReply p budget text s lines → (SaysClaim lines × (s ≡ Done)) ⊎ Refuses s lines
    replay_split s lines (inl a) = inr (refused_by (NotCertificate a.0) s lines (λ no. cc) tt a.2)
    replay_split s lines (inr (c, spells, inl a)) = inr (refused_by (Rejected a.0) s lines (λ no. cc) tt a.2)
    replay_split s lines (inr (c, spells, inr (inl a))) = inr (refused_by (OverBudget budget) s lines (λ no. cc) tt a.1)
    replay_split s lines (inr (c, spells, inr (inr a))) = inl ((c, spells, a.0), a.1)

    claims_one : IsInForm p → (xs ys : List (List ℕ)) → SaysClaim xs → SaysClaim ys → text_of xs ≡ text_of ys
    claims_one form xs ys a b =
        claim_one p form budget b.0 xs ys (subst (λ (c : Certificate). IsClaimTold p budget c xs) (certificate_one text a.0 b.0 a.1 b.1) a.2) b.2

    -- the replies are one
    pub replay_ones : (Plain : Type 0) → AreOne p (IsReplayReply p budget text) Plain
    replay_ones Plain = ones p (IsReplayReply p budget text) Plain SaysClaim replay_split (replay_status text) (λ form plain. claims_one form)

module _ (p : LinkedProgram) (s : Status) (lines : List (List ℕ)) where
  -- a certificate that is accepted is done
  certificate_enough : (budget : ℕ) (c d : Certificate) (n : Node) (o : Site) (demanded : ℕ) → c ≡ d → IsAccepted p budget c n o demanded
      → IsCertificateReply p budget d s lines → s ≡ Done
  certificate_enough budget c d n o demanded same is (inl a) =
      absurd (rejected_accepted p budget d a.0 n o demanded a.1 (subst (λ (x : Certificate). IsAccepted p budget x n o demanded) same is))
  certificate_enough budget c d n o demanded same is (inr (inl a)) =
      absurd (over_accepted p budget d n o demanded a.0 (subst (λ (x : Certificate). IsAccepted p budget x n o demanded) same is))
  certificate_enough budget c d n o demanded same is (inr (inr a)) = a.1

  pub replay_enough : (budget : ℕ) (text : List ℕ) → IsCertificateOf p budget text → IsReplayReply p budget text s lines → s ≡ Done
  replay_enough budget text has (inl a) = absurd (spelled_bad text has.0 a.0 has.1 a.1)
  replay_enough budget text has (inr a) =
      certificate_enough budget has.0 a.0 has.2.0 has.2.1 has.2.2 (certificate_one text has.0 a.0 has.1 a.1) has.2.3 a.2

-- there is evidence for what is done
module _ (p : LinkedProgram) (well : IsWellLinked p) (old new : Option (List ℕ)) (lines : List (List ℕ)) (wrote : Appends old new (text_of lines)) where
  -- what a certificate claims is shown by its own lines
  pub replay_evident : (budget : ℕ) (rest : List ℕ) → IsReplayReply p budget rest Done lines → PrintsCertified p rest old new
  replay_evident budget rest (inl a) = absurd (let no : Done ≡ NotCertificate a.0 = a.2.0 in cc)
  replay_evident budget rest (inr (c, spells, inl a)) = absurd (let no : Done ≡ Rejected a.0 = a.2.0 in cc)
  replay_evident budget rest (inr (c, spells, inr (inl a))) = absurd (let no : Done ≡ OverBudget budget = a.1.0 in cc)
  replay_evident budget rest (inr (c, spells, inr (inr a))) = record {
    spelled = c;
    spells = spells;
    site = a.0.site;
    demanded = a.0.demanded;
    text = text_of lines;
    told = subst (λ (n : Node). IsAcceptedText p n a.0.site a.0.demanded (text_of lines)) a.0.accepted.is_target a.0.told;
    wrote = wrote;
    certified = a.0.accepted.certified;
    answered = certified_answered p c.target well c.lines a.0.site a.0.accepted.certified;
  }
