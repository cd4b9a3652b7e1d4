-- What the last line claims.
use Rattle.std.proofs.Common.{◌≡◌, ℕ, suc, ◌-◌, List, [], ◌∷◌, ◌++◌, Option, Some, None, length, slice_get, refl, sym, ap, subst, ◌∙◌, arith, length-append}
use Rattle.lists.proofs.Places.{slice_get-push}
use Rattle.link_rules.specs.Linked.{LinkedProgram}
use Rattle.link_sites.specs.declared.site.Site.{Site}
use Rattle.spds_rules.specs.declared.node.Node.{Node}
use Rattle.cert_rules.specs.declared.fact.Entry.TheVariants.{Base}
use Rattle.cert_rules.specs.declared.fact.Fact.TheVariants.{At}
use Rattle.cert_rules.specs.declared.line.Line.{Line}
use Rattle.cert_rules.specs.declared.line.Line.TheVariants.{Claim}
use Rattle.cert_rules.specs.declared.line.Side.TheVariants.{Field}
use Rattle.cert_rules.specs.Certified.{AreGiven, ClaimsNothing, EndsWith, IsCertified}
use Rattle.cert_rules.specs.Given.{Cites, Facts}
use Rattle.cert_text.proofs.NodeWords.{none_iff, some_iff, some_one}
use Rattle.cert_laws.proofs.Givens.{cites_one, claim_held}
use Rattle.cert_replay.specs.Cited.{AnyHeld, IsHeldBy}
use Rattle.cert_replay.specs.Replays.{ClaimsSite}
use Rattle.cert_replay.proofs.From.{Finds}

module _ {X : Type 0} where
  -- the last element of a list
  pub last_split : (xs : List X) (x : X) → slice_get xs (length xs - 1) ≡ Some x → (front : List X) × (xs ≡ front ++ x ∷ [])
  last_split [] x e = cc
  last_split (y ∷ []) x e = let same : y ≡ x = cc in ([], ap (λ z. z ∷ []) same)
  last_split (y ∷ z ∷ xs) x e =
      let count : length (y ∷ z ∷ xs) - 1 ≡ suc (length (z ∷ xs) - 1) = omega arith in
      let rest = last_split (z ∷ xs) x (sym (ap (slice_get (y ∷ z ∷ xs)) count) ∙ e) in
      (y ∷ rest.0, ap (λ l. y ∷ l) rest.1)

  pub last_of : (front : List X) (x : X) → slice_get (front ++ x ∷ []) (length (front ++ x ∷ []) - 1) ≡ Some x
  last_of front x =
      let count : length (front ++ x ∷ []) - 1 ≡ length front = omega (arith, length-append front (x ∷ [])) in
      ap (slice_get (front ++ x ∷ [])) count ∙ slice_get-push front x

module _ (given : Facts) (lines : List Line) where
  -- a list that ends with another line claims nothing
  pub claims_none : ((field call : ℕ) → EndsWith lines field call → ⊥) → Finds (ClaimsSite given lines) None
  claims_none none = none_iff (λ o c. none c.0 c.1 c.2)

  -- the last line of one that ends with a claim is that claim
  pub ends_last : (field call : ℕ) → EndsWith lines field call → slice_get lines (length lines - 1) ≡ Some (Claim field call)
  ends_last field call last = subst (λ (l : List Line). slice_get l (length l - 1) ≡ Some (Claim field call)) (sym last.1) (last_of last.0 (Claim field call))

  -- no list, and one that ends with another line, claims nothing
  pub claims_no_last : slice_get lines (length lines - 1) ≡ None → Finds (ClaimsSite given lines) None
  claims_no_last none = claims_none (λ field call last. let e = sym none ∙ ends_last field call last in cc)

  pub claims_other : (line : Line) → slice_get lines (length lines - 1) ≡ Some line → ((field call : ℕ) → line ≡ Claim field call → ⊥) → Finds (ClaimsSite given lines) None
  claims_other line there not = claims_none (λ field call last. let e = sym there ∙ ends_last field call last in not field call (some_one line (Claim field call) e))

  -- one that ends with a claim claims what the line that it cites holds
  pub claims_held : (field call : ℕ) → EndsWith lines field call → ((f c : ℕ) → EndsWith lines f c → f ≡ field) → (h : AnyHeld) → Finds (IsHeldBy given Field field) (Some h) → Finds (ClaimsSite given lines) (Some h.site)
  claims_held field call last one h finds = some_iff h.site (field, call, last, (h.entry, h.node, (finds h).0 refl)) (λ o c.
      let same : c.0 ≡ field = one c.0 c.1 c.2 in
      let is = (finds (record { site = o; entry = c.3.0; node = c.3.1 })).1 (subst (λ (k : ℕ). Cites given k (At Field o c.3.0 c.3.1)) same c.3.2) in
      let e = some_one _ _ is in
      ap (λ (x : AnyHeld). x.site) (sym e))

  -- by its last line
  module _ (line : Line) (field call : ℕ) (there : slice_get lines (length lines - 1) ≡ Some line) (is : line ≡ Claim field call) where
    last_claim : EndsWith lines field call
    last_claim = last_split lines (Claim field call) (there ∙ ap Some is)

    one_claim : (f c : ℕ) → EndsWith lines f c → f ≡ field
    one_claim f c last =
        let e : Claim f c ≡ Claim field call = some_one (Claim f c) (Claim field call) (sym (ends_last f c last) ∙ there ∙ ap Some is) in
        cc

    pub claims_by_last : (h : AnyHeld) → Finds (IsHeldBy given Field field) (Some h) → Finds (ClaimsSite given lines) (Some h.site)
    claims_by_last h finds = claims_held field call last_claim one_claim h finds

    pub claims_unheld : Finds (IsHeldBy given Field field) None → Finds (ClaimsSite given lines) None
    claims_unheld none = none_iff (λ o c.
        let same = one_claim c.0 c.1 c.2 in
        let e = (none (record { site = o; entry = c.3.0; node = c.3.1 })).1 (subst (λ (k : ℕ). Cites given k (At Field o c.3.0 c.3.1)) same c.3.2) in
        cc)

module _ (p : LinkedProgram) (t : Node) (lines : List Line) (given : Facts) where
  -- where all lines give, the site that the last one claims is certified
  pub claimed_certified : (o : Site) → AreGiven p t lines given → ClaimsSite given lines o → IsCertified p t lines o
  claimed_certified o are claims =
      let held = claim_held p t lines given claims.0 claims.1 are claims.2 in
      let fact = cites_one given claims.0 _ _ held.by_fields claims.3.2 in
      let site : held.site ≡ o = cc in
      record { given = given; are_given = are; field = claims.0; call = claims.1; last = claims.2; of_site = subst (λ (s : Site). Cites given claims.0 (At Field s Base t)) site held.by_fields }

  -- and a certified site is claimed
  pub certified_claimed : (o : Site) → (c : IsCertified p t lines o) → given ≡ c.given → ClaimsSite given lines o
  certified_claimed o c same = (c.field, c.call, c.last, (Base, t, subst (λ (l : Facts). Cites l c.field (At Field o Base t)) (sym same) c.of_site))

  -- a claim claims a site
  pub claim_claims : (field call : ℕ) → AreGiven p t lines given → EndsWith lines field call → (o : Site) × ClaimsSite given lines o
  claim_claims field call are last =
      let held = claim_held p t lines given field call are last in
      (held.site, (field, call, last, (Base, t, held.by_fields)))

-- the lines and what they gave as a replay reads them
module _ (p : LinkedProgram) (t : Node) (lines shown : List Line) (given read : Facts) (same : shown ≡ lines) (same_given : read ≡ given) (shown_are : AreGiven p t shown given) where
  are : AreGiven p t lines given
  are = subst (λ (l : List Line). AreGiven p t l given) same shown_are

  claims_of : (r : Option Site) → Finds (ClaimsSite read shown) r → Finds (ClaimsSite given lines) r
  claims_of r finds = subst (λ (l : List Line). Finds (ClaimsSite given l) r) same (subst (λ (g : Facts). Finds (ClaimsSite g shown) r) same_given finds)

  -- what the last line claims is certified
  pub accepted : (o : Site) → Finds (ClaimsSite read shown) (Some o) → IsCertified p t lines o
  accepted o finds = claimed_certified p t lines given o are ((claims_of (Some o) finds o).0 refl)

  -- where it claims nothing, none is
  pub nothing_claimed : Finds (ClaimsSite read shown) None → ClaimsNothing p t lines
  nothing_claimed none = record {
    given = given;
    are_given = are;
    none = λ field call last.
        let claims = claim_claims p t lines given field call are last in
        let e = (claims_of None none claims.0).1 claims.1 in
        cc;
  }

  -- where it claims something, no line is rejected
  pub claim_wanted : (o : Site) → Finds (ClaimsSite read shown) (Some o) → ClaimsNothing p t lines → ⊥
  claim_wanted o finds c = let claims = (claims_of (Some o) finds o).0 refl in c.none claims.0 claims.1 claims.2

  module _ (only : (other : Facts) → AreGiven p t shown other → given ≡ other) where
    certified : (o : Site) → IsCertified p t lines o → ClaimsSite given lines o
    certified o c = certified_claimed p t lines given o c (only c.given (subst (λ (l : List Line). AreGiven p t l c.given) (sym same) c.are_given))

    pub accepted_alone : (o : Site) → Finds (ClaimsSite read shown) (Some o) → (other : Site) → IsCertified p t lines other → o ≡ other
    accepted_alone o finds other c = some_one o other ((claims_of (Some o) finds other).1 (certified other c))

    pub none_certified : Finds (ClaimsSite read shown) None → (o : Site) → IsCertified p t lines o → ⊥
    none_certified none o c = let e = (claims_of None none o).1 (certified o c) in cc
