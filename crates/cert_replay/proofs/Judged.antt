-- What a line gives that is no claim.
use Rattle.std.proofs.Common.{◌≡◌, ◌↔◌, ℕ, Option, Some, None, refl, sym, ap, subst}
use Rattle.link_rules.specs.Linked.{LinkedProgram}
use Rattle.link_sites.specs.declared.site.Site.{Site}
use Rattle.spds_rules.specs.declared.node.Node.{Node}
use Rattle.cert_rules.specs.declared.fact.Entry.{Entry}
use Rattle.cert_rules.specs.declared.fact.Entry.TheVariants as entry
use Rattle.cert_rules.specs.declared.fact.Entry.TheVariants.{Base}
use Rattle.cert_rules.specs.declared.fact.Fact.{Fact}
use Rattle.cert_rules.specs.declared.fact.Fact.TheVariants.{At, Link, Shared, Met}
use Rattle.cert_rules.specs.declared.line.Line.{Line}
use Rattle.cert_rules.specs.declared.line.Line.TheVariants as line
use Rattle.cert_rules.specs.declared.line.Side.TheVariants.{Field, Call}
use Rattle.spds_rules.specs.Demand.{about}
use Rattle.cert_rules.specs.Given.{Cites, Facts, Gives, IsHeld}
use Rattle.cert_replay.specs.declared.cited.Held.{Held}
use Rattle.cert_replay.specs.Cited.{IsHeldBy}
use Rattle.cert_text.proofs.NodeWords.{none_iff, some_iff, some_one}
use Rattle.cert_replay.proofs.From.{Finds, From}

-- the line is no claim
abbrev pub IsNoClaim : Line → Type 0
IsNoClaim l = (field call : ℕ) → l ≡ line.Claim field call → ⊥

module _ (p : LinkedProgram) (t : Node) (given : Facts) where
  pub gives_fact : (l : Line) → IsNoClaim l → (g : Option Fact) → Gives p t given l g → (f : Fact) × (g ≡ Some f)
  gives_fact (line.Start side n) other g is = (At side is.0 Base n, is.2)
  gives_fact (line.Jump from n) other g is = (At Call is.0.site Base n, is.1)
  gives_fact (line.Put from meet n) other g is = (At Call is.0.site Base n, is.1)
  gives_fact (line.Flow side from n) other g is = (At side is.1.site is.1.entry n, is.3)
  gives_fact (line.PushField from meet n) other g is = (At Field is.0.site (entry.Field n is.0.store.field) n, is.1)
  gives_fact (line.PushCall from n) other g is = (At Call is.1.site (entry.Call n is.0) n, is.2)
  gives_fact (line.LinkField from meet n) other g is = (Link Field is.0.site (entry.Field n is.0.store.field) is.0.entry, is.1)
  gives_fact (line.LinkCall from n) other g is = (Link Call is.1.site (entry.Call n is.0) is.1.entry, is.2)
  gives_fact (line.Pop side from link n) other g is = (At side is.2.site is.1 n, is.5)
  gives_fact (line.BasePop from n) other g is = (At Call is.1.site Base n, is.3)
  gives_fact (line.Shared first second string) other g is = (Shared is.0.object is.0.arg is.0.base is.0.at, is.1)
  gives_fact (line.Meet shared base) other g is = (Met is.0.object is.0.base is.0.store, is.1)
  gives_fact (line.Claim field call) other g is = absurd (other field call refl)

  -- so it is found by the fact
  pub judged_row : (l : Line) → IsNoClaim l → (g : Option Fact) → From (λ (f : Fact). Gives p t given l (Some f)) (λ f r. r ≡ Some f) g ↔ Gives p t given l g
  judged_row l other g = (
    (λ v. subst (λ (x : Option Fact). Gives p t given l x) (sym v.so) v.is),
    λ is.
        let f = gives_fact l other g is in
        record { by = f.0; is = subst (λ (x : Option Fact). Gives p t given l x) f.1 is; so = f.1 },
  )

  -- a claim gives nothing, where both lines hold the object
  pub claim_judged : (field call : ℕ) → IsHeld p (about t) given field call t → Finds (Gives p t given (line.Claim field call)) (Some None)
  claim_judged field call held = some_iff None (held, refl) (λ g is. is.1)

  pub claim_refused : (field call : ℕ) → (IsHeld p (about t) given field call t → ⊥) → Finds (Gives p t given (line.Claim field call)) None
  claim_refused field call not = none_iff (λ g is. not is.0)

  -- and no fact
  pub claim_no_fact : (field call : ℕ) → Finds (λ (f : Fact). Gives p t given (line.Claim field call) (Some f)) None
  claim_no_fact field call = none_iff (λ f is. let e = is.1 in cc)

  -- the object that both lines of a claim hold: none where the one holds none, or the other not this one
  pub claim_none : (field call : ℕ) (n : Node) → Finds (IsHeldBy given Call call) None → IsHeld p (about t) given field call n → ⊥
  claim_none field call n none held = let e = (none (record { site = held.site; entry = held.entry; node = n })).1 held.by_calls in cc

  module _ (field call : ℕ) (h : Held) (one : Finds (IsHeldBy given Call call) (Some h)) where
    -- where an object is held, it is this one
    same : (n : Node) (held : IsHeld p (about t) given field call n) → h ≡ record { site = held.site; entry = held.entry; node = n }
    same n held = some_one _ _ ((one (record { site = held.site; entry = held.entry; node = n })).1 held.by_calls)

    by_fields : (n : Node) → IsHeld p (about t) given field call n → Cites given field (At Field h.site Base n)
    by_fields n held = subst (λ (o : Site). Cites given field (At Field o Base n)) (sym (ap (λ (x : Held). x.site) (same n held))) held.by_fields

    pub claim_not_there : (n : Node) → Finds (λ (e : Entry). Cites given field (At Field h.site e n)) None → IsHeld p (about t) given field call n → ⊥
    claim_not_there n none held = let e = (none Base).1 (by_fields n held) in cc

    pub claim_elsewhere : (n : Node) → (h.node ≡ n → ⊥) → IsHeld p (about t) given field call n → ⊥
    claim_elsewhere n not held = not (ap (λ (x : Held). x.node) (same n held))

    -- it is held where it is there as itself
    pub claim_held_as : (n : Node) (e : Entry) → Finds (λ (x : Entry). Cites given field (At Field h.site x n)) (Some e) → h.node ≡ n → (e ≡ Base) ↔ IsHeld p (about t) given field call n
    claim_held_as n e finds there = (
      (λ is. record {
        site = h.site;
        entry = h.entry;
        by_fields = subst (λ (x : Entry). Cites given field (At Field h.site x n)) is ((finds e).0 refl);
        by_calls = subst (λ (x : Node). Cites given call (At Call h.site h.entry x)) there ((one h).0 refl);
      }),
      λ held. some_one e Base ((finds Base).1 (by_fields n held)),
    )
