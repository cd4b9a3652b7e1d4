-- How strings are read.
use Rattle.std.proofs.Common.{length, arith, ◌≡◌, ◌↔◌, ℕ, List, [], ◌∷◌, Option, Some, None, refl, sym, ap, subst}
use Rattle.std.proofs.lemmas.List.{take_all}
use Rattle.link_rules.specs.Linked.{LinkedProgram}
use Rattle.link_sites.specs.declared.place.Place.{Place}
use Rattle.link_sites.specs.declared.site.Site.{Site}
use Rattle.spds_rules.specs.declared.node.Node.{Node}
use Rattle.spds_rules.specs.Systems.{IsString}
use Rattle.cert_rules.specs.declared.fact.Entry.{Entry}
use Rattle.cert_rules.specs.declared.fact.Entry.TheVariants as entry
use Rattle.cert_rules.specs.declared.fact.Entry.TheVariants.{Base}
use Rattle.cert_rules.specs.declared.fact.Fact.TheVariants.{Link}
use Rattle.cert_rules.specs.declared.line.Side.TheVariants.{Call}
use Rattle.cert_rules.specs.Given.{Cites, Facts, Reads, ReadsOn}
use Rattle.cert_text.proofs.NodeWords.{none_iff, some_one}
use Rattle.cert_replay.specs.declared.cited.Held.{Held}
use Rattle.cert_replay.specs.Cited.{IsHeldBy, ReadsNext}
use Rattle.cert_replay.proofs.From.{Finds, From, Where}

module _ (given : Facts) (o : Site) (link : ℕ) (call : Place) where
  -- below an entry of the call is what its link tells
  pub next_call : (n : Node) (pushed : Place) → pushed ≡ call → (r : Option Entry) → Finds (λ e. Cites given link (Link Call o (entry.Call n pushed) e)) r
      → Finds (ReadsNext given o (entry.Call n pushed) link call) r
  next_call n pushed same r finds e = (
    (λ is. (n, ap (entry.Call n) same, (finds e).0 is)),
    λ next. (finds e).1 next.2,
  )

  -- of another call there is none
  pub next_other : (n : Node) (pushed : Place) → (pushed ≡ call → ⊥) → Finds (ReadsNext given o (entry.Call n pushed) link call) None
  next_other n pushed not = none_iff (λ e next. let is = next.1 in let same : pushed ≡ call = cc in not same)

  -- nor of an entry that is no call's
  pub next_none : (x : Entry) → ((n : Node) (pushed : Place) → x ≡ entry.Call n pushed → ⊥) → Finds (ReadsNext given o x link call) None
  next_none x not = none_iff (λ e next. not next.0 call next.1)

module _ (p : LinkedProgram) (given : Facts) (o : Site) (link : ℕ) (links : List ℕ) (e : Entry) (method : ℕ) (call : Place) (string : List Place) where
  -- one link on
  pub read_step : (below : Entry) → Finds (ReadsNext given o e link call) (Some below) → ReadsOn p given o (link ∷ links) e method (call ∷ string) ↔ ReadsOn p given o links below call.method string
  read_step below finds = (
    (λ r.
        let same : below ≡ r.1 = some_one below r.1 ((finds r.1).1 (r.0, r.2, r.3)) in
        subst (λ (x : Entry). ReadsOn p given o links x call.method string) (sym same) r.4),
    λ rest. let next = (finds below).0 refl in (next.0, below, next.1, next.2, rest),
  )

  pub read_stops : Finds (ReadsNext given o e link call) None → ReadsOn p given o (link ∷ links) e method (call ∷ string) → ⊥
  read_stops finds r = let e = (finds r.1).1 (r.0, r.2, r.3) in cc

module _ (p : LinkedProgram) (given : Facts) (o : Site) (W : Type 0) (left : List ℕ) (e : Entry) (method : ℕ) (rest : List Place) (before : ReadsOn p given o left e method rest ↔ W) where
  module _ (link : ℕ) (links : List ℕ) (left_is : left ≡ link ∷ links) where
    -- a link without a call
    pub read_short : length rest ≡ 0 → W → ⊥
    read_short none w = short rest none (subst (λ (xs : List ℕ). ReadsOn p given o xs e method rest) left_is (before.1 w))
      where
        short : (string : List Place) → length string ≡ 0 → ReadsOn p given o (link ∷ links) e method string → ⊥
        short [] none r = r
        short (call ∷ string) none r = absurd (omega arith)

    module _ (call : Place) (string : List Place) (rest_is : rest ≡ call ∷ string) where
      here : ReadsOn p given o (link ∷ links) e method (call ∷ string) ↔ W
      here =
          subst (λ (xs : List ℕ). ReadsOn p given o xs e method (call ∷ string) ↔ W) left_is (subst (λ (ys : List Place). ReadsOn p given o left e method ys ↔ W) rest_is before)

      -- reading goes on
      pub read_on : (below : Entry) → Finds (ReadsNext given o e link call) (Some below) → ReadsOn p given o links below call.method string ↔ W
      read_on below finds = let step = read_step p given o link links e method call string below finds in ((λ r. here.0 (step.1 r)), λ w. step.0 (here.1 w))

      -- or stops
      pub read_out : Finds (ReadsNext given o e link call) None → W → ⊥
      read_out finds w = read_stops p given o link links e method call string finds (here.1 w)

  -- all links are read
  pub read_end : length left ≡ 0 → ((e ≡ Base) × IsString p method rest) ↔ W
  read_end none = subst (λ (xs : List ℕ). ReadsOn p given o xs e method rest ↔ W) (sym (take_all 0 left (omega arith))) before

module _ (p : LinkedProgram) (given : Facts) where
  -- no lines read nothing
  pub read_for_none : (numbers : List ℕ) (string : List Place) → length numbers ≡ 0 → Finds (λ (y : Site × Node). Reads p given y.0 numbers y.1 string) None
  read_for_none [] string none = none_iff (λ y r. r)
  read_for_none (first ∷ links) string none = absurd (omega arith)

  pub read_for_at : (numbers : List ℕ) (first : ℕ) (links : List ℕ) (string : List Place) → numbers ≡ first ∷ links → (r : Option (Site × Node))
      → Finds (λ (y : Site × Node). Reads p given y.0 (first ∷ links) y.1 string) r → Finds (λ (y : Site × Node). Reads p given y.0 numbers y.1 string) r
  read_for_at numbers first links string is r finds = subst (λ (xs : List ℕ). Finds (λ (y : Site × Node). Reads p given y.0 xs y.1 string) r) (sym is) finds

  -- from where an object is
  abbrev pub ReadsFrom : List ℕ → List Place → Held → Site × Node → Type 0
  ReadsFrom links string h = Where (ReadsOn p given h.site links h.entry h.node.place.method string) (h.site, h.node)

  pub read_for_row : (first : ℕ) (links : List ℕ) (string : List Place) (y : Site × Node)
      → From (IsHeldBy given Call first) (ReadsFrom links string) y ↔ Reads p given y.0 (first ∷ links) y.1 string
  read_for_row first links string y = (
    (λ v. subst (λ (x : Site × Node). Reads p given x.0 (first ∷ links) x.1 string) (sym v.so.1) (v.by.entry, v.is, v.so.0)),
    λ r. record { by = record { site = y.0; entry = r.0; node = y.1 }; is = r.1; so = (r.2, refl) },
  )
