-- Ways along links are readings of call strings.
use Rattle.std.proofs.Common.{◌≡◌, ◌↔◌, ◌⊎◌, inl, inr, ◌∙◌, ℕ, zero, suc, ◌+◌, List, [], ◌∷◌, ◌++◌, Some, drop, length, slice_get, take, refl, sym, ap, subst, arith, append_assoc}
use Rattle.std.proofs.lemmas.List.{append-nil}
use Rattle.lists.specs.Lists.{Has}
use Rattle.lists.proofs.Places.{slice_get-append_left, slice_get-push, slice_get-pushed, take-next}
use Rattle.link_rules.specs.Linked.{LinkedProgram}
use Rattle.link_sites.specs.declared.place.Place.{Place}
use Rattle.link_sites.specs.declared.site.Site.{Site}
use Rattle.spds_rules.specs.declared.node.Node.{Node}
use Rattle.spds_rules.specs.Systems.{IsString}
use Rattle.spds_laws.proofs.Strings.{string_called}
use Rattle.cert_rules.specs.declared.fact.Entry.{Entry}
use Rattle.cert_rules.specs.declared.fact.Entry.TheVariants as entry
use Rattle.cert_rules.specs.declared.fact.Entry.TheVariants.{Base}
use Rattle.cert_rules.specs.declared.fact.Fact.TheVariants.{At, Link}
use Rattle.cert_rules.specs.declared.line.Side.TheVariants.{Call}
use Rattle.cert_rules.specs.Given.{Cites, Reads, ReadsOn}
use Rattle.cert_laws.proofs.Givens.{cites_one}
use Rattle.cert_lines.specs.declared.keys.Word.{Word}
use Rattle.cert_lines.specs.Noted.{Noted}
use Rattle.way_find.specs.declared.ways.Step.{Step}
use Rattle.way_find.specs.Ways.{Leads, LeadsToGoal}
use Rattle.cert_trace.specs.declared.reading.Reading.{Reading}
use Rattle.cert_trace.specs.Readings.{Begins, GoesOn, IsEnd, IsLinkTo}

-- the method that is reached when so many calls were read
abbrev method_after : ℕ → List Place → ℕ → ℕ
method_after method calls zero = method
method_after method [] (suc k) = method
method_after method (call ∷ calls) (suc k) = method_after call.method calls k

drop_at : (calls : List Place) (k : ℕ) (call : Place) → slice_get calls k ≡ Some call → drop k calls ≡ call ∷ drop (suc k) calls
drop_at [] k call there = cc
drop_at (x ∷ calls) zero call there = let e : x ≡ call = cc in ap (λ (y : Place). y ∷ calls) e
drop_at (x ∷ calls) (suc k) call there = drop_at calls k call there

after_at : (method : ℕ) (calls : List Place) (k : ℕ) (call : Place) → slice_get calls k ≡ Some call → method_after method calls (suc k) ≡ call.method
after_at method [] k call there = cc
after_at method (x ∷ calls) zero call there = let e : x ≡ call = cc in ap (λ (y : Place). y.method) e
after_at method (x ∷ calls) (suc k) call there = after_at x.method calls k call there

string_after : (p : LinkedProgram) (method : ℕ) (calls : List Place) (k : ℕ) → IsString p method calls → IsString p (method_after method calls k) (drop k calls)
string_after p method calls zero is = is
string_after p method [] (suc k) is = is
string_after p method (call ∷ calls) (suc k) is = string_after p call.method calls k (string_called p is).below

got_drop : (calls : List Place) (k : ℕ) (call : Place) (rest : List Place) → drop k calls ≡ call ∷ rest → (slice_get calls k ≡ Some call) × (drop (k + 1) calls ≡ rest)
got_drop [] zero call rest e = cc
got_drop [] (suc k) call rest e = cc
got_drop (x ∷ calls) zero call rest e = let first : x ≡ call = cc in let others : calls ≡ rest = cc in (ap Some first, others)
got_drop (x ∷ calls) (suc k) call rest e =
    let r = got_drop calls k call rest e in
    let n : suc k + 1 ≡ suc (k + 1) = omega arith in
    (r.0, ap (λ (m : ℕ). drop m (x ∷ calls)) n ∙ r.1)

module _ (p : LinkedProgram) (w : Noted) (o : Site) (n : Node) (string : List Place) (starts : List (Step Reading))
    (are : (label : ℕ) (to : Reading) → Has starts (record { label = label; to = to }) ↔ Begins w o n label to) where
  -- the labels so far read the front of the string
  record IsReading (labels : List ℕ) (v : Reading) : Type 0 where
    pub first : ℕ
    pub links : List ℕ
    pub start : Entry
    pub whole : labels ≡ first ∷ links
    pub gives : Cites w.given first (At Call o start n)
    pub goes : (more : List ℕ) → ReadsOn p w.given o more v.entry (method_after n.place.method string v.level) (drop v.level string)
        → ReadsOn p w.given o (links ++ more) start n.place.method string

  is_reading : {labels : List ℕ} {v : Reading} → Leads (GoesOn w o string) starts labels v → IsReading labels v
  is_reading (Leads.start s has) =
      let b = (are s.label s.to).0 has in
      record {
        first = s.label;
        links = [];
        start = s.to.entry;
        whole = refl;
        gives = b.gives;
        goes = λ more rest. subst (λ (k : ℕ). ReadsOn p w.given o more s.to.entry (method_after n.place.method string k) (drop k string)) b.first rest;
      }
  is_reading (Leads.step {labels} {a} {b} label leads g) =
      let r = is_reading leads in
      record {
        first = r.first;
        links = r.links ++ label ∷ [];
        start = r.start;
        whole = ap (λ (ls : List ℕ). ls ++ label ∷ []) r.whole;
        gives = r.gives;
        goes = λ more rest.
            let next : b.level ≡ suc a.level = omega (arith, g.next) in
            let here : ReadsOn p w.given o more b.entry (method_after n.place.method string (suc a.level)) (drop (suc a.level) string)
            = subst (λ (k : ℕ). ReadsOn p w.given o more b.entry (method_after n.place.method string k) (drop k string)) next rest in
            let there : ReadsOn p w.given o more b.entry g.call.method (drop (suc a.level) string)
            = subst (λ (m : ℕ). ReadsOn p w.given o more b.entry m (drop (suc a.level) string)) (after_at n.place.method string a.level g.call g.call_is) here in
            let whole : ReadsOn p w.given o (label ∷ more) a.entry (method_after n.place.method string a.level) (g.call ∷ drop (suc a.level) string)
            = (g.node, b.entry, g.entry_is, g.links, there) in
            subst (λ (ls : List ℕ). ReadsOn p w.given o ls r.start n.place.method string) (sym (append_assoc r.links (label ∷ []) more))
            (r.goes (label ∷ more)
            (subst (λ (cs : List Place). ReadsOn p w.given o (label ∷ more) a.entry (method_after n.place.method string a.level) cs) (sym (drop_at string a.level g.call g.call_is)) whole));
      }

  pub read_of_way : IsString p n.place.method string → (labels : List ℕ) → LeadsToGoal (GoesOn w o string) IsEnd starts labels → Reads p w.given o labels n string
  read_of_way is labels way =
      let r = is_reading way.1 in
      let v = way.0 in
      let end : ReadsOn p w.given o [] v.entry (method_after n.place.method string v.level) (drop v.level string) = (way.2, string_after p n.place.method string v.level is) in
      let all : ReadsOn p w.given o r.links r.start n.place.method string
      = subst (λ (ls : List ℕ). ReadsOn p w.given o ls r.start n.place.method string) (append-nil r.links) (r.goes [] end) in
      subst (λ (ls : List ℕ). Reads p w.given o ls n string) (sym r.whole) (r.start, r.gives, all)

  way_on : (links : List ℕ) (e : Entry) (method : ℕ) (rest : List Place) (labels : List ℕ) (k : ℕ) → drop k string ≡ rest
      → Leads (GoesOn w o string) starts labels (record { level = k; entry = e }) → ReadsOn p w.given o links e method rest
      → (all : List ℕ) × LeadsToGoal (GoesOn w o string) IsEnd starts all
  way_on [] e method rest labels k is leads reads = (labels, (record { level = k; entry = e }, leads, reads.0))
  way_on (link ∷ links) e method [] labels k is leads reads = absurd reads
  way_on (link ∷ links) e method (call ∷ rest) labels k is leads reads =
      let d = got_drop string k call rest is in
      way_on links reads.1 call.method rest (labels ++ link ∷ []) (k + 1) d.1
      (Leads.step link leads (record { node = reads.0; call = call; entry_is = reads.2; call_is = d.0; links = reads.3; next = refl })) reads.4

  pub way_of_read : (numbers : List ℕ) → Reads p w.given o numbers n string → (all : List ℕ) × LeadsToGoal (GoesOn w o string) IsEnd starts all
  way_of_read [] reads = absurd reads
  way_of_read (first ∷ links) reads =
      let to : Reading = record { level = 0; entry = reads.0 } in
      way_on links reads.0 n.place.method string (first ∷ []) 0 refl (Leads.start (record { label = first; to = to }) ((are first to).1 (record { gives = reads.1; first = refl }))) reads.2

-- a step was put last
pub pushed_one : (old : List (Step Reading)) (x : Step Reading) (Q : ℕ → Reading → Type 0) → Q x.label x.to → ((to : Reading) → Q x.label to → to ≡ x.to)
    → (label : ℕ) (to : Reading) → Has (old ++ x ∷ []) (record { label = label; to = to }) ↔ (Has old (record { label = label; to = to }) ⊎ ((label ≡ x.label) × Q label to))
pushed_one old x Q is one label to = (
  (λ has. elim (slice_get-pushed old x has.0 (record { label = label; to = to }) has.1) [
    | inl before ↦ inl (has.0, before)
    | inr e ↦ inr (ap (λ (s : Step Reading). s.label) e.1, subst (λ (s : Step Reading). Q s.label s.to) (sym e.1) is)
  ]),
  (λ has. elim has [
    | inl before ↦ (before.0, slice_get-append_left old (x ∷ []) before.0 _ before.1)
    | inr e ↦
        let label_is = e.0 in
        let there : Q x.label to = subst (λ (k : ℕ). Q k to) label_is e.1 in
        let to_is = one to there in
        let same : x ≡ record { label = label; to = to } = (let l = sym label_is in let r = sym to_is in λ j. record { label = l j; to = r j }) in
        (length old, slice_get-push old x ∙ ap Some same)
  ]),
)

-- of the first numbers, and of one more
pub steps_more : (Q : ℕ → Reading → Type 0) (xs : List ℕ) (i number : ℕ) → slice_get xs i ≡ Some number → (old new : List (Step Reading))
    → ((label : ℕ) (to : Reading) → Has new (record { label = label; to = to }) ↔ (Has old (record { label = label; to = to }) ⊎ ((label ≡ number) × Q label to)))
    → ((label : ℕ) (to : Reading) → Has old (record { label = label; to = to }) ↔ (Has (take i xs) label × Q label to))
    → (label : ℕ) (to : Reading) → Has new (record { label = label; to = to }) ↔ (Has (take (i + 1) xs) label × Q label to)
steps_more Q xs i number there old new adds was label to = (
  (λ has. elim ((adds label to).0 has) [
    | inl before ↦ (let is = (was label to).0 before in (more label (inl is.0), is.1))
    | inr last ↦ (more label (inr last.0), last.1)
  ]),
  (λ is. elim (less label is.0) [
    | inl before ↦ (adds label to).1 (inl ((was label to).1 (before, is.1)))
    | inr last ↦ (adds label to).1 (inr (last, is.1))
  ]),
)
  where
    more : (label : ℕ) → Has (take i xs) label ⊎ (label ≡ number) → Has (take (i + 1) xs) label
    more label (inl before) =
        subst (λ (ys : List ℕ). Has ys label) (sym (take-next xs i number there)) (before.0, slice_get-append_left (take i xs) (number ∷ []) before.0 label before.1)
    more label (inr last) =
        subst (λ (ys : List ℕ). Has ys label) (sym (take-next xs i number there)) (length (take i xs), slice_get-push (take i xs) number ∙ ap Some (sym last))

    less : (label : ℕ) → Has (take (i + 1) xs) label → Has (take i xs) label ⊎ (label ≡ number)
    less label has =
        elim (slice_get-pushed (take i xs) number has.0 label (subst (λ (ys : List ℕ). slice_get ys has.0 ≡ Some label) (take-next xs i number there) has.1)) [
          | inl before ↦ inl (has.0, before)
          | inr e ↦ inr e.1
        ]

pub link_one : (w : Noted) (k : Word) (level label : ℕ) (x : Reading) → IsLinkTo w k level label x → (to : Reading) → IsLinkTo w k level label to → to ≡ x
link_one w k level label x is to other =
    let same = cites_one w.given label (Link k.side k.site k.entry to.entry) (Link k.side k.site k.entry x.entry) other.links is.links in
    let entry_is : to.entry ≡ x.entry = cc in
    let level_is : to.level ≡ x.level = other.at ∙ sym is.at in λ j. record { level = level_is j; entry = entry_is j }

pub begin_one : (w : Noted) (o : Site) (n : Node) (label : ℕ) (x : Reading) → Begins w o n label x → (to : Reading) → Begins w o n label to → to ≡ x
begin_one w o n label x is to other =
    let same = cites_one w.given label (At Call o to.entry n) (At Call o x.entry n) other.gives is.gives in
    let entry_is : to.entry ≡ x.entry = cc in
    let level_is : to.level ≡ x.level = other.first ∙ sym is.first in λ j. record { level = level_is j; entry = entry_is j }

-- with a call of the string, a link to what stands below it reads one more
pub link_goes : (w : Noted) (o : Site) (string : List Place) (from : Reading) (node : Node) (call : Place) → from.entry ≡ entry.Call node call
    → slice_get string from.level ≡ Some call → (label : ℕ) (to : Reading)
    → IsLinkTo w (record { side = Call; site = o; entry = from.entry }) (from.level + 1) label to ↔ GoesOn w o string from label to
link_goes w o string from node call e there label to = (
  (λ l. record { node = node; call = call; entry_is = e; call_is = there; links = l.links; next = l.at }),
  (λ g. record { at = g.next; links = g.links }),
)
