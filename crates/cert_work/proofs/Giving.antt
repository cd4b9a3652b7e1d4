-- Lines that are put behind others give what the rules give over these, and how long they are.
use Rattle.std.proofs.Common.{◌≡◌, ◌∙◌, ℕ, ◌+◌, ◌≤◌, refl, sym, ap, subst, arith}
use Rattle.link_sites.specs.declared.place.Place.{Place}
use Rattle.spds_rules.specs.declared.edge.Edge.{Edge}
use Rattle.spds_rules.specs.declared.edge.EdgeKind.{EdgeKind}
use Rattle.spds_rules.specs.declared.edge.EdgeKind.TheVariants as edge
use Rattle.spds_rules.specs.declared.node.Node.{Node}
use Rattle.cert_rules.specs.declared.fact.Entry.TheVariants as entry
use Rattle.cert_rules.specs.declared.fact.Entry.TheVariants.{Base}
use Rattle.cert_rules.specs.declared.fact.Fact.{Fact}
use Rattle.cert_rules.specs.declared.fact.Fact.TheVariants.{At, Link}
use Rattle.cert_rules.specs.declared.line.Line.TheVariants as line
use Rattle.cert_rules.specs.declared.line.Side.{Side}
use Rattle.cert_rules.specs.declared.line.Side.TheVariants.{Field, Call}
use Rattle.spds_rules.specs.Demand.{about}
use Rattle.cert_rules.specs.Given.{Cites, Keeps, Leads, Takes}
use Rattle.cert_lines.specs.Noted.{IsThere, Noted}
use Rattle.cert_rules.specs.Told.{as_told}
use Rattle.cert_work.specs.declared.held.Below.{Below}
use Rattle.cert_work.specs.declared.held.Held.{Held}
use Rattle.cert_work.specs.declared.held.Meeting.{Meeting}
use Rattle.cert_work.specs.declared.roads.View.{View}
use Rattle.cert_work.specs.Added.{length_told}
use Rattle.cert_work.specs.Held.{IsBelowHeld, IsHeld, IsMeeting}
use Rattle.cert_work.specs.Roads.{EdgeOf, GivesIn, StartOf}
use Rattle.cert_work.specs.Rules.{one_more}
use Rattle.cert_work.proofs.Growing.{there_within}

told_within : (n : ℕ) → as_told n ≤ n
told_within n = omega arith

told_twice : (a b : ℕ) → as_told (as_told (a + b) + 1) ≡ as_told (a + b + 1)
told_twice a b = omega arith

-- what is there as long as 32 bits tell is no longer
pub there_told : (w : Noted) (fact : Fact) (n told : ℕ) → told ≡ as_told n → IsThere w fact told → IsThere w fact n
there_told w fact n told e there = there_within w fact told n there (omega (arith, e, told_within n))

module _ (v : View) (w : Noted) (h : Held) (held : IsHeld w h) where
  module _ (e : Edge) (along : EdgeOf v e) (from : e.from ≡ h.node) where
    cited : (side : Side) → h.side ≡ side → Cites w.given h.number (At side h.site h.entry e.from)
    cited side s =
        subst (λ (x : Side). Cites w.given h.number (At x h.site h.entry e.from)) s
        (subst (λ (n : Node). Cites w.given h.number (At h.side h.site h.entry n)) (sym from) held.gives)

    abbrev leads : (side : Side) → h.side ≡ side → (kind : EdgeKind) → e.kind ≡ kind → Leads v.linked.now (about v.target) w.given side h.number kind e.to
    leads side s kind k = record {
      site = h.site;
      entry = h.entry;
      source = e.from;
      cited = cited side s;
      edge = subst (λ (x : EdgeKind). EdgeOf v (record { from = e.from; to = e.to; kind = x })) k along;
    }

    pub flow_gives : Keeps h.side e.kind → GivesIn v w (line.Flow h.side h.number e.to) (At h.side h.site h.entry e.to)
    flow_gives keeps = (e.kind, leads h.side refl e.kind refl, keeps, refl)

    pub jump_gives : h.side ≡ Call → e.kind ≡ edge.Jump → GivesIn v w (line.Jump h.number e.to) (At Call h.site Base e.to)
    jump_gives s k = (leads Call s edge.Jump k, refl)

    pub base_gives : (call : Place) → h.side ≡ Call → h.entry ≡ Base → e.kind ≡ edge.Return call → GivesIn v w (line.BasePop h.number e.to) (At Call h.site Base e.to)
    base_gives call s b k = (call, leads Call s (edge.Return call) k, b, refl)

    pub push_gives : (call : Place) → h.side ≡ Call → e.kind ≡ edge.Call call → GivesIn v w (line.PushCall h.number e.to) (At Call h.site (entry.Call e.to call) e.to)
    push_gives call s k = (call, leads Call s (edge.Call call) k, refl)

    pub link_gives : (call : Place) → h.side ≡ Call → e.kind ≡ edge.Call call → GivesIn v w (line.LinkCall h.number e.to) (Link Call h.site (entry.Call e.to call) h.entry)
    link_gives call s k = (call, leads Call s (edge.Call call) k, refl)

    pub pop_gives : (b : Below) → IsBelowHeld w h b → Takes h.side h.entry e.kind
        → GivesIn v w (line.Pop h.side h.number b.number e.to) (At h.side h.site b.entry e.to)
    pop_gives b below takes = (e.kind, b.entry, leads h.side refl e.kind refl, takes, below.gives, refl)

  flow_at : (side : Side) (to : Node) → length_told w (line.Flow side h.number to) ≡ as_told (one_more side h.length)
  flow_at Field to = ap (λ (n : ℕ). as_told (n + 1)) held.long
  flow_at Call to = refl

  pub flow_long : (to : Node) → length_told w (line.Flow h.side h.number to) ≡ as_told (one_more h.side h.length)
  flow_long to = flow_at h.side to

  pop_at : (side : Side) (to : Node) (b : Below) → IsBelowHeld w h b → length_told w (line.Pop side h.number b.number to) ≡ as_told (one_more side (as_told (h.length + b.length)))
  pop_at Field to b below =
      (λ j. as_told (held.long j + below.long j + 1)) ∙ sym (told_twice h.length b.length)
  pop_at Call to b below = refl

  pub pop_long : (to : Node) (b : Below) → IsBelowHeld w h b
      → length_told w (line.Pop h.side h.number b.number to) ≡ as_told (one_more h.side (as_told (h.length + b.length)))
  pop_long to b below = pop_at h.side to b below

  one_more_within : (side : Side) (n : ℕ) → one_more side (as_told n) ≤ one_more side n
  one_more_within Field n = omega (arith, told_within n)
  one_more_within Call n = omega arith

  pub pop_there : (to : Noted) (fact : Fact) (side : Side) (n told : ℕ) → told ≡ as_told (one_more side (as_told n)) → IsThere to fact told
      → IsThere to fact (one_more side n)
  pop_there to fact side n told e there =
      there_within to fact told (one_more side n) there (omega (arith, e, told_within (one_more side (as_told n)), one_more_within side n))

  module _ (m : Meeting) (meeting : IsMeeting w h m) (n : Node) (start : StartOf v m.base n) where
    put_cited : (side : Side) → h.side ≡ side → Cites w.given h.number (At side h.site h.entry m.store.arg)
    put_cited side s =
        subst (λ (x : Side). Cites w.given h.number (At x h.site h.entry m.store.arg)) s
        (subst (λ (k : Node). Cites w.given h.number (At h.side h.site h.entry k)) meeting.at_arg held.gives)

    pub push_field_gives : h.side ≡ Field → GivesIn v w (line.PushField h.number m.number n) (At Field h.site (entry.Field n m.store.field) n)
    push_field_gives s = (record { site = h.site; entry = h.entry; base = m.base; store = m.store; cited = put_cited Field s; met = meeting.meets; start = start }, refl)

    pub link_field_gives : h.side ≡ Field → GivesIn v w (line.LinkField h.number m.number n) (Link Field h.site (entry.Field n m.store.field) h.entry)
    link_field_gives s = (record { site = h.site; entry = h.entry; base = m.base; store = m.store; cited = put_cited Field s; met = meeting.meets; start = start }, refl)

    pub put_gives : h.side ≡ Call → GivesIn v w (line.Put h.number m.number n) (At Call h.site Base n)
    put_gives s = (record { site = h.site; entry = h.entry; base = m.base; store = m.store; cited = put_cited Call s; met = meeting.meets; start = start }, refl)

    pub link_field_long : length_told w (line.LinkField h.number m.number n) ≡ as_told (h.length + 1)
    link_field_long = ap (λ (k : ℕ). as_told (k + 1)) held.long
