-- The derived tests on facts and on what they are looked for by are equality.
use Rattle.std.proofs.Common.{◌≡◌, eqb-true, true}
use Rattle.std.proofs.lemmas.Bool.{and_parts, false≢true}
use Rattle.spds_rules.specs.declared.store.StoreAt.{StoreAt}
use Rattle.spds_rules.specs.contracts.store.StoreAtPartialEq.TheImpl as store
use Rattle.spds_rules.proofs.Keys.{same_node, same_place}
use Rattle.demand_set.proofs.SameSite.{same_site}
use Rattle.cert_rules.specs.declared.fact.Fact.{Fact}
use Rattle.cert_rules.specs.declared.fact.Fact.TheVariants.{At, Link, Shared, Met}
use Rattle.cert_rules.specs.contracts.fact.FactPartialEq.TheImpl as fact
use Rattle.cert_rules.proofs.Same.{same_entry, same_side}
use Rattle.cert_lines.specs.declared.keys.FieldAt.{FieldAt}
use Rattle.cert_lines.specs.declared.keys.Known.{Known}
use Rattle.cert_lines.specs.declared.keys.Origin.{Origin}
use Rattle.cert_lines.specs.declared.keys.Spot.{Spot}
use Rattle.cert_lines.specs.declared.keys.Word.{Word}
use Rattle.cert_lines.specs.contracts.keys.FieldAtPartialEq.TheImpl as field_at
use Rattle.cert_lines.specs.contracts.keys.KnownPartialEq.TheImpl as known
use Rattle.cert_lines.specs.contracts.keys.OriginPartialEq.TheImpl as origin
use Rattle.cert_lines.specs.contracts.keys.SpotPartialEq.TheImpl as spot
use Rattle.cert_lines.specs.contracts.keys.WordPartialEq.TheImpl as word

pub same_word : (x y : Word) → word.eq-value.it x y ≡ true → x ≡ y
same_word x y h =
    let p = and_parts _ _ h in
    let q = and_parts _ _ p.1 in
    let side = same_side x.side y.side p.0 in
    let site = same_site x.site y.site q.0 in
    let entry = same_entry x.entry y.entry q.1 in
    λ j. record { side = side j; site = site j; entry = entry j }

pub same_spot : (x y : Spot) → spot.eq-value.it x y ≡ true → x ≡ y
same_spot x y h =
    let p = and_parts _ _ h in
    let site = same_site x.site y.site p.0 in
    let node = same_node x.node y.node p.1 in
    λ j. record { site = site j; node = node j }

pub same_origin : (x y : Origin) → origin.eq-value.it x y ≡ true → x ≡ y
same_origin x y h = let site = same_site x.site y.site h in λ j. record { site = site j }

pub same_field_at : (x y : FieldAt) → field_at.eq-value.it x y ≡ true → x ≡ y
same_field_at x y h =
    let p = and_parts _ _ h in
    let field = eqb-true x.field y.field p.0 in
    let node = same_node x.node y.node p.1 in
    λ j. record { field = field j; node = node j }

same_store : (x y : StoreAt) → store.eq-value.it x y ≡ true → x ≡ y
same_store x y h =
    let p = and_parts _ _ h in
    let q = and_parts _ _ p.1 in
    let r = and_parts _ _ q.1 in
    let place = same_place x.place y.place p.0 in
    let field = eqb-true x.field y.field q.0 in
    let base = same_node x.base y.base r.0 in
    let arg = same_node x.arg y.arg r.1 in
    λ j. record { place = place j; field = field j; base = base j; arg = arg j }

same_fact : (x y : Fact) → fact.eq-value.it x y ≡ true → x ≡ y
same_fact (At s o e n) (At t u f m) h =
    let p = and_parts _ _ h in
    let q = and_parts _ _ p.1 in
    let r = and_parts _ _ q.1 in
    let side = same_side s t p.0 in
    let site = same_site o u q.0 in
    let entry = same_entry e f r.0 in
    let node = same_node n m r.1 in
    λ j. At (side j) (site j) (entry j) (node j)
same_fact (Link s o e b) (Link t u f c) h =
    let p = and_parts _ _ h in
    let q = and_parts _ _ p.1 in
    let r = and_parts _ _ q.1 in
    let side = same_side s t p.0 in
    let site = same_site o u q.0 in
    let entry = same_entry e f r.0 in
    let below = same_entry b c r.1 in
    λ j. Link (side j) (site j) (entry j) (below j)
same_fact (Shared o a b n) (Shared u c d m) h =
    let p = and_parts _ _ h in
    let q = and_parts _ _ p.1 in
    let r = and_parts _ _ q.1 in
    let object = same_site o u p.0 in
    let arg = same_node a c q.0 in
    let base = same_site b d r.0 in
    let at = same_node n m r.1 in
    λ j. Shared (object j) (arg j) (base j) (at j)
same_fact (Met o b s) (Met u c t) h =
    let p = and_parts _ _ h in
    let q = and_parts _ _ p.1 in
    let object = same_site o u p.0 in
    let base = same_site b c q.0 in
    let at = same_store s t q.1 in
    λ j. Met (object j) (base j) (at j)
same_fact (At s o e n) (Link t u f c) h = absurd (false≢true h)
same_fact (At s o e n) (Shared u c d m) h = absurd (false≢true h)
same_fact (At s o e n) (Met u c t) h = absurd (false≢true h)
same_fact (Link s o e b) (At t u f m) h = absurd (false≢true h)
same_fact (Link s o e b) (Shared u c d m) h = absurd (false≢true h)
same_fact (Link s o e b) (Met u c t) h = absurd (false≢true h)
same_fact (Shared o a b n) (At t u f m) h = absurd (false≢true h)
same_fact (Shared o a b n) (Link t u f c) h = absurd (false≢true h)
same_fact (Shared o a b n) (Met u c t) h = absurd (false≢true h)
same_fact (Met o b s) (At t u f m) h = absurd (false≢true h)
same_fact (Met o b s) (Link t u f c) h = absurd (false≢true h)
same_fact (Met o b s) (Shared u c d m) h = absurd (false≢true h)

pub same_known : (x y : Known) → known.eq-value.it x y ≡ true → x ≡ y
same_known x y h =
    let p = and_parts _ _ h in
    let spread = eqb-true x.spread y.spread p.0 in
    let is = same_fact x.fact y.fact p.1 in
    λ j. record { spread = spread j; fact = is j }
