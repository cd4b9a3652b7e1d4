use Rattle.std.proofs.Common.{ℕ, List, refl, subst, sym}
use Rattle.link_sites.specs.declared.place.Place.{Place}
use Rattle.cert_rules.specs.Given.{Reads}
use Rattle.cert_trace.proofs.meeting.share.Goals as goal

pub add-requires-clause-gives : goal.add-requires-clause-gives
add-requires-clause-gives c =
    let p = c.args.view.now.linked.now in
    let given = c.args.written.now.given in
    let m = c.args.meeting.now in
    let first = subst (λ (s : List Place). Reads p given m.object c.args.first.items m.store.arg s) (sym c.requires.string) c.requires.first in
    let second = subst (λ (s : List Place). Reads p given m.base c.args.second.items m.store.base s) (sym c.requires.string) c.requires.second in (
      record {
        object = m.object;
        arg = m.store.arg;
        base = m.base;
        at = m.store.base;
        reads_object = subst (λ (ns : List ℕ). Reads p given m.object ns m.store.arg c.args.string) (sym c.from_vec.ensures) first;
        reads_base = subst (λ (ns : List ℕ). Reads p given m.base ns m.store.base c.args.string) (sym c.from_vec-2.ensures) second;
      },
      refl,
    )
