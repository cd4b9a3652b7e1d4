use Rattle.std.proofs.Common.{inl, inr}
use Rattle.spds_solve.proofs.Looking.{candidate_seen, noted_kept}
use Rattle.spds_solve.proofs.Noting.{known_more}
use Rattle.spds_solve.proofs.Scanning.{grown_keeps}
use Rattle.spds_solve.proofs.looks.look.Goals as goal

pub waiting-requires : goal.waiting-requires
waiting-requires c m has =
    let in_parts = c.in_ok-note_all.ensures.known.in_pending m has in
    rw (c.deref.ensures.value, c.requires.flags) (in_parts.object, in_parts.base)

pub try_mets-requires-clause-inside : goal.try_mets-requires-clause-inside
try_mets-requires-clause-inside c m has = c.in_ok-note_all.ensures.known.in_pending m (c.in_ok-waiting.ensures.each m (rw c.deref-2.ensures.value at has))

pub returns-clause-known : goal.returns-clause-known
returns-clause-known c =
    let view = c.args.view.now in
    let grown = grown_keeps view.linked.now view.sites.now view.parts.now view.tables.now.each.items _ _ c.in_ok-try_mets.ensures.grown in
    c.in_ok-drop_met.ensures.known view.parts.now (known_more view.parts.now c.args.mets.now c.try_mets.new.mets c.note_all.new.known grown c.in_ok-note_all.ensures.known)

pub returns-clause-noted : goal.returns-clause-noted
returns-clause-noted c site =
    let view = c.args.view.now in
    noted_kept view.linked.now view.sites.now view.parts.now view.tables.now.each.items c.note_all.new.known c.drop_met.new.self c.in_ok-drop_met.ensures.keeps site
    (c.in_ok-note_all.ensures.noted site)

pub returns-clause-closed : goal.returns-clause-closed
returns-clause-closed c m low candidate =
    let view = c.args.view.now in
    let noted = c.in_ok-note_all.ensures in
    let keeps = grown_keeps view.linked.now view.sites.now view.parts.now view.tables.now.each.items _ _ c.in_ok-try_mets.ensures.grown m in
    elim (candidate_seen view.linked.now view.sites.now view.parts.now view.tables.now.each.items c.note_all.new.known c.args.mets.now noted.known noted.noted m low candidate) [
      | inl met ↦ keeps met
      | inr waits ↦ elim (c.in_ok-waiting.ensures.all m waits) [
        | inl found ↦ c.in_ok-try_mets.ensures.all m (rw c.deref-2.ensures.value found) candidate
        | inr still ↦ let at = rw c.deref.ensures.value at still in keeps (c.requires.met m low at.0 at.1 candidate)
      ]
    ]
