use Rattle.std.proofs.Common.{◌≡◌, ◌∙◌, ◌<◌, Some, true, false, Option, None, ℕ, ap, sym, arith, eqb, eqb-true, eq-eqb, length, length-set, get_or, true≢false}
use Rattle.std.specs.List.{Contains}
use Rattle.std.specs.Option.{option_eq}
use Rattle.std.proofs.lemmas.List.{length-replicate}
use Rattle.std.proofs.lemmas.List.Elements.{All-get_or}
use Rattle.std.proofs.lemmas.Option.{slice_get-get_or}
use Rattle.class_tree.specs.declared.first_rows.Member.{Member}
use Rattle.class_tree.specs.FirstRows.{row_at}
use Rattle.class_tree.proofs.KeyLists.{key_index}
use Rattle.class_tree.proofs.Slots.{owns_all, owns_more, owns_none, owns_same}
use Rattle.class_tree.proofs.own_rows.own_rows.Goals as goal
use Rattle.class_tree.proofs.own_rows.own_rows.Goals.{then-eq+in-Some+in_ok-push, then-eq+in_default, else-eq}

-- what a test of an option tells
is_by : (o : Option ℕ) (n : ℕ) → option_eq eqb o (Some n) ≡ true → o ≡ Some n
is_by None n e = cc e
is_by (Some m) n e = ap Some (eqb-true m n e)

is_not_by : (o : Option ℕ) (n : ℕ) → option_eq eqb o (Some n) ≡ false → o ≡ Some n → ⊥
is_not_by None n e is = cc is
is_not_by (Some m) n e is = let same : m ≡ n = cc is in true≢false (sym (eq-eqb m n same) ∙ e)

pub push-requires : goal.push-requires
push-requires c = let known = All-get_or (λ (m : Member). m.class < c.args.count) c.args.members.now c.loop-row.row (record { class = 0; key = 0 }) c.loop-row-test.true c.requires.known in
    omega (arith, known, c.loop-row.invariant.len)

pub loop-row-init : goal.loop-row-init
loop-row-init c = rw c.in_ok-owns.ensures (record { len = length-replicate c.args.count _; exact = owns_none (row_at c.args.rows.now) c.args.members.now c.requires.rows c.args.keys.now c.args.count })

pub loop-row-preserved : goal.loop-row-preserved
loop-row-preserved c =
    let d : Member = record { class = 0; key = 0 } in
    let m : Member = get_or c.args.members.now c.loop-row.row d in
    let there = slice_get-get_or c.args.members.now c.loop-row.row d c.loop-row-test.true in
    let known : m.class < length c.loop-row.owns = let lt = All-get_or (λ (m : Member). m.class < c.args.count) c.args.members.now c.loop-row.row d c.loop-row-test.true c.requires.known in
    omega (arith, lt, c.loop-row.invariant.len) in
    let has = All-get_or (λ (m : Member). Contains c.args.keys.now m.key) c.args.members.now c.loop-row.row d c.loop-row-test.true c.requires.keys in
    let read = c.get.ensures in
    elim c.if-eq.branch [
      | then-eq+in-Some+in_ok-push w ↦ rw (w.owns-is, w.in_ok-push.ensures) (record {
        len = length-set c.loop-row.owns _ _ ∙ c.loop-row.invariant.len;
        exact = owns_more (row_at c.args.rows.now) c.args.members.now c.requires.rows c.args.keys.now c.loop-row.row m there c.loop-row.owns c.loop-row.invariant.exact w.in-Some.slot
            (sym read ∙ is_by c.get.result c.loop-row.row (sym c.eq.ensures ∙ w.if-eq.true)) (sym w.in-Some.ensures) known;
      })
      | then-eq+in_default w ↦ let i = key_index c.args.keys.now _ has in absurd (w.in_default.not-Some i.0 (w.index_of.ensures ∙ i.1))
      | else-eq w ↦ rw w.owns-is (record {
        len = c.loop-row.invariant.len;
        exact = owns_same (row_at c.args.rows.now) c.args.members.now c.requires.rows c.args.keys.now c.loop-row.row m there c.loop-row.owns c.loop-row.invariant.exact
            (λ e. is_not_by c.get.result c.loop-row.row (sym c.eq.ensures ∙ w.if-eq.false) (read ∙ e));
      })
    ]

pub returns-clause-exact : goal.returns-clause-exact
returns-clause-exact c = owns_all (row_at c.args.rows.now) c.args.members.now c.requires.rows c.args.keys.now c.loop-row.row c.loop-row.owns c.loop-row-test.false c.loop-row.invariant.exact
