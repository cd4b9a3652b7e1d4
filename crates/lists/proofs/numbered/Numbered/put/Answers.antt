use Rattle.std.proofs.Common.{◌≡◌, ◌∙◌, ◌+◌, ◌<◌, ◌++◌, ◌∷◌, [], true, length, sym, ap, subst, refl, arith, length-append}
use Rattle.std.specs.Result.{is_ok}
use Rattle.lists.specs.Lists.{Has}
use Rattle.lists.proofs.Roomy.{eqb-zero, IsNumbered-put, room-put, room-within}
use Rattle.lists.proofs.numbered.Numbered.put.Goals as goal
use Rattle.lists.proofs.numbered.Numbered.put.Goals.{then-not-is_empty, else-not-is_empty}

pub invariant_of-self : goal.invariant_of-self
invariant_of-self g c =
    let keys = c.self.inside.keys in
    let heads = c.self.inside.chains.heads in
    let rooms = room-within (length keys.items) keys.cap heads.items (subst (λ n. 0 < n.room) (sym c.self.view_is) c.requires.room) in
    let new : Has keys.items c.args.key → ⊥ = subst (λ n. Has n.keys c.args.key → ⊥) (sym c.self.view_is) c.requires.new in
    let ok : c.if-not-is_empty.self-inside.keys ≡ keys → is_ok c.push.result ≡ true = λ kept. c.push.ensures.succeeds (rw kept (omega (arith, rooms.0, keys.ok.0))) in
    let pushed : c.if-not-is_empty.self-inside.keys ≡ keys → c.push.new.self.items ≡ keys.items ++ c.args.key ∷ []
    = λ kept. (rw (ok kept) at c.push.ensures.items) ∙ ap (λ ks. ks.items ++ c.args.key ∷ []) kept in
    elim c.if-not-is_empty.branch [
      | then-not-is_empty w ↦ rw (pushed (ap (λ i. i.keys) w.self-inside-is), w.self-inside-is)
          (IsNumbered-put g.K.Key.spread keys.items heads.items c.self.inside.chains.next.items c.self.invariant c.args.key w.put.new.self.heads.items w.put.new.self.next.items new rooms.2 w.put.ensures.slots
          (λ some. w.put.ensures.filed keys.items (c.len-number.ensures ∙ keys.ok.0) (c.self.invariant.filed some)))
      | else-not-is_empty w ↦ rw (pushed (ap (λ i. i.keys) w.self-inside-is), w.self-inside-is)
          (IsNumbered-put g.K.Key.spread keys.items heads.items c.self.inside.chains.next.items c.self.invariant c.args.key heads.items c.self.inside.chains.next.items new rooms.2 refl
          (λ some. absurd (omega (arith, some, heads.ok.0, eqb-zero heads.len (sym c.is_empty.ensures ∙ w.if-not-is_empty.false)))))
    ]

pub returns-clause-room : goal.returns-clause-room
returns-clause-room g c =
    let keys = c.self.inside.keys in
    let heads = c.self.inside.chains.heads in
    let rooms = room-within (length keys.items) keys.cap heads.items (subst (λ n. 0 < n.room) (sym c.self.view_is) c.requires.room) in
    let ok : c.if-not-is_empty.self-inside.keys ≡ keys → is_ok c.push.result ≡ true = λ kept. c.push.ensures.succeeds (rw kept (omega (arith, rooms.0, keys.ok.0))) in
    let pushed : c.if-not-is_empty.self-inside.keys ≡ keys → c.push.new.self.items ≡ keys.items ++ c.args.key ∷ []
    = λ kept. (rw (ok kept) at c.push.ensures.items) ∙ ap (λ ks. ks.items ++ c.args.key ∷ []) kept in
    let long : c.if-not-is_empty.self-inside.keys ≡ keys → length c.push.new.self.items ≡ length keys.items + 1 = λ kept. ap length (pushed kept) ∙ length-append keys.items (c.args.key ∷ []) in
    rw (← c.self.view_is) (elim c.if-not-is_empty.branch [
      | then-not-is_empty w ↦ rw w.self-inside-is (room-put (length keys.items) keys.cap (length c.push.new.self.items) c.push.new.self.cap heads.items w.put.new.self.heads.items (long (ap (λ i. i.keys) w.self-inside-is)) (rw (ap (λ i. i.keys) w.self-inside-is) at c.push.ensures.capacity) w.put.ensures.slots)
      | else-not-is_empty w ↦ rw w.self-inside-is (room-put (length keys.items) keys.cap (length c.push.new.self.items) c.push.new.self.cap heads.items heads.items (long (ap (λ i. i.keys) w.self-inside-is)) (rw (ap (λ i. i.keys) w.self-inside-is) at c.push.ensures.capacity) refl)
    ])
