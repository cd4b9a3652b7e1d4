use Rattle.std.proofs.Common.{◌≡◌, ◌⊎◌, ◌++◌, ◌∷◌, [], List, ℕ, Some, ap, arith, length, length-append, map, string_bytes, subst, sym, ◌∙◌}
use Rattle.std.specs.BTreeMap.{get_by_text}
use Rattle.lists.specs.Lists.{Has}
use Rattle.jim_ast.specs.Notes.{IsFiled}
use Rattle.jim_ast.proofs.Filed.{IsIndexed-kept, IsIndexed-push}
use Rattle.jim_ast.proofs.Texts.{length-bytes, map-push}
use Rattle.jim_ast.proofs.names.Names.add_new.Goals as goal

pub invariant_of-self-in_err-file : goal.invariant_of-self-in_err-file
invariant_of-self-in_err-file c =
    rw c.in_ok-reserve.ensures.items (
      c.self.invariant.0,
      IsIndexed-kept (map string_bytes c.self.inside.texts.items) c.self.inside.notes.slots.items c.file.new.notes.slots.items (get_by_text c.self.inside.others) (get_by_text c.file.new.others)
          c.self.invariant.1 c.file.ensures.kept c.in_err-file.ensures.err,
    )

pub invariant_of-self-2 : goal.invariant_of-self-2
invariant_of-self-2 c =
    let texts = c.self.inside.texts in
    let owned = c.in_ok-owned.owned in
    let text = c.args.text.now in
    let xs : List (List ℕ) = map string_bytes texts.items in
    let others = get_by_text c.self.inside.others in
    let now = get_by_text c.file.new.others in
    let after = c.file.new.notes.slots.items in
    let count : c.len-count.result ≡ length texts.items = c.len-count.ensures ∙ texts.ok.0 in
    let number : c.len-count.result ≡ length xs = count ∙ sym (length-bytes string_bytes texts.items) in
    let appended : c.append.new.texts.items ≡ texts.items ++ owned ∷ [] = c.append.ensures ∙ ap (λ ts. ts ++ owned ∷ []) c.in_ok-reserve.ensures.items in
    let new : Has xs text → ⊥ = subst (λ ts. Has ts text → ⊥) (sym (c.self.view_is ∙ c.make_slots.ensures)) c.requires in (
      omega (arith, ap length appended, length-append texts.items (owned ∷ []), c.if-count.false, count),
      rw (appended, map-push string_bytes texts.items owned text c.in_ok-owned.ensures.ok)
          (IsIndexed-push xs c.self.inside.notes.slots.items after others now c.self.invariant.1 text new (subst (λ n. IsFiled after now text n) number c.in_ok-file.ensures.filed) c.file.ensures.kept
          (subst (λ n. (t : List ℕ) → (now t ≡ others t) ⊎ ((t ≡ text) × (now t ≡ Some n))) number c.file.ensures.puts)),
    )
