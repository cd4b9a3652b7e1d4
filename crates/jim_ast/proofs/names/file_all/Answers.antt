use Rattle.std.proofs.Common.{◌≡◌, ◌∙◌, List, ℕ, Some, ap, arith, inl, inr, map, slice_get, string_bytes, sym, true≢false}
use Rattle.std.specs.BTreeMap.{get_by_text}
use Rattle.jim_ast.specs.Notes.{IsNoted, hash}
use Rattle.jim_ast.proofs.Filed.{each-anew, each-left, more-anew, sound-anew}
use Rattle.lists.proofs.Places.{slice_get-below}
use Rattle.jim_ast.proofs.Texts.{length-bytes, slice_get-read}
use Rattle.jim_ast.proofs.names.file_all.Goals as goal
use Rattle.jim_ast.proofs.names.file_all.Goals.{then-is_empty+in_ok-file, else-is_empty+else-has}

pub loop-number-preserved : goal.loop-number-preserved
loop-number-preserved c =
    let xs : List (List ℕ) = map string_bytes c.args.texts.now in
    let n = c.loop-number.number in
    let text = c.as_str-text.result.now in
    let others = get_by_text c.loop-number.others in
    let here : slice_get xs n ≡ Some text = slice_get-read string_bytes _ _ _ _ c.loop-number-test.true c.index-texts-number.is c.as_str-text.ensures.value in
    let old = c.loop-number.invariant in
    elim c.if-is_empty.branch [
      | then-is_empty+in_ok-file w ↦
          let now = get_by_text w.file.new.others in
          rw (w.notes-is, w.others-is) (record {
            sound = sound-anew xs c.requires.indexed.apart others now n text here w.file.ensures.puts old.sound;
            kept = λ t i h. more-anew xs c.requires.indexed.apart others now n text here w.file.ensures.puts old.sound t i (old.kept t i h);
            each = each-anew xs c.requires.indexed.apart others now n text here w.file.ensures.puts old.sound c.loop-number.notes.slots.items w.file.new.notes.slots.items w.in_ok-file.ensures.filed
                w.file.ensures.kept old.each;
          })
      | else-is_empty+else-has w ↦
          let hashed : w.hash_of.result ≡ hash text = w.hash_of.ensures ∙ ap hash w.as_bytes.ensures.value in
          let missed : IsNoted c.args.old.now.slots.items (hash text) n → ⊥ = λ noted. true≢false (sym (w.has.ensures.1 (rw hashed noted)) ∙ w.if-has.false) in
          let other : get_by_text c.args.others.now text ≡ Some n = elim (c.requires.indexed.each n text here) [ inl noted ↦ absurd (missed noted) | inr other ↦ other ] in
          rw (w.notes-is, w.others-is) (record {
            sound = old.sound;
            kept = old.kept;
            each = each-left xs n text here c.loop-number.notes.slots.items others (old.kept text n other) old.each;
          })
    ]

pub returns-clause-each : goal.returns-clause-each
returns-clause-each c = λ i t h. c.loop-number.invariant.each i t (omega (arith, slice_get-below _ i t h, length-bytes string_bytes c.args.texts.now, c.loop-number-test.false)) h
