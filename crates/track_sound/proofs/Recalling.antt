-- What is recalled for frames that wait, as steps change it.
use Rattle.std.proofs.Common.{◌≡◌, ℕ, ◌+◌, ◌-◌, ◌<◌, ◌≤◌, ◌++◌, Bool, true, false, ltb, List, [], ◌∷◌, Some, length, length-append, take, slice_get, refl, sym, ap, ◌∙◌, subst, inl, inr, arith, ltb-false, ltb-true}
use Rattle.std.proofs.Math.Seq.{take-append_seam}
use Rattle.std.proofs.lemmas.List.{append-nil}
use Rattle.lists.proofs.Places.{slice_get-append_left, slice_get-below, slice_get-push, slice_get-pushed}
use Rattle.link_rules.specs.Linked.{LinkedProgram}
use Rattle.spds_rules.specs.Demand.{Asked}
use Rattle.step_rules.specs.States.{Frame, HeapObject}
use Rattle.run_sound.specs.Frames.{places_of, string_of}
use Rattle.run_sound.proofs.Waiting.{string_below, string_top}
use Rattle.track_rules.specs.Protocols.{ProtocolParts}
use Rattle.track_sound.specs.Recalled.{recalled_over}
use Rattle.track_sound.proofs.Held.{AreHeld, Watches, more, none}

-- where no frame was added
recalled_fewer : (old new : ℕ) (states : List ℕ) (earlier : List (List ℕ)) → new ≤ old → recalled_over old new states earlier ≡ take (new - 1) earlier
recalled_fewer old new states earlier few = by (ltb old new) refl
  where
    by : (b : Bool) → ltb old new ≡ b → recalled_over old new states earlier ≡ take (new - 1) earlier
    by true is = absurd (omega (arith, ltb-true old new is, few))
    by false is = rw is refl

-- where one was
pub recalled_more : (old new : ℕ) (states : List ℕ) (earlier : List (List ℕ)) → old < new → recalled_over old new states earlier ≡ earlier ++ states ∷ []
recalled_more old new states earlier many = by (ltb old new) refl
  where
    by : (b : Bool) → ltb old new ≡ b → recalled_over old new states earlier ≡ earlier ++ states ∷ []
    by true is = rw is refl
    by false is = absurd (omega (arith, ltb-false old new is, many))

take_whole : (xs : List (List ℕ)) (n : ℕ) → n ≡ length xs → take n xs ≡ xs
take_whole xs n is =
    let whole : take (length xs) xs ≡ xs = subst (λ (ys : List (List ℕ)). take (length xs) ys ≡ xs) (append-nil xs) (take-append_seam xs []) in
    ap (λ (m : ℕ). take m xs) is ∙ whole

-- where as many frames are there
pub recalled_same : (old new : ℕ) (states : List ℕ) (earlier : List (List ℕ)) → old ≡ length earlier + 1 → new ≡ length earlier + 1
    → recalled_over old new states earlier ≡ earlier
recalled_same old new states earlier is is_too =
    recalled_fewer old new states earlier (omega (arith, is, is_too)) ∙ take_whole earlier (new - 1) (omega (arith, is_too))

-- where one went
pub recalled_back : (old new : ℕ) (states past : List ℕ) (earlier : List (List ℕ)) → old ≡ length earlier + 2 → new ≡ length earlier + 1
    → recalled_over old new states (earlier ++ past ∷ []) ≡ earlier
recalled_back old new states past earlier is is_too =
    let count : new - 1 ≡ length earlier = omega (arith, is_too) in
    recalled_fewer old new states (earlier ++ past ∷ []) (omega (arith, is, is_too))
    ∙ ap (λ (m : ℕ). take m (earlier ++ past ∷ [])) count
    ∙ take-append_seam earlier (past ∷ [])

module _ (p : LinkedProgram) (k : ProtocolParts) (q : Asked) (kinds : List HeapObject) where
  -- each frame that waits has its own
  pub as_many_pasts : {now : List ℕ} {fs : List Frame} {pasts : List (List ℕ)} {callee : ℕ} → Watches p k q kinds now fs pasts callee → length pasts ≡ length fs
  as_many_pasts none = refl
  as_many_pasts (more {below} {pasts} {f} {past} {callee} watches at_target held crossed) =
      omega (arith, length-append pasts (past ∷ []), length-append below (f ∷ []), as_many_pasts watches)

  -- and what it holds is held
  pub record IsRecalled (fs : List Frame) (pasts : List (List ℕ)) (number : ℕ) (frame : Frame) : Type 0 where
    pub past : List ℕ
    pub there : slice_get pasts number ≡ Some past
    pub held : AreHeld p k q kinds past frame (string_of fs number)

  pub recalled_at : {now : List ℕ} {fs : List Frame} {pasts : List (List ℕ)} {callee : ℕ} → Watches p k q kinds now fs pasts callee → (number : ℕ) (frame : Frame)
      → slice_get fs number ≡ Some frame
      → IsRecalled fs pasts number frame
  recalled_at none = λ number frame e. cc (e)
  recalled_at (more {below} {pasts} {f} {past} {callee} watches at_target held crossed) = λ number frame e.
      elim (slice_get-pushed below f number frame e) [
        | inl earlier ↦
            let r = recalled_at watches number frame earlier in
            record {
              past = r.past;
              there = slice_get-append_left pasts (past ∷ []) number r.past r.there;
              held = subst (AreHeld p k q kinds r.past frame) (sym (string_below below f number (omega (arith, slice_get-below below number frame earlier)))) r.held;
            }
        | inr last ↦
            let many = as_many_pasts watches in
            let at : length pasts ≡ number = many ∙ sym last.0 in
            let string : places_of below ≡ string_of (below ++ f ∷ []) number = sym (string_top below f) ∙ ap (string_of (below ++ f ∷ [])) (sym last.0) in
            record {
              past = past;
              there = subst (λ (n : ℕ). slice_get (pasts ++ past ∷ []) n ≡ Some past) at (slice_get-push pasts past);
              held = subst (λ (g : Frame). AreHeld p k q kinds past g (string_of (below ++ f ∷ []) number)) (sym last.1)
                  (subst (AreHeld p k q kinds past f) string held);
            }
      ]
