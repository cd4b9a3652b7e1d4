-- Methods by what they are and by their code.
use Rattle.std.proofs.Common.{◌≡◌, ℕ, zero, suc, ◌++◌, List, [], ◌∷◌, Some, length, map, slice_get, refl, ap, arith}
use Rattle.link_rules.specs.Linked.{LinkedMethod}
use Rattle.link_indexes.specs.Tables.{codes_of}
use Rattle.link_indexes.specs.declared.method.MethodCode.{MethodCode}
use Rattle.link_program.specs.Methods.{joined, linked_method}
use Rattle.link_program.specs.declared.method.MethodHead.{MethodHead}

-- as many as there are heads
pub length-joined : (hs : List MethodHead) (bs : List MethodCode) → length hs ≡ length bs → length (joined hs bs) ≡ length hs
length-joined [] bs e = refl
length-joined (h ∷ hs) [] e = absurd (omega arith)
length-joined (h ∷ hs) (b ∷ bs) e = ap suc (length-joined hs bs (omega arith))

-- each with its code
pub slice_get-joined : (hs : List MethodHead) (bs : List MethodCode) (i : ℕ) (h : MethodHead) (b : MethodCode) → slice_get hs i ≡ Some h → slice_get bs i ≡ Some b
    → slice_get (joined hs bs) i ≡ Some (linked_method h b)
slice_get-joined [] bs i h b p q = absurd (cc (p))
slice_get-joined (x ∷ hs) [] i h b p q = absurd (cc (q))
slice_get-joined (x ∷ hs) (y ∷ bs) zero h b p q =
    let head : x ≡ h = cc (p) in
    let body : y ≡ b = cc (q) in
    cc
slice_get-joined (x ∷ hs) (y ∷ bs) (suc i) h b p q = slice_get-joined hs bs i h b p q

-- one more
pub joined-push : (hs : List MethodHead) (bs : List MethodCode) (h : MethodHead) (b : MethodCode) → length hs ≡ length bs
    → joined (hs ++ h ∷ []) (bs ++ b ∷ []) ≡ joined hs bs ++ linked_method h b ∷ []
joined-push [] [] h b e = refl
joined-push [] (y ∷ bs) h b e = absurd (omega arith)
joined-push (x ∷ hs) [] h b e = absurd (omega arith)
joined-push (x ∷ hs) (y ∷ bs) h b e = ap (λ ms. linked_method x y ∷ ms) (joined-push hs bs h b (omega arith))

-- their code is that of the bodies
pub codes-joined : (hs : List MethodHead) (bs : List MethodCode) → length hs ≡ length bs → codes_of bs ≡ map (λ (m : LinkedMethod). m.code) (joined hs bs)
codes-joined [] [] e = refl
codes-joined [] (y ∷ bs) e = absurd (omega arith)
codes-joined (x ∷ hs) [] e = absurd (omega arith)
codes-joined (x ∷ hs) (y ∷ bs) e = ap (λ cs. y.code ∷ cs) (codes-joined hs bs (omega arith))
