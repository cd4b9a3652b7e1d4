-- Methods with other code.
use Rattle.std.proofs.Common.{◌≡◌, List, [], ◌∷◌, length, refl, ap, subst, arith}
use Rattle.link_indexes.specs.Tables.{AreIndexes, Tables, codes_of}
use Rattle.link_indexes.specs.declared.method.MethodCode.{MethodCode}
use Rattle.link_program.specs.Parts.{IsKept, program_with, with_code}
use Rattle.link_program.specs.declared.parts.Shared.{Shared}
use Rattle.link_rules.specs.Linked.{LinkedMethod}
use Rattle.link_rules.specs.WellLinked.{IsInForm}
use Rattle.link_program.specs.Methods.{AreMethodsWith, coded, joined, linked_method}
use Rattle.link_program.specs.declared.heads.Heads.{Heads}
use Rattle.link_program.specs.declared.method.MethodHead.{MethodHead}
use Rattle.link_program.proofs.Joined.{codes-joined, length-joined}

-- the same heads with other code
pub joined-coded : (hs : List MethodHead) (bs cs : List MethodCode) → length hs ≡ length bs → coded (joined hs bs) cs ≡ joined hs cs
joined-coded [] bs cs e = refl
joined-coded (h ∷ hs) [] cs e = absurd (omega arith)
joined-coded (h ∷ hs) (b ∷ bs) [] e = refl
joined-coded (h ∷ hs) (b ∷ bs) (c ∷ cs) e = ap (λ ms. linked_method h c ∷ ms) (joined-coded hs bs cs (omega arith))

-- so what is kept of them stays
pub methods_coded : (h : Heads) (bs cs : List MethodCode) → AreMethodsWith h bs → length cs ≡ length (joined h.heads.items bs) → AreMethodsWith h cs
methods_coded h bs cs are many =
    let as_many : length h.heads.items ≡ length cs = let l = length-joined h.heads.items bs are.as_many in omega (arith, l, many) in
    record {
      as_many = as_many;
      few = are.few;
      few_locals = are.few_locals;
    }

-- the program with other code is that of the same parts with this code
pub program_coded : (s : Shared) (bs cs : List MethodCode) → length s.heads.heads.items ≡ length bs → with_code (program_with s bs) cs ≡ program_with s cs
program_coded s bs cs e = ap (λ (ms : List LinkedMethod). record (program_with s bs) { methods = ms }) (joined-coded s.heads.heads.items bs cs e)

-- what is kept of it
pub kept_coded : (s : Shared) (bs cs : List MethodCode) (old new : Tables) → IsKept s bs old → length cs ≡ length (program_with s bs).methods
    → IsInForm (with_code (program_with s bs) cs) → AreIndexes (codes_of cs) new → IsKept s cs new
kept_coded s bs cs old new kept many form indexes =
    let methods = methods_coded s.heads bs cs kept.methods many in
    record {
      methods = methods;
      classes = kept.classes;
      few_fields = kept.few_fields;
      form = subst IsInForm (program_coded s bs cs kept.methods.as_many) form;
      indexes = subst (λ codes. AreIndexes codes new) (codes-joined s.heads.heads.items cs methods.as_many) indexes;
      selections = kept.selections;
    }
