-- One method more.
use Rattle.std.proofs.Common.{◌≡◌, ◌+◌, ◌<◌, ◌^◌, ◌++◌, [], ◌∷◌, length, arith, length-append}
use Rattle.std.proofs.lemmas.List.Elements.{All-push}
use Rattle.link_indexes.specs.declared.method.MethodCode.{MethodCode}
use Rattle.link_program.specs.Methods.{AreMethods, IsHead, linked_method, methods_in}
use Rattle.link_program.specs.declared.method.MethodHead.{MethodHead}
use Rattle.link_program.specs.declared.methods.Methods.{Methods}
use Rattle.link_program.proofs.Joined.{joined-push}

-- a method is put last
module _ (old new : Methods) (h : MethodHead) (b : MethodCode) (as_many : length old.heads.items ≡ length old.bodies.items)
    (heads : new.heads.items ≡ old.heads.items ++ h ∷ []) (bodies : new.bodies.items ≡ old.bodies.items ++ b ∷ []) where
  -- the methods are those before and this one
  pub put_last : methods_in new ≡ methods_in old ++ linked_method h b ∷ []
  put_last = rw (heads, bodies) (joined-push old.heads.items old.bodies.items h b as_many)

  -- what is kept of them stays
  pub are_more : AreMethods old → IsHead h → length old.heads.items + 1 < 2 ^ 32 → AreMethods new
  are_more are head few = record {
    as_many = rw (heads, bodies) (omega (arith, length-append old.heads.items (h ∷ []), length-append old.bodies.items (b ∷ []), as_many));
    few = rw heads (omega (arith, length-append old.heads.items (h ∷ []), few));
    few_locals = rw heads (All-push IsHead old.heads.items h are.few_locals head);
  }
