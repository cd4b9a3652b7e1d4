-- The call at which a frame stands.
use Rattle.std.proofs.Common.{◌≡◌, ℕ, Some, false, slice_get, ap, ◌∙◌, subst, inl, inr}
use Rattle.step_rules.proofs.Determined.{code_one}
use Rattle.class_rules.proofs.Decided.{IsDecided}
use Rattle.link_rules.specs.declared.code.Code.{Code}
use Rattle.link_rules.specs.declared.code.Code.TheVariants as code
use Rattle.link_rules.specs.Linked.{LinkedMethod, LinkedProgram}
use Rattle.link_sites.specs.declared.place.Place.{Place}
use Rattle.link_sites.specs.Places.{CodeAt}
use Rattle.spds_rules.specs.declared.node.Var.{Var}
use Rattle.step_rules.specs.Shapes.{IsCall}
use Rattle.track_systems.specs.Events.{IsReceiver, receiver_of}
use Rattle.track_systems.specs.Settled.{CallAt}

-- whether a statement is a call
pub call_decided : (c : Code) → IsDecided (IsCall c)
call_decided (code.Call to mode class key receiver args targets) = inl tt
call_decided _ = inr (λ h. h)

module _ (p : LinkedProgram) (c : Place) where
  -- the statement of a call
  abbrev pub code_of : CallAt p c → Code
  code_of call = code.Call call.to call.mode call.class call.key call.receiver call.args call.targets

  -- a call, by its statement
  pub call_at : (d : Code) → CodeAt p c.method c.index d → IsCall d → c.raised ≡ false → CallAt p c
  call_at (code.Call to mode class key receiver args targets) here is_call unraised = record {
    unraised = unraised;
    to = to;
    mode = mode;
    class = class;
    key = key;
    receiver = receiver;
    args = args;
    targets = targets;
    here = here;
  }
  call_at _ here is_call unraised = absurd is_call

  -- where no call stands
  pub no_call_at : (d : Code) → CodeAt p c.method c.index d → (IsCall d → ⊥) → CallAt p c → ⊥
  no_call_at d here not_call call = not_call (subst IsCall (code_one p c.method c.index (code_of call) d call.here here) tt)

  -- the receiver of the place is that of the call
  pub receiver_is : (call : CallAt p c) (v : Var) (is : IsReceiver p c v) → call.receiver ≡ Some is.0
  receiver_is call v is =
      let same = code_one p c.method c.index (code_of call) is.1.code call.here is.1.at in
      ap receiver_of same ∙ is.1.is_so
