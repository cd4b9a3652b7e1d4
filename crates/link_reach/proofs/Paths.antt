-- What the root leads to in the graph is what a run may reach.
use Rattle.std.proofs.Common.{◌≡◌, ℕ, ◌⊎◌, [], refl, subst, inl, inr}
use Rattle.class_rules.specs.Paths.{Path, here, step}
use Rattle.class_rules.specs.Rows.{Step, Sub}
use Rattle.lists.proofs.Places.{slice_get-push}
use Rattle.link_rules.specs.Classes.{DeclaredMethod, methods_of}
use Rattle.link_rules.specs.Reach.{AsksFor, DeclaresBody, IsInitialized, IsMethod, Reached, asked, called, initialized, root}
use Rattle.link_rules.specs.Root.{initializer_key, root_number, root_of}
use Rattle.link_rules.specs.World.{World}
use Rattle.link_reach.specs.Graph.{IsLedTo, Leads, Node, TouchesClass, method, class, begins, goes_on}

-- a reached method asks for the class
pub record IsAskedFor (w : World) (c : ℕ) : Type 0 where
  pub number : ℕ
  pub m : DeclaredMethod
  pub reached : Reached w number
  pub is_method : IsMethod w number m
  pub asks : AsksFor w m c

-- one step more at the end of a path
longer : (R : ℕ → ℕ → Type 0) (a b c : ℕ) → Path R a b → R b c → Path R a c
longer R a b c here last = step last here
longer R a b c (step first rest) last = step first (longer R _ b c rest last)

module _ (w : World) where
  -- the root is a method
  root_is : IsMethod w (root_number w) (root_of w [])
  root_is = slice_get-push (methods_of w.classes) (root_of w [])

  -- what a node stands for
  abbrev Stands : Node → Type 0
  Stands (method row) = Reached w row
  Stands (class c) = IsAskedFor w c

  asks_at : (number c : ℕ) (m : DeclaredMethod) → Reached w number → IsMethod w number m → TouchesClass w m c → IsAskedFor w c
  asks_at number c m reached is t = record {
    number = number;
    m = m;
    reached = reached;
    is_method = is;
    asks = record { index = t.0; name = t.1; touches = t.2; touched = c; is_touched = t.3; below = here };
  }

  asks_above : (c above : ℕ) → IsAskedFor w c → Step w.rows.classes w.rows.implements c above → IsAskedFor w above
  asks_above c above a s = record {
    number = a.number;
    m = a.m;
    reached = a.reached;
    is_method = a.is_method;
    asks = record { index = a.asks.index; name = a.asks.name; touches = a.asks.touches; touched = a.asks.touched; is_touched = a.asks.is_touched; below = longer _ _ _ _ a.asks.below s };
  }

  -- a class that is asked for and has an initializer is initialized
  pub initialized_class : (c row : ℕ) → IsAskedFor w c → DeclaresBody w c initializer_key row → IsInitialized w c
  initialized_class c row a d = asked d a.reached a.is_method a.asks

  -- a step keeps what nodes stand for
  one_step : (a b : Node) → Stands a → Leads w a b → Stands b
  one_step (method number) (method row) reached l = called reached l.1 l.2.1
  one_step (method number) (class c) reached l = asks_at number c l.0 reached l.1 l.2
  one_step (class c) (class above) a s = asks_above c above a s
  one_step (class c) (method row) a l = initialized (initialized_class c l.0 a l.1) l.2.1

  -- what is led to is reached, or asked for
  pub stands : (a : Node) → IsLedTo w a → Stands a
  stands b (begins l) = one_step (method (root_number w)) b root l
  stands b (goes_on led l) = one_step _ b (stands _ led) l

  -- what the method leads to is led to, where it is the root or is led to itself
  abbrev IsLed : ℕ → Type 0
  IsLed number = (number ≡ root_number w) ⊎ IsLedTo w (method number)

  led_from : (number : ℕ) (b : Node) → IsLed number → Leads w (method number) b → IsLedTo w b
  led_from number b (inl same) l = begins (subst (λ n. Leads w (method n) b) same l)
  led_from number b (inr led) l = goes_on led l

  led_up : (c above : ℕ) → IsLedTo w (class c) → Sub w.rows c above → IsLedTo w (class above)
  led_up c above led here = led
  led_up c above led (step first rest) = led_up _ above (goes_on led first) rest

  led_asked : (number c : ℕ) (m : DeclaredMethod) → IsLed number → IsMethod w number m → AsksFor w m c → IsLedTo w (class c)
  led_asked number c m led is a =
      led_up a.touched c (led_from number (class a.touched) led (m, is, (a.index, a.name, a.touches, a.is_touched))) a.below

  mutual
    -- what is reached is the root, or led to
    pub reached_led : (number : ℕ) → Reached w number → IsLed number
    reached_led number root = inl refl
    reached_led row (called r is t) = inr (led_from _ (method row) (reached_led _ r) (_, is, (_, t)))
    reached_led row (initialized i t) = let p = initialized_led _ i in inr (goes_on p.1 (p.0.0, p.0.1, (_, t)))

    -- a class that is initialized is led to, and has an initializer
    pub initialized_led : (c : ℕ) → IsInitialized w c → ((row : ℕ) × DeclaresBody w c initializer_key row) × IsLedTo w (class c)
    initialized_led c (asked d r is a) = ((_, d), led_asked _ c _ (reached_led _ r) is a)
