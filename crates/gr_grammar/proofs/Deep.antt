-- A reader of the tokens before the first one that stands too deep finds the first fault with the limit.
use Rattle.std.proofs.Common.{ℕ, List, [], ◌∷◌, ◌++◌, refl, ap, ◌∙◌, subst, append_assoc, append-nil}
use Rattle.gr_grammar.specs.Grammars.{Grammar, System, GoesOn, IsFault}
use Rattle.gr_grammar.specs.declared.brackets.Turn.{Turn}
use Rattle.gr_grammar.specs.Depths.{depth, IsShallow, IsShallowFault}

module _ {C T : Type 0} (S : System C T) (turn : T → Turn) (limit : ℕ) (g : Grammar C) where
  pub shallow_front : (n : ℕ) (f r : List T) → IsShallow turn limit n (f ++ r) → IsShallow turn limit n f
  shallow_front n [] r h = tt
  shallow_front n (t ∷ f) r h = (h.0, shallow_front (depth n (turn t)) f r h.1)

  -- a fault before the end of the shallow part
  pub early : (part deep : List T) (t : T) (w : List T) → IsShallow turn limit 0 part → IsFault S g part (t ∷ w) → IsShallowFault S turn limit g (part ++ deep) (t ∷ w ++ deep)
  early part deep t w h f = record {
    front = f.front;
    split = ap (λ z. z ++ deep) f.split ∙ append_assoc f.front (t ∷ w) deep;
    before = f.before;
    shallow = shallow_front 0 f.front (t ∷ w) (subst (λ z. IsShallow turn limit 0 z) f.split h);
    here = λ o s. f.here o;
  }

  -- all of the shallow part goes on, and the token behind it stands too deep
  pub at_depth : (part : List T) (t : T) (w : List T) → IsShallow turn limit 0 part → (IsShallow turn limit 0 (part ++ t ∷ []) → ⊥) → GoesOn S g part → IsShallowFault S turn limit g (part ++ t ∷ w) (t ∷ w)
  at_depth part t w h d o = record { front = part; split = refl; before = o; shallow = h; here = λ x s. d s }

  -- the whole is shallow, and it ends too early
  pub at_end : (ts : List T) → IsShallow turn limit 0 ts → IsFault S g ts [] → IsShallowFault S turn limit g ts []
  at_end ts h f = let e = f.split ∙ append-nil f.front in
      record { front = f.front; split = f.split; before = f.before; shallow = subst (λ z. IsShallow turn limit 0 z) e h; here = f.here }
