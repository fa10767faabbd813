-- Brackets of a text, and of what is written in its place.
use Rattle.std.specs.Prelude.{◌≡◌, ℕ, suc, ◌-◌, List, [], ◌∷◌, ◌++◌, refl}
use Rattle.std.proofs.Common.{sym, ap, ◌∙◌, subst}
use Rattle.gr_base.specs.Lists.{Each}
use Rattle.gr_base.proofs.Numbers.{one_less}
use Rattle.gr_grammar.specs.declared.brackets.Turn.{Turn}
use Rattle.gr_grammar.specs.declared.brackets.Turn.TheVariants.{Opens, Closes, Neither}
use Rattle.gr_grammar.specs.Depths.{depth, HasRoom, IsShallow}

-- how many brackets are open behind all of them
abbrev pub behind : ℕ → List Turn → ℕ
behind d [] = d
behind d (x ∷ xs) = behind (depth d x) xs

abbrev pub Fits : ℕ → ℕ → List Turn → Type 0
Fits limit d xs = IsShallow (λ (x : Turn). x) limit d xs

-- as many brackets are open behind them as before them
abbrev pub AreLevel : List Turn → Type 0
AreLevel xs = (d : ℕ) → behind d xs ≡ d

behind-append : (xs ys : List Turn) (d : ℕ) → behind d (xs ++ ys) ≡ behind (behind d xs) ys
behind-append [] ys d = refl
behind-append (x ∷ xs) ys d = behind-append xs ys (depth d x)

pub level-append : (xs ys : List Turn) → AreLevel xs → AreLevel ys → AreLevel (xs ++ ys)
level-append xs ys a b d = behind-append xs ys d ∙ (b (behind d xs) ∙ a d)

pub level-enclosed : (xs : List Turn) → AreLevel xs → AreLevel (Opens ∷ xs ++ Closes ∷ [])
level-enclosed xs a d = behind-append xs (Closes ∷ []) (suc d) ∙ (ap (λ n. n - 1) (a (suc d)) ∙ one_less d)

fits-left : (limit : ℕ) (xs ys : List Turn) (d : ℕ) → Fits limit d (xs ++ ys) → Fits limit d xs
fits-left limit [] ys d h = tt
fits-left limit (x ∷ xs) ys d h = (h.0, fits-left limit xs ys (depth d x) h.1)

fits-right : (limit : ℕ) (xs ys : List Turn) (d : ℕ) → Fits limit d (xs ++ ys) → Fits limit (behind d xs) ys
fits-right limit [] ys d h = h
fits-right limit (x ∷ xs) ys d h = fits-right limit xs ys (depth d x) h.1

fits-append : (limit : ℕ) (xs ys : List Turn) (d : ℕ) → Fits limit d xs → Fits limit (behind d xs) ys → Fits limit d (xs ++ ys)
fits-append limit [] ys d a b = b
fits-append limit (x ∷ xs) ys d a b = (a.0, fits-append limit xs ys (depth d x) a.1 b)

-- where the first ones keep within a limit, so do the others, which are level
pub record Covers (xs ys : List Turn) : Type 0 where
  pub level : AreLevel ys
  pub keeps : (limit d : ℕ) → Fits limit d xs → Fits limit d ys

pub covers-nil : (xs : List Turn) → Covers xs []
covers-nil xs = record { level = λ d. refl; keeps = λ limit d h. tt }

pub covers-append : (xs ys zs : List Turn) → Covers xs ys → Covers xs zs → Covers xs (ys ++ zs)
covers-append xs ys zs a b = record {
  level = level-append ys zs a.level b.level;
  keeps = λ limit d h. fits-append limit ys zs d (a.keeps limit d h) (subst (λ n. Fits limit n zs) (sym (a.level d)) (b.keeps limit d h));
}

pub covers-left : (xs more ys : List Turn) → Covers xs ys → Covers (xs ++ more) ys
covers-left xs more ys a = record { level = a.level; keeps = λ limit d h. a.keeps limit d (fits-left limit xs more d h) }

pub covers-right : (before xs ys : List Turn) → AreLevel before → Covers xs ys → Covers (before ++ xs) ys
covers-right before xs ys l a = record { level = a.level; keeps = λ limit d h. a.keeps limit d (subst (λ n. Fits limit n xs) (l d) (fits-right limit before xs d h)) }

pub covers-both : (xs ys us vs : List Turn) → AreLevel xs → Covers xs us → Covers ys vs → Covers (xs ++ ys) (us ++ vs)
covers-both xs ys us vs l a b = covers-append (xs ++ ys) us vs (covers-left xs ys us a) (covers-right xs ys vs l b)

pub covers-enclosed : (xs ys : List Turn) → Covers xs ys → Covers (Opens ∷ xs ++ Closes ∷ []) (Opens ∷ ys ++ Closes ∷ [])
covers-enclosed xs ys a = record {
  level = level-enclosed ys a.level;
  keeps = λ limit d h. (h.0, fits-append limit ys (Closes ∷ []) (suc d) (a.keeps limit (suc d) (fits-left limit xs (Closes ∷ []) (suc d) h.1)) (tt, tt));
}

-- what lies inside brackets is covered by them, if it is within them and more
pub covers-flat : (xs ys : List Turn) → Each (λ y. y ≡ Neither) ys → Covers xs ys
covers-flat xs [] h = covers-nil xs
covers-flat xs (y ∷ ys) h = covers-append xs (y ∷ []) ys (one y h.0) (covers-flat xs ys h.1)
  where
    one : (y : Turn) → y ≡ Neither → Covers xs (y ∷ [])
    one y e = record { level = λ d. ap (depth d) e; keeps = λ limit d h. (subst (λ z. HasRoom limit d z) (sym e) tt, tt) }
