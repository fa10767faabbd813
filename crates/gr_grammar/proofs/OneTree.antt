-- Where tokens form a set, two trees of one text of a clear grammar are equal.
use Rattle.std.proofs.Common.{◌≡◌, List, ◌∷◌, true, refl, subst}
use Rattle.std.proofs.Math.Bool.{Bool-set}
use mathlib.Core.Path.{PathP}
use mathlib.Core.HLevel.{is_prop→PathP}
use mathlib.Core.List.{is_set}
use Rattle.gr_grammar.specs.Grammars.{Grammar, System, Matches, a_token, no_token, both, the_left, the_right, no_more, one_more, by_part, is_clear, IsSystem}
use Rattle.gr_grammar.proofs.Alike.{Same, same_token, same_nothing, same_both, same_left, same_right, same_end, same_more, same_part, alike}

module _ {C T : Type 0} (S : System C T) where
  -- the tokens of two trees are equal where what is left is, and over that the trees are
  pub record Glued (g : Grammar C) (ts r us s : List T) (left : r ≡ s) (m : Matches S g ts r) (n : Matches S g us s) : Type 0 where
    pub tokens : ts ≡ us
    pub trees : PathP (λ i. Matches S g (tokens i) (left i)) m n

  pub glued : {g : Grammar C} {ts r us s : List T} {m : Matches S g ts r} {n : Matches S g us s} → Same S g ts r us s m n → (left : r ≡ s) → Glued g ts r us s left m n
  glued (same_token {c} {t} {u} {ts} {us} {h} {k} e) f =
      record { tokens = λ i. e i ∷ f i; trees = λ i. a_token {c = c} {t = e i} {ts = f i} (is_prop→PathP (λ j. S.test c (e j) ≡ true) (λ j. Bool-set (S.test c (e j)) true) h k i) }
  glued same_nothing f = record { tokens = f; trees = λ i. no_token {ts = f i} }
  glued (same_both x y) f = let q = glued y f in let p = glued x q.tokens in record { tokens = p.tokens; trees = λ i. both (p.trees i) (q.trees i) }
  glued (same_left {g} {h} x) f = let p = glued x f in record { tokens = p.tokens; trees = λ i. the_left {h = h} (p.trees i) }
  glued (same_right {g} {h} x) f = let p = glued x f in record { tokens = p.tokens; trees = λ i. the_right {g = g} (p.trees i) }
  glued (same_end {g}) f = record { tokens = f; trees = λ i. no_more {g = g} {ts = f i} }
  glued (same_more x) f = let p = glued x f in record { tokens = p.tokens; trees = λ i. one_more (p.trees i) }
  glued (same_part {n} x) f = let p = glued x f in record { tokens = p.tokens; trees = λ i. by_part {n = n} (p.trees i) }

  pub one_tree : IsSystem S → IsSet T → {g : Grammar C} {ts r : List T} → is_clear S g ≡ true → (m n : Matches S g ts r) → m ≡ n
  one_tree K set {g} {ts} {r} clear m n =
      let p = glued (alike S K clear m n refl refl) refl in
      subst (λ (e : ts ≡ ts). PathP (λ i. Matches S g (e i) r) m n) (is_set set ts ts p.tokens refl) p.trees
