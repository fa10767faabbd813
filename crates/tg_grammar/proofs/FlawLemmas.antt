-- The lowest of what is wrong.
use Rattle.std.specs.Prelude.{◌≡◌, ℕ, suc, ◌==◌, ◌<◌, ◌≤◌, Option, Some, None, Bool, true, false, IsTrue, IsFalse, ◌||◌, if◌then◌else◌, ◌⊎◌, ◌↔◌, refl}
use Rattle.std.proofs.Common.{inl, inr, ap, sym, ◌∙◌, subst, arith, eq-eqb}
use Rattle.std.proofs.lemmas.Bool.{eqb-true}
use Rattle.std.proofs.lemmas.Option.{same_Some}
use Rattle.gr_terms.specs.declared.Sym.{Sym}
use Rattle.std.proofs.lemmas.Bool.Decides.{leb_tells}
use Rattle.gr_terms.specs.Constants.{ANCHOR, COANCHOR, SUBST, FOOT, LEX}
use Rattle.gr_terms.specs.Canonical.{Node}
use Rattle.td_tree.specs.TreeViews.{Pairs}
use Rattle.tg_grammar.specs.declared.flaw.Flaw.{Flaw}
use Rattle.tg_grammar.specs.declared.flaw.Flaw.TheVariants as flaw
use Rattle.tg_grammar.specs.declared.marks.Mark.TheVariants as mark
use Rattle.tg_grammar.specs.Marks.{is_marked, has_leaf_mark, HasNoMark}
use Rattle.tg_grammar.specs.Shapes.{AreOneName, IsLowest, LacksWord, code_of}
use Rattle.tg_grammar.specs.Surveys.{HasLowest, HasNodeFlaw, lower, number_of}

-- the same is wrong
pub HasLowest-same : (P Q : Flaw → Type 0) → ((w : Flaw) → P w → Q w) → ((w : Flaw) → Q w → P w) → (o : Option Flaw) → HasLowest P o → HasLowest Q o
HasLowest-same P Q to from None h = λ w q. h w (from w q)
HasLowest-same P Q to from (Some w) h = (to w h.0, λ v q. h.1 v (from v q))

-- of two, the lower one
pub HasLowest-lower : (P Q : Flaw → Type 0) (a b : Option Flaw) → HasLowest P a → HasLowest Q b → HasLowest (λ w. P w ⊎ Q w) (lower a b)
HasLowest-lower P Q None None p q = λ w h. elim h [ inl x ↦ p w x | inr x ↦ q w x ]
HasLowest-lower P Q None (Some w) p q = (inr q.0, λ v h. elim h [ inl x ↦ absurd (p v x) | inr x ↦ q.1 v x ])
HasLowest-lower P Q (Some v) None p q = (inl p.0, λ w h. elim h [ inl x ↦ p.1 w x | inr x ↦ absurd (q w x) ])
HasLowest-lower P Q (Some v) (Some w) p q = elim (leb_tells (suc (code_of w)) (code_of v)) [
  | inl h ↦
      let lt : code_of w < code_of v = omega (arith, h.1) in
      let all : IsLowest (λ u. P u ⊎ Q u) w = (inr q.0, λ u x. elim x [ inl y ↦ let le : code_of v ≤ code_of u = p.1 u y in omega arith | inr y ↦ q.1 u y ]) in
      subst (λ b. HasLowest (λ u. P u ⊎ Q u) (if b then Some w else Some v)) (sym h.0) all
  | inr h ↦
      let le : code_of v ≤ code_of w = omega (arith, h.1) in
      let all : IsLowest (λ u. P u ⊎ Q u) v = (inl p.0, λ u x. elim x [ inl y ↦ p.1 u y | inr y ↦ let further : code_of w ≤ code_of u = q.1 u y in omega arith ]) in
      subst (λ b. HasLowest (λ u. P u ⊎ Q u) (if b then Some w else Some v)) (sym h.0) all
]

-- ---- what is wrong with a node without a mark

five_false : (a b c d e : Bool) → a ≡ false → b ≡ false → c ≡ false → d ≡ false → e ≡ false → (a || b || c || d || e) ≡ false
five_false a b c d e p q r s t = rw (p, q, r, s, t) refl

apart : (b : Bool) → b ≡ true → b ≡ false → ⊥
apart b t f = let h : true ≡ false = sym t ∙ f in cc

-- a leaf at which nothing is written
lacking_leaf : (root : Option ℕ) (n : Node Pairs) → IsFalse (is_marked SUBST n) → IsFalse (is_marked FOOT n) → LacksWord n → HasLowest (HasNodeFlaw root (false, n)) (Some flaw.NoWord)
lacking_leaf root n s f w = ((refl, w), by)
  where
    by : (v : Flaw) → HasNodeFlaw root (false, n) v → 36 ≤ code_of v
    by flaw.RootCategory h = absurd h
    by flaw.SubstCategory h = absurd (apart (is_marked SUBST n) h.0 s)
    by flaw.FootCategory h = absurd (apart (is_marked FOOT n) h.0 f)
    by flaw.AnchorCount h = absurd h
    by flaw.FootCount h = absurd h
    by flaw.MarkOnInner h = absurd (apart true refl (sym h.0))
    by flaw.NoWord h = omega arith

-- a node without a leaf's mark
unmarked : (root : Option ℕ) (inner : Bool) (n : Node Pairs) → IsFalse (has_leaf_mark n) → IsFalse (is_marked SUBST n) → IsFalse (is_marked FOOT n) →
    HasLowest (HasNodeFlaw root (inner, n)) (if inner then None else Some flaw.NoWord)
unmarked root false n m s f = lacking_leaf root n s f (inl m)
unmarked root true n m s f = by
  where
    by : (v : Flaw) → HasNodeFlaw root (true, n) v → ⊥
    by flaw.RootCategory h = h
    by flaw.SubstCategory h = apart (is_marked SUBST n) h.0 s
    by flaw.FootCategory h = apart (is_marked FOOT n) h.0 f
    by flaw.AnchorCount h = h
    by flaw.FootCount h = h
    by flaw.MarkOnInner h = apart (has_leaf_mark n) h.1 m
    by flaw.NoWord h = apart true refl h.0

pub bare_node : (root : Option ℕ) (inner : Bool) (n : Node Pairs) → HasNoMark n → HasLowest (HasNodeFlaw root (inner, n)) (if inner then None else Some flaw.NoWord)
bare_node root inner n none =
    unmarked root inner n
    (five_false (is_marked SUBST n) (is_marked FOOT n) (is_marked ANCHOR n) (is_marked COANCHOR n) (is_marked LEX n) (none mark.Subst) (none mark.Foot) (none mark.Anchor) (none mark.Coanchor) (none mark.Lex))
    (none mark.Subst) (none mark.Foot)

-- two names are one where their numbers are equal
pub one_name : (f g : Option Sym) (a b : Sym) (r : Bool) → f ≡ Some a → g ≡ Some b → r ≡ (a.0 == b.0) → IsTrue r ↔ AreOneName (number_of f) (number_of g)
one_name f g a b r p q e = (
  λ t. (a.0, ap number_of p, ap number_of q ∙ ap Some (sym (eqb-true a.0 b.0 (sym e ∙ t)))),
  λ h. e ∙ eq-eqb a.0 b.0 (same_Some a.0 h.0 (sym (ap number_of p) ∙ h.1) ∙ sym (same_Some b.0 h.0 (sym (ap number_of q) ∙ h.2))),
)
