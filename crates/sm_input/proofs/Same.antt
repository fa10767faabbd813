-- Tests of equality decide it, and of what is written one thing is read.
use Rattle.std.proofs.Common.{◌≡◌, ℕ, List, [], ◌∷◌, false, Option, Some, None, inl, inr, refl, sym, ap, subst, Decides}
use Rattle.std.specs.Prelude.{bytes_eq}
use Rattle.std.specs.List.{AllZip}
use Rattle.std.proofs.lemmas.Bool.{false≢true}
use Rattle.std.proofs.lemmas.Bool.Decides.{Decides-like, Decides-and, Decides-or}
use Rattle.std.proofs.lemmas.Slice.Eq.{bytes_eq-Decides}
use Rattle.gr_base.specs.Lists.{IsAmong, NoneTwice}
use Rattle.gr_base.proofs.ListLemmas.{same_head, same_tail}
use Rattle.gr_base.proofs.Zips.{AllZip-one}
use Rattle.gr_terms.specs.declared.Sym.{Sym}
use Rattle.gr_terms.specs.declared.Term.{Term}
use Rattle.gr_terms.specs.declared.Term.TheVariants.{Const, Var}
use Rattle.gr_symbols.specs.Numbers.{Names}
use Rattle.gr_symbols.proofs.NumberLemmas.{one_number, one_text}
use Rattle.gr_feats.specs.Grammars.{Written, a_name, a_variable, WrittenLiteral}
use Rattle.sm_input.specs.declared.raw.RawLiteral.{RawLiteral}
use Rattle.sm_input.specs.Firsts.{same_term, same_handle, same_args, same_literal, is_there}
use Rattle.sm_input.specs.Reading.{IsRawTerm, IsRawHandle, IsRawLiteral}

abbrev pub word_of : Written → List ℕ
word_of (a_name t) = t
word_of (a_variable t) = t

differ : {P : Type 0} → (P → ⊥) → Decides false P
differ n = (λ e. absurd (false≢true e), λ p. absurd (n p))

pub term_decides : (w v : Written) → Decides (same_term w v) (w ≡ v)
term_decides (a_name t) (a_name u) = Decides-like (bytes_eq t u) (λ e. ap a_name e) (λ e. ap word_of e) (bytes_eq-Decides t u)
term_decides (a_name t) (a_variable u) = differ (λ e. let h : a_name t ≡ a_variable u = e in cc)
term_decides (a_variable t) (a_name u) = differ (λ e. let h : a_variable t ≡ a_name u = e in cc)
term_decides (a_variable t) (a_variable u) = Decides-like (bytes_eq t u) (λ e. ap a_variable e) (λ e. ap word_of e) (bytes_eq-Decides t u)

pub handle_decides : (w v : Option Written) → Decides (same_handle w v) (w ≡ v)
handle_decides None None = (λ e. refl, λ e. refl)
handle_decides None (Some v) = differ (λ e. let h : ◌≡◌ {A = Option Written} None (Some v) = e in cc)
handle_decides (Some w) None = differ (λ e. let h : ◌≡◌ {A = Option Written} (Some w) None = e in cc)
handle_decides (Some w) (Some v) = Decides-like (same_term w v) (λ e. ap Some e) (λ e. let h : Some w ≡ Some v = e in cc) (term_decides w v)

pub args_decides : (ws vs : List Written) → Decides (same_args ws vs) (ws ≡ vs)
args_decides [] [] = (λ e. refl, λ e. refl)
args_decides [] (v ∷ vs) = differ (λ e. let h : [] ≡ v ∷ vs = e in cc)
args_decides (w ∷ ws) [] = differ (λ e. let h : w ∷ ws ≡ [] = e in cc)
args_decides (w ∷ ws) (v ∷ vs) =
    Decides-like _ (λ p i. p.0 i ∷ p.1 i) (λ e. (same_head w v ws vs e, same_tail w v ws vs e)) (Decides-and (same_term w v) (same_args ws vs) (term_decides w v) (args_decides ws vs))

pub literal_decides : (w v : WrittenLiteral) → Decides (same_literal w v) (w ≡ v)
literal_decides w v =
    Decides-like _ (λ p i. record { handle = p.0 i; pred = p.1.0 i; args = p.1.1 i }) (λ e. (ap (λ z. z.handle) e, (ap (λ z. z.pred) e, ap (λ z. z.args) e)))
    (Decides-and (same_handle w.handle v.handle) _ (handle_decides w.handle v.handle) (Decides-and (same_term w.pred v.pred) (same_args w.args v.args) (term_decides w.pred v.pred) (args_decides w.args v.args)))

pub there_decides : (ws : List WrittenLiteral) (w : WrittenLiteral) → Decides (is_there ws w) (IsAmong ws w)
there_decides [] w = differ (λ h. h)
there_decides (v ∷ vs) w =
    Decides-or (same_literal v w) (is_there vs w) (Decides-like (same_literal v w) (λ e. sym e) (λ e. sym e) (literal_decides v w)) (there_decides vs w)

pub zip_back : {W X : Type 0} (R : W → X → Type 0) → ((w v : W) (x : X) → R w x → R v x → w ≡ v) → (ws vs : List W) (xs : List X) → AllZip R ws xs → AllZip R vs xs → ws ≡ vs
zip_back R one [] [] [] h k = refl
zip_back R one [] (v ∷ vs) [] h k = absurd k
zip_back R one [] vs (x ∷ xs) h k = absurd h
zip_back R one (w ∷ ws) vs [] h k = absurd h
zip_back R one (w ∷ ws) [] (x ∷ xs) h k = absurd k
zip_back R one (w ∷ ws) (v ∷ vs) (x ∷ xs) h k = let e = one w v x h.0 k.0 in let f = zip_back R one ws vs xs h.1 k.1 in λ i. e i ∷ f i

-- what stands among those that are written stands among those that are read, and back
pub zip_to : {W X : Type 0} (R : W → X → Type 0) → ((w : W) (x y : X) → R w x → R w y → x ≡ y) → (ws : List W) (xs : List X) (w : W) (x : X) → AllZip R ws xs → R w x → IsAmong ws w → IsAmong xs x
zip_to R one [] xs w x z r i = absurd i
zip_to R one (v ∷ vs) [] w x z r i = absurd z
zip_to R one (v ∷ vs) (y ∷ ys) w x z r (inl e) = inl (one v x y (subst (λ u. R u x) e r) z.0)
zip_to R one (v ∷ vs) (y ∷ ys) w x z r (inr i) = inr (zip_to R one vs ys w x z.1 r i)

pub zip_from : {W X : Type 0} (R : W → X → Type 0) → ((w v : W) (x : X) → R w x → R v x → w ≡ v) → (ws : List W) (xs : List X) (w : W) (x : X) → AllZip R ws xs → R w x → IsAmong xs x → IsAmong ws w
zip_from R one [] [] w x z r i = absurd i
zip_from R one [] (y ∷ ys) w x z r i = absurd z
zip_from R one (v ∷ vs) [] w x z r i = absurd z
zip_from R one (v ∷ vs) (y ∷ ys) w x z r (inl e) = inl (one w v x r (subst (λ u. R v u) (sym e) z.0))
zip_from R one (v ∷ vs) (y ∷ ys) w x z r (inr i) = inr (zip_from R one vs ys w x z.1 r i)

module _ (texts : List (List ℕ)) where
  back_term : (w v : Written) (x : Term) → IsRawTerm texts w x → IsRawTerm texts v x → w ≡ v
  back_term (a_name t) (a_name u) (Const s) h k = ap a_name (one_text texts s.0 t u h k)
  back_term (a_name t) (a_variable u) (Const s) h k = absurd k
  back_term (a_name t) v (Var n) h k = absurd h
  back_term (a_variable t) v (Const s) h k = absurd h
  back_term (a_variable t) (a_name u) (Var n) h k = absurd k
  back_term (a_variable t) (a_variable u) (Var n) h k = ap a_variable (one_text texts n t u h k)

  back_handle : (w v : Option Written) (x : Option Term) → IsRawHandle texts w x → IsRawHandle texts v x → w ≡ v
  back_handle None None None h k = refl
  back_handle None (Some v) None h k = absurd k
  back_handle None v (Some x) h k = absurd h
  back_handle (Some w) v None h k = absurd h
  back_handle (Some w) None (Some x) h k = absurd k
  back_handle (Some w) (Some v) (Some x) h k = ap Some (back_term w v x h k)

  pub back_literal : (w v : WrittenLiteral) (x : RawLiteral) → IsRawLiteral texts w x → IsRawLiteral texts v x → w ≡ v
  back_literal w v x h k =
      let e = back_handle w.handle v.handle x.handle h.handle k.handle in
      let f = back_term w.pred v.pred x.pred h.pred k.pred in
      let g = zip_back (IsRawTerm texts) back_term w.args v.args x.args h.args k.args in
      λ i. record { handle = e i; pred = f i; args = g i }

  module _ (once : NoneTwice texts) where
    pub same_sym : (a b : Sym) (t : List ℕ) → Names texts a.0 t → Names texts b.0 t → a ≡ b
    same_sym a b t h k = let e = one_number texts a.0 b.0 t once h k in λ i. record { 0 = e i }

    one_term : (w : Written) (x y : Term) → IsRawTerm texts w x → IsRawTerm texts w y → x ≡ y
    one_term (a_name t) (Const a) (Const b) h k = ap Const (same_sym a b t h k)
    one_term (a_name t) (Const a) (Var j) h k = absurd k
    one_term (a_name t) (Var i) y h k = absurd h
    one_term (a_variable t) (Const a) y h k = absurd h
    one_term (a_variable t) (Var i) (Const b) h k = absurd k
    one_term (a_variable t) (Var i) (Var j) h k = ap Var (one_number texts i j t once h k)

    one_handle : (w : Option Written) (x y : Option Term) → IsRawHandle texts w x → IsRawHandle texts w y → x ≡ y
    one_handle None None None h k = refl
    one_handle None None (Some y) h k = absurd k
    one_handle None (Some x) y h k = absurd h
    one_handle (Some w) None y h k = absurd h
    one_handle (Some w) (Some x) None h k = absurd k
    one_handle (Some w) (Some x) (Some y) h k = ap Some (one_term w x y h k)

    pub one_literal : (w : WrittenLiteral) (x y : RawLiteral) → IsRawLiteral texts w x → IsRawLiteral texts w y → x ≡ y
    one_literal w x y h k =
        let e = one_handle w.handle x.handle y.handle h.handle k.handle in
        let f = one_term w.pred x.pred y.pred h.pred k.pred in
        let g = AllZip-one (IsRawTerm texts) one_term w.args x.args y.args h.args k.args in
        λ i. record { handle = e i; pred = f i; args = g i }
