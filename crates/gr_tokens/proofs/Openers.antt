-- The first byte of a token tells its kind, and at most one token begins some bytes.
use Rattle.std.specs.Prelude.{◌≡◌, ℕ, ◌<◌, ◌≤◌, List, [], ◌∷◌, ◌++◌, length, Option, Some, None, cond, ◌==◌, ◌||◌, IsTrue, refl}
use Rattle.std.proofs.Common.{sym, ap, ◌∙◌, subst, arith}
use Rattle.std.proofs.lemmas.Bool.{false≢true, and_parts}
use Rattle.std.proofs.lemmas.List.{append_cancel_right}
use Rattle.std.proofs.lemmas.Option.{same_Some}
use Rattle.gr_base.specs.Lists.{IsAmong}
use Rattle.gr_base.proofs.ListLemmas.{same_head, same_tail, Each-at}
use Rattle.gr_text.specs.Words.{is_word_byte, is_word_rest, is_word}
use Rattle.gr_tokens.specs.declared.Kind.{Kind}
use Rattle.gr_tokens.specs.declared.Kind.TheVariants.{Word, Str, Var, Punct}
use Rattle.gr_tokens.specs.Tokens.{signs, Writes, IsNext, is_blank, HasNoToken}

-- the kind of the tokens that begin with a byte; none begins with a blank or `%`
abbrev pub kind_by : ℕ → Option Kind
kind_by b = cond (is_word_byte b) (Some Word) (cond (b == 63) (Some Var) (cond (b == 34) (Some Str) (cond (is_blank b || (b == 37)) None (Some Punct))))

-- the bytes have a first one, which tells this kind
abbrev pub Opens : Kind → List ℕ → Type 0
Opens k own = (b : ℕ) × (rest : List ℕ) × (own ≡ b ∷ rest) × (kind_by b ≡ Some k)

opens_word : (t own : List ℕ) → own ≡ t → IsTrue (is_word t) → Opens Word own
opens_word [] own e w = absurd (false≢true (and_parts _ (is_word_rest []) w).0)
opens_word (b ∷ bs) own e w =
    (b, bs, e, ap (λ v. cond v (Some Word) (cond (b == 63) (Some Var) (cond (b == 34) (Some Str) (cond (is_blank b || (b == 37)) None (Some Punct))))) (and_parts (is_word_byte b) _ w).0)

abbrev OpensSign : List ℕ → Type 0
OpensSign [] = ⊥
OpensSign (b ∷ bs) = kind_by b ≡ Some Punct

sign_opens : (t : List ℕ) → IsAmong signs t → OpensSign t
sign_opens t i = Each-at OpensSign signs t
    (refl, (refl, (refl, (refl, (refl, (refl, (refl, (refl, (refl, (refl, (refl, (refl, (refl, (refl, (refl, (refl, (refl, (refl, (refl, (refl, (refl, (refl, (refl, (refl, tt)))))))))))))))))))))))) i

opens_sign : (t own : List ℕ) → own ≡ t → OpensSign t → Opens Punct own
opens_sign [] own e o = absurd o
opens_sign (b ∷ bs) own e o = (b, bs, e, o)

pub opens : (k : Kind) (t own : List ℕ) → Writes k t own → Opens k own
opens Word t own w = opens_word t own w.0 w.1
opens Var t own w = (63, t, w.0, refl)
opens Str t own w = (34, t ++ 34 ∷ [], w.0, refl)
opens Punct t own w = opens_sign t own w.0 (sign_opens t w.1)

-- two fronts of the same bytes have the same first byte
pub heads : (x y : ℕ) (xs ys front more own rest : List ℕ) → front ≡ x ∷ xs → own ≡ y ∷ ys → front ++ more ≡ own ++ rest → x ≡ y
heads x y xs ys front more own rest p q e =
    same_head x y (xs ++ more) (ys ++ rest) (ap (λ z. z ++ more) (sym p) ∙ (e ∙ ap (λ z. z ++ rest) q))

-- and so, where both are tokens, the same kind
pub same_kind : (k k' : Kind) (t t' own own' rest rest' : List ℕ) → own ++ rest ≡ own' ++ rest' → Writes k t own → Writes k' t' own' → k ≡ k'
same_kind k k' t t' own own' rest rest' e w w' =
    let a = opens k t own w in
    let b = opens k' t' own' w' in
    let first : a.0 ≡ b.0 = heads a.0 b.0 a.1 b.1 own rest own' rest' a.2 b.2 e in
    same_Some k k' (sym a.3 ∙ (ap kind_by first ∙ b.3))

-- a token is the next one where no longer front is one of its kind
pub next_from : (k : Kind) (text own rest : List ℕ) → Writes k text own
    → ((t front more : List ℕ) → front ++ more ≡ own ++ rest → Writes k t front → length front ≤ length own) → IsNext k text own rest
next_from k text own rest w most = record {
  writes = w;
  longest = λ k' t front more e v. most t front more e (subst (λ z. Writes z t front) (same_kind k' k t text front own more rest e v w) v);
}

-- no token begins bytes whose first one tells a kind of which there is none
pub none_from : (k : Kind) (b : ℕ) (bytes : List ℕ) → kind_by b ≡ Some k
    → ((t front more : List ℕ) → front ++ more ≡ b ∷ bytes → Writes k t front → length t ≤ 255 → ⊥) → HasNoToken (b ∷ bytes)
none_from k b bytes is none k' text own rest e next short =
    let a = opens k' text own next.writes in
    let first : a.0 ≡ b = heads a.0 b a.1 [] own rest (b ∷ []) bytes a.2 refl (sym e) in
    let same : k' ≡ k = same_Some k' k (sym a.3 ∙ (ap kind_by first ∙ is)) in
    none text own rest (sym e) (subst (λ z. Writes z text own) same next.writes) short

-- fronts of the same length are the same
pub same_split : (xs ys xs' ys' : List ℕ) → length xs ≡ length xs' → xs ++ ys ≡ xs' ++ ys' → (xs ≡ xs') × (ys ≡ ys')
same_split [] ys [] ys' l e = (refl, e)
same_split [] ys (x ∷ xs') ys' l e = absurd (omega arith)
same_split (x ∷ xs) ys [] ys' l e = absurd (omega arith)
same_split (x ∷ xs) ys (x' ∷ xs') ys' l e =
    let r = same_split xs ys xs' ys' (omega arith) (same_tail x x' (xs ++ ys) (xs' ++ ys') e) in
    (let h = same_head x x' (xs ++ ys) (xs' ++ ys') e in let t : xs ≡ xs' = r.0 in cc, r.1)

-- the bytes of a token of a kind tell its text
same_text : (k : Kind) (t t' own : List ℕ) → Writes k t own → Writes k t' own → t ≡ t'
same_text Word t t' own w w' = sym w.0 ∙ w'.0
same_text Var t t' own w w' = same_tail 63 63 t t' (sym w.0 ∙ w'.0)
same_text Str t t' own w w' = append_cancel_right t t' (34 ∷ []) (same_tail 34 34 (t ++ 34 ∷ []) (t' ++ 34 ∷ []) (sym w.0 ∙ w'.0))
same_text Punct t t' own w w' = sym w.0 ∙ w'.0

-- two tokens that may come next are the same one
pub record SameNext (k k' : Kind) (text text' own own' rest rest' : List ℕ) : Type 0 where
  pub kind : k ≡ k'
  pub text_is : text ≡ text'
  pub own_is : own ≡ own'
  pub rest_is : rest ≡ rest'

pub same_next : (k k' : Kind) (text text' own own' rest rest' : List ℕ) → own ++ rest ≡ own' ++ rest' → IsNext k text own rest → IsNext k' text' own' rest' → SameNext k k' text text' own own' rest rest'
same_next k k' text text' own own' rest rest' e n n' =
    let less : length own' ≤ length own = n.longest k' text' own' rest' (sym e) n'.writes in
    let more : length own ≤ length own' = n'.longest k text own rest e n.writes in
    let split = same_split own rest own' rest' (omega arith) e in
    let kinds : k ≡ k' = same_kind k k' text text' own own' rest rest' e n.writes n'.writes in
    let w : Writes k' text own' = subst (λ z. Writes z text own') kinds (subst (λ z. Writes k text z) split.0 n.writes) in
    record { kind = kinds; text_is = same_text k' text text' own' w n'.writes; own_is = split.0; rest_is = split.1 }

-- where the next token is too long there is none that isn't
pub too_long : (k : Kind) (text own rest bytes : List ℕ) → bytes ≡ own ++ rest → IsNext k text own rest → 255 < length text → HasNoToken bytes
too_long k text own rest bytes e n long k' text' own' rest' e' n' short =
    let same = same_next k k' text text' own own' rest rest' (sym e ∙ e') n n' in
    omega (arith, ap length same.text_is)

pub next_some : (k : Kind) (text own rest : List ℕ) → IsNext k text own rest → 0 < length own
next_some k text own rest n = let a = opens k text own n.writes in omega (arith, ap length a.2)
