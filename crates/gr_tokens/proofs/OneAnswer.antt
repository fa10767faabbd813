-- At most one answer is right for a text.
use Rattle.std.specs.Prelude.{◌≡◌, ◌≢◌, ℕ, List, [], ◌∷◌, ◌++◌, length, Result, Ok, Err, None, true, false, ◌==◌, ◌⊎◌, refl}
use Rattle.std.proofs.Common.{sym, ap, ◌∙◌, subst, inl, inr}
use Rattle.std.specs.Str.{IsUtf8, IsValidUpTo}
use Rattle.std.proofs.lemmas.Bool.{false≢true, or_cases, eqb-true}
use Rattle.std.proofs.lemmas.List.{append_cancel_right}
use Rattle.std.proofs.lemmas.Option.{none-some}
use Rattle.std.proofs.lemmas.Str.{utf8_valid_len-IsValidUpTo}
use Rattle.gr_base.proofs.ListLemmas.{same_head, same_tail}
use Rattle.gr_text.specs.declared.Place.{Place}
use Rattle.gr_text.specs.Places.{place_after}
use Rattle.gr_tokens.specs.declared.Kind.{Kind}
use Rattle.gr_tokens.specs.declared.Token.{Token}
use Rattle.gr_tokens.specs.declared.ReadRefusal.{ReadRefusal}
use Rattle.gr_tokens.specs.declared.ReadRefusal.TheVariants.{Syntax, NotUtf8}
use Rattle.gr_tokens.specs.Tokens.{IsNext, IsTokenAt, IsCut, nothing, a_gap, a_token, IsGap, blank, comment, is_blank, EndsLine, HasNoGap, HasNoToken, IsStuck}
use Rattle.gr_tokens.specs.Answers.{AreTokens, IsSyntaxFault, IsRefused, IsRight}
use Rattle.gr_tokens.proofs.Openers.{kind_by, opens, heads, same_split, same_next}
use Rattle.gr_tokens.proofs.Runs.{Ends, same_run}

-- no gap begins where none of its first bytes stands
no_gap_by : (b : ℕ) (bs own rest : List ℕ) → is_blank b ≡ false → b ≢ 37 → b ∷ bs ≡ own ++ rest → IsGap own rest → ⊥
no_gap_by b bs own rest nb np e (blank c o h) =
    let same : b ≡ c = same_head b c bs rest (e ∙ ap (λ z. z ++ rest) o) in
    false≢true (sym nb ∙ (ap is_blank same ∙ h))
no_gap_by b bs own rest nb np e (comment inside o each ends) = np (same_head b 37 bs (inside ++ rest) (e ∙ ap (λ z. z ++ rest) o))

pub no_gap : (b : ℕ) (bs : List ℕ) → is_blank b ≡ false → b ≢ 37 → HasNoGap (b ∷ bs)
no_gap b bs nb np own rest e g = no_gap_by b bs own rest nb np e g

nothing_left : (b : ℕ) (tail own rest : List ℕ) → own ≡ b ∷ tail → [] ≡ own ++ rest → ⊥
nothing_left b tail own rest o e = let h : [] ≡ b ∷ (tail ++ rest) = e ∙ ap (λ z. z ++ rest) o in cc

-- the first byte of a gap begins no token
blank_opens : (b : ℕ) → is_blank b ≡ true → kind_by b ≡ None
blank_opens b h = elim (or_cases (b == 32) _ h) [
  | inl e ↦ ap kind_by (eqb-true b 32 e)
  | inr h ↦ elim (or_cases (b == 9) _ h) [
    | inl e ↦ ap kind_by (eqb-true b 9 e)
    | inr h ↦ elim (or_cases (b == 13) (b == 10) h) [
      | inl e ↦ ap kind_by (eqb-true b 13 e)
      | inr e ↦ ap kind_by (eqb-true b 10 e)
    ]
  ]
]

gap_opens : (own rest : List ℕ) → IsGap own rest → (b : ℕ) × (tail : List ℕ) × (own ≡ b ∷ tail) × (kind_by b ≡ None)
gap_opens own rest (blank b o h) = (b, [], o, blank_opens b h)
gap_opens own rest (comment inside o each ends) = (37, inside, o, refl)

pub no_gap_end : HasNoGap []
no_gap_end own rest e g = let o = gap_opens own rest g in nothing_left o.0 o.1 own rest o.2 e

pub no_token_end : HasNoToken []
no_token_end k text own rest e n short = let o = opens k text own n.writes in nothing_left o.0 o.1 own rest o.2 e

gap_token : (k : Kind) (text own own' rest rest' : List ℕ) → own ++ rest ≡ own' ++ rest' → IsGap own rest → IsNext k text own' rest' → ⊥
gap_token k text own own' rest rest' e g n =
    let o = gap_opens own rest g in
    let p = opens k text own' n.writes in
    let first : o.0 ≡ p.0 = heads o.0 p.0 o.1 p.1 own rest own' rest' o.2 p.2 e in
    none-some k (sym o.3 ∙ (ap kind_by first ∙ p.3))

line_ends : (xs : List ℕ) → EndsLine xs → Ends (λ b. b ≢ 10) xs
line_ends [] h = tt
line_ends (x ∷ xs) h = λ n. n h

percent : (b : ℕ) → is_blank b ≡ true → b ≡ 37 → ⊥
percent b h e = false≢true (ap is_blank (sym e) ∙ h)

-- two gaps that begin the same bytes are the same
same_gap : (own rest own' rest' : List ℕ) → own ++ rest ≡ own' ++ rest' → IsGap own rest → IsGap own' rest' → (own ≡ own') × (rest ≡ rest')
same_gap own rest own' rest' e (blank b o h) (blank c p k) = same_split own rest own' rest' (ap length o ∙ sym (ap length p)) e
same_gap own rest own' rest' e (blank b o h) (comment inside p each ends) = absurd (percent b h (heads b 37 [] inside own rest own' rest' o p e))
same_gap own rest own' rest' e (comment inside o each ends) (blank b p h) = absurd (percent b h (sym (heads 37 b inside [] own rest own' rest' o p e)))
same_gap own rest own' rest' e (comment inside o each ends) (comment inside' p each' ends') =
    let r = same_run (λ b. b ≢ 10) inside inside' rest rest' each each' (line_ends rest ends) (line_ends rest' ends')
    (same_tail 37 37 (inside ++ rest) (inside' ++ rest') (ap (λ z. z ++ rest) (sym o) ∙ (e ∙ ap (λ z. z ++ rest') p))) in
    (o ∙ (ap (λ z. 37 ∷ z) r.0 ∙ sym p), r.1)

same_fields : (t u : Token) → t.kind ≡ u.kind → t.from ≡ u.from → t.to ≡ u.to → t.place ≡ u.place → t ≡ u
same_fields t u k f o p =
    ap (λ x. record { kind = x; from = t.from; to = t.to; place = t.place }) k
    ∙ (ap (λ x. record { kind = u.kind; from = x; to = t.to; place = t.place }) f
    ∙ (ap (λ x. record { kind = u.kind; from = u.from; to = x; place = t.place }) o
    ∙ ap (λ x. record { kind = u.kind; from = u.from; to = u.to; place = x }) p))

same_token : (before own own' rest rest' : List ℕ) (t u : Token) → own ≡ own' → t.kind ≡ u.kind → IsTokenAt before own rest t → IsTokenAt before own' rest' u → t ≡ u
same_token before own own' rest rest' t u e k a b =
    same_fields t u k (a.begins ∙ sym b.begins) (a.ends ∙ (ap (λ z. length (before ++ z)) e ∙ sym b.ends)) (a.stands ∙ sym b.stands)

-- nothing is left, or cutting stops
abbrev pub IsEnd : List ℕ → Type 0
IsEnd left = (left ≡ []) ⊎ IsStuck left

end_gap : (left own rest : List ℕ) → IsEnd left → left ≡ own ++ rest → IsGap own rest → ⊥
end_gap left own rest (inl e) is g = no_gap_end own rest (sym e ∙ is) g
end_gap left own rest (inr s) is g = s.no_gap own rest is g

end_token : (before left own rest : List ℕ) (t : Token) → IsEnd left → left ≡ own ++ rest → IsTokenAt before own rest t → ⊥
end_token before left own rest t (inl e) is k = no_token_end t.kind k.text own rest (sym e ∙ is) k.next k.short
end_token before left own rest t (inr s) is k = s.no_token t.kind k.text own rest is k.next k.short

-- the cutting up to an end is one
pub same_cut : (before bytes : List ℕ) (ts us : List Token) (left left' : List ℕ) → IsCut before bytes ts left → IsCut before bytes us left' → IsEnd left → IsEnd left' → (ts ≡ us) × (left ≡ left')
same_cut _ _ _ _ left _ nothing nothing f f' = (refl, refl)
same_cut _ _ _ _ left _ nothing (a_gap own rest e g s) f f' = absurd (end_gap left own rest f e g)
same_cut before _ _ _ left _ nothing (a_token {t = u} own rest e k s) f f' = absurd (end_token before left own rest u f e k)
same_cut _ _ _ _ _ left' (a_gap own rest e g s) nothing f f' = absurd (end_gap left' own rest f' e g)
same_cut before _ ts us left left' (a_gap own rest e g s) (a_gap own' rest' e' g' s') f f' =
    let same = same_gap own rest own' rest' (sym e ∙ e') g g' in
    same_cut (before ++ own) rest ts us left left' s
    (subst (λ z. IsCut (before ++ z) rest us left') (sym same.0) (subst (λ z. IsCut (before ++ own') z us left') (sym same.1) s')) f f'
same_cut _ _ _ _ _ _ (a_gap own rest e g s) (a_token {t = u} own' rest' e' k s') f f' = absurd (gap_token u.kind k.text own own' rest rest' (sym e ∙ e') g k.next)
same_cut before _ _ _ _ left' (a_token {t = t} own rest e k s) nothing f f' = absurd (end_token before left' own rest t f' e k)
same_cut _ _ _ _ _ _ (a_token {t = t} own rest e k s) (a_gap own' rest' e' g' s') f f' = absurd (gap_token t.kind k.text own' own rest' rest (sym e' ∙ e) g' k.next)
same_cut before _ _ _ left left' (a_token {t = t} {ts = ts} own rest e k s) (a_token {t = u} {ts = us} own' rest' e' k' s') f f' =
    let same = same_next t.kind u.kind k.text k'.text own own' rest rest' (sym e ∙ e') k.next k'.next in
    let more = same_cut (before ++ own) rest ts us left left' s
    (subst (λ z. IsCut (before ++ z) rest us left') (sym same.own_is) (subst (λ z. IsCut (before ++ own') z us left') (sym same.rest_is) s')) f f' in
    (ap (λ z. z ∷ ts) (same_token before own own' rest rest' t u same.own_is same.kind k k') ∙ ap (λ z. u ∷ z) more.0, more.1)

-- a refusal is one of two
data Refusal (bytes : List ℕ) (r : ReadRefusal) : Type 0 where
  no_text : (n : ℕ) → r ≡ NotUtf8 n → (IsUtf8 bytes → ⊥) → IsValidUpTo bytes n → Refusal bytes r
  no_cut : (place : Place) → r ≡ Syntax place → IsSyntaxFault bytes place → Refusal bytes r

refusal : (bytes : List ℕ) (r : ReadRefusal) → IsRefused bytes r → Refusal bytes r
refusal bytes (NotUtf8 n) h = no_text n refl h.0 h.1
refusal bytes (Syntax place) h = no_cut place refl h
refusal bytes _ h = absurd h

same_fault : (bytes : List ℕ) (p q : Place) → IsSyntaxFault bytes p → IsSyntaxFault bytes q → p ≡ q
same_fault bytes p q a b =
    let left_is : a.left ≡ b.left = (same_cut [] bytes a.ts b.ts a.left b.left a.cut b.cut (inr a.stuck) (inr b.stuck)).1 in
    let before_is : a.before ≡ b.before = append_cancel_right a.before b.before b.left (subst (λ z. a.before ++ z ≡ b.before ++ b.left) left_is (sym a.split ∙ b.split)) in
    a.here ∙ (ap place_after before_is ∙ sym b.here)

same_refusal : (bytes : List ℕ) (r s : ReadRefusal) → Refusal bytes r → Refusal bytes s → r ≡ s
same_refusal bytes r s (no_text n e other valid) (no_text m e' other' valid') =
    e ∙ (ap NotUtf8 (sym (utf8_valid_len-IsValidUpTo bytes n valid) ∙ utf8_valid_len-IsValidUpTo bytes m valid') ∙ sym e')
same_refusal bytes r s (no_text n e other valid) (no_cut q e' b) = absurd (other b.utf8)
same_refusal bytes r s (no_cut p e a) (no_text m e' other' valid') = absurd (other' a.utf8)
same_refusal bytes r s (no_cut p e a) (no_cut q e' b) = e ∙ (ap Syntax (same_fault bytes p q a b) ∙ sym e')

-- tokens and a refusal are never both right
not_both : (bytes : List ℕ) (ts : List Token) (r : ReadRefusal) → AreTokens bytes ts → Refusal bytes r → ⊥
not_both bytes ts r a (no_text n e other valid) = other a.utf8
not_both bytes ts r a (no_cut p e b) = b.stuck.some (sym (same_cut [] bytes ts b.ts [] b.left a.cut b.cut (inl refl) (inr b.stuck)).1)

pub same_answer : (bytes : List ℕ) (a b : Result (List Token) ReadRefusal) → IsRight bytes a → IsRight bytes b → a ≡ b
same_answer bytes (Ok ts) (Ok us) a b = ap Ok (same_cut [] bytes ts us [] [] a.cut b.cut (inl refl) (inl refl)).0
same_answer bytes (Ok ts) (Err r) a b = absurd (not_both bytes ts r a (refusal bytes r b))
same_answer bytes (Err r) (Ok ts) a b = absurd (not_both bytes ts r b (refusal bytes r a))
same_answer bytes (Err r) (Err s) a b = ap Err (same_refusal bytes r s (refusal bytes r a) (refusal bytes s b))
