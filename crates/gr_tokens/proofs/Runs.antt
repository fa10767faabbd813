-- The longest run of bytes of one kind at a front, and tokens have no LF.
use Rattle.std.specs.Prelude.{◌≡◌, ◌≢◌, ℕ, ◌≤◌, List, [], ◌∷◌, ◌++◌, Bool, true, false, ◌==◌, ◌||◌, ◌&&◌, not, ⊤, refl}
use Rattle.std.proofs.Common.{sym, ap, ◌∙◌, subst, arith}
use Rattle.std.proofs.lemmas.Bool.{false≢true, and_parts}
use Rattle.gr_base.specs.Lists.{IsAmong, Each}
use Rattle.gr_base.proofs.ListLemmas.{same_head, same_tail, Each-at, Each-append}
use Rattle.gr_text.specs.Words.{is_word_byte, begins_with_word_byte, is_word_rest, IsStringByte}
use Rattle.gr_tokens.specs.declared.Kind.{Kind}
use Rattle.gr_tokens.specs.declared.Kind.TheVariants.{Word, Str, Var, Punct}
use Rattle.gr_tokens.specs.Tokens.{signs, Writes}

abbrev pub Ends : (ℕ → Type 0) → List ℕ → Type 0
Ends P [] = ⊤
Ends P (b ∷ bytes) = P b → ⊥

pub same_run : (P : ℕ → Type 0) (v w xs ys : List ℕ) → Each P v → Each P w → Ends P xs → Ends P ys → v ++ xs ≡ w ++ ys → (v ≡ w) × (xs ≡ ys)
same_run P [] [] xs ys p q a b e = (refl, e)
same_run P [] (d ∷ w) xs ys p q a b e = absurd (subst (λ z. Ends P z) e a q.0)
same_run P (c ∷ v) [] xs ys p q a b e = absurd (subst (λ z. Ends P z) (sym e) b p.0)
same_run P (c ∷ v) (d ∷ w) xs ys p q a b e =
    let r = same_run P v w xs ys p.1 q.1 a b (same_tail c d (v ++ xs) (w ++ ys) e) in
    (let h = same_head c d (v ++ xs) (w ++ ys) e in let t : v ≡ w = r.0 in cc, r.1)

-- no byte is LF, as a test
abbrev no_feed : List ℕ → Bool
no_feed [] = true
no_feed (b ∷ bs) = not (b == 10) && no_feed bs

no_feed-Each : (bs : List ℕ) → no_feed bs ≡ true → Each (λ b. b ≢ 10) bs
no_feed-Each [] h = tt
no_feed-Each (b ∷ bs) h =
    (λ e. false≢true (ap (λ x. not (x == 10)) (sym e) ∙ (and_parts (not (b == 10)) _ h).0), no_feed-Each bs (and_parts (not (b == 10)) _ h).1)

word_feed : (w : List ℕ) → is_word_rest w ≡ true → Each (λ b. b ≢ 10) w
word_feed [] h = tt
word_feed (b ∷ w) h =
    let parts = and_parts (is_word_byte b || ((b == 45) && begins_with_word_byte w)) (is_word_rest w) h in
    (λ e. false≢true (ap (λ x. is_word_byte x || ((x == 45) && begins_with_word_byte w)) (sym e) ∙ parts.0), word_feed w parts.1)

inside_feed : (w : List ℕ) → Each IsStringByte w → Each (λ b. b ≢ 10) w
inside_feed [] h = tt
inside_feed (b ∷ w) h = (λ e. let low : 32 ≤ b = h.0.0 in omega arith, inside_feed w h.1)

pub not_feed : (b : ℕ) → (b == 10) ≡ false → b ≢ 10
not_feed b h e = false≢true (sym h ∙ ap (λ x. x == 10) e)

sign_feed : (t : List ℕ) → IsAmong signs t → no_feed t ≡ true
sign_feed t i = Each-at (λ z. no_feed z ≡ true) signs t
    (refl, (refl, (refl, (refl, (refl, (refl, (refl, (refl, (refl, (refl, (refl, (refl, (refl, (refl, (refl, (refl, (refl, (refl, (refl, (refl, (refl, (refl, (refl, (refl, tt)))))))))))))))))))))))) i

-- a token has no LF
pub token_feedless : (k : Kind) (t own : List ℕ) → Writes k t own → Each (λ b. b ≢ 10) own
token_feedless Word t own w = subst (λ z. Each (λ b. b ≢ 10) z) (sym w.0) (word_feed t (and_parts (begins_with_word_byte t) _ w.1).1)
token_feedless Var t own w = subst (λ z. Each (λ b. b ≢ 10) z) (sym w.0) (not_feed 63 refl, word_feed t (and_parts (begins_with_word_byte t) _ w.1).1)
token_feedless Str t own w = subst (λ z. Each (λ b. b ≢ 10) z) (sym w.0) (not_feed 34 refl, Each-append (λ b. b ≢ 10) t (34 ∷ []) (inside_feed t w.1) (not_feed 34 refl, tt))
token_feedless Punct t own w = subst (λ z. Each (λ b. b ≢ 10) z) (sym w.0) (no_feed-Each t (sign_feed t w.1))
