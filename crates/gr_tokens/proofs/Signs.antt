-- Signs at the front of some bytes.
use Rattle.std.specs.Prelude.{◌≡◌, ◌≢◌, ℕ, suc, ◌+◌, ◌≤◌, List, [], ◌∷◌, ◌++◌, length, take, drop, Bool, true, false, cond, ◌==◌, ◌||◌, ◌&&◌, if◌then◌else◌, Some, None, ◌⊎◌, refl}
use Rattle.std.proofs.Common.{sym, ap, ◌∙◌, subst, inl, inr, arith, get_or, lit≤}
use Rattle.std.proofs.lemmas.Bool.{eqb-true, ne_eqb, or_from}
use Rattle.std.proofs.lemmas.List.{take-append-drop, length-take-le}
use Rattle.std.proofs.lemmas.Option.{same_Some, none-some}
use Rattle.gr_base.specs.Lists.{IsAmong}
use Rattle.gr_base.proofs.ListLemmas.{Each-at, IsAmong-slice_get}
use Rattle.gr_text.specs.Words.{is_word_byte, begins_with_word_byte}
use Rattle.gr_tokens.specs.declared.Kind.{Kind}
use Rattle.gr_tokens.specs.declared.Kind.TheVariants.{Word, Str, Var, Punct}
use Rattle.gr_tokens.specs.Tokens.{signs, Writes, HasNoToken, is_blank}
use Rattle.gr_tokens.specs.Fronts.{BeginsWith, sign_width, repeat_width, dots_width, is_lone_sign}
use Rattle.gr_tokens.proofs.Openers.{kind_by, opens, next_from}

-- the width of the longest sign at the front
abbrev pub width_of : List ℕ → ℕ
width_of bytes = sign_width (get_or bytes 0 0) (get_or bytes 1 0) (get_or bytes 2 0) (get_or bytes 3 0)

le_cond : (b : Bool) (n x y : ℕ) → n ≤ x → n ≤ y → n ≤ (if b then x else y)
le_cond true n x y p q = p
le_cond false n x y p q = q

two_le : (n : ℕ) → 2 ≤ 2 + n
two_le n = omega arith

-- each sign is as wide as what the four bytes tell, or less
abbrev Fits : List ℕ → Type 0
Fits t = (more : List ℕ) → length t ≤ width_of (t ++ more)

one_or_more : (b : Bool) (n : ℕ) → 1 ≤ n → 1 ≤ (if b then n else 1)
one_or_more b n h = le_cond b 1 n 1 h (lit≤ tt)

dots_more : (d : ℕ) → 3 ≤ dots_width d
dots_more d = le_cond (d == 43) 3 4 3 (lit≤ tt) (lit≤ tt)

sign_fits : (t : List ℕ) → IsAmong signs t → Fits t
sign_fits t i = Each-at Fits signs t (
  (λ more. lit≤ tt),
  (
    (λ more. lit≤ tt),
    (
      (λ more. two_le (repeat_width (get_or more 0 0))),
      (
        (λ more. lit≤ tt),
        (
          (λ more. lit≤ tt),
          (
            (λ more. two_le (repeat_width (get_or more 0 0))),
            (
              (λ more. one_or_more (get_or more 0 0 == 62) (2 + repeat_width (get_or more 1 0)) (omega arith)),
              (
                (λ more. lit≤ tt),
                (
                  (λ more. lit≤ tt),
                  (
                    (λ more. dots_more (get_or more 0 0)),
                    (
                      (λ more. one_or_more ((get_or more 0 0 == 46) && (get_or more 1 0 == 46)) (dots_width (get_or more 2 0)) (let h = dots_more (get_or more 2 0) in omega arith)),
                      (
                        (λ more. lit≤ tt),
                        (
                          (λ more. one_or_more ((get_or more 0 0 == 44) && (get_or more 1 0 == 44)) 3 (lit≤ tt)),
                          (
                            (λ more. lit≤ tt),
                            (
                              (λ more. lit≤ tt),
                              (
                                (λ more. lit≤ tt),
                                (
                                  (λ more. lit≤ tt),
                                  (
                                    (λ more. lit≤ tt),
                                    (
                                      (λ more. lit≤ tt),
                                      (
                                        (λ more. lit≤ tt),
                                        (
                                          (λ more. lit≤ tt),
                                          (
                                            (λ more. lit≤ tt),
                                            (
                                              (λ more. lit≤ tt),
                                              ((λ more. lit≤ tt), tt),
                                            ),
                                          ),
                                        ),
                                      ),
                                    ),
                                  ),
                                ),
                              ),
                            ),
                          ),
                        ),
                      ),
                    ),
                  ),
                ),
              ),
            ),
          ),
        ),
      ),
    ),
  ),
) i

short_sign : (t : List ℕ) → IsAmong signs t → length t ≤ 255
short_sign t i = Each-at (λ z. length z ≤ 255) signs t
    (lit≤ tt, (lit≤ tt, (lit≤ tt, (lit≤ tt, (lit≤ tt, (lit≤ tt, (lit≤ tt, (lit≤ tt, (lit≤ tt, (lit≤ tt, (lit≤ tt, (lit≤ tt, (lit≤ tt, (lit≤ tt, (lit≤ tt, (lit≤ tt, (lit≤ tt, (lit≤ tt, (lit≤ tt, (lit≤ tt, (lit≤ tt, (lit≤ tt, (lit≤ tt, (lit≤ tt, tt)))))))))))))))))))))))) i

-- what the four bytes tell is none, or the width of a sign at the front
abbrev IsWidth : List ℕ → ℕ → Type 0
IsWidth bytes n = (n ≡ 0) ⊎ (IsAmong signs (take n bytes) × (n ≤ length bytes))

abbrev HasWidth : List ℕ → Type 0
HasWidth bytes = IsWidth bytes (width_of bytes)

-- a byte is a given one, or not
one_of : (P : ℕ → Type 0) (a k : ℕ) → P k → ((a == k) ≡ false → P a) → P a
one_of P a k is other = by (a == k) refl
  where
    by : (v : Bool) → (a == k) ≡ v → P a
    by true e = subst P (sym (eqb-true a k e)) is
    by false e = other e

-- behind `->` or `>>`
repeats : (b c : ℕ) (bs : List ℕ) → IsAmong signs (b ∷ c ∷ []) → IsAmong signs (b ∷ c ∷ 42 ∷ []) → IsAmong signs (b ∷ c ∷ 43 ∷ []) → IsWidth (b ∷ c ∷ bs) (2 + repeat_width (get_or bs 0 0))
repeats b c [] two star plus = inr (two, lit≤ tt)
repeats b c (d ∷ bs) two star plus =
    one_of (λ x. IsWidth (b ∷ c ∷ x ∷ bs) (2 + repeat_width x)) d 42 (inr (star, omega arith)) (λ n42.
    one_of (λ x. (x == 42) ≡ false → IsWidth (b ∷ c ∷ x ∷ bs) (2 + repeat_width x)) d 43 (λ n. inr (plus, omega arith)) (λ n43 n.
    subst (λ w. IsWidth (b ∷ c ∷ d ∷ bs) (2 + w)) (sym (none d n42 n43)) (inr (two, omega arith))) n42)
  where
    none : (x : ℕ) → (x == 42) ≡ false → (x == 43) ≡ false → repeat_width x ≡ 0
    none x p q = ap (λ v. if v || (x == 43) then 1 else 0) p ∙ ap (λ v. if v then 1 else 0) q

arrows : (bs : List ℕ) → HasWidth (45 ∷ bs)
arrows [] = inl refl
arrows (b ∷ bs) = one_of (λ x. HasWidth (45 ∷ x ∷ bs)) b 62
    (repeats 45 62 bs (IsAmong-slice_get signs 2 (45 ∷ 62 ∷ []) refl) (IsAmong-slice_get signs 0 (45 ∷ 62 ∷ 42 ∷ []) refl) (IsAmong-slice_get signs 1 (45 ∷ 62 ∷ 43 ∷ []) refl))
    (λ no. inl (ap (λ v. if v then 2 + repeat_width (get_or bs 0 0) else 0) no))

angles : (bs : List ℕ) → HasWidth (62 ∷ bs)
angles [] = inr (IsAmong-slice_get signs 6 (62 ∷ []) refl, lit≤ tt)
angles (b ∷ bs) = one_of (λ x. HasWidth (62 ∷ x ∷ bs)) b 62
    (repeats 62 62 bs (IsAmong-slice_get signs 5 (62 ∷ 62 ∷ []) refl) (IsAmong-slice_get signs 3 (62 ∷ 62 ∷ 42 ∷ []) refl) (IsAmong-slice_get signs 4 (62 ∷ 62 ∷ 43 ∷ []) refl))
    (λ no. subst (λ w. IsWidth (62 ∷ b ∷ bs) w) (sym (ap (λ v. if v then 2 + repeat_width (get_or bs 0 0) else 1) no)) (inr (IsAmong-slice_get signs 6 (62 ∷ []) refl, omega arith)))

dots : (bs : List ℕ) → HasWidth (46 ∷ bs)
dots [] = inr (IsAmong-slice_get signs 10 (46 ∷ []) refl, lit≤ tt)
dots (b ∷ []) = subst (λ w. IsWidth (46 ∷ b ∷ []) w) (sym (lone (b == 46))) (inr (IsAmong-slice_get signs 10 (46 ∷ []) refl, lit≤ tt))
  where
    lone : (v : Bool) → (if v && false then dots_width 0 else 1) ≡ 1
    lone true = refl
    lone false = refl
dots (b ∷ c ∷ bs) = one_of (λ x. HasWidth (46 ∷ x ∷ c ∷ bs)) b 46
    (one_of (λ x. HasWidth (46 ∷ 46 ∷ x ∷ bs)) c 46 (three bs)
    (λ no. subst (λ w. IsWidth (46 ∷ 46 ∷ c ∷ bs) w) (sym (ap (λ v. if v then dots_width (get_or bs 0 0) else 1) no)) (inr (IsAmong-slice_get signs 10 (46 ∷ []) refl, omega arith))))
    (λ no. subst (λ w. IsWidth (46 ∷ b ∷ c ∷ bs) w) (sym (ap (λ v. if v && (c == 46) then dots_width (get_or bs 0 0) else 1) no)) (inr (IsAmong-slice_get signs 10 (46 ∷ []) refl, omega arith)))
  where
    three : (bs : List ℕ) → HasWidth (46 ∷ 46 ∷ 46 ∷ bs)
    three [] = inr (IsAmong-slice_get signs 9 (46 ∷ 46 ∷ 46 ∷ []) refl, lit≤ tt)
    three (d ∷ bs) = one_of (λ x. HasWidth (46 ∷ 46 ∷ 46 ∷ x ∷ bs)) d 43 (inr (IsAmong-slice_get signs 8 (46 ∷ 46 ∷ 46 ∷ 43 ∷ []) refl, omega arith))
        (λ no. subst (λ w. IsWidth (46 ∷ 46 ∷ 46 ∷ d ∷ bs) w) (sym (ap (λ v. if v then 4 else 3) no)) (inr (IsAmong-slice_get signs 9 (46 ∷ 46 ∷ 46 ∷ []) refl, omega arith)))

commas : (bs : List ℕ) → HasWidth (44 ∷ bs)
commas [] = inr (IsAmong-slice_get signs 12 (44 ∷ []) refl, lit≤ tt)
commas (b ∷ []) = subst (λ w. IsWidth (44 ∷ b ∷ []) w) (sym (lone (b == 44) 3)) (inr (IsAmong-slice_get signs 12 (44 ∷ []) refl, lit≤ tt))
  where
    lone : (v : Bool) (n : ℕ) → (if v && false then n else 1) ≡ 1
    lone true n = refl
    lone false n = refl
commas (b ∷ c ∷ bs) = one_of (λ x. HasWidth (44 ∷ x ∷ c ∷ bs)) b 44
    (one_of (λ x. HasWidth (44 ∷ 44 ∷ x ∷ bs)) c 44 (inr (IsAmong-slice_get signs 11 (44 ∷ 44 ∷ 44 ∷ []) refl, omega arith))
    (λ no. subst (λ w. IsWidth (44 ∷ 44 ∷ c ∷ bs) w) (sym (ap (λ v. if v then 3 else 1) no)) (inr (IsAmong-slice_get signs 12 (44 ∷ []) refl, omega arith))))
    (λ no. subst (λ w. IsWidth (44 ∷ b ∷ c ∷ bs) w) (sym (ap (λ v. if v && (c == 44) then 3 else 1) no)) (inr (IsAmong-slice_get signs 12 (44 ∷ []) refl, omega arith)))

-- one byte that is a sign, or none
abbrev LoneWidth : List ℕ → ℕ → Type 0
LoneWidth bs a = IsWidth (a ∷ bs) (if is_lone_sign a then 1 else 0)

lone_at : (a : ℕ) (bs : List ℕ) → IsAmong signs (a ∷ []) → is_lone_sign a ≡ true → LoneWidth bs a
lone_at a bs among is = subst (λ v. IsWidth (a ∷ bs) (if v then 1 else 0)) (sym is) (inr (among, omega arith))

lones : (a : ℕ) (bs : List ℕ) → LoneWidth bs a
lones a bs =
    one_of (LoneWidth bs) a 60 (lone_at 60 bs (IsAmong-slice_get signs 7 (60 ∷ []) refl) refl) (λ n1.
    one_of (LoneWidth bs) a 59 (lone_at 59 bs (IsAmong-slice_get signs 13 (59 ∷ []) refl) refl) (λ n2.
    one_of (LoneWidth bs) a 58 (lone_at 58 bs (IsAmong-slice_get signs 14 (58 ∷ []) refl) refl) (λ n3.
    one_of (LoneWidth bs) a 61 (lone_at 61 bs (IsAmong-slice_get signs 15 (61 ∷ []) refl) refl) (λ n4.
    one_of (LoneWidth bs) a 124 (lone_at 124 bs (IsAmong-slice_get signs 16 (124 ∷ []) refl) refl) (λ n5.
    one_of (LoneWidth bs) a 33 (lone_at 33 bs (IsAmong-slice_get signs 17 (33 ∷ []) refl) refl) (λ n6.
    one_of (LoneWidth bs) a 40 (lone_at 40 bs (IsAmong-slice_get signs 18 (40 ∷ []) refl) refl) (λ n7.
    one_of (LoneWidth bs) a 41 (lone_at 41 bs (IsAmong-slice_get signs 19 (41 ∷ []) refl) refl) (λ n8.
    one_of (LoneWidth bs) a 91 (lone_at 91 bs (IsAmong-slice_get signs 20 (91 ∷ []) refl) refl) (λ n9.
    one_of (LoneWidth bs) a 93 (lone_at 93 bs (IsAmong-slice_get signs 21 (93 ∷ []) refl) refl) (λ n10.
    one_of (LoneWidth bs) a 123 (lone_at 123 bs (IsAmong-slice_get signs 22 (123 ∷ []) refl) refl) (λ n11.
    one_of (LoneWidth bs) a 125 (lone_at 125 bs (IsAmong-slice_get signs 23 (125 ∷ []) refl) refl) (λ n12.
    inl (ap (λ v. if v then 1 else 0) (none n1 n2 n3 n4 n5 n6 n7 n8 n9 n10 n11 n12))))))))))))))
  where
    none : (a == 60) ≡ false → (a == 59) ≡ false → (a == 58) ≡ false → (a == 61) ≡ false → (a == 124) ≡ false → (a == 33) ≡ false → (a == 40) ≡ false → (a == 41) ≡ false → (a == 91) ≡ false → (a == 93) ≡ false → (a == 123) ≡ false → (a == 125) ≡ false → is_lone_sign a ≡ false
    none n1 n2 n3 n4 n5 n6 n7 n8 n9 n10 n11 n12 =
        or_from (a == 60) _ n1 (or_from (a == 59) _ n2 (or_from (a == 58) _ n3 (or_from (a == 61) _ n4 (or_from (a == 124) _ n5 (or_from (a == 33) _ n6 (or_from (a == 40) _ n7 (or_from (a == 41) _ n8 (or_from (a == 91) _ n9 (or_from (a == 93) _ n10 (or_from (a == 123) (a == 125) n11 n12))))))))))

-- four bytes of which the first begins no longer sign
plain : (a b c d : ℕ) → (a == 45) ≡ false → (a == 62) ≡ false → (a == 46) ≡ false → (a == 44) ≡ false → sign_width a b c d ≡ (if is_lone_sign a then 1 else 0)
plain a b c d n45 n62 n46 n44 =
    ap (λ v. if v then (if b == 62 then 2 + repeat_width c else 0) else (if a == 62 then (if b == 62 then 2 + repeat_width c else 1) else (if a == 46 then (if (b == 46) && (c == 46) then dots_width d else 1) else (if a == 44 then (if (b == 44) && (c == 44) then 3 else 1) else (if is_lone_sign a then 1 else 0))))) n45
    ∙ (ap (λ v. if v then (if b == 62 then 2 + repeat_width c else 1) else (if a == 46 then (if (b == 46) && (c == 46) then dots_width d else 1) else (if a == 44 then (if (b == 44) && (c == 44) then 3 else 1) else (if is_lone_sign a then 1 else 0)))) n62
    ∙ (ap (λ v. if v then (if (b == 46) && (c == 46) then dots_width d else 1) else (if a == 44 then (if (b == 44) && (c == 44) then 3 else 1) else (if is_lone_sign a then 1 else 0))) n46
    ∙ ap (λ v. if v then (if (b == 44) && (c == 44) then 3 else 1) else (if is_lone_sign a then 1 else 0)) n44))

width_is : (bytes : List ℕ) → HasWidth bytes
width_is [] = inl refl
width_is (a ∷ bs) =
    one_of (λ x. HasWidth (x ∷ bs)) a 45 (arrows bs) (λ n45.
    one_of (λ x. HasWidth (x ∷ bs)) a 62 (angles bs) (λ n62.
    one_of (λ x. HasWidth (x ∷ bs)) a 46 (dots bs) (λ n46.
    one_of (λ x. HasWidth (x ∷ bs)) a 44 (commas bs) (λ n44.
    subst (λ w. IsWidth (a ∷ bs) w) (sym (plain a (get_or bs 0 0) (get_or bs 1 0) (get_or bs 2 0) n45 n62 n46 n44)) (lones a bs)))))

pub sign_begins : (bytes : List ℕ) (n : ℕ) → n ≡ width_of bytes → n ≢ 0 → BeginsWith bytes Punct n
sign_begins bytes n is some = by (subst (λ w. IsWidth bytes w) (sym is) (width_is bytes))
  where
    by : IsWidth bytes n → BeginsWith bytes Punct n
    by (inl none) = absurd (some none)
    by (inr h) = record {
      text = take n bytes;
      next = next_from Punct (take n bytes) (take n bytes) (drop n bytes) (refl, h.0) (λ t front more e v.
          let same : t ++ more ≡ bytes = ap (λ z. z ++ more) (sym v.0) ∙ (e ∙ take-append-drop n bytes) in
          let fits : length t ≤ width_of bytes = subst (λ z. length t ≤ width_of z) same (sign_fits t v.1 more) in
          let whole : length (take n bytes) ≡ n = length-take-le n bytes h.1 in
          omega (arith, ap length v.0));
      short = short_sign (take n bytes) h.0;
      within = h.1;
    }

-- a byte that begins no word, variable or string may begin a sign alone
sign_alone : (b : ℕ) (k : Kind) → is_word_byte b ≡ false → b ≢ 63 → b ≢ 34 → kind_by b ≡ Some k → k ≡ Punct
sign_alone b k no_word no_var no_string is =
    by (is_blank b || (b == 37)) (sym (
    ap (λ v. cond v (Some Word) (cond (b == 63) (Some Var) (cond (b == 34) (Some Str) (cond (is_blank b || (b == 37)) None (Some Punct))))) no_word
    ∙ (ap (λ v. cond v (Some Var) (cond (b == 34) (Some Str) (cond (is_blank b || (b == 37)) None (Some Punct)))) (ne_eqb b 63 no_var)
    ∙ ap (λ v. cond v (Some Str) (cond (is_blank b || (b == 37)) None (Some Punct))) (ne_eqb b 34 no_string))) ∙ is)
  where
    by : (v : Bool) → cond v None (Some Punct) ≡ Some k → k ≡ Punct
    by true e = absurd (none-some k e)
    by false e = sym (same_Some Punct k e)

pub sign_none : (bytes : List ℕ) → width_of bytes ≡ 0 → begins_with_word_byte bytes ≡ false → get_or bytes 0 0 ≢ 63 → get_or bytes 0 0 ≢ 34 → HasNoToken bytes
sign_none bytes none no_word no_var no_string k text own rest e next short =
    let a = opens k text own next.writes in
    let whole : bytes ≡ a.0 ∷ (a.1 ++ rest) = e ∙ ap (λ z. z ++ rest) a.2 in
    let first : get_or bytes 0 0 ≡ a.0 = ap (λ z. get_or z 0 0) whole in
    let plain_byte : is_word_byte a.0 ≡ false = sym (ap begins_with_word_byte whole) ∙ no_word in
    let same : k ≡ Punct = sign_alone a.0 k plain_byte (λ h. no_var (first ∙ h)) (λ h. no_string (first ∙ h)) a.3 in
    let w : Writes Punct text own = subst (λ z. Writes z text own) same next.writes in
    let back : text ++ rest ≡ bytes = ap (λ z. z ++ rest) (sym w.0) ∙ sym e in
    let fits : length text ≤ width_of bytes = subst (λ z. length text ≤ width_of z) back (sign_fits text w.1 rest) in
    let long : length text ≡ suc (length a.1) = ap length (sym w.0 ∙ a.2) in
    omega arith

pub width_same : (a b c d a' b' c' d' : ℕ) → a ≡ a' → b ≡ b' → c ≡ c' → d ≡ d' → sign_width a b c d ≡ sign_width a' b' c' d'
width_same a b c d a' b' c' d' p q r s =
    ap (λ x. sign_width x b c d) p ∙ (ap (λ x. sign_width a' x c d) q ∙ (ap (λ x. sign_width a' b' x d) r ∙ ap (λ x. sign_width a' b' c' x) s))
