-- There is a right answer for each text.
use Rattle.std.specs.Prelude.{◌≡◌, ◌≢◌, ℕ, zero, suc, ◌+◌, ◌<◌, ◌≤◌, List, [], ◌∷◌, ◌++◌, length, take, drop, Result, Ok, Err, Bool, true, false, ◌==◌, ◌||◌, ◌&&◌, ◌⊎◌, refl}
use Rattle.std.proofs.Common.{sym, ap, ◌∙◌, subst, inl, inr, arith, get_or, eq-eqb, append_assoc}
use Rattle.std.specs.Str.{IsUtf8, is_utf8, IsValidUpTo}
use Rattle.std.proofs.lemmas.Bool.{false≢true, cases_Bool, cases_lt, eqb-true, and_from}
use Rattle.std.proofs.lemmas.List.{take-append-drop, take_all, length-take-le, length-drop}
use Rattle.std.proofs.lemmas.Str.{IsUtf8-nil, IsUtf8-from_is_utf8, is_utf8-from_IsUtf8}
use Rattle.gr_base.specs.Lists.{Each}
use Rattle.gr_text.specs.Words.{is_word_byte, begins_with_word_byte, is_word_rest, IsStringByte}
use Rattle.gr_text.specs.Places.{place_after}
use Rattle.gr_tokens.specs.declared.Kind.{Kind}
use Rattle.gr_tokens.specs.declared.Kind.TheVariants.{Word, Str, Var, Punct}
use Rattle.gr_tokens.specs.declared.Token.{Token}
use Rattle.gr_tokens.specs.declared.ReadRefusal.{ReadRefusal}
use Rattle.gr_tokens.specs.declared.ReadRefusal.TheVariants.{Syntax, NotUtf8}
use Rattle.gr_tokens.specs.Tokens.{IsCut, nothing, a_gap, a_token, IsGap, blank, comment, is_blank, EndsLine, HasNoGap, HasNoToken}
use Rattle.gr_tokens.specs.Answers.{IsRight}
use Rattle.gr_tokens.specs.Fronts.{EndsWord, EndsInside, BeginsWith}
use Rattle.gr_tokens.proofs.Openers.{next_some}
use Rattle.gr_tokens.proofs.Runs.{Ends}
use Rattle.gr_tokens.proofs.WordFronts.{begins-take, word_begins, word_long, variable_begins, variable_long, variable_none}
use Rattle.gr_tokens.proofs.StringFronts.{string_begins, string_none}
use Rattle.gr_tokens.proofs.Signs.{width_of, sign_begins, sign_none}
use Rattle.gr_tokens.proofs.OneAnswer.{IsEnd, no_gap}

-- the longest front of bytes of one kind
record Run (P : ℕ → Type 0) (bytes : List ℕ) (n : ℕ) : Type 0 where
  pub within : n ≤ length bytes
  pub each : Each P (take n bytes)
  pub ends : Ends P (drop n bytes)

run : (P : ℕ → Type 0) → ((b : ℕ) → P b ⊎ (P b → ⊥)) → (bytes : List ℕ) → (n : ℕ) × Run P bytes n
run P test [] = (0, record { within = omega arith; each = tt; ends = tt })
run P test (b ∷ bytes) = elim (test b) [
  | inl p ↦ let r = run P test bytes in (suc r.0, record { within = let w = r.1.within in omega arith; each = (p, r.1.each); ends = r.1.ends })
  | inr q ↦ (0, record { within = omega arith; each = tt; ends = q })
]

-- the longest front that a word goes on with
record WordRun (bytes : List ℕ) (n : ℕ) : Type 0 where
  pub within : n ≤ length bytes
  pub is : is_word_rest (take n bytes) ≡ true
  pub ends : EndsWord (drop n bytes)

goes_to : (b : ℕ) (bytes : List ℕ) (n : ℕ) → EndsWord (drop n bytes) → (is_word_byte b || ((b == 45) && begins_with_word_byte bytes)) ≡ true → (is_word_byte b || ((b == 45) && begins_with_word_byte (take n bytes))) ≡ true
goes_to b bytes n ends h = by (is_word_byte b) (b == 45) (begins_with_word_byte bytes) refl h
  where
    by : (x y z : Bool) → begins_with_word_byte bytes ≡ z → (x || (y && z)) ≡ true → (x || (y && begins_with_word_byte (take n bytes))) ≡ true
    by true y z e h = refl
    by false true z e h = begins-take bytes n (e ∙ h) ends
    by false false z e h = absurd (false≢true h)

word_run : (bytes : List ℕ) → (n : ℕ) × WordRun bytes n
word_run [] = (0, record { within = omega arith; is = refl; ends = tt })
word_run (b ∷ bytes) = elim (cases_Bool (is_word_byte b || ((b == 45) && begins_with_word_byte bytes))) [
  | inl h ↦ let r = word_run bytes in
      (suc r.0, record { within = let w = r.1.within in omega arith; is = and_from _ (is_word_rest (take r.0 bytes)) (goes_to b bytes r.0 r.1.ends h) r.1.is; ends = r.1.ends })
  | inr h ↦ (0, record { within = omega arith; is = refl; ends = h })
]

-- the token that bytes begin with, or there is none
abbrev Next : List ℕ → Type 0
Next bytes = ((kind : Kind) × (n : ℕ) × BeginsWith bytes kind n) ⊎ HasNoToken bytes

word_or_none : (bytes : List ℕ) → begins_with_word_byte bytes ≡ true → Next bytes
word_or_none bytes begins =
    let r = word_run bytes in
    elim (cases_lt 255 r.0) [
      | inl long ↦ inr (word_long bytes r.0 r.1.within begins r.1.is r.1.ends long)
      | inr short ↦ inl (Word, r.0, word_begins bytes r.0 r.1.within begins r.1.is r.1.ends short)
    ]

variable_or_none : (bytes : List ℕ) → Next (63 ∷ bytes)
variable_or_none bytes = elim (cases_Bool (begins_with_word_byte bytes)) [
  | inl begins ↦
      let r = word_run bytes in
      elim (cases_lt 255 r.0) [
        | inl long ↦ inr (variable_long bytes r.0 r.1.within begins r.1.is r.1.ends long)
        | inr short ↦ inl (Var, suc r.0, variable_begins bytes r.0 r.1.within begins r.1.is r.1.ends (suc r.0) refl short)
      ]
  | inr other ↦ inr (variable_none bytes other)
]

string_byte : (b : ℕ) → IsStringByte b ⊎ (IsStringByte b → ⊥)
string_byte b = elim (cases_lt b 32) [
  | inl low ↦ inr (λ h. let l : 32 ≤ b = h.0 in omega arith)
  | inr high ↦ elim (cases_Bool (b == 34)) [
    | inl e ↦ inr (λ h. h.1 (eqb-true b 34 e))
    | inr n34 ↦ elim (cases_Bool (b == 92)) [
      | inl e ↦ inr (λ h. h.2 (eqb-true b 92 e))
      | inr n92 ↦ elim (cases_Bool (b == 127)) [
        | inl e ↦ inr (λ h. h.3 (eqb-true b 127 e))
        | inr n127 ↦ inl (high, apart b 34 n34, apart b 92 n92, apart b 127 n127)
      ]
    ]
  ]
]
  where
    apart : (b k : ℕ) → (b == k) ≡ false → b ≡ k → ⊥
    apart b k n e = false≢true (sym n ∙ (ap (λ x. x == k) e ∙ same k))
      where
        same : (k : ℕ) → (k == k) ≡ true
        same k = eq-eqb k k refl

as_inside : (xs : List ℕ) → Ends IsStringByte xs → EndsInside xs
as_inside [] h = tt
as_inside (x ∷ xs) h = h

string_or_none : (bytes : List ℕ) → Next (34 ∷ bytes)
string_or_none bytes =
    let r = run IsStringByte string_byte bytes in
    let none : (r.0 < length bytes → get_or bytes r.0 0 ≡ 34 → r.0 ≤ 255 → ⊥) → HasNoToken (34 ∷ bytes) = string_none bytes r.0 r.1.within r.1.each (as_inside (drop r.0 bytes) r.1.ends) in
    elim (cases_lt r.0 (length bytes)) [
      | inl more ↦ elim (cases_Bool (get_or bytes r.0 0 == 34)) [
        | inl quote ↦ elim (cases_lt 255 r.0) [
          | inl long ↦ inr (none (λ m q s. omega arith))
          | inr short ↦ inl (Str, suc (r.0 + 1), string_begins bytes r.0 (suc (r.0 + 1)) more r.1.each (eqb-true (get_or bytes r.0 0) 34 quote) short refl)
        ]
        | inr other ↦ inr (none (λ m q s. false≢true (sym other ∙ eq-eqb (get_or bytes r.0 0) 34 q)))
      ]
      | inr all ↦ inr (none (λ m q s. omega arith))
    ]

sign_or_none : (bytes : List ℕ) → begins_with_word_byte bytes ≡ false → get_or bytes 0 0 ≢ 63 → get_or bytes 0 0 ≢ 34 → Next bytes
sign_or_none bytes no_word no_var no_string = elim (cases_Bool (width_of bytes == 0)) [
  | inl e ↦ inr (sign_none bytes (eqb-true (width_of bytes) 0 e) no_word no_var no_string)
  | inr n ↦ inl (Punct, width_of bytes, sign_begins bytes (width_of bytes) refl (λ e. false≢true (sym n ∙ eq-eqb (width_of bytes) 0 e)))
]

next_of : (b : ℕ) (bytes : List ℕ) → Next (b ∷ bytes)
next_of b bytes = elim (cases_Bool (is_word_byte b)) [
  | inl w ↦ word_or_none (b ∷ bytes) w
  | inr no_word ↦ elim (cases_Bool (b == 63)) [
    | inl e ↦ subst (λ x. Next (x ∷ bytes)) (sym (eqb-true b 63 e)) (variable_or_none bytes)
    | inr n63 ↦ elim (cases_Bool (b == 34)) [
      | inl e ↦ subst (λ x. Next (x ∷ bytes)) (sym (eqb-true b 34 e)) (string_or_none bytes)
      | inr n34 ↦ sign_or_none (b ∷ bytes) no_word (λ e. false≢true (sym n63 ∙ eq-eqb b 63 e)) (λ e. false≢true (sym n34 ∙ eq-eqb b 34 e))
    ]
  ]
]

-- the gap that bytes begin with, or there is none
record Gap (bytes : List ℕ) (n : ℕ) : Type 0 where
  pub some : 0 < n
  pub within : n ≤ length bytes
  pub is : IsGap (take n bytes) (drop n bytes)

other_byte : (b : ℕ) → (b ≢ 10) ⊎ (b ≢ 10 → ⊥)
other_byte b = elim (cases_Bool (b == 10)) [ inl e ↦ inr (λ h. h (eqb-true b 10 e)) | inr n ↦ inl (λ e. false≢true (sym n ∙ eq-eqb b 10 e)) ]

line_end : (xs : List ℕ) → Ends (λ b. b ≢ 10) xs → EndsLine xs
line_end [] h = tt
line_end (x ∷ xs) h = elim (cases_Bool (x == 10)) [ inl e ↦ eqb-true x 10 e | inr n ↦ absurd (h (λ e. false≢true (sym n ∙ eq-eqb x 10 e))) ]

gap_of : (b : ℕ) (bytes : List ℕ) → ((n : ℕ) × Gap (b ∷ bytes) n) ⊎ HasNoGap (b ∷ bytes)
gap_of b bytes = elim (cases_Bool (is_blank b)) [
  | inl h ↦ inl (1, record { some = omega arith; within = omega arith; is = blank b refl h })
  | inr nb ↦ elim (cases_Bool (b == 37)) [
    | inl e ↦
        let r = run (λ x. x ≢ 10) other_byte bytes in
        inl (suc r.0, record { some = omega arith; within = let w = r.1.within in omega arith; is = comment (take r.0 bytes) (ap (λ x. x ∷ take r.0 bytes) (eqb-true b 37 e)) r.1.each (line_end (drop r.0 bytes) r.1.ends) })
    | inr n37 ↦ inr (no_gap b bytes nb (λ e. false≢true (sym n37 ∙ eq-eqb b 37 e)))
  ]
]

-- the cutting of bytes up to where it ends
record Cut (before bytes : List ℕ) : Type 0 where
  pub ts : List Token
  pub passed : List ℕ
  pub left : List ℕ
  pub split : bytes ≡ passed ++ left
  pub cut : IsCut before bytes ts left
  pub end : IsEnd left

shorter : (bytes : List ℕ) (n fuel : ℕ) → 0 < n → n ≤ length bytes → length bytes ≤ suc fuel → length (drop n bytes) ≤ fuel
shorter bytes n fuel some within most = omega (arith, length-drop n bytes)

joined_split : (bytes : List ℕ) (n : ℕ) (passed left : List ℕ) → drop n bytes ≡ passed ++ left → bytes ≡ (take n bytes ++ passed) ++ left
joined_split bytes n passed left e = sym (take-append-drop n bytes) ∙ (ap (λ z. take n bytes ++ z) e ∙ sym (append_assoc (take n bytes) passed left))

cut_of : (fuel : ℕ) (before bytes : List ℕ) → length bytes ≤ fuel → Cut before bytes
cut_of fuel before [] most = record { ts = []; passed = []; left = []; split = refl; cut = nothing; end = inl refl }
cut_of zero before (b ∷ bytes) most = absurd (omega arith)
cut_of (suc fuel) before (b ∷ bytes) most = elim (gap_of b bytes) [
  | inl g ↦
      let n = g.0 in
      let r = cut_of fuel (before ++ take n (b ∷ bytes)) (drop n (b ∷ bytes)) (shorter (b ∷ bytes) n fuel g.1.some g.1.within most) in
      record {
        ts = r.ts;
        passed = take n (b ∷ bytes) ++ r.passed;
        left = r.left;
        split = joined_split (b ∷ bytes) n r.passed r.left r.split;
        cut = a_gap (take n (b ∷ bytes)) (drop n (b ∷ bytes)) (sym (take-append-drop n (b ∷ bytes))) g.1.is r.cut;
        end = r.end;
      }
  | inr no_gap_here ↦ elim (next_of b bytes) [
    | inl k ↦
        let n = k.1 in
        let begun = k.2 in
        let some : 0 < length (take n (b ∷ bytes)) = next_some k.0 begun.text (take n (b ∷ bytes)) (drop n (b ∷ bytes)) begun.next in
        let whole : length (take n (b ∷ bytes)) ≡ n = length-take-le n (b ∷ bytes) begun.within in
        let r = cut_of fuel (before ++ take n (b ∷ bytes)) (drop n (b ∷ bytes)) (shorter (b ∷ bytes) n fuel (omega arith) begun.within most) in
        let t : Token = record { kind = k.0; from = length before; to = length (before ++ take n (b ∷ bytes)); place = place_after before } in
        record {
          ts = t ∷ r.ts;
          passed = take n (b ∷ bytes) ++ r.passed;
          left = r.left;
          split = joined_split (b ∷ bytes) n r.passed r.left r.split;
          cut = a_token (take n (b ∷ bytes)) (drop n (b ∷ bytes)) (sym (take-append-drop n (b ∷ bytes)))
              (record { text = begun.text; next = begun.next; short = begun.short; begins = refl; ends = refl; stands = refl }) r.cut;
          end = r.end;
        }
    | inr no_token_here ↦ record {
      ts = [];
      passed = [];
      left = b ∷ bytes;
      split = refl;
      cut = nothing;
      end = inr (record { some = λ e. cc; no_gap = no_gap_here; no_token = no_token_here });
    }
  ]
]

-- a front that is UTF-8 of a text that isn't is not all of it
front_below : (bytes : List ℕ) (m : ℕ) → (IsUtf8 bytes → ⊥) → IsUtf8 (take m bytes) → m < length bytes
front_below bytes m other front = elim (cases_lt m (length bytes)) [
  | inl less ↦ less
  | inr all ↦ absurd (other (subst (λ z. IsUtf8 z) (take_all m bytes all) front))
]

-- the longest front that is UTF-8, where none longer than m is
valid_below : (bytes : List ℕ) (m : ℕ) → (IsUtf8 bytes → ⊥) → m ≤ length bytes → ((k : ℕ) → m < k → IsUtf8 (take k bytes) → ⊥) → (n : ℕ) × IsValidUpTo bytes n
valid_below bytes zero other within above = (0, record { short = front_below bytes 0 other IsUtf8-nil; front = IsUtf8-nil; longest = above })
valid_below bytes (suc m) other within above = elim (cases_Bool (is_utf8 (take (suc m) bytes))) [
  | inl h ↦
      let front : IsUtf8 (take (suc m) bytes) = IsUtf8-from_is_utf8 (take (suc m) bytes) h in
      (suc m, record { short = front_below bytes (suc m) other front; front = front; longest = above })
  | inr n ↦ valid_below bytes m other (omega arith) (λ k more u. elim (cases_lt (suc m) k) [
    | inl far ↦ above k far u
    | inr near ↦ let same : k ≡ suc m = omega arith in false≢true (sym n ∙ is_utf8-from_IsUtf8 (take (suc m) bytes) (subst (λ z. IsUtf8 (take z bytes)) same u))
  ])
]

of_cut : (bytes : List ℕ) → IsUtf8 bytes → Cut [] bytes → (answer : Result (List Token) ReadRefusal) × IsRight bytes answer
of_cut bytes u c = by c.end
  where
    by : IsEnd c.left → (answer : Result (List Token) ReadRefusal) × IsRight bytes answer
    by (inl e) = (Ok c.ts, record { utf8 = u; cut = subst (λ z. IsCut [] bytes c.ts z) e c.cut })
    by (inr s) = (Err (Syntax (place_after c.passed)), record { utf8 = u; ts = c.ts; before = c.passed; left = c.left; split = c.split; cut = c.cut; stuck = s; here = refl })

pub some_answer : (bytes : List ℕ) → (answer : Result (List Token) ReadRefusal) × IsRight bytes answer
some_answer bytes = elim (cases_Bool (is_utf8 bytes)) [
  | inl h ↦ of_cut bytes (IsUtf8-from_is_utf8 bytes h) (cut_of (length bytes) [] bytes (omega arith))
  | inr n ↦
      let other : IsUtf8 bytes → ⊥ = λ u. false≢true (sym n ∙ is_utf8-from_IsUtf8 bytes u) in
      let v = valid_below bytes (length bytes) other (omega arith) (λ k more u. other (subst (λ z. IsUtf8 z) (take_all k bytes (omega arith)) u)) in
      (Err (NotUtf8 v.0), (other, v.1))
]
