-- How the place after some bytes changes by one more byte at the end.
use Rattle.std.specs.List.{after_last, prefix_len, suffix_len}
use Rattle.std.proofs.Common.{◌≡◌, ◌≢◌, ℕ, ◌+◌, ◌≤◌, Bool, true, false, not, cond, ◌==◌, if◌then◌else◌, List, [], ◌∷◌, ◌++◌, length, refl, sym, ap, ap₂, ◌∙◌, arith, length-drop}
use Rattle.std.proofs.lemmas.Bool.{ne_eqb}
use Rattle.std.proofs.lemmas.List.{reverse-append}
use Rattle.std.proofs.lemmas.List.Sums.{sum_by-append, count_by-le-length, suffix_len-le-length}
use Rattle.gr_text.specs.Places.{is_line_feed, line_after, column_after, place_after}

-- what stands behind the last element that passes is the longest end in which none does
length-after_last : {X : Type 0} (p : X → Bool) (xs : List X) → length (after_last p xs) ≡ suffix_len (λ x. not (p x)) xs
length-after_last p xs =
    let short : suffix_len (λ x. not (p x)) xs ≤ length xs = suffix_len-le-length (λ x. not (p x)) xs in
    rw length-drop (omega arith)

length-after_last-append : {X : Type 0} (p : X → Bool) (xs : List X) (x : X)
    → length (after_last p (xs ++ x ∷ [])) ≡ cond (p x) 0 (1 + length (after_last p xs))
length-after_last-append p xs x = by (p x) refl
  where
    longer : suffix_len (λ y. not (p y)) (xs ++ x ∷ []) ≡ cond (not (p x)) (1 + suffix_len (λ y. not (p y)) xs) 0
    longer = ap (prefix_len (λ y. not (p y))) (reverse-append xs (x ∷ []))

    by : (b : Bool) → p x ≡ b → length (after_last p (xs ++ x ∷ [])) ≡ cond b 0 (1 + length (after_last p xs))
    by true e = length-after_last p (xs ++ x ∷ []) ∙ longer ∙ ap (λ b. cond (not b) (1 + suffix_len (λ y. not (p y)) xs) 0) e
    by false e =
        length-after_last p (xs ++ x ∷ []) ∙ longer ∙ ap (λ b. cond (not b) (1 + suffix_len (λ y. not (p y)) xs) 0) e
        ∙ ap (λ n. 1 + n) (sym (length-after_last p xs))

-- one more byte at the end adds a line where it is LF
pub line_after-append : (bytes : List ℕ) (b : ℕ) → line_after (bytes ++ b ∷ []) ≡ line_after bytes + cond (is_line_feed b) 1 0
unfolding line_after
line_after-append bytes b = omega (arith, sum_by-append (λ x. cond (is_line_feed x) 1 0) bytes (b ∷ []))

-- and begins the columns again there, or else adds one
pub column_after-append : (bytes : List ℕ) (b : ℕ) → column_after (bytes ++ b ∷ []) ≡ cond (is_line_feed b) 1 (column_after bytes + 1)
unfolding column_after
column_after-append bytes b = by (is_line_feed b) (length-after_last-append is_line_feed bytes b)
  where
    by : (v : Bool) → length (after_last is_line_feed (bytes ++ b ∷ [])) ≡ cond v 0 (1 + length (after_last is_line_feed bytes))
        → 1 + length (after_last is_line_feed (bytes ++ b ∷ [])) ≡ cond v 1 (1 + length (after_last is_line_feed bytes) + 1)
    by true e = omega arith
    by false e = omega arith

-- the place at the beginning
pub place_after-nil : place_after [] ≡ record { line = 1; column = 1 }
unfolding line_after column_after
place_after-nil = refl

-- behind an LF the next line begins, and behind any other byte stands the next column
pub place_after-append : (bytes : List ℕ) (b : ℕ)
    → place_after (bytes ++ b ∷ [])
    ≡ (if b == 10 then record { line = line_after bytes + 1; column = 1 } else record { line = line_after bytes; column = column_after bytes + 1 })
place_after-append bytes b = by (b == 10) (line_after-append bytes b) (column_after-append bytes b)
  where
    by : (v : Bool) → line_after (bytes ++ b ∷ []) ≡ line_after bytes + cond v 1 0 → column_after (bytes ++ b ∷ []) ≡ cond v 1 (column_after bytes + 1)
        → place_after (bytes ++ b ∷ []) ≡ (if v then record { line = line_after bytes + 1; column = 1 } else record { line = line_after bytes; column = column_after bytes + 1 })
    by true e f = ap₂ (λ l c. record { line = l; column = c }) e f
    by false e f = let stays : line_after (bytes ++ b ∷ []) ≡ line_after bytes = omega arith in ap₂ (λ l c. record { line = l; column = c }) stays f

pub place_after-line_feed : (bytes : List ℕ) → place_after (bytes ++ 10 ∷ []) ≡ record { line = line_after bytes + 1; column = 1 }
place_after-line_feed bytes = place_after-append bytes 10

pub place_after-other : (bytes : List ℕ) (b : ℕ) → b ≢ 10
    → place_after (bytes ++ b ∷ []) ≡ record { line = line_after bytes; column = column_after bytes + 1 }
place_after-other bytes b other = rw (ne_eqb b 10 other) at (place_after-append bytes b)

-- lines and columns count no more than the bytes
pub line_after-le : (bytes : List ℕ) → line_after bytes ≤ length bytes + 1
unfolding line_after
line_after-le bytes = omega (arith, count_by-le-length is_line_feed bytes)

pub column_after-le : (bytes : List ℕ) → column_after bytes ≤ length bytes + 1
unfolding column_after
column_after-le bytes = omega (arith, length-after_last is_line_feed bytes, suffix_len-le-length (λ b. not (is_line_feed b)) bytes)
