-- Going over a text by what begins it: the place behind, and the cutting from there on.
use Rattle.std.specs.Prelude.{◌≡◌, ◌≢◌, ℕ, zero, suc, ◌+◌, ◌<◌, ◌≤◌, List, [], ◌∷◌, ◌++◌, length, take, drop, IsTrue, refl}
use Rattle.std.proofs.Common.{sym, ap, ◌∙◌, subst, arith, get_or, append_assoc, append-nil, add-zero}
use Rattle.std.proofs.Math.Seq.{take-add}
use Rattle.std.proofs.lemmas.List.{take-append-drop, length-take-le, length-drop, drop-drop, drop_more}
use Rattle.gr_base.specs.Lists.{Each}
use Rattle.gr_text.specs.Places.{line_after, column_after, place_after}
use Rattle.gr_text.specs.Cursors.{StandsAt}
use Rattle.gr_text.proofs.PlaceLemmas.{place_after-other}
use Rattle.gr_text.proofs.CursorLemmas.{StandsAt-line_feed}
use Rattle.gr_tokens.specs.declared.Token.{Token}
use Rattle.gr_tokens.specs.declared.cut.Here.{Here}
use Rattle.gr_tokens.specs.Tokens.{IsCut, a_gap, a_token, IsGap, blank, comment, is_blank, EndsLine}
use Rattle.gr_tokens.specs.Fronts.{BeginsWith, IsHere, Skips, Passes}
use Rattle.gr_tokens.proofs.Openers.{next_some}
use Rattle.gr_tokens.proofs.Runs.{not_feed, token_feedless}

-- bytes without LF end no line
along_line : (xs ys : List ℕ) → Each (λ b. b ≢ 10) ys → line_after (xs ++ ys) ≡ line_after xs
along_line xs [] h = ap line_after (append-nil xs)
along_line xs (y ∷ ys) h =
    ap line_after (sym (append_assoc xs (y ∷ []) ys)) ∙ (along_line (xs ++ y ∷ []) ys h.1 ∙ ap (λ p. p.line) (place_after-other xs y h.0))

along_column : (xs ys : List ℕ) → Each (λ b. b ≢ 10) ys → column_after (xs ++ ys) ≡ column_after xs + length ys
along_column xs [] h = ap column_after (append-nil xs) ∙ sym (add-zero (column_after xs))
along_column xs (y ∷ ys) h =
    let whole : column_after (xs ++ y ∷ ys) ≡ column_after ((xs ++ y ∷ []) ++ ys) = ap column_after (sym (append_assoc xs (y ∷ []) ys)) in
    let rest : column_after ((xs ++ y ∷ []) ++ ys) ≡ column_after (xs ++ y ∷ []) + length ys = along_column (xs ++ y ∷ []) ys h.1 in
    let one : column_after (xs ++ y ∷ []) ≡ column_after xs + 1 = ap (λ p. p.column) (place_after-other xs y h.0) in
    omega arith

pub StandsAt-along : (bytes : List ℕ) (at line column n : ℕ) → StandsAt bytes at line column → at + n ≤ length bytes → Each (λ b. b ≢ 10) (take n (drop at bytes)) → StandsAt bytes (at + n) line (column + n)
StandsAt-along bytes at line column n s within each =
    let own : take (at + n) bytes ≡ take at bytes ++ take n (drop at bytes) = take-add at n bytes in
    let long : length (take n (drop at bytes)) ≡ n = length-take-le n (drop at bytes) (omega (arith, length-drop at bytes)) in
    let columns : column_after (take (at + n) bytes) ≡ column_after (take at bytes) + length (take n (drop at bytes)) = ap column_after own ∙ along_column (take at bytes) (take n (drop at bytes)) each in
    record {
      within = within;
      short = s.short;
      line_is = s.line_is ∙ sym (ap line_after own ∙ along_line (take at bytes) (take n (drop at bytes)) each);
      column_is = let c = s.column_is in omega arith;
    }

-- what is cut behind some more bytes is cut behind these and then those
pub cut_further : (bytes : List ℕ) (at n : ℕ) (ts : List Token) (left : List ℕ) → IsCut (take (at + n) bytes) (drop (at + n) bytes) ts left → IsCut (take at bytes ++ take n (drop at bytes)) (drop n (drop at bytes)) ts left
cut_further bytes at n ts left s =
    subst (λ z. IsCut z (drop n (drop at bytes)) ts left) (take-add at n bytes) (subst (λ z. IsCut (take (at + n) bytes) z ts left) (sym (drop-drop n at bytes)) s)

pub gap_cut : (bytes : List ℕ) (at n next : ℕ) → next ≡ at + n → IsGap (take n (drop at bytes)) (drop n (drop at bytes))
    → (ts : List Token) (left : List ℕ) → IsCut (take next bytes) (drop next bytes) ts left → IsCut (take at bytes) (drop at bytes) ts left
gap_cut bytes at n next e gap ts left s =
    a_gap (take n (drop at bytes)) (drop n (drop at bytes)) (sym (take-append-drop n (drop at bytes))) gap
    (cut_further bytes at n ts left (subst (λ z. IsCut (take z bytes) (drop z bytes) ts left) e s))

module _ (bytes : List ℕ) (at : ℕ) (more : at < length bytes) where
  first : drop at bytes ≡ get_or bytes at 0 ∷ drop (at + 1) bytes
  first = drop_more bytes at 0 more

  pub blank_gap : IsTrue (is_blank (get_or bytes at 0)) → IsGap (take 1 (drop at bytes)) (drop 1 (drop at bytes))
  blank_gap is = blank (get_or bytes at 0) (ap (λ z. take 1 z) first) is

  pub comment_gap : (n : ℕ) → get_or bytes at 0 ≡ 37 → n ≤ length (drop at bytes) → Each (λ b. b ≢ 10) (take n (drop at bytes)) → EndsLine (drop n (drop at bytes)) → IsGap (take n (drop at bytes)) (drop n (drop at bytes))
  comment_gap n is within each ends = by n (first ∙ ap (λ b. b ∷ drop (at + 1) bytes) is) each ends
    where
      by : (m : ℕ) → drop at bytes ≡ 37 ∷ drop (at + 1) bytes → Each (λ b. b ≢ 10) (take m (drop at bytes)) → EndsLine (drop m (drop at bytes)) → IsGap (take m (drop at bytes)) (drop m (drop at bytes))
      by zero e each ends = absurd (not_feed 37 refl (subst (λ z. EndsLine z) e ends))
      by (suc m) e each ends =
          comment (take m (drop (at + 1) bytes)) (ap (λ z. take (suc m) z) e) (subst (λ z. Each (λ b. b ≢ 10) (take (suc m) z)) e each).1 ends

-- the token that begins at a place, and what it takes to stand there
pub record Taken (bytes : List ℕ) (here : Here) (n : ℕ) (t : Token) (next : Here) : Type 0 where
  pub stands : IsHere bytes here
  pub begins : BeginsWith (drop here.at bytes) t.kind n
  pub from_is : t.from ≡ here.at
  pub to_is : t.to ≡ next.at
  pub place_is : t.place ≡ here.place
  pub next_at : next.at ≡ here.at + n
  pub next_line : next.place.line ≡ here.place.line
  pub next_column : next.place.column ≡ here.place.column + n

here_along : (bytes : List ℕ) (here next : Here) (n : ℕ) → IsHere bytes here → here.at + n ≤ length bytes → Each (λ b. b ≢ 10) (take n (drop here.at bytes))
    → next.at ≡ here.at + n → next.place.line ≡ here.place.line → next.place.column ≡ here.place.column + n → IsHere bytes next
here_along bytes here next n s within each at line column =
    let moved = StandsAt-along bytes here.at here.place.line here.place.column n s within each in
    subst (λ a. StandsAt bytes a next.place.line next.place.column) (sym at)
    (subst (λ l. StandsAt bytes (here.at + n) l next.place.column) (sym line)
    (subst (λ c. StandsAt bytes (here.at + n) here.place.line c) (sym column) moved))

pub here_place : (bytes : List ℕ) (here : Here) → IsHere bytes here → here.place ≡ place_after (take here.at bytes)
here_place bytes here s =
    let l : here.place.line ≡ line_after (take here.at bytes) = s.line_is in
    let c : here.place.column ≡ column_after (take here.at bytes) = s.column_is in
    ap (λ x. record { line = x; column = here.place.column }) l ∙ ap (λ x. record { line = line_after (take here.at bytes); column = x }) c

pub token_passes : (bytes : List ℕ) (here : Here) (n : ℕ) (t : Token) (next : Here) → Taken bytes here n t next → Passes bytes here t next
token_passes bytes here n t next k =
    let inside : here.at ≤ length bytes = k.stands.within in
    let fits : n ≤ length (drop here.at bytes) = k.begins.within in
    let within : here.at + n ≤ length bytes = omega (arith, length-drop here.at bytes) in
    let whole : length (take n (drop here.at bytes)) ≡ n = length-take-le n (drop here.at bytes) fits in
    let front : length (take here.at bytes) ≡ here.at = length-take-le here.at bytes inside in
    let both : length (take next.at bytes) ≡ next.at = length-take-le next.at bytes (omega (arith, k.next_at)) in
    let some : 0 < length (take n (drop here.at bytes)) = next_some t.kind k.begins.text (take n (drop here.at bytes)) (drop n (drop here.at bytes)) k.begins.next in
    record {
      stands = here_along bytes here next n k.stands within (token_feedless t.kind k.begins.text (take n (drop here.at bytes)) k.begins.next.writes) k.next_at k.next_line k.next_column;
      on = omega (arith, k.next_at);
      cut = λ ts left s.
          a_token (take n (drop here.at bytes)) (drop n (drop here.at bytes)) (sym (take-append-drop n (drop here.at bytes))) (record {
            text = k.begins.text;
            next = k.begins.next;
            short = k.begins.short;
            begins = k.from_is ∙ sym front;
            ends = k.to_is ∙ (sym both ∙ ap length (ap (λ z. take z bytes) k.next_at ∙ take-add here.at n bytes));
            stands = k.place_is ∙ here_place bytes here k.stands;
          })
          (cut_further bytes here.at n ts left (subst (λ z. IsCut (take z bytes) (drop z bytes) ts left) k.next_at s));
    }

pub gap_skips : (bytes : List ℕ) (here next : Here) (n : ℕ) → IsHere bytes here → n ≤ length (drop here.at bytes) → Each (λ b. b ≢ 10) (take n (drop here.at bytes)) → IsGap (take n (drop here.at bytes)) (drop n (drop here.at bytes))
    → next.at ≡ here.at + n → next.place.line ≡ here.place.line → next.place.column ≡ here.place.column + n → Skips bytes here next
gap_skips bytes here next n s fits each gap at line column =
    let inside : here.at ≤ length bytes = s.within in
    record {
      stands = here_along bytes here next n s (omega (arith, length-drop here.at bytes)) each at line column;
      on = omega (arith, at);
      cut = gap_cut bytes here.at n next.at at gap;
    }

pub feed_skips : (bytes : List ℕ) (here next : Here) → IsHere bytes here → here.at < length bytes → get_or bytes here.at 0 ≡ 10
    → next.at ≡ here.at + 1 → next.place.line ≡ here.place.line + 1 → next.place.column ≡ 1 → Skips bytes here next
feed_skips bytes here next s more is at line column =
    let moved = StandsAt-line_feed bytes here.at here.place.line here.place.column s more is in
    record {
      stands = subst (λ a. StandsAt bytes a next.place.line next.place.column) (sym at)
          (subst (λ l. StandsAt bytes (here.at + 1) l next.place.column) (sym line)
          (subst (λ c. StandsAt bytes (here.at + 1) (here.place.line + 1) c) (sym column) moved));
      on = omega (arith, at);
      cut = gap_cut bytes here.at 1 next.at at (blank_gap bytes here.at more (ap is_blank is));
    }

pub blank_skips : (bytes : List ℕ) (here next : Here) → IsHere bytes here → here.at < length bytes → IsTrue (is_blank (get_or bytes here.at 0)) → get_or bytes here.at 0 ≢ 10
    → next.at ≡ here.at + 1 → next.place.line ≡ here.place.line → next.place.column ≡ here.place.column + 1 → Skips bytes here next
blank_skips bytes here next s more is other at line column =
    gap_skips bytes here next 1 s (omega (arith, length-drop here.at bytes))
    (subst (λ z. Each (λ b. b ≢ 10) z) (sym (ap (λ z. take 1 z) (drop_more bytes here.at 0 more))) (other, tt))
    (blank_gap bytes here.at more is) at line column

pub comment_skips : (bytes : List ℕ) (here next : Here) (n : ℕ) → IsHere bytes here → here.at < length bytes → get_or bytes here.at 0 ≡ 37
    → n ≤ length (drop here.at bytes) → Each (λ b. b ≢ 10) (take n (drop here.at bytes)) → EndsLine (drop n (drop here.at bytes))
    → next.at ≡ here.at + n → next.place.line ≡ here.place.line → next.place.column ≡ here.place.column + n → Skips bytes here next
comment_skips bytes here next n s more is within each ends at line column =
    gap_skips bytes here next n s within each (comment_gap bytes here.at more n is within each ends) at line column

pub skips_none : (bytes : List ℕ) (here : Here) → IsHere bytes here → Skips bytes here here
skips_none bytes here s = record { stands = s; on = omega arith; cut = λ ts left h. h }

pub skips_more : (bytes : List ℕ) (here next last : Here) → Skips bytes here next → Skips bytes next last → Skips bytes here last
skips_more bytes here next last a b = record { stands = b.stands; on = omega (arith, a.on, b.on); cut = λ ts left h. a.cut ts left (b.cut ts left h) }

-- one more token
pub cut_grows : (bytes left : List ℕ) (found grown : List Token) (t : Token) (ts : List Token) → grown ≡ found ++ t ∷ [] → IsCut [] bytes (found ++ t ∷ ts) left → IsCut [] bytes (grown ++ ts) left
cut_grows bytes left found grown t ts e s = subst (λ z. IsCut [] bytes z left) (sym (ap (λ z. z ++ ts) e ∙ append_assoc found (t ∷ []) ts)) s
