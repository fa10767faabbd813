-- A cursor that goes on by one byte still knows its place.
use Rattle.std.proofs.Common.{◌≡◌, ◌≢◌, ℕ, Bool, true, false, cond, ◌+◌, ◌<◌, ◌≤◌, List, [], ◌∷◌, ◌++◌, length, get_or, take, sym, ap, ◌∙◌, arith, length-take}
use Rattle.std.proofs.lemmas.List.{take_more}
use Rattle.std.proofs.lemmas.Bool.{ne_eqb}
use Rattle.gr_text.specs.Places.{is_line_feed, line_after, column_after}
use Rattle.gr_text.specs.Cursors.{StandsAt}
use Rattle.gr_text.proofs.PlaceLemmas.{place_after-nil, line_after-append, column_after-append, line_after-le, column_after-le}

pub StandsAt-start : (bytes : List ℕ) → length bytes ≤ 1048576 → StandsAt bytes 0 1 1
StandsAt-start bytes short = record { within = omega arith; short = short; line_is = ap (λ p. p.line) (sym place_after-nil); column_is = ap (λ p. p.column) (sym place_after-nil) }

module _ (bytes : List ℕ) (at line column : ℕ) (stands : StandsAt bytes at line column) where
  -- neither number comes near the end of its range
  pub StandsAt-line-le : line ≤ 1048577
  StandsAt-line-le = omega (arith, line_after-le (take at bytes), length-take at bytes, stands.line_is, stands.within, stands.short)

  pub StandsAt-column-le : column ≤ 1048577
  StandsAt-column-le = omega (arith, column_after-le (take at bytes), length-take at bytes, stands.column_is, stands.within, stands.short)

  one_more_line : at < length bytes → (v : Bool) → is_line_feed (get_or bytes at 0) ≡ v → line + cond v 1 0 ≡ line_after (take (at + 1) bytes)
  one_more_line more v e =
      let line_is : line ≡ line_after (take at bytes) = stands.line_is in
      let taken : line_after (take (at + 1) bytes) ≡ line_after (take at bytes ++ get_or bytes at 0 ∷ []) = ap line_after (take_more bytes at 0 more) in
      let grown : line_after (take at bytes ++ get_or bytes at 0 ∷ []) ≡ line_after (take at bytes) + cond v 1 0 =
      line_after-append (take at bytes) (get_or bytes at 0) ∙ ap (λ w. line_after (take at bytes) + cond w 1 0) e
      in
      omega arith

  one_more_column : at < length bytes → (v : Bool) → is_line_feed (get_or bytes at 0) ≡ v → cond v 1 (column + 1) ≡ column_after (take (at + 1) bytes)
  one_more_column more v e =
      ap (λ n. cond v 1 (n + 1)) stands.column_is
      ∙ sym (ap column_after (take_more bytes at 0 more)
      ∙ column_after-append (take at bytes) (get_or bytes at 0)
      ∙ ap (λ w. cond w 1 (column_after (take at bytes) + 1)) e)

  pub StandsAt-line_feed : at < length bytes → get_or bytes at 0 ≡ 10 → StandsAt bytes (at + 1) (line + 1) 1
  StandsAt-line_feed more is =
      let e : is_line_feed (get_or bytes at 0) ≡ true = ap is_line_feed is in
      record { within = omega arith; short = stands.short; line_is = one_more_line more true e; column_is = one_more_column more true e }

  pub StandsAt-other : at < length bytes → get_or bytes at 0 ≢ 10 → StandsAt bytes (at + 1) line (column + 1)
  StandsAt-other more other =
      let e : is_line_feed (get_or bytes at 0) ≡ false = ne_eqb (get_or bytes at 0) 10 other in
      let stays = one_more_line more false e in
      record { within = omega arith; short = stands.short; line_is = omega arith; column_is = one_more_column more false e }
