-- The tokens of a text are slices of it, in order.
use Rattle.std.specs.Prelude.{◌≡◌, ℕ, ◌+◌, ◌-◌, ◌<◌, ◌≤◌, List, ◌++◌, length, take, drop}
use Rattle.std.proofs.Common.{sym, ap, ◌∙◌, subst, arith, append_assoc}
use Rattle.std.proofs.lemmas.List.{take_at, drop_at, length-append}
use Rattle.gr_base.specs.Lists.{Each}
use Rattle.gr_text.specs.Places.{place_after}
use Rattle.gr_tokens.specs.declared.Token.{Token}
use Rattle.gr_tokens.specs.Tokens.{Writes, IsTokenAt, IsCut, nothing, a_gap, a_token}
use Rattle.gr_tokens.specs.Spans.{slice_of, IsSliceOf, InOrder}
use Rattle.gr_tokens.proofs.Openers.{next_some}

-- the bytes of a token are its slice
pub slice_is : (whole before own rest : List ℕ) (t : Token) → whole ≡ before ++ (own ++ rest) → IsTokenAt before own rest t → slice_of whole t ≡ own
slice_is whole before own rest t e k =
    let both : length (before ++ own) ≡ length before + length own = length-append before own in
    let from : t.from ≡ length before = k.begins in
    let to : t.to ≡ length (before ++ own) = k.ends in
    let behind : drop t.from whole ≡ own ++ rest = ap (λ z. drop t.from z) e ∙ drop_at before (own ++ rest) t.from (sym from) in
    let wide : length own ≡ t.to - t.from = omega arith in
    ap (λ z. take (t.to - t.from) z) behind ∙ take_at own rest (t.to - t.from) wide

-- one token of a text is a token there
slice_at : (whole before own rest : List ℕ) (t : Token) → whole ≡ before ++ (own ++ rest) → IsTokenAt before own rest t → IsSliceOf whole t
slice_at whole before own rest t e k =
    let both : length (before ++ own) ≡ length before + length own = length-append before own in
    let all : length whole ≡ length before + length (own ++ rest) = ap length e ∙ length-append before (own ++ rest) in
    let front : length (own ++ rest) ≡ length own + length rest = length-append own rest in
    let from : t.from ≡ length before = k.begins in
    let to : t.to ≡ length (before ++ own) = k.ends in
    let some : 0 < length own = next_some t.kind k.text own rest k.next in
    let is = slice_is whole before own rest t e k in
    let upto : take t.from whole ≡ before = ap (λ z. take t.from z) e ∙ take_at before (own ++ rest) t.from (sym from) in
    record {
      text = k.text;
      writes = subst (λ z. Writes t.kind k.text z) (sym is) k.next.writes;
      short = k.short;
      some = omega arith;
      within = omega arith;
      stands = k.stands ∙ ap place_after (sym upto);
    }

pub further : (whole before bytes own rest : List ℕ) → whole ≡ before ++ bytes → bytes ≡ own ++ rest → whole ≡ (before ++ own) ++ rest
further whole before bytes own rest e f = e ∙ (ap (λ z. before ++ z) f ∙ sym (append_assoc before own rest))

pub slices : (whole before bytes left : List ℕ) (ts : List Token) → whole ≡ before ++ bytes → IsCut before bytes ts left → Each (IsSliceOf whole) ts
slices whole _ _ _ _ e nothing = tt
slices whole before bytes left ts e (a_gap own rest f g s) = slices whole (before ++ own) rest left ts (further whole before bytes own rest e f) s
slices whole before bytes left _ e (a_token {t = t} {ts = ts} own rest f k s) =
    (slice_at whole before own rest t (e ∙ ap (λ z. before ++ z) f) k, slices whole (before ++ own) rest left ts (further whole before bytes own rest e f) s)

-- no token begins before the bytes that it is cut from
not_before : (least : ℕ) (before bytes left : List ℕ) (ts : List Token) → least ≤ length before → IsCut before bytes ts left → Each (λ u. least ≤ u.from) ts
not_before least _ _ _ _ l nothing = tt
not_before least before bytes left ts l (a_gap own rest f g s) = not_before least (before ++ own) rest left ts (omega (arith, length-append before own)) s
not_before least before bytes left _ l (a_token {t = t} {ts = ts} own rest f k s) =
    (omega (arith, k.begins), not_before least (before ++ own) rest left ts (omega (arith, length-append before own)) s)

pub in_order : (before bytes left : List ℕ) (ts : List Token) → IsCut before bytes ts left → InOrder ts
in_order _ _ _ _ nothing = tt
in_order before bytes left ts (a_gap own rest f g s) = in_order (before ++ own) rest left ts s
in_order before bytes left _ (a_token {t = t} {ts = ts} own rest f k s) =
    (not_before t.to (before ++ own) rest left ts (omega (arith, k.ends)) s, in_order (before ++ own) rest left ts s)
