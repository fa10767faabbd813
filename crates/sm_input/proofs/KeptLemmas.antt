-- Literals that are kept once each.
use Rattle.std.proofs.Common.{◌≡◌, ℕ, ◌+◌, min, ◌<◌, ◌≤◌, List, [], ◌∷◌, ◌++◌, length, take, drop, Bool, true, false, inl, inr, refl, sym, ◌∙◌, ap, subst, arith, append-nil}
use Rattle.std.specs.Prelude.{◌⊎◌, if◌then◌else◌, nat_lt}
use Rattle.std.specs.List.{AllZip}
use Rattle.std.proofs.lemmas.Bool.{true≢false, cases_lt, lt-ltb}
use Rattle.std.proofs.lemmas.List.{length-take, take_all, take-append-le, take-append-drop, length-append}
use Rattle.std.proofs.lemmas.Slice.Zip.{AllZip-long, all_zipped_more}
use Rattle.gr_base.specs.Lists.{IsAmong, NoneTwice}
use Rattle.gr_base.proofs.ListLemmas.{IsAmong-append_left}
use Rattle.gr_feats.specs.Grammars.{WrittenLiteral}
use Rattle.sm_input.specs.declared.raw.RawLiteral.{RawLiteral}
use Rattle.sm_input.specs.Firsts.{is_there, firsts}
use Rattle.sm_input.specs.Reading.{IsRawLiteral, Keeps, AreKept}
use Rattle.sm_input.proofs.Same.{there_decides, back_literal, one_literal, zip_to, zip_from}
use Rattle.sm_input.proofs.FirstLemmas.{behind, firsts-push, behind_firsts, firsts_behind}

among_take : {A : Type 0} (n : ℕ) (xs : List A) (x : A) → IsAmong (take n xs) x → IsAmong xs x
among_take n xs x i = subst (λ z. IsAmong z x) (take-append-drop n xs) (IsAmong-append_left (take n xs) (drop n xs) x i)

-- one more of those that are read
module _ (texts : List (List ℕ)) (once : NoneTwice texts) (F : List WrittenLiteral) (w : WrittenLiteral) (xs : List RawLiteral) (x : RawLiteral) (ys : List RawLiteral) where
  abbrev R : WrittenLiteral → RawLiteral → Type 0
  R = IsRawLiteral texts

  abbrev more : Bool → List WrittenLiteral
  more b = if b then [] else w ∷ []

  full : (b : Bool) → AllZip R (take 25 F) xs → 24 < length xs → AllZip R (take 25 (F ++ more b)) xs
  full b z l =
      let e = AllZip-long R (take 25 F) xs z in
      let n = length-take 25 F in
      let m : 25 ≤ length F = omega (arith, e, n, l) in
      subst (λ u. AllZip R u xs) (sym (take-append-le 25 F (more b) m)) z

  stays : (b : Bool) → (b ≡ false → IsAmong F w → ⊥) → AllZip R (take 25 F) xs → R w x → IsAmong xs x → AllZip R (take 25 (F ++ more b)) xs
  stays true miss z r i = subst (λ u. AllZip R (take 25 u) xs) (sym (append-nil F)) z
  stays false miss z r i = absurd (miss refl (among_take 25 F w (zip_from R (back_literal texts) (take 25 F) xs w x z r i)))

  room : AllZip R (take 25 F) xs → length xs ≤ 24 → length F ≤ 24
  room z l =
      let e = AllZip-long R (take 25 F) xs z in
      let n = length-take 25 F in
      omega (arith, e, n, l)

  grown : (b : Bool) → (b ≡ true → IsAmong F w) → AllZip R (take 25 F) xs → R w x → length xs ≤ 24 → (IsAmong xs x → ⊥) → AllZip R (take 25 (F ++ more b)) (xs ++ x ∷ [])
  grown true hit z r l n =
      let m = room z l in
      absurd (n (zip_to R (one_literal texts once) (take 25 F) xs w x z r (subst (λ u. IsAmong u w) (sym (take_all 25 F (omega (arith, m)))) (hit refl))))
  grown false hit z r l n =
      let m = room z l in
      let p = length-append F (w ∷ []) in
      subst (λ u. AllZip R u (xs ++ x ∷ [])) (sym (take_all 25 (F ++ w ∷ []) (omega (arith, m, p))))
      (all_zipped_more R F xs w x (subst (λ u. AllZip R u xs) (take_all 25 F (omega (arith, m))) z) r)

  kept_by : (b : Bool) → (b ≡ true → IsAmong F w) → (b ≡ false → IsAmong F w → ⊥) → AllZip R (take 25 F) xs → R w x → Keeps xs x ys → AllZip R (take 25 (F ++ more b)) ys
  kept_by b hit miss z r (inl (inl l, e)) = subst (λ u. AllZip R (take 25 (F ++ more b)) u) (sym e) (full b z l)
  kept_by b hit miss z r (inl (inr i, e)) = subst (λ u. AllZip R (take 25 (F ++ more b)) u) (sym e) (stays b miss z r i)
  kept_by b hit miss z r (inr k) = subst (λ u. AllZip R (take 25 (F ++ more b)) u) (sym k.1.1) (grown b hit z r k.0 k.1.0)

only_first : (ws : List WrittenLiteral) (w : WrittenLiteral) → IsAmong [] w ⊎ IsAmong (firsts [] ws) w → IsAmong (firsts [] ws) w
only_first ws w (inl i) = absurd i
only_first ws w (inr i) = i

pub keeps_more : (texts : List (List ℕ)) → NoneTwice texts → (ws : List WrittenLiteral) (w : WrittenLiteral) (xs : List RawLiteral) (x : RawLiteral) (ys : List RawLiteral)
    → AreKept texts ws xs → IsRawLiteral texts w x → Keeps xs x ys → AreKept texts (ws ++ w ∷ []) ys
keeps_more texts once ws w xs x ys z r k =
    let b = is_there (behind [] ws) w in
    subst (λ u. AllZip (IsRawLiteral texts) (take 25 u) ys) (sym (firsts-push [] ws w))
    (kept_by texts once (firsts [] ws) w xs x ys b
    (λ e. only_first ws w (behind_firsts [] ws w ((there_decides (behind [] ws) w).0 e)))
    (λ e i. true≢false (sym ((there_decides (behind [] ws) w).1 (firsts_behind [] ws w (inr i))) ∙ e))
    z r k)

-- so many are too many just where so many are kept
too_many_by : (n : ℕ) (k : ℕ) → k ≡ min 25 n → nat_lt 24 k ≡ nat_lt 24 n
too_many_by n k e = elim (cases_lt 24 n) [
  | inl l ↦ lt-ltb 24 k (omega (arith, l, e)) ∙ sym (lt-ltb 24 n l)
  | inr l ↦ ap (nat_lt 24) (let h : k ≡ n = omega (arith, l, e) in h)
]

pub too_many : (texts : List (List ℕ)) (ws : List WrittenLiteral) (xs : List RawLiteral) → AreKept texts ws xs → nat_lt 24 (length xs) ≡ nat_lt 24 (length (firsts [] ws))
too_many texts ws xs z = too_many_by (length (firsts [] ws)) (length xs) (AllZip-long (IsRawLiteral texts) (take 25 (firsts [] ws)) xs z ∙ length-take 25 (firsts [] ws))

pub no_more_kept : (old new : List RawLiteral) (x : RawLiteral) → Keeps old x new → length new ≤ length old + 1
no_more_kept old new x (inl k) = let e = ap length k.1 in omega (arith, e)
no_more_kept old new x (inr k) = let e = ap length k.1.1 in let f = length-append old (x ∷ []) in omega (arith, e, f)

-- the first literal
pub keeps_first : (texts : List (List ℕ)) → NoneTwice texts → (w : WrittenLiteral) (xs : List RawLiteral) (x : RawLiteral) (ys : List RawLiteral)
    → xs ≡ [] → IsRawLiteral texts w x → Keeps xs x ys → AreKept texts (w ∷ []) ys
keeps_first texts once w xs x ys none r k = keeps_more texts once [] w xs x ys (subst (AreKept texts []) (sym none) tt) r k
