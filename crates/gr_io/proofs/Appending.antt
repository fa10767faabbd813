-- One piece written after another.
use Rattle.std.specs.Prelude.{◌≡◌, ℕ, ◌+◌, ◌-◌, List, ◌++◌, length, take, drop, Option, Some, None, refl}
use Rattle.std.proofs.Common.{ap, ◌∙◌, sym, append_assoc}
use Rattle.std.proofs.lemmas.List.{take_rest}
use Rattle.std.proofs.Math.Seq.{take-add}
use Rattle.gr_io.specs.Outside.{appended}

pub appended-twice : (o : Option (List ℕ)) (xs ys : List ℕ) → appended (appended o xs) ys ≡ appended o (xs ++ ys)
appended-twice None xs ys = refl
appended-twice (Some before) xs ys = ap (λ z. Some z) (append_assoc before xs ys)

-- the first i bytes written, and then the first n of the others
pub appended-further : (o p : Option (List ℕ)) (i n : ℕ) (xs : List ℕ) →
    p ≡ appended o (take i xs) → appended p (take n (take (length xs - i) (drop i xs))) ≡ appended o (take (i + n) xs)
appended-further o p i n xs e =
    ap (λ z. appended p (take n z)) (take_rest xs i)
    ∙ ap (λ q. appended q (take n (drop i xs))) e
    ∙ appended-twice o (take i xs) (take n (drop i xs))
    ∙ ap (λ z. appended o z) (sym (take-add i n xs))
