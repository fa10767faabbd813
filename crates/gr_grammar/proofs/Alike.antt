-- A text of a clear grammar has one tree.
use Rattle.std.proofs.Common.{◌≡◌, ℕ, ◌<◌, List, ◌∷◌, length, true, ap, sym, subst, arith}
use Rattle.std.specs.Prelude.{not}
use Rattle.gr_grammar.specs.Grammars.{Grammar, tok, nil, seq, alt, star, part, System, Matches, a_token, no_token, both, the_left, the_right, no_more, one_more, by_part, nullable, first, goes, all_apart, is_clear, begins, IsSystem}
use Rattle.gr_grammar.proofs.Fronts.{and_left, and_right, not_true, head_of, no_longer, begins_of}
use Rattle.gr_grammar.proofs.Exact.{diverge, Diverge, together, sooner, later, no_gap, moves, other_way, is_clear_again}

module _ {C T : Type 0} (S : System C T) where
  -- two trees of one form with the same tokens
  pub data Same : (g : Grammar C) (ts r us s : List T) → Matches S g ts r → Matches S g us s → Type 0 where
    same_token : {c : C} {t u : T} {ts us : List T} {h : S.test c t ≡ true} {k : S.test c u ≡ true} → t ≡ u → Same (tok c) (t ∷ ts) ts (u ∷ us) us (a_token {c = c} {t = t} {ts = ts} h) (a_token {c = c} {t = u} {ts = us} k)
    same_nothing : {ts us : List T} → Same nil ts ts us us (no_token {ts = ts}) (no_token {ts = us})
    same_both : {g h : Grammar C} {ts mid r us mid' s : List T} {a : Matches S g ts mid} {b : Matches S h mid r} {a' : Matches S g us mid'} {b' : Matches S h mid' s} → Same g ts mid us mid' a a' → Same h mid r mid' s b b' → Same (seq g h) ts r us s (both a b) (both a' b')
    same_left : {g h : Grammar C} {ts r us s : List T} {a : Matches S g ts r} {b : Matches S g us s} → Same g ts r us s a b → Same (alt g h) ts r us s (the_left {h = h} a) (the_left {h = h} b)
    same_right : {g h : Grammar C} {ts r us s : List T} {a : Matches S h ts r} {b : Matches S h us s} → Same h ts r us s a b → Same (alt g h) ts r us s (the_right {g = g} a) (the_right {g = g} b)
    same_end : {g : Grammar C} {ts us : List T} → Same (star g) ts ts us us (no_more {g = g} {ts = ts}) (no_more {g = g} {ts = us})
    same_more : {g : Grammar C} {ts r us s : List T} {a : Matches S (seq g (star g)) ts r} {b : Matches S (seq g (star g)) us s} → Same (seq g (star g)) ts r us s a b → Same (star g) ts r us s (one_more a) (one_more b)
    same_part : {n : ℕ} {ts r us s : List T} {a : Matches S (S.parts n) ts r} {b : Matches S (S.parts n) us s} → Same (S.parts n) ts r us s a b → Same (part n) ts r us s (by_part {n = n} a) (by_part {n = n} b)

  module _ (K : IsSystem S) where
    ends : (g h : Grammar C) → all_apart S (goes S g) (first S h) ≡ true → {mid mid' r s : List T} → Matches S h mid r → Matches S h mid' s → r ≡ s → Diverge S (goes S g) mid mid' → mid ≡ mid'
    ends g h a m n e (together d) = d
    ends g h a {mid} {mid'} {r} {s} m n e (sooner t w d l i) = absurd (no_gap S K g h a mid r t w m d (let k = no_longer S n in let f = ap length e in omega arith) i)
    ends g h a {mid} {mid'} {r} {s} m n e (later t w d l i) = absurd (no_gap S K g h a mid' s t w n d (let k = no_longer S m in let f = ap length e in omega arith) i)

    crossed : (g h : Grammar C) → is_clear S (alt g h) ≡ true → {ts r us s : List T} → Matches S g ts r → Matches S h us s → ts ≡ us → r ≡ s → ⊥
    crossed g h c {ts} {r} {us} {s} a b e f =
        let l = and_right (is_clear S h) _ (and_right (is_clear S g) _ c) in
        let n = not_true (nullable S g) (and_left (not (nullable S g)) _ l) in
        let m = moves S K n a in
        other_way S K g h (and_right (not (nullable S g)) _ l) us (subst (λ z. begins S g z ≡ true) e (begins_of S K a m)) (begins_of S K b (let x = ap length e in let y = ap length f in omega arith))

    stays : (g : Grammar C) → is_clear S (star g) ≡ true → {ts r : List T} → Matches S (seq g (star g)) ts r → length r < length ts
    stays g c (both a b) = let n = not_true (nullable S g) (and_left (not (nullable S g)) _ (and_right (is_clear S g) _ c)) in let l = moves S K n a in let k = no_longer S b in omega arith

    pub alike : {g : Grammar C} {ts r us s : List T} → is_clear S g ≡ true → (m : Matches S g ts r) (n : Matches S g us s) → ts ≡ us → r ≡ s → Same g ts r us s m n
    alike c (a_token {t} h) (a_token k) e f = same_token (ap (head_of t) e)
    alike c no_token no_token e f = same_nothing
    alike c (both {g} {h} {mid} a b) (both {mid = mid'} {rest = s} a' b') e f =
        let cg = and_left (is_clear S g) _ c in let cr = and_right (is_clear S g) _ c in
        let d = ends g h (and_right (is_clear S h) _ cr) b b' f (diverge S K cg a (subst (λ z. Matches S g z mid') (sym e) a')) in
        same_both (alike cg a a' e d) (alike (and_left (is_clear S h) _ cr) b b' d f)
    alike c (the_left {g} {h} a) (the_left b) e f = same_left (alike (and_left (is_clear S g) _ c) a b e f)
    alike c (the_right {g} {h} a) (the_right b) e f = same_right (alike (and_left (is_clear S h) _ (and_right (is_clear S g) _ c)) a b e f)
    alike c (the_left {g} {h} a) (the_right b) e f = absurd (crossed g h c a b e f)
    alike c (the_right {g} {h} a) (the_left b) e f = absurd (crossed g h c b a (sym e) (sym f))
    alike c no_more no_more e f = same_end
    alike c (no_more {g}) (one_more b) e f = absurd (let x = stays g c b in let y = ap length e in let z = ap length f in omega arith)
    alike c (one_more {g} a) no_more e f = absurd (let x = stays g c a in let y = ap length e in let z = ap length f in omega arith)
    alike c (one_more {g} a) (one_more b) e f = same_more (alike (is_clear_again S g c) a b e f)
    alike c (by_part {n} a) (by_part b) e f = same_part (alike (K.clear n) a b e f)
