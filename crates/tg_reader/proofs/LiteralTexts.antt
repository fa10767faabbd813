-- Arguments and literals.
use Rattle.std.specs.Prelude.{◌≡◌, ℕ, List, [], ◌∷◌, ◌++◌, map, codes, refl}
use Rattle.std.specs.List.{join_with_byte}
use Rattle.std.proofs.Common.{ap, sym, ◌∙◌, append_assoc, arith}
use Rattle.gr_base.specs.Lists.{Each}
use Rattle.gr_base.proofs.ListLemmas.{same_head, same_tail}
use Rattle.gr_terms.specs.Canonical.{Label, Literal}
use Rattle.td_canon.specs.TreeText.{label_text, literal_text}
use Rattle.tg_reader.specs.Reading.{CanRead, Differs, EachOfSome, IsValuesEnd}
use Rattle.tg_reader.proofs.Rows.{join_row, row}
use Rattle.tg_reader.proofs.Values.{begins_not}

pub closing_end : (rest : List ℕ) → IsValuesEnd (41 ∷ rest)
closing_end rest = record { word = refl; space = λ more e. let f : 41 ≡ 32 = same_head 41 32 rest more e in omega (arith, f) }

module _ (text : ℕ → List ℕ) where
  abbrev pub arguments_text : List Label → List ℕ
  arguments_text vs = join_with_byte 32 (map (label_text text) vs)

  -- where `)` comes there are no arguments
  pub record NoArguments (vs : List Label) (mid rest : List ℕ) : Type 0 where
    pub none : vs ≡ []
    pub same : mid ≡ rest

  pub no_arguments : (vs : List Label) (mid rest : List ℕ) → Each (CanRead text) vs → 41 ∷ mid ≡ (arguments_text vs ++ 41 ∷ []) ++ rest → NoArguments vs mid rest
  no_arguments [] mid rest can e = record { none = refl; same = same_tail 41 41 mid rest e }
  no_arguments (v ∷ vs) mid rest can e =
      absurd (begins_not text v 41 mid (more ++ (41 ∷ [] ++ rest)) can.0 refl (λ f. absurd (omega (arith, f))) (λ f. absurd (omega (arith, f)))
      (e ∙ append_assoc (arguments_text (v ∷ vs)) (41 ∷ []) rest ∙ ap (λ zs. zs ++ (41 ∷ [] ++ rest)) (join_row (label_text text) 32 v vs) ∙ append_assoc (label_text text v) more (41 ∷ [] ++ rest)))
    where
      more : List ℕ
      more = row (label_text text) 32 vs

  -- and else there are some
  pub record SomeArguments (vs : List Label) (old rest : List ℕ) : Type 0 where
    pub can : EachOfSome (CanRead text) vs
    pub same : old ≡ arguments_text vs ++ 41 ∷ rest

  pub some_arguments : (vs : List Label) (old rest : List ℕ) → Each (CanRead text) vs → Differs (41 ∷ []) old → old ≡ (arguments_text vs ++ 41 ∷ []) ++ rest → SomeArguments vs old rest
  some_arguments [] old rest can differs e = absurd (differs rest e)
  some_arguments (v ∷ vs) old rest can differs e = record { can = can; same = e ∙ append_assoc (arguments_text (v ∷ vs)) (41 ∷ []) rest }

  pub literal_regroup : (l : Literal Label) (rest : List ℕ) →
      literal_text text l ++ rest ≡ label_text text l.handle ++ 58 ∷ (label_text text l.pred ++ 40 ∷ ((arguments_text l.args ++ 41 ∷ []) ++ rest))
  literal_regroup l rest =
      let h = label_text text l.handle in
      let p = label_text text l.pred in
      let j = arguments_text l.args in
      append_assoc ((((h ++ codes ":") ++ p) ++ codes "(") ++ j) (codes ")") rest
      ∙ append_assoc (((h ++ codes ":") ++ p) ++ codes "(") j (41 ∷ rest)
      ∙ append_assoc ((h ++ codes ":") ++ p) (codes "(") (j ++ 41 ∷ rest)
      ∙ append_assoc (h ++ codes ":") p (40 ∷ (j ++ 41 ∷ rest))
      ∙ append_assoc h (codes ":") (p ++ 40 ∷ (j ++ 41 ∷ rest))
      ∙ ap (λ zs. h ++ 58 ∷ (p ++ 40 ∷ zs)) (sym (append_assoc j (41 ∷ []) rest))
