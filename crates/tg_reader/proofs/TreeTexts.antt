-- What follows the nodes of a tree.
use Rattle.std.specs.Prelude.{◌≡◌, ℕ, List, [], ◌∷◌, ◌++◌, codes, refl}
use Rattle.std.specs.Fmt.{decimal}
use Rattle.std.specs.List.{join_with_byte}
use Rattle.std.proofs.Common.{inl, ap, sym, ◌∙◌, append_assoc, arith}
use Rattle.gr_base.specs.Lists.{Each, gathered}
use Rattle.gr_base.proofs.ListLemmas.{same_head, same_tail}
use Rattle.gr_terms.specs.Canonical.{Decorated, Label, Literal, Pairs}
use Rattle.td_canon.specs.TreeText.{decorated_text, enclosed, label_text, literal_text, pair_texts, tree_texts}
use Rattle.td_canon.proofs.SpellingLemmas.{span_apart}
use Rattle.tg_reader.specs.Reading.{CanReadLiteral, Differs, IsTreeEnd, is_of}
use Rattle.tg_reader.specs.declared.reader.Run.TheVariants.{Word}
use Rattle.tg_reader.proofs.LiteralTexts.{arguments_text, literal_regroup}
use Rattle.tg_reader.proofs.Runs.{word_run}
use Rattle.tg_reader.proofs.Values.{Looks, bare, in_quotes, looks, number}

module _ (text : ℕ → List ℕ) where
  abbrev pub interface_text : Pairs → List ℕ
  interface_text ps = enclosed (codes " iface[") 44 (codes "]") (pair_texts text ps)

  abbrev pub literals_text : List (Literal Label) → List ℕ
  literals_text ls = gathered (λ l. codes " " ++ literal_text text l) ls

  pub tree_regroup : (c : Decorated Pairs Label) (rest : List ℕ) → decorated_text text c ++ rest ≡ join_with_byte 32 (tree_texts text c.nodes) ++ (interface_text c.interface ++ (literals_text c.literals ++ rest))
  tree_regroup c rest =
      append_assoc (join_with_byte 32 (tree_texts text c.nodes) ++ interface_text c.interface) (literals_text c.literals) rest
      ∙ append_assoc (join_with_byte 32 (tree_texts text c.nodes)) (interface_text c.interface) (literals_text c.literals ++ rest)

  literals_end : (ls : List (Literal Label)) (rest : List ℕ) → rest ≡ [] → IsTreeEnd (literals_text ls ++ rest)
  literals_end [] rest e = rw e tt
  literals_end (l ∷ ls) rest e = inl refl

  pub behind_nodes : (ps : Pairs) (ls : List (Literal Label)) (rest : List ℕ) → rest ≡ [] → IsTreeEnd (interface_text ps ++ (literals_text ls ++ rest))
  behind_nodes [] ls rest e = literals_end ls rest e
  behind_nodes (p ∷ ps) ls rest e = inl refl

  -- a literal does not begin as an interface does
  pub no_interface : (ls : List (Literal Label)) (rest : List ℕ) → Each (CanReadLiteral text) ls → rest ≡ [] → Differs (codes " iface[") (literals_text ls ++ rest)
  no_interface [] rest can e more h = absurd (let f : [] ≡ codes " iface[" ++ more = sym e ∙ h in cc)
  no_interface (l ∷ ls) rest can e more h = by (looks text l.handle can.0.handle)
    where
      behind : List ℕ
      behind = label_text text l.pred ++ 40 ∷ ((arguments_text text l.args ++ 41 ∷ []) ++ (literals_text ls ++ rest))

      same : label_text text l.handle ++ 58 ∷ behind ≡ codes "iface" ++ 91 ∷ more
      same =
          sym (literal_regroup text l (literals_text ls ++ rest))
          ∙ sym (append_assoc (literal_text text l) (literals_text ls) rest)
          ∙ same_tail 32 32 ((literal_text text l ++ literals_text ls) ++ rest) (codes "iface" ++ 91 ∷ more) h

      by : Looks text l.handle → ⊥
      by (bare a is word looks_so) =
          let both = span_apart (is_of Word) (text a) (codes "iface") (58 ∷ behind) (91 ∷ more) (word_run (text a) word).each (refl, (refl, (refl, (refl, (refl, tt))))) refl refl (sym (ap (λ t. t ++ 58 ∷ behind) looks_so) ∙ same) in
          let f : 58 ≡ 91 = same_head 58 91 behind more both.1 in
          omega (arith, f)
      by (in_quotes a is name looks_so) =
          let f : 34 ≡ 105 = same_head 34 105 ((text a ++ 34 ∷ []) ++ 58 ∷ behind) (codes "face" ++ 91 ∷ more) (sym (ap (λ t. t ++ 58 ∷ behind) looks_so) ∙ same) in omega (arith, f)
      by (number k is small looks_so) =
          let f : 63 ≡ 105 = same_head 63 105 (decimal k ++ 58 ∷ behind) (codes "face" ++ 91 ∷ more) (sym (ap (λ t. t ++ 58 ∷ behind) looks_so) ∙ same) in omega (arith, f)

-- nothing begins with no space
pub nothing_behind : (rest : List ℕ) → rest ≡ [] → Differs (codes " ") rest
nothing_behind rest e more h = let f : [] ≡ codes " " ++ more = sym e ∙ h in cc
