-- Pairs between two texts, and what may follow.
use Rattle.std.specs.Prelude.{◌≡◌, ℕ, Bool, false, ◌==◌, List, [], ◌∷◌, ◌++◌, refl}
use Rattle.std.specs.List.{join_with_byte}
use Rattle.std.proofs.Common.{inl, inr, ap, sym, ◌∙◌, subst, append_assoc}
use Rattle.std.proofs.lemmas.Bool.{false≢true}
use Rattle.std.proofs.lemmas.Bool.Decides.{Decides-eqb}
use Rattle.std.proofs.lemmas.List.{append_cancel_left}
use Rattle.gr_terms.specs.Canonical.{Pairs}
use Rattle.td_canon.specs.TreeText.{enclosed, pair_texts}
use Rattle.td_canon.proofs.SpellingLemmas.{Stops}
use Rattle.tg_reader.specs.Reading.{CanReadPair, CanReadPairs, Differs, EachOfSome, Ends, IsNodeEnd, IsTreeEnd, is_of}
use Rattle.tg_reader.specs.declared.reader.Run.{Run}

-- ---- which byte comes first

pub stops_ends : (run : Run) (text : List ℕ) → Stops (is_of run) text → Ends run text
stops_ends run [] h = tt
stops_ends run (b ∷ bs) h = h

pub stops_differs : (b : ℕ) (bs text : List ℕ) → Stops (λ c. c == b) text → Differs (b ∷ bs) text
stops_differs b bs text h more e = false≢true (sym (subst (Stops (λ c. c == b)) e h) ∙ (Decides-eqb b b).1 refl)

pub stops_enclosed : (p : ℕ → Bool) (b : ℕ) (before after : List ℕ) (between : ℕ) (xs : List (List ℕ)) (rest : List ℕ) → p b ≡ false → Stops p rest → Stops p (enclosed (b ∷ before) between after xs ++ rest)
stops_enclosed p b before after between [] rest h k = k
stops_enclosed p b before after between (x ∷ xs) rest h k = h

pub stops_node : (p : ℕ → Bool) (rest : List ℕ) → p 40 ≡ false → p 32 ≡ false → p 41 ≡ false → IsNodeEnd rest → Stops p rest
stops_node p [] a b c end = tt
stops_node p (x ∷ rest) a b c (inl e) = ap p e ∙ a
stops_node p (x ∷ rest) a b c (inr (inl e)) = ap p e ∙ b
stops_node p (x ∷ rest) a b c (inr (inr e)) = ap p e ∙ c

pub stops_tree : (p : ℕ → Bool) (rest : List ℕ) → p 32 ≡ false → p 41 ≡ false → IsTreeEnd rest → Stops p rest
stops_tree p [] b c end = tt
stops_tree p (x ∷ rest) b c (inl e) = ap p e ∙ b
stops_tree p (x ∷ rest) b c (inr e) = ap p e ∙ c

-- ---- whether there are pairs

module _ (text : ℕ → List ℕ) (opening closing : List ℕ) where
  pub record Opened (ps : Pairs) (mid rest : List ℕ) : Type 0 where
    pub can : EachOfSome (CanReadPair text) ps
    pub behind : mid ≡ join_with_byte 44 (pair_texts text ps) ++ (closing ++ rest)

  -- there are where the opening text comes
  pub opened : (ps : Pairs) (old mid rest : List ℕ) → CanReadPairs text ps → Differs opening rest → old ≡ opening ++ mid → old ≡ enclosed opening 44 closing (pair_texts text ps) ++ rest → Opened ps mid rest
  opened [] old mid rest can differs come e = absurd (differs mid (sym e ∙ come))
  opened (p ∷ ps) old mid rest can differs come e =
      let inner = join_with_byte 44 (pair_texts text (p ∷ ps)) in
      record {
        can = can;
        behind = append_cancel_left opening mid (inner ++ (closing ++ rest)) (sym come ∙ e ∙ append_assoc (opening ++ inner) closing rest ∙ append_assoc opening inner (closing ++ rest));
      }

  pub record NotOpened (ps : Pairs) (old rest : List ℕ) : Type 0 where
    pub none : ps ≡ []
    pub same : old ≡ rest

  -- and else there are none
  pub not_opened : (ps : Pairs) (old rest : List ℕ) → Differs opening old → old ≡ enclosed opening 44 closing (pair_texts text ps) ++ rest → NotOpened ps old rest
  not_opened [] old rest differs e = record { none = refl; same = e }
  not_opened (p ∷ ps) old rest differs e =
      let inner = join_with_byte 44 (pair_texts text (p ∷ ps)) in
      absurd (differs (inner ++ (closing ++ rest)) (e ∙ append_assoc (opening ++ inner) closing rest ∙ append_assoc opening inner (closing ++ rest)))
