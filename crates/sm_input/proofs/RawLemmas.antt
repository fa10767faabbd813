-- What is read as it is written.
use Rattle.std.proofs.Common.{◌≡◌, ◌≤◌, ℕ, List, [], ◌∷◌, ◌++◌, length, Bool, true, false, Option, Some, None, ap, arith}
use Rattle.std.specs.List.{AllZip}
use Rattle.gr_reader.specs.Lexemes.{Lexeme}
use Rattle.gr_reader.specs.Classes.{Class}
use Rattle.gr_reader.specs.Parts.{Skips}
use Rattle.gr_terms.specs.declared.Term.{Term}
use Rattle.gr_feats.specs.declared.terms.Side.{Side}
use Rattle.gr_feats.specs.declared.terms.Side.TheVariants.{Name, Variable}
use Rattle.gr_feats.specs.Grammars.{Written, a_name, a_variable, with_args}
use Rattle.gr_feats.specs.Sides.{IsSide, IsPerhapsSide}
use Rattle.sm_input.specs.Reading.{IsRawTerm, IsRawLiteral, raw_term, raw_literal}
use Rattle.gr_base.proofs.Zips.{AllZip-none, AllZip-pushed}

pub side_raw : (texts : List (List ℕ)) (w : Written) (s : Side) → IsSide texts w s → IsRawTerm texts w (raw_term s)
side_raw texts (a_name t) (Name s) h = h
side_raw texts (a_name t) (Variable s) h = absurd h
side_raw texts (a_variable t) (Name s) h = absurd h
side_raw texts (a_variable t) (Variable s) h = h

pub literal_raw : (texts : List (List ℕ)) (w : Written) (v : Option Written) (ws : List Written) (s : Side) (t : Option Side) (xs : List Term)
    → IsSide texts w s → IsPerhapsSide texts v t → AllZip (IsRawTerm texts) ws xs → IsRawLiteral texts (with_args w v ws) (raw_literal s t xs)
literal_raw texts w None ws s None xs h k z = record { handle = tt; pred = side_raw texts w s h; args = z }
literal_raw texts w None ws s (Some t) xs h k z = absurd k
literal_raw texts w (Some v) ws s None xs h k z = absurd k
literal_raw texts w (Some v) ws s (Some t) xs h k z = record { handle = side_raw texts w s h; pred = side_raw texts v t k; args = z }

pub zip_first : {W X : Type 0} (R : W → X → Type 0) (xs ys : List X) (w : W) (x : X) → xs ≡ [] → R w x → ys ≡ xs ++ x ∷ [] → AllZip R (w ∷ []) ys
zip_first R xs ys w x none r e = AllZip-pushed R [] xs ys w x (AllZip-none R xs none) r e

-- a lexeme that may be skipped
pub skipped : (c : Class) (ts rest : List Lexeme) (b : Bool) → Skips c ts rest b → length rest ≤ length ts
skipped c ts rest true t = let e = ap length t.split in omega (arith, e)
skipped c ts rest false s = let e = ap length s.same in omega (arith, e)
