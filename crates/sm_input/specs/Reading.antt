-- What the parts of an input are while it is read, by a table of texts in which none stands twice.
use Rattle.std.specs.Prelude.{◌≡◌, ℕ, suc, ◌<◌, ◌≤◌, List, [], ◌∷◌, ◌++◌, length, take, Option, Some, None, ⊤, ◌⊎◌, nat_lt, ◌==◌}
use Rattle.std.specs.List.{AllZip}
use Rattle.gr_base.specs.Lists.{IsAmong, Each, NoneTwice}
use Rattle.gr_terms.specs.declared.Term.{Term}
use Rattle.gr_terms.specs.declared.Term.TheVariants.{Const, Var}
use Rattle.gr_terms.specs.declared.Literal.{Literal}
use Rattle.gr_symbols.specs.Numbers.{Names, Grows, with_texts}
use Rattle.gr_reader.specs.declared.complaints.Complaint.{Complaint}
use Rattle.gr_reader.specs.declared.complaints.Fault.TheVariants.{Duplicate, InputLiterals, TooManyInputs}
use Rattle.gr_feats.specs.declared.gathered.Gathered.{Gathered}
use Rattle.gr_feats.specs.declared.terms.Side.{Side}
use Rattle.gr_feats.specs.declared.terms.Side.TheVariants.{Name, Variable}
use Rattle.gr_feats.specs.Grammars.{Written, a_name, a_variable, WrittenPair, WrittenLiteral}
use Rattle.gr_feats.specs.Numberings.{Numbering, none_met}
use Rattle.gr_feats.specs.Readings.{IsBag}
use Rattle.sm_input.specs.declared.raw.RawLiteral.{RawLiteral}
use Rattle.sm_input.specs.declared.raw.RawInput.{RawInput}
use Rattle.gr_grammar.specs.Grammars.{Matches}
use Rattle.gr_reader.specs.Classes.{flat}
use Rattle.gr_reader.specs.Lexemes.{Lexeme}
use Rattle.sm_input.specs.Grammars.{WrittenInput, input_text, input_of, inputs_text, inputs_of}
use Rattle.sm_input.specs.Tables.{own_if, input_names, inputs_names}
use Rattle.sm_input.specs.Firsts.{firsts}
use Rattle.gr_feats.specs.Complaints.{complaint_if, complaint_at, again_left}
use Rattle.sm_input.specs.declared.input.Input.{Input}
use Rattle.sm_input.specs.Inputs.{own_name, IsInput}

-- it holds of the table, and of each that begins with it, where no text stands twice
abbrev pub Apart : List (List ℕ) → (List (List ℕ) → Type 0) → Type 0
Apart texts P = (later : List (List ℕ)) → Grows texts later → NoneTwice later → P later

-- a name is its number, and a variable that of its own name
abbrev pub IsRawTerm : List (List ℕ) → Written → Term → Type 0
IsRawTerm texts (a_name t) (Const s) = Names texts s.0 t
IsRawTerm texts (a_name t) (Var k) = ⊥
IsRawTerm texts (a_variable t) (Const s) = ⊥
IsRawTerm texts (a_variable t) (Var k) = Names texts k t

abbrev pub raw_term : Side → Term
raw_term (Name s) = Const s
raw_term (Variable s) = Var s.0

abbrev pub IsRawHandle : List (List ℕ) → Option Written → Option Term → Type 0
IsRawHandle texts None None = ⊤
IsRawHandle texts None (Some x) = ⊥
IsRawHandle texts (Some w) None = ⊥
IsRawHandle texts (Some w) (Some x) = IsRawTerm texts w x

pub record IsRawLiteral (texts : List (List ℕ)) (w : WrittenLiteral) (x : RawLiteral) : Type 0 where
  pub handle : IsRawHandle texts w.handle x.handle
  pub pred : IsRawTerm texts w.pred x.pred
  pub args : AllZip (IsRawTerm texts) w.args x.args

-- the literal of one side or two: of one the handle is left out
abbrev pub raw_literal : Side → Option Side → List Term → RawLiteral
raw_literal first None args = record { handle = None; pred = raw_term first; args = args }
raw_literal first (Some second) args = record { handle = Some (raw_term first); pred = raw_term second; args = args }

-- a literal is kept behind the others where it is none of them and they aren't too many yet
abbrev pub Keeps : List RawLiteral → RawLiteral → List RawLiteral → Type 0
Keeps old x new = (((24 < length old) ⊎ IsAmong old x) × (new ≡ old)) ⊎ ((length old ≤ 24) × ((IsAmong old x → ⊥) × (new ≡ old ++ x ∷ [])))

-- of the literals that no equal one stands before, the first ones, one more than there may be
abbrev pub AreKept : List (List ℕ) → List WrittenLiteral → List RawLiteral → Type 0
AreKept texts ws xs = AllZip (IsRawLiteral texts) (take 25 (firsts [] ws)) xs

-- the start features, with variables of their own
abbrev pub IsStart : List (List ℕ) → List WrittenPair → Gathered → Type 0
IsStart texts ws g = (after : Numbering) × IsBag texts none_met ws g after

pub record IsRawInput (texts : List (List ℕ)) (w : WrittenInput) (x : RawInput) : Type 0 where
  pub left : x.left ≡ w.left
  pub name : Names texts x.name.0 w.name
  pub start : IsStart texts w.start x.start
  pub literals : AreKept texts w.literals x.literals.items

-- the complaints of an input that was read, where so many stand before it
abbrev pub raw_bad : ℕ → RawInput → List Complaint
raw_bad number x =
    complaint_if (nat_lt 24 (length x.literals.items)) InputLiterals x.left
    ++ (complaint_if (number == 4096) TooManyInputs x.left
    ++ complaint_at Duplicate x.start.again)

-- a literal gets its handle: its own, or where it was left out the name by its number
abbrev pub HasHandle : List (List ℕ) → ℕ → Option Term → Term → Type 0
HasHandle texts number None (Const s) = Names texts s.0 (own_name number)
HasHandle texts number None (Var k) = ⊥
HasHandle texts number (Some h) x = x ≡ h

pub record IsNamedLiteral (texts : List (List ℕ)) (number : ℕ) (r : RawLiteral) (x : Literal) : Type 0 where
  pub handle : HasHandle texts number r.handle x.handle
  pub pred : x.pred ≡ r.pred
  pub args : x.args ≡ r.args

abbrev pub AreNamed : List (List ℕ) → ℕ → List RawLiteral → List Literal → Type 0
AreNamed texts number [] [] = ⊤
AreNamed texts number [] (x ∷ xs) = ⊥
AreNamed texts number (r ∷ rs) [] = ⊥
AreNamed texts number (r ∷ rs) (x ∷ xs) = IsNamedLiteral texts number r x × AreNamed texts (suc number) rs xs

pub record IsNamedInput (texts : List (List ℕ)) (r : RawInput) (i : Input) : Type 0 where
  pub name : i.name ≡ r.name
  pub start : i.start ≡ r.start.bag
  pub literals : AreNamed texts 1 r.literals.items i.literals

-- the term is no variable
abbrev pub IsPlain : Written → Type 0
IsPlain (a_name t) = ⊤
IsPlain (a_variable t) = ⊥

-- it holds of each term that is written
abbrev pub HandleHas : (Written → Type 0) → Option Written → Type 0
HandleHas P None = ⊤
HandleHas P (Some w) = P w

pub record LiteralHas (P : Written → Type 0) (w : WrittenLiteral) : Type 0 where
  pub handle : HandleHas P w.handle
  pub pred : P w.pred
  pub args : Each P w.args

pub record InputHas (P : Written → Type 0) (w : WrittenInput) : Type 0 where
  pub start : Each (λ p. P p.value) w.start
  pub literals : Each (LiteralHas P) w.literals

-- nothing is wrong with the input
pub record IsFaultless (w : WrittenInput) : Type 0 where
  pub plain : InputHas IsPlain w
  pub once : again_left [] w.start ≡ None
  pub few : length (firsts [] w.literals) ≤ 24

-- the inputs that nothing is wrong with are right
abbrev pub AreFaultless : List (List ℕ) → List WrittenInput → List Input → Type 0
AreFaultless texts ws xs = AllZip (λ w x. IsFaultless w → IsInput texts w x) ws xs

-- the names of the handles that were left out at these literals, the first of which has this number
abbrev pub raw_own_names : ℕ → List RawLiteral → List (List ℕ)
raw_own_names number [] = []
raw_own_names number (r ∷ rs) = own_if number r.handle ++ raw_own_names (suc number) rs

-- an input begins the lexemes, and where nothing is wrong with it, the new table is the old one with its names
pub record PutsInput (old new : List (List ℕ)) (ts rest : List Lexeme) : Type 0 where
  pub tree : Matches flat input_text ts rest
  pub table : IsFaultless (input_of tree) → new ≡ with_texts old (input_names tree)

-- the same of inputs
pub record PutsInputs (old new : List (List ℕ)) (ts rest : List Lexeme) : Type 0 where
  pub tree : Matches flat inputs_text ts rest
  pub table : Each IsFaultless (inputs_of tree) → new ≡ with_texts old (inputs_names tree)
