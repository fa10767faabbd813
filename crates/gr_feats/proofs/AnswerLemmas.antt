-- The answers for what begins at a token, from runs over the lexemes from there on.
use Rattle.std.proofs.Common.{◌≡◌, ℕ, ◌+◌, ◌-◌, ◌≤◌, List, length, drop, take, true, Option, refl, sym, ◌∙◌, ap, subst, arith}
use Rattle.std.specs.Prelude.{slice_range}
use Rattle.std.proofs.Math.Seq.{take-length}
use Rattle.std.proofs.lemmas.List.{length-map, length-drop, length-append}
use Rattle.gr_text.specs.declared.Place.{Place}
use Rattle.gr_terms.specs.declared.Literal.{Literal}
use Rattle.gr_tokens.specs.declared.Token.{Token}
use Rattle.gr_tokens.specs.declared.ReadRefusal.{ReadRefusal}
use Rattle.gr_tokens.specs.declared.ReadRefusal.TheVariants as refusal
use Rattle.gr_grammar.specs.Grammars.{Grammar, is_clear, Matches, Runs, took, tree_of}
use Rattle.gr_grammar.proofs.Fronts.{no_longer}
use Rattle.gr_grammar.proofs.Exact.{exact}
use Rattle.gr_reader.specs.Lexemes.{Lexeme, lexeme_of, lexemes}
use Rattle.gr_reader.specs.Classes.{Class, flat}
use Rattle.gr_reader.specs.Fronts.{IsFront, IsNoFront}
use Rattle.gr_reader.specs.Places.{place_of_token}
use Rattle.gr_reader.specs.Parts.{StopsAt, for_syntax, for_memory}
use Rattle.gr_reader.specs.declared.reader.Stop.{Stop}
use Rattle.gr_reader.specs.declared.reader.Stop.TheVariants.{Syntax, Memory}
use Rattle.gr_reader.proofs.Systems.{flat_is_system}
use Rattle.gr_reader.proofs.Fronts.{front_took, front_failed}
use Rattle.gr_feats.specs.declared.gathered.Gathered.{Gathered}
use Rattle.gr_feats.specs.Grammars.{bag_text, bag_of, closed_literals_text, closed_literals_of}
use Rattle.gr_feats.specs.Numberings.{Numbering}
use Rattle.gr_feats.specs.Readings.{IsBag, AreLiterals}
use Rattle.gr_feats.specs.Answers.{place_of_left, IsBagAt, AreLiteralsAt, IsRefusedAt, IsTableAt}
use Rattle.gr_feats.specs.Tables.{PutsNames}
use Rattle.gr_feats.proofs.ReadingLemmas.{bag_is_clear, closed_literals_are_clear, shorter}

abbrev pub from_on : List ℕ → List Token → ℕ → List Lexeme
from_on bytes tokens at = lexemes bytes (slice_range tokens at (length tokens))

-- the lexemes from the token on
all_of_it : (at n : ℕ) (tokens : List Token) → n ≡ length (drop at tokens) → take n (drop at tokens) ≡ drop at tokens
all_of_it at n tokens e = ap (λ k. take k (drop at tokens)) e ∙ take-length (drop at tokens)

pub from_there : (bytes : List ℕ) (tokens : List Token) (at : ℕ) → from_on bytes tokens at ≡ lexemes bytes (drop at tokens)
from_there bytes tokens at = ap (lexemes bytes) (all_of_it at (length tokens - at) tokens (sym (length-drop at tokens)))

pub length_from : (bytes : List ℕ) (tokens : List Token) (at : ℕ) → length (from_on bytes tokens at) ≡ length tokens - at
length_from bytes tokens at = ap length (from_there bytes tokens at) ∙ length-map (drop at tokens) (lexeme_of bytes) ∙ length-drop at tokens

-- a text that was taken begins there
pub front_there : {A : Type 0} (g : Grammar Class) (value : (ts rest : List Lexeme) → Matches flat g ts rest → A) (clear : is_clear flat g ≡ true) (bytes : List ℕ) (tokens : List Token) (at : ℕ) (rest : List Lexeme)
    → (r : Runs flat g (from_on bytes tokens at) (took rest))
    → IsFront flat g value (lexemes bytes (drop at tokens)) (value (from_on bytes tokens at) rest (tree_of r)) (length (from_on bytes tokens at) - length rest)
front_there g value clear bytes tokens at rest r =
    let within : length rest ≤ length (from_on bytes tokens at) = no_longer flat (tree_of r) in
    subst (λ ts. IsFront flat g value ts (value (from_on bytes tokens at) rest (tree_of r)) (length (from_on bytes tokens at) - length rest)) (from_there bytes tokens at)
    (front_took flat flat_is_system g clear value (length (from_on bytes tokens at) - length rest) (omega arith) r refl)

pub bag_there : (bytes : List ℕ) (tokens : List Token) (at : ℕ) (texts : List (List ℕ)) (before after : Numbering) (rest : List Lexeme) (g : Gathered) (place : Option Place) → at ≤ length tokens
    → (r : Runs flat bag_text (from_on bytes tokens at) (took rest)) → IsBag texts before (bag_of (tree_of r)) g after → place ≡ place_of_left bytes tokens g.again
    → IsBagAt bytes tokens at texts before after (g.bag, length tokens - length rest, place)
bag_there bytes tokens at texts before after rest g place within r read second =
    let len = length_from bytes tokens at in
    let less : length rest ≤ length (from_on bytes tokens at) = no_longer flat (tree_of r) in
    record {
      pairs = bag_of (tree_of r);
      passed = length (from_on bytes tokens at) - length rest;
      again = g.again;
      front = front_there bag_text (λ ts rest m. bag_of m) bag_is_clear bytes tokens at rest r;
      read = read;
      next = omega arith;
      second = second;
    }

pub literals_there : (bytes : List ℕ) (tokens : List Token) (at : ℕ) (texts : List (List ℕ)) (before after : Numbering) (rest : List Lexeme) (list : List Literal) (closing : ℕ) → at ≤ length tokens
    → (r : Runs flat closed_literals_text (from_on bytes tokens at) (took rest)) → AreLiterals texts before (closed_literals_of (tree_of r)) list after → closing + 1 ≡ length tokens - length rest
    → AreLiteralsAt bytes tokens at texts before after (list, closing)
literals_there bytes tokens at texts before after rest list closing within r read behind =
    let len = length_from bytes tokens at in
    let less : length rest ≤ length (from_on bytes tokens at) = no_longer flat (tree_of r) in
    record {
      literals = closed_literals_of (tree_of r);
      passed = length (from_on bytes tokens at) - length rest;
      front = front_there closed_literals_text (λ ts rest m. closed_literals_of m) closed_literals_are_clear bytes tokens at rest r;
      read = read;
      closing = behind ∙ omega arith;
    }

-- the table behind a text that was taken
pub table_there : (g : Grammar Class) (bytes : List ℕ) (tokens : List Token) (at : ℕ) (old new : List (List ℕ)) (rest : List Lexeme) → PutsNames g old new (from_on bytes tokens at) rest → IsTableAt g bytes tokens at old new
table_there g bytes tokens at old new rest p = (rest, subst (λ ts. PutsNames g old new ts rest) (from_there bytes tokens at) p)

-- where reading stopped, no text begins
pub refused_there : (g : Grammar Class) (clear : is_clear flat g ≡ true) (bytes : List ℕ) (tokens : List Token) (at : ℕ) (rest : List Lexeme) (stop : Stop) (refused : ReadRefusal) → at ≤ length tokens
    → StopsAt flat g (from_on bytes tokens at) rest stop
    → (stop ≡ Syntax → refused ≡ refusal.Syntax (place_of_token bytes tokens (length tokens - length rest))) → (stop ≡ Memory → refused ≡ refusal.Memory)
    → IsRefusedAt g bytes tokens at refused
refused_there g clear bytes tokens at rest Syntax refused within (for_syntax r) syntax memory =
    let len = length_from bytes tokens at in
    let p = exact flat flat_is_system clear r in
    let parts : length (from_on bytes tokens at) ≡ length p.front + length rest = ap length p.split ∙ length-append p.front rest in
    let n = length (from_on bytes tokens at) - length rest in
    let same : length tokens - length rest ≡ at + n = omega arith in
    rw (syntax refl)
    (n, subst (λ ts. IsNoFront flat g ts n) (from_there bytes tokens at) (front_failed flat flat_is_system g clear n (omega arith) r), ap (place_of_token bytes tokens) same)
refused_there g clear bytes tokens at rest Memory refused within for_memory syntax memory = rw (memory refl) (tt {0})

-- at least the closing brace was passed
pub some_passed : (bytes : List ℕ) (tokens : List Token) (at : ℕ) (rest : List Lexeme) → at ≤ length tokens → Runs flat closed_literals_text (from_on bytes tokens at) (took rest) → 1 ≤ length tokens - length rest
some_passed bytes tokens at rest within r =
    let less = shorter {g = closed_literals_text} refl r in
    let len = length_from bytes tokens at in
    omega arith
