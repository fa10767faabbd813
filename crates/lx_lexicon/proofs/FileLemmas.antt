-- From what was read of the tokens of a file to the answer for its bytes.
use Rattle.std.proofs.Common.{◌≡◌, List, [], ℕ, true, Option, Some, None, Result, Ok, Err, inr, refl, ◌∙◌, subst}
use Rattle.std.specs.Prelude.{length, slice_range, OnOk}
use Rattle.gr_grammar.specs.Grammars.{Matches, is_clear}
use Rattle.gr_tokens.specs.declared.Token.{Token}
use Rattle.gr_tokens.specs.declared.ReadRefusal.{ReadRefusal}
use Rattle.gr_tokens.specs.Answers.{AreTokens}
use Rattle.gr_reader.specs.declared.brackets.TheConstants.{BRACKET_LIMIT}
use Rattle.gr_reader.specs.declared.complaints.Complaint.{Complaint}
use Rattle.gr_reader.specs.declared.reader.Stop.{Stop}
use Rattle.gr_reader.specs.Classes.{flat}
use Rattle.gr_reader.specs.Complaints.{all_noted}
use Rattle.gr_reader.specs.Files.{IsFileAnswer, IsEnd}
use Rattle.gr_reader.specs.Levels.{level_behind}
use Rattle.gr_reader.specs.Lexemes.{Lexeme, lexemes}
use Rattle.gr_reader.specs.Parts.{Reads}
use Rattle.gr_reader.proofs.WholeFiles.{reads_map, reads_and, all_of_them, whole_answer, answer_map, answer_has}
use Rattle.gr_feats.specs.Passing.{Later}
use Rattle.gr_feats.specs.Tables.{PutsNames}
use Rattle.gr_symbols.proofs.NumberLemmas.{Grows-refl}
use Rattle.lx_lexicon.specs.declared.entry.Entry.{Entry}
use Rattle.lx_lexicon.specs.Grammars.{lexicon_text, lexicon_of}
use Rattle.lx_lexicon.specs.Complaints.{lexicon_bad}
use Rattle.lx_lexicon.specs.Entries.{AreEntries}
use Rattle.lx_lexicon.specs.Answers.{IsTokensAnswer, IsLexiconAnswer}

pub lexicon_is_clear : is_clear flat lexicon_text ≡ true
lexicon_is_clear = refl

-- brackets are closed behind each entry, and stand three deep at most
lexicon_is_level : level_behind BRACKET_LIMIT 0 lexicon_text ≡ Some 0
lexicon_is_level = refl

module _ (bytes : List ℕ) (tokens : List Token) (old texts : List (List ℕ)) where
  abbrev bad : (ts rest : List Lexeme) → Matches flat lexicon_text ts rest → List Complaint
  bad ts rest m = lexicon_bad (lexicon_of m)

  abbrev right : (ts rest : List Lexeme) → Matches flat lexicon_text ts rest → List Entry → Type 0
  right ts rest m es = AreEntries texts (lexicon_of m) es

  -- entries by this table and each later one, with complaints that were noted behind those from before
  abbrev found : Option Complaint → Option Complaint → (ts rest : List Lexeme) → Matches flat lexicon_text ts rest → List Entry → Type 0
  found b c ts rest m es = Later texts (λ later. AreEntries later (lexicon_of m) es) × (c ≡ all_noted b (lexicon_bad (lexicon_of m)))

  -- the answer with the table behind it
  both : (rest : List Lexeme) (b c : Option Complaint) (read : Result (List Entry) Stop) (x : Result (List Entry) ReadRefusal) → b ≡ None
      → Reads flat lexicon_text (found b c) (lexemes bytes tokens) rest read → OnOk read (PutsNames lexicon_text old texts (lexemes bytes tokens) rest) → IsEnd bytes tokens rest c read x
      → IsFileAnswer flat lexicon_text bad (λ ts rest m es. right ts rest m es × PutsNames lexicon_text old texts ts rest) bytes tokens x
  both rest b c read x none r p e =
      let all = lexemes bytes tokens in
      whole_answer lexicon_text lexicon_is_clear lexicon_is_level bytes tokens bad (λ ts rest m es. right ts rest m es × PutsNames lexicon_text old texts ts rest) rest c read x
      (reads_map flat lexicon_text (λ ts rest m es. found b c ts rest m es × PutsNames lexicon_text old texts ts rest) all rest
      (λ ts rest m es. (c ≡ all_noted None (bad ts rest m)) × (right ts rest m es × PutsNames lexicon_text old texts ts rest)) read
      (λ m es k. (subst (λ z. c ≡ all_noted z (lexicon_bad (lexicon_of m))) none k.0.1, (k.0.0 texts (Grows-refl texts), k.1)))
      (reads_and flat lexicon_text (found b c) all rest (PutsNames lexicon_text old texts) read r p))
      e

  module _ (now rest : List Lexeme) (b c : Option Complaint) (read : Result (List Entry) Stop) (x : Result (List Entry) ReadRefusal) (is : now ≡ lexemes bytes (slice_range tokens 0 (length tokens))) (none : b ≡ None)
      (r : Reads flat lexicon_text (found b c) now rest read) (p : OnOk read (PutsNames lexicon_text old texts now rest)) (e : IsEnd bytes tokens rest c read x) where
    ended : IsFileAnswer flat lexicon_text bad (λ ts rest m es. right ts rest m es × PutsNames lexicon_text old texts ts rest) bytes tokens x
    ended =
        let same = all_of_them bytes tokens now is in
        both rest b c read x none (subst (λ z. Reads flat lexicon_text (found b c) z rest read) same r) (subst (λ z. OnOk read (PutsNames lexicon_text old texts z rest)) same p) e

    pub tokens_answer : IsTokensAnswer bytes tokens texts x
    tokens_answer = answer_map flat lexicon_text bytes tokens bad (λ ts rest m es. right ts rest m es × PutsNames lexicon_text old texts ts rest) right x (λ m es f k. k.0) ended

    pub tokens_table : OnOk x (PutsNames lexicon_text old texts (lexemes bytes tokens) [])
    tokens_table = answer_has flat lexicon_text bytes tokens bad (λ ts rest m es. right ts rest m es × PutsNames lexicon_text old texts ts rest) x (λ m es f k. k.1) ended

-- the answer for the tokens is that for the bytes
pub read_there : (bytes : List ℕ) (tokens : List Token) (old new : List (List ℕ)) (answer : Result (List Entry) ReadRefusal) → AreTokens bytes tokens → IsTokensAnswer bytes tokens new answer
    → OnOk answer (PutsNames lexicon_text old new (lexemes bytes tokens) []) → IsLexiconAnswer bytes old new answer
read_there bytes tokens old new (Ok es) are right puts = (record { tokens = tokens; are = are; right = right }, record { tokens = tokens; are = are; puts = puts })
read_there bytes tokens old new (Err refusal) are right puts = inr (inr (record { tokens = tokens; are = are; right = right }))
