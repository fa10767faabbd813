-- One answer is right, and what was written is read back.
use Rattle.std.proofs.lemmas.List.{append_cancel_left}
use Rattle.std.specs.Prelude.{◌≡◌, ◌≢◌, ℕ, ◌<◌, ◌^◌, List, [], ◌∷◌, ◌++◌, map, length, codes, Result, Ok, Err, ⊤, refl}
use Rattle.std.specs.Fmt.{decimal}
use Rattle.std.specs.Str.{IsUtf8, IsValidUpTo}
use Rattle.std.specs.Str.Parse.{digits_value}
use Rattle.std.proofs.Common.{ap, sym, ◌∙◌, arith, append_assoc}
use Rattle.std.proofs.lemmas.Bool.{eqb-true}
use Rattle.std.proofs.lemmas.Fmt.{decimal_digit}
use Rattle.std.proofs.lemmas.Str.{utf8_valid_len-IsValidUpTo}
use Rattle.gr_base.specs.Lists.{Each, NoneTwice}
use Rattle.gr_text.specs.declared.Place.{Place}
use Rattle.gr_text.proofs.DecimalLemmas.{decimal-value}
use Rattle.gr_grammar.specs.Grammars.{Matches, a_token, both, no_token}
use Rattle.gr_tokens.specs.declared.ReadRefusal.{ReadRefusal}
use Rattle.gr_tokens.specs.declared.ReadRefusal.TheVariants as refusal
use Rattle.td_canon.specs.declared.tree_set.ClassTrees.{ClassTrees}
use Rattle.tg_reader.specs.Writable.{IsTable}
use Rattle.tg_syntax.specs.Answers.{IsGrammarFile, IsSyntaxAnswer}
use Rattle.tg_syntax.specs.Files.{file, system}
use Rattle.tg_syntax.specs.Names.{keyword}
use Rattle.tg_syntax.proofs.OneAnswer.{one_answer as one_syntax}
use Rattle.tg_text.specs.Alike.{AreAlike}
use Rattle.tg_text.specs.Answers.{AreReadClasses, Classes, IsFirstBadLine, IsGrammarReading, IsOfVersionOne, IsReadClass, SaysVersion}
use Rattle.tg_text.specs.GrammarText.{ended, grammar_text}
use Rattle.tg_text.proofs.ClassRows.{written}
use Rattle.tg_text.proofs.FrontLemmas.{lines_apart}
use Rattle.tg_text.proofs.Leading.{classes_text_leads, joined-text_rows, read_classes, text_rows}
use Rattle.tg_text.proofs.OneLine.{no_bad, one_bad}
use Rattle.tg_text.proofs.OneText.{texts_apart, utf8_text}
use Rattle.tg_text.proofs.TreeBytes.{fine_decimal, fine_lacks, plain_lacks}
use Rattle.tg_text.proofs.WrittenTexts.{written_text_obeys}

-- ---- the version of a text of the grammar

keyword_front : (bs ts rest : List ℕ) → Matches system (keyword bs) ts rest → ts ≡ bs ++ rest
keyword_front [] ts _ no_token = refl
keyword_front (b ∷ bs) _ rest (both (a_token {t = t} {ts = mid} h) m) =
    let first : t ≡ b = eqb-true t b h in
    let more : mid ≡ bs ++ rest = keyword_front bs mid rest m in
    λ i. first i ∷ more i

-- a text that begins with the line of version 1 has no other version
one_version : (bytes more : List ℕ) → bytes ≡ (codes "grammar 1" ++ 10 ∷ []) ++ more → IsOfVersionOne bytes
one_version bytes more e n says =
    let rest = says.1.0 in
    let behind : decimal n ++ 10 ∷ rest ≡ ended (49 ∷ []) ++ more = append_cancel_left (codes "grammar ") _ _ (sym (append_assoc (codes "grammar ") (decimal n) (10 ∷ rest)) ∙ sym says.1.1 ∙ e) in
    let same : decimal n ≡ 49 ∷ [] =
    (lines_apart (decimal n) (49 ∷ []) rest more (fine_lacks (decimal n) (fine_decimal n)) (plain_lacks (49 ∷ []) refl) (append_assoc (decimal n) (10 ∷ []) rest ∙ behind)).0 in
    sym (decimal-value n says.0) ∙ ap (digits_value 10) (same ∙ sym (decimal_digit 1 (omega arith))) ∙ decimal-value 1 (omega arith)

file_version : (bytes : List ℕ) → IsGrammarFile bytes → IsOfVersionOne bytes
file_version bytes is = by bytes [] is.text
  where
    by : (ts rest : List ℕ) → Matches system file ts rest → IsOfVersionOne ts
    by ts rest (both {mid = mid} m k) = one_version ts mid (keyword_front (codes "grammar 1" ++ 10 ∷ []) ts mid m)

-- ---- each answer leaves the others out

same_length : (bytes : List ℕ) (m n : ℕ) → IsValidUpTo bytes m → IsValidUpTo bytes n → m ≡ n
same_length bytes m n a b = sym (utf8_valid_len-IsValidUpTo bytes m a) ∙ utf8_valid_len-IsValidUpTo bytes n b

same_versions : (bytes : List ℕ) (m n : ℕ) → SaysVersion bytes m → SaysVersion bytes n → m ≡ n
same_versions bytes m n a b =
    let there = append_cancel_left (codes "grammar ") _ _ (sym (append_assoc (codes "grammar ") (decimal m) (10 ∷ a.1.0)) ∙ sym a.1.1 ∙ b.1.1 ∙ append_assoc (codes "grammar ") (decimal n) (10 ∷ b.1.0)) in
    let same : decimal m ≡ decimal n =
    (lines_apart (decimal m) (decimal n) a.1.0 b.1.0 (fine_lacks (decimal m) (fine_decimal m)) (fine_lacks (decimal n) (fine_decimal n))
    (append_assoc (decimal m) (10 ∷ []) a.1.0 ∙ there ∙ sym (append_assoc (decimal n) (10 ∷ []) b.1.0))).0 in
    sym (decimal-value m a.0) ∙ ap (digits_value 10) same ∙ decimal-value n b.0

no_stop : (bytes : List ℕ) (place : Place) → IsGrammarFile bytes → IsSyntaxAnswer {A = Classes} bytes (Err place) → ⊥
no_stop bytes place file stops = let e : Ok tt ≡ Err place = one_syntax bytes (Ok tt) (Err place) file stops in absurd cc

same_place : (bytes : List ℕ) (p q : Place) → IsSyntaxAnswer {A = Classes} bytes (Err p) → IsSyntaxAnswer {A = Classes} bytes (Err q) → p ≡ q
same_place bytes p q a b = let e : ◌≡◌ {A = Result ⊤ Place} (Err p) (Err q) = one_syntax bytes (Err p) (Err q) a b in cc

-- what is known of a right answer that isn't want of memory
data Right (bytes : List ℕ) (texts : List (List ℕ)) : Result Classes ReadRefusal → Type 0 where
  reads : (x : Classes) → IsUtf8 bytes → IsGrammarFile bytes → AreReadClasses texts bytes x.items → Right bytes texts (Ok x)
  no_utf8 : (n : ℕ) → (IsUtf8 bytes → ⊥) → IsValidUpTo bytes n → Right bytes texts (Err (refusal.NotUtf8 n))
  other_version : (n : ℕ) → IsUtf8 bytes → SaysVersion bytes n → n ≢ 1 → Right bytes texts (Err (refusal.Version n))
  no_syntax : (place : Place) → IsUtf8 bytes → IsOfVersionOne bytes → IsSyntaxAnswer {A = Classes} bytes (Err place) → Right bytes texts (Err (refusal.Syntax place))
  no_canonical : (line : ℕ) → IsUtf8 bytes → IsGrammarFile bytes → IsFirstBadLine bytes line → Right bytes texts (Err (refusal.NotCanonical line))

right : (bytes : List ℕ) (texts : List (List ℕ)) (x : Result Classes ReadRefusal) → (x ≡ Err refusal.Memory → ⊥) → IsGrammarReading bytes texts x → Right bytes texts x
right bytes texts (Ok x) some h = reads x h.0 h.1 h.2
right bytes texts (Err refusal.Memory) some h = absurd (some refl)
right bytes texts (Err (refusal.NotUtf8 n)) some h = no_utf8 n h.0 h.1
right bytes texts (Err (refusal.Version n)) some h = other_version n h.0 h.1 h.2
right bytes texts (Err (refusal.Syntax place)) some h = no_syntax place h.0 h.1 h.2
right bytes texts (Err (refusal.NotCanonical line)) some h = no_canonical line h.0 h.1 h.2
right bytes texts (Err (refusal.Duplicate place)) some h = absurd h
right bytes texts (Err (refusal.TooManyClasses place)) some h = absurd h
right bytes texts (Err (refusal.EmptyWord place)) some h = absurd h
right bytes texts (Err (refusal.EntryLiterals place)) some h = absurd h
right bytes texts (Err (refusal.Variable place)) some h = absurd h
right bytes texts (Err (refusal.InputLiterals place)) some h = absurd h
right bytes texts (Err (refusal.TooManyInputs place)) some h = absurd h

-- classes that were read have no bad line
read_is_good : (bytes : List ℕ) (texts : List (List ℕ)) (cs : List ClassTrees) (line : ℕ) → IsTable texts → AreReadClasses texts bytes cs → IsFirstBadLine bytes line → ⊥
read_is_good bytes texts cs line table h bad = no_bad bytes (text_rows (written texts cs)) line (classes_text_leads texts table bytes cs h) (joined-text_rows (written texts cs) ∙ sym h.written) bad

-- and two such lists have the same text
pub read_alike : (bytes : List ℕ) (texts others : List (List ℕ)) (cs ds : List ClassTrees) → IsTable texts → IsTable others → AreReadClasses texts bytes cs → AreReadClasses others bytes ds → written texts cs ≡ written others ds
read_alike bytes texts others cs ds table table' h g = texts_apart (written texts cs) (written others ds) (read_classes texts table cs h.each) (read_classes others table' ds g.each) (sym h.written ∙ g.written)

module _ (bytes : List ℕ) (texts others : List (List ℕ)) (table : IsTable texts) (table' : IsTable others) where
  alike : (x y : Result Classes ReadRefusal) → Right bytes texts x → Right bytes others y → AreAlike texts others x y
  alike _ _ (reads x u text h) (reads y u' text' g) = read_alike bytes texts others x.items y.items table table' h g
  alike _ _ (reads x u text h) (no_utf8 n none valid) = none u
  alike _ _ (reads x u text h) (other_version n u' says other) = other (file_version bytes text n says)
  alike _ _ (reads x u text h) (no_syntax place u' one stops) = no_stop bytes place text stops
  alike _ _ (reads x u text h) (no_canonical line u' text' bad) = read_is_good bytes texts x.items line table h bad
  alike _ _ (no_utf8 n none valid) (reads y u text h) = none u
  alike _ _ (no_utf8 n none valid) (no_utf8 m none' valid') = ap (λ k. refusal.NotUtf8 k) (same_length bytes n m valid valid')
  alike _ _ (no_utf8 n none valid) (other_version m u says other) = absurd (none u)
  alike _ _ (no_utf8 n none valid) (no_syntax place u one stops) = absurd (none u)
  alike _ _ (no_utf8 n none valid) (no_canonical line u text bad) = absurd (none u)
  alike _ _ (other_version n u says other) (reads y u' text h) = other (file_version bytes text n says)
  alike _ _ (other_version n u says other) (no_utf8 m none valid) = absurd (none u)
  alike _ _ (other_version n u says other) (other_version m u' says' other') = ap (λ k. refusal.Version k) (same_versions bytes n m says says')
  alike _ _ (other_version n u says other) (no_syntax place u' one stops) = absurd (other (one n says))
  alike _ _ (other_version n u says other) (no_canonical line u' text bad) = absurd (other (file_version bytes text n says))
  alike _ _ (no_syntax place u one stops) (reads y u' text h) = no_stop bytes place text stops
  alike _ _ (no_syntax place u one stops) (no_utf8 m none valid) = absurd (none u)
  alike _ _ (no_syntax place u one stops) (other_version m u' says other) = absurd (other (one m says))
  alike _ _ (no_syntax place u one stops) (no_syntax place' u' one' stops') = ap (λ p. refusal.Syntax p) (same_place bytes place place' stops stops')
  alike _ _ (no_syntax place u one stops) (no_canonical line u' text bad) = absurd (no_stop bytes place text stops)
  alike _ _ (no_canonical line u text bad) (reads y u' text' h) = read_is_good bytes others y.items line table' h bad
  alike _ _ (no_canonical line u text bad) (no_utf8 m none valid) = absurd (none u)
  alike _ _ (no_canonical line u text bad) (other_version m u' says other) = absurd (other (file_version bytes text m says))
  alike _ _ (no_canonical line u text bad) (no_syntax place u' one stops) = absurd (no_stop bytes place text stops)
  alike _ _ (no_canonical line u text bad) (no_canonical other u' text' bad') = ap (λ k. refusal.NotCanonical k) (one_bad bytes line other bad bad')

  pub one_answer : (x y : Result Classes ReadRefusal) → (x ≡ Err refusal.Memory → ⊥) → (y ≡ Err refusal.Memory → ⊥) → IsGrammarReading bytes texts x → IsGrammarReading bytes others y → AreAlike texts others x y
  one_answer x y some some' h g = alike x y (right bytes texts x some h) (right bytes others y some' g)

-- ---- what was written

pub written_once : (texts : List (List ℕ)) (cs : List ClassTrees) → IsTable texts → Each (IsReadClass texts) cs → NoneTwice (map (λ (c : ClassTrees). c.class) cs) → (others : List (List ℕ)) → IsTable others → (read : Classes)
    → IsGrammarReading (grammar_text (written texts cs)) others (Ok read) → written others read.items ≡ written texts cs
written_once texts cs table each once others table' read h = read_alike (grammar_text (written texts cs)) others texts read.items cs table' table h.2 (record { each = each; once = once; written = refl })

pub written_is_canonical : (texts : List (List ℕ)) (cs : List ClassTrees) → IsTable texts → Each (IsReadClass texts) cs → NoneTwice (map (λ (c : ClassTrees). c.class) cs) → (others : List (List ℕ)) (line : ℕ)
    → IsGrammarReading (grammar_text (written texts cs)) others (Err (refusal.NotCanonical line)) → ⊥
written_is_canonical texts cs table each once others line h = read_is_good (grammar_text (written texts cs)) texts cs line table (record { each = each; once = once; written = refl }) h.2

pub written_is_read : (texts : List (List ℕ)) (cs : List ClassTrees) → IsTable texts → Each (IsReadClass texts) cs → NoneTwice (map (λ (c : ClassTrees). c.class) cs) → length (grammar_text (written texts cs)) < 10 ^ 9
    → (others : List (List ℕ)) → IsTable others → (y : Result Classes ReadRefusal) → (y ≡ Err refusal.Memory → ⊥) → IsGrammarReading (grammar_text (written texts cs)) others y
    → (read : Classes) × (y ≡ Ok read) × (written others read.items ≡ written texts cs)
written_is_read texts cs table each once few others table' y some g = by y (right (grammar_text (written texts cs)) others y some g)
  where
    by : (y : Result Classes ReadRefusal) → Right (grammar_text (written texts cs)) others y → (read : Classes) × (y ≡ Ok read) × (written others read.items ≡ written texts cs)
    by _ (reads x u text h) = (x, refl, read_alike (grammar_text (written texts cs)) others texts x.items cs table' table h (record { each = each; once = once; written = refl }))
    by _ (no_utf8 n none valid) = absurd (none (utf8_text (written texts cs) (read_classes texts table cs each)))
    by _ (other_version n u says other) = absurd (other (file_version (grammar_text (written texts cs)) (written_text_obeys texts table cs each few) n says))
    by _ (no_syntax place u one stops) = absurd (no_stop (grammar_text (written texts cs)) place (written_text_obeys texts table cs each few) stops)
    by _ (no_canonical line u text bad) = absurd (read_is_good (grammar_text (written texts cs)) texts cs line table (record { each = each; once = once; written = refl }) bad)
