-- Behind one old table one answer is right, and one new table.
use Rattle.std.proofs.Common.{◌≡◌, ℕ, List, [], true, Result, Ok, Err, Option, refl, ap, sym, subst}
use Rattle.gr_base.specs.Lists.{NoneTwice}
use Rattle.gr_text.specs.declared.Place.{Place}
use Rattle.gr_terms.specs.declared.Literal.{Literal}
use Rattle.gr_terms.specs.declared.bag.Bag.{Bag}
use Rattle.gr_tokens.specs.declared.Token.{Token}
use Rattle.gr_tokens.specs.declared.ReadRefusal.{ReadRefusal}
use Rattle.gr_tokens.specs.declared.ReadRefusal.TheVariants as refusal
use Rattle.gr_grammar.specs.Grammars.{Grammar, is_clear, goes}
use Rattle.gr_reader.specs.Classes.{Class, flat}
use Rattle.gr_feats.specs.Grammars.{bag_text, closed_literals_text}
use Rattle.gr_feats.specs.Numberings.{Numbering, IsNumbering}
use Rattle.gr_feats.specs.Answers.{IsBagAt, AreLiteralsAt, IsTableAt, IsBagAnswer, IsBagReading, IsLiteralsAnswer, IsLiteralsReading}
use Rattle.gr_feats.proofs.ReadingLemmas.{bag_is_clear, closed_literals_are_clear}
use Rattle.gr_feats.proofs.TableLemmas.{one_front_table, puts_once}
use Rattle.gr_feats.proofs.OneAnswer.{one_bag_at, one_literals_at, one_bag_reading, one_literals_reading}

-- what is right by the tables before and behind is right by the one behind
pub bag_behind : (bytes : List ℕ) (tokens : List Token) (at : ℕ) (old new : List (List ℕ)) (before after : Numbering) (x : Result (Bag × ℕ × Option Place) ReadRefusal)
    → IsBagAnswer bytes tokens at old new before after x → IsBagReading bytes tokens at new before after x
bag_behind bytes tokens at old new before after (Ok x) h = h.0
bag_behind bytes tokens at old new before after (Err r) h = h

pub literals_behind : (bytes : List ℕ) (tokens : List Token) (at : ℕ) (old new : List (List ℕ)) (before after : Numbering) (x : Result (List Literal × ℕ) ReadRefusal)
    → IsLiteralsAnswer bytes tokens at old new before after x → IsLiteralsReading bytes tokens at new before after x
literals_behind bytes tokens at old new before after (Ok x) h = h.0
literals_behind bytes tokens at old new before after (Err r) h = h

module _ (bytes : List ℕ) (tokens : List Token) (at : ℕ) (old : List (List ℕ)) where
  one_table_at : (g : Grammar Class) → is_clear flat g ≡ true → goes flat g ≡ [] → (new later : List (List ℕ)) → IsTableAt g bytes tokens at old new → IsTableAt g bytes tokens at old later → new ≡ later
  one_table_at g clear ends new later h k = one_front_table clear ends h.1 k.1

  pub one_bag_table : (new later : List (List ℕ)) → IsTableAt bag_text bytes tokens at old new → IsTableAt bag_text bytes tokens at old later → new ≡ later
  one_bag_table = one_table_at bag_text bag_is_clear refl

  pub one_literals_table : (new later : List (List ℕ)) → IsTableAt closed_literals_text bytes tokens at old new → IsTableAt closed_literals_text bytes tokens at old later → new ≡ later
  one_literals_table = one_table_at closed_literals_text closed_literals_are_clear refl

  module _ (once : NoneTwice old) (before : Numbering) (is : IsNumbering before) where
    -- what was read by one of two new tables was read by the other
    pub one_bag_behind : (new later : List (List ℕ)) (a b : Numbering) (x y : Bag × ℕ × Option Place) → IsBagAnswer bytes tokens at old new before a (Ok x) → IsBagAnswer bytes tokens at old later before b (Ok y) → (x ≡ y) × (a ≡ b)
    one_bag_behind new later a b x y h k =
        one_bag_at bytes tokens at new (puts_once once h.1.1) before is a b x y h.0
        (subst (λ t. IsBagAt bytes tokens at t before b y) (sym (one_bag_table new later h.1 k.1)) k.0)

    pub one_literals_behind : (new later : List (List ℕ)) (a b : Numbering) (x y : List Literal × ℕ) → IsLiteralsAnswer bytes tokens at old new before a (Ok x) → IsLiteralsAnswer bytes tokens at old later before b (Ok y) → (x ≡ y) × (a ≡ b)
    one_literals_behind new later a b x y h k =
        one_literals_at bytes tokens at new (puts_once once h.1.1) before is a b x y h.0
        (subst (λ t. AreLiteralsAt bytes tokens at t before b y) (sym (one_literals_table new later h.1 k.1)) k.0)

    pub one_bag_answer : (new later : List (List ℕ)) (a b : Numbering) (x y : Result (Bag × ℕ × Option Place) ReadRefusal) → (x ≡ Err refusal.Memory → ⊥) → (y ≡ Err refusal.Memory → ⊥)
        → IsBagAnswer bytes tokens at old new before a x → IsBagAnswer bytes tokens at old later before b y → x ≡ y
    one_bag_answer new later a b (Ok x) (Ok y) m n h k = ap Ok (one_bag_behind new later a b x y h k).0
    one_bag_answer new later a b (Ok x) (Err r) m n h k = one_bag_reading bytes tokens at new (puts_once once h.1.1) before is a b (Ok x) (Err r) m n h.0 k
    one_bag_answer new later a b (Err r) (Ok y) m n h k = one_bag_reading bytes tokens at later (puts_once once k.1.1) before is a b (Err r) (Ok y) m n h k.0
    one_bag_answer new later a b (Err r) (Err s) m n h k = one_bag_reading bytes tokens at old once before is a b (Err r) (Err s) m n h k

    pub one_literals_answer : (new later : List (List ℕ)) (a b : Numbering) (x y : Result (List Literal × ℕ) ReadRefusal) → (x ≡ Err refusal.Memory → ⊥) → (y ≡ Err refusal.Memory → ⊥)
        → IsLiteralsAnswer bytes tokens at old new before a x → IsLiteralsAnswer bytes tokens at old later before b y → x ≡ y
    one_literals_answer new later a b (Ok x) (Ok y) m n h k = ap Ok (one_literals_behind new later a b x y h k).0
    one_literals_answer new later a b (Ok x) (Err r) m n h k = one_literals_reading bytes tokens at new (puts_once once h.1.1) before is a b (Ok x) (Err r) m n h.0 k
    one_literals_answer new later a b (Err r) (Ok y) m n h k = one_literals_reading bytes tokens at later (puts_once once k.1.1) before is a b (Err r) (Ok y) m n h k.0
    one_literals_answer new later a b (Err r) (Err s) m n h k = one_literals_reading bytes tokens at old once before is a b (Err r) (Err s) m n h k
