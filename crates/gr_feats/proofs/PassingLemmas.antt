-- What reading one part after another does beside its answers.
use Rattle.std.proofs.Common.{◌≡◌, ℕ, ◌+◌, ◌≤◌, List, length, sym, ap, subst, arith}
use Rattle.gr_symbols.specs.Numbers.{Grows}
use Rattle.gr_symbols.proofs.NumberLemmas.{Grows-refl, Grows-trans}
use Rattle.gr_reader.specs.Lexemes.{Lexeme}
use Rattle.gr_reader.specs.Parts.{Took}
use Rattle.gr_reader.specs.Classes.{Class}
use Rattle.gr_feats.specs.Numberings.{Numbering, GoesOnFrom}
use Rattle.gr_feats.specs.Passing.{Passes, PassesTexts}
use Rattle.gr_feats.proofs.NumberingLemmas.{GoesOnFrom-refl, GoesOnFrom-trans}

pub texts_stay : {texts : List (List ℕ)} {ts : List Lexeme} → PassesTexts texts texts ts ts
texts_stay {texts} = record { grows = Grows-refl texts; few = omega arith }

pub texts_then : {a b c : List (List ℕ)} {ts mid rest : List Lexeme} → PassesTexts a b ts mid → PassesTexts b c mid rest → PassesTexts a c ts rest
texts_then {a} {b} {c} h k = record { grows = Grows-trans a b c h.grows k.grows; few = omega (arith, h.few, k.few) }

-- a lexeme that is taken and not looked at
pub texts_took : {texts : List (List ℕ)} {ts rest : List Lexeme} {c : Class} → Took c ts rest → PassesTexts texts texts ts rest
texts_took {texts} t = let l = ap length t.split in record { grows = Grows-refl texts; few = omega arith }

pub stay : {texts : List (List ℕ)} {ts : List Lexeme} {met : Numbering} → Passes texts texts ts ts met met
stay {met = met} = record { texts = texts_stay; goes_on = GoesOnFrom-refl met }

pub pass_then : {a b c : List (List ℕ)} {ts mid rest : List Lexeme} {x y z : Numbering} → Passes a b ts mid x y → Passes b c mid rest y z → Passes a c ts rest x z
pass_then {x = x} {y = y} {z = z} h k = record { texts = texts_then h.texts k.texts; goes_on = GoesOnFrom-trans x y z h.goes_on k.goes_on }

pub pass_took : {texts : List (List ℕ)} {ts rest : List Lexeme} {met : Numbering} {c : Class} → Took c ts rest → Passes texts texts ts rest met met
pass_took {met = met} t = record { texts = texts_took t; goes_on = GoesOnFrom-refl met }

pub pass_texts : {a b : List (List ℕ)} {ts rest : List Lexeme} {met : Numbering} → PassesTexts a b ts rest → Passes a b ts rest met met
pass_texts {met = met} h = record { texts = h; goes_on = GoesOnFrom-refl met }

pub pass_names : {texts : List (List ℕ)} {ts : List Lexeme} {x y : Numbering} → GoesOnFrom x y → Passes texts texts ts ts x y
pass_names h = record { texts = texts_stay; goes_on = h }

-- a lexeme that isn't of the class stays
pub texts_same : {texts : List (List ℕ)} {ts rest : List Lexeme} → rest ≡ ts → PassesTexts texts texts ts rest
texts_same {texts} {ts} e = subst (λ rest. PassesTexts texts texts ts rest) (sym e) texts_stay

pub pass_same : {texts : List (List ℕ)} {ts rest : List Lexeme} {met : Numbering} → rest ≡ ts → Passes texts texts ts rest met met
pass_same {met = met} e = record { texts = texts_same e; goes_on = GoesOnFrom-refl met }

-- a lexeme whose text got a number
pub texts_interned : {a b : List (List ℕ)} {ts rest : List Lexeme} {c : Class} → Took c ts rest → Grows a b → length b ≤ length a + 1 → PassesTexts a b ts rest
texts_interned t grows one = let l = ap length t.split in record { grows = grows; few = omega arith }
