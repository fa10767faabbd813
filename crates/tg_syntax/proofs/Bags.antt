-- Bags behind a sign.
use Rattle.std.proofs.Common.{◌≡◌, ℕ, zero, suc, List, [], ◌∷◌, true, false, refl, arith}
use Rattle.std.specs.Prelude.{Result, Ok, Err}
use Rattle.gr_grammar.specs.Grammars.{tok, Runs, took, failed, take_nothing, run_both, run_first, run_left, run_right, is_next}
use Rattle.tg_syntax.specs.declared.class.Class.TheVariants.{Byte}
use Rattle.tg_syntax.specs.Names.{bag}
use Rattle.tg_syntax.specs.Trees.{signed_bag, never}
use Rattle.tg_syntax.specs.Files.{system}
use Rattle.tg_syntax.specs.Reading.{Ends}

pub no_bag : (sign room : ℕ) {ts : List ℕ} → is_next system (Byte sign ∷ []) ts ≡ false → Runs system (signed_bag sign room) ts (took ts)
no_bag sign zero b = run_right b take_nothing
no_bag sign (suc r) b = run_right b take_nothing

pub bag_fails : (sign room : ℕ) {ts rest : List ℕ} → is_next system (Byte sign ∷ []) ts ≡ true → Runs system (tok (Byte sign)) ts (failed rest) → Runs system (signed_bag sign room) ts (failed rest)
bag_fails sign zero b t = run_left b (run_first t)
bag_fails sign (suc r) b t = run_left b (run_first t)

pub no_bracket : (sign room : ℕ) {ts mid rest : List ℕ} → room ≡ 0 → is_next system (Byte sign ∷ []) ts ≡ true → Runs system (tok (Byte sign)) ts (took mid) → Runs system never mid (failed rest) → Runs system (signed_bag sign room) ts (failed rest)
no_bracket sign zero e b t n = run_left b (run_both t n)
no_bracket sign (suc r) e b t n = absurd (omega arith)

pub bag_there : {A E : Type 0} (sign room : ℕ) {ts mid : List ℕ} (rest : List ℕ) (x : Result A E) → (room ≡ 0 → ⊥) → is_next system (Byte sign ∷ []) ts ≡ true → Runs system (tok (Byte sign)) ts (took mid) → Ends bag mid rest x → Ends (signed_bag sign room) ts rest x
bag_there sign zero rest x e b t n = absurd (e refl)
bag_there sign (suc r) rest (Ok v) e b t n = run_left b (run_both t n)
bag_there sign (suc r) rest (Err v) e b t n = run_left b (run_both t n)
