-- What stands in the four families.
use Rattle.std.proofs.Common.{◌≡◌, ℕ, zero, suc, refl}
use Rattle.tg_syntax.specs.Families.{pick, word_part, string_part, node_part}

pub pick_word : {A : Type 0} (f g h k : ℕ → A) (n : ℕ) → pick f g h k (word_part n) ≡ f n
pick_word f g h k zero = refl
pick_word f g h k (suc n) = pick_word (λ m. f (suc m)) (λ m. g (suc m)) (λ m. h (suc m)) (λ m. k (suc m)) n

pub pick_string : {A : Type 0} (f g h k : ℕ → A) (n : ℕ) → pick f g h k (string_part n) ≡ g n
pick_string f g h k zero = refl
pick_string f g h k (suc n) = pick_string (λ m. f (suc m)) (λ m. g (suc m)) (λ m. h (suc m)) (λ m. k (suc m)) n

pub pick_node : {A : Type 0} (f g h k : ℕ → A) (n : ℕ) → pick f g h k (node_part n) ≡ h n
pick_node f g h k zero = refl
pick_node f g h k (suc n) = pick_node (λ m. f (suc m)) (λ m. g (suc m)) (λ m. h (suc m)) (λ m. k (suc m)) n

-- what holds of each place of each family holds of each number, in one list of families and in two
pub pick_each : {A : Type 0} (P : A → Type 0) (f g h k : ℕ → A) → ((n : ℕ) → P (f n)) → ((n : ℕ) → P (g n)) → ((n : ℕ) → P (h n)) → ((n : ℕ) → P (k n)) → (n : ℕ) → P (pick f g h k n)
pick_each P f g h k a b c d zero = a zero
pick_each P f g h k a b c d (suc zero) = b zero
pick_each P f g h k a b c d (suc (suc zero)) = c zero
pick_each P f g h k a b c d (suc (suc (suc zero))) = d zero
pick_each P f g h k a b c d (suc (suc (suc (suc n)))) =
    pick_each P (λ m. f (suc m)) (λ m. g (suc m)) (λ m. h (suc m)) (λ m. k (suc m)) (λ m. a (suc m)) (λ m. b (suc m)) (λ m. c (suc m)) (λ m. d (suc m)) n

pub pick_both : {A B : Type 0} (R : A → B → Type 0) (f g h k : ℕ → A) (i j l o : ℕ → B) → ((n : ℕ) → R (f n) (i n)) → ((n : ℕ) → R (g n) (j n)) → ((n : ℕ) → R (h n) (l n)) → ((n : ℕ) → R (k n) (o n)) →
    (n : ℕ) → R (pick f g h k n) (pick i j l o n)
pick_both R f g h k i j l o a b c d zero = a zero
pick_both R f g h k i j l o a b c d (suc zero) = b zero
pick_both R f g h k i j l o a b c d (suc (suc zero)) = c zero
pick_both R f g h k i j l o a b c d (suc (suc (suc zero))) = d zero
pick_both R f g h k i j l o a b c d (suc (suc (suc (suc n)))) =
    pick_both R (λ m. f (suc m)) (λ m. g (suc m)) (λ m. h (suc m)) (λ m. k (suc m)) (λ m. i (suc m)) (λ m. j (suc m)) (λ m. l (suc m)) (λ m. o (suc m)) (λ m. a (suc m)) (λ m. b (suc m)) (λ m. c (suc m)) (λ m. d (suc m)) n
