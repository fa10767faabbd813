-- Four families of numbered parts: each number of a part is four times the place in its family, and the number of the family.
use Rattle.std.specs.Prelude.{ℕ, zero, suc}

-- what stands at a number, from what stands at each place of the four families
abbrev pub pick : {A : Type 0} → (ℕ → A) → (ℕ → A) → (ℕ → A) → (ℕ → A) → ℕ → A
pick f g h k zero = f zero
pick f g h k (suc zero) = g zero
pick f g h k (suc (suc zero)) = h zero
pick f g h k (suc (suc (suc zero))) = k zero
pick f g h k (suc (suc (suc (suc n)))) = pick (λ m. f (suc m)) (λ m. g (suc m)) (λ m. h (suc m)) (λ m. k (suc m)) n

abbrev pub four_times : ℕ → ℕ
four_times zero = zero
four_times (suc n) = suc (suc (suc (suc (four_times n))))

-- the numbers of the parts of the four families
abbrev pub word_part : ℕ → ℕ
word_part n = four_times n

abbrev pub string_part : ℕ → ℕ
string_part n = suc (four_times n)

abbrev pub node_part : ℕ → ℕ
node_part n = suc (suc (four_times n))

abbrev pub other_part : ℕ → ℕ
other_part n = suc (suc (suc (four_times n)))
