use Rattle.std.proofs.Common.{◌≡◌, ◌+◌, ◌≤◌, ◌++◌, length}
use Rattle.std.specs.Vec.Iter.{into_iter_items, into_iter_len}
use Rattle.gr_symbols.specs.Numbers.{Grows, with_texts}
use Rattle.sm_input.specs.Reading.{AreNamed, raw_own_names}
use Rattle.sm_input.proofs.inputs.named_literals.Given as goal

-- the literals that were taken have their names, which are new texts at most one each
abbrev pub invariant-rows : goal.invariant-rows
invariant-rows l = (l.yielded ++ into_iter_items l.raw-iterator ≡ into_iter_items l.initial.raw-iterator)
    × AreNamed l.symbols 1 l.yielded l.literals
    × Grows l.initial.symbols l.symbols
    × (length l.symbols ≤ length l.initial.symbols + length l.yielded)
    × (into_iter_len l.raw-iterator ≡ length (into_iter_items l.raw-iterator))
    × (l.symbols ≡ with_texts l.initial.symbols (raw_own_names 1 l.yielded))
