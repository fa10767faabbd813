use Rattle.gr_symbols.specs.Numbers.{first_texts, with_texts}
use Rattle.gr_symbols.proofs.NumberLemmas.{Grows-trans}
use Rattle.std.proofs.Common.{ap, sym}
use Rattle.tg_reader.specs.Reading.{IsKnownPair}
use Rattle.tg_reader.proofs.NodeTexts.{known_category, no_category}
use Rattle.tg_reader.proofs.PairLemmas.{put_each}
use Rattle.tg_reader.proofs.reader.Reader.category.Goals as goal

pub returns-then-eat-clause-takes : goal.returns-then-eat-clause-takes
returns-then-eat-clause-takes c = λ text vs rest can end e.
    let none = no_category text vs c.args.self.now.rest.now c.eat.new.self.rest.now rest c.new-own.result can c.new-own.ensures c.if-eat.ensures.yes e in
    (none.0, record { table = ap (λ z. with_texts c.args.symbols.now z) (sym none.2); later = λ later grows. none.1 later })

pub returns-clause-known : goal.returns-clause-known
returns-clause-known c = λ first later grows. record {
  listed = c.add.ensures.listed;
  pairs = put_each c.in_ok-_added._added _ _ (record { 0 = 0 }) c.in_ok-category.category c.in_ok-_added.ensures.absent c.in_ok-_added.ensures.added c.in_ok-_added.ensures.there c.in_ok-_added.ensures.same (IsKnownPair later)
      (known_category later c.in_ok-category.category (Grows-trans first_texts _ later first (Grows-trans _ _ later c.term.ensures.passes.grows grows)) (c.in_ok-category.ensures.known later grows))
      (rw c.new-own.ensures tt);
}
