-- The next text is new, so it goes last.
use Rattle.std.proofs.Common.{List, [], ℕ, Bor, map, refl}
use Rattle.std.specs.String.{string_bytes}
use Rattle.gr_symbols.proofs.FirstTexts.{texts_more}
use Rattle.gr_symbols.proofs.Lookups.{texts-insert_key}
use Rattle.gr_symbols.proofs.set_of.Goals as goal

pub loop-text-preserved : goal.loop-text-preserved
loop-text-preserved c =
    let before = map string_bytes c.loop-text.set.keys in
    texts_more (λ (t : Bor (List ℕ)). t.now) c.args.texts.now c.loop-text.text-index (record { ref_ptr = (0, 0); now = [] }) before (map string_bytes c.insert.new.self.keys) c.loop-text-test.true c.requires c.loop-text.invariant
    (λ new. texts-insert_key c.loop-text.set.keys c.in_ok-owned.owned c.insert.new.self.keys before _ refl c.in_ok-owned.ensures.ok new c.in_ok-insert.ensures.keys)
