-- A text that is found is there already; one that isn't goes last.
use Rattle.std.proofs.Common.{◌≡◌, [], ◌∷◌, ◌++◌, ◌+◌, length, subst, sym, ap, ◌∙◌, map, arith}
use Rattle.std.specs.String.{string_bytes}
use Rattle.std.proofs.lemmas.List.{length-map, length_push}
use Rattle.gr_base.specs.Lists.{NoneTwice}
use Rattle.gr_base.proofs.ListLemmas.{NoneTwice-push, slice_get_push}
use Rattle.gr_symbols.specs.Numbers.{Grows, first_texts}
use Rattle.gr_symbols.proofs.NumberLemmas.{Grows-trans, IsAmong-Names, with_text-known, with_text-fresh}
use Rattle.gr_symbols.proofs.Lookups.{texts-insert_key}
use Rattle.gr_symbols.proofs.Symbols.intern.Goals as goal

pub returns-in-Some-clause-fresh : goal.returns-in-Some-clause-fresh
returns-in-Some-clause-fresh c = λ new. absurd (new (IsAmong-Names c.args.self.now c.in-Some.sym.0 c.args.text.now c.in-Some.ensures))

pub returns-in-Some-clause-table : goal.returns-in-Some-clause-table
returns-in-Some-clause-table c =
    sym (with_text-known c.args.self.now c.args.text.now (IsAmong-Names c.args.self.now c.in-Some.sym.0 c.args.text.now c.in-Some.ensures))

-- the texts once the new one went last
texts_after : (c : goal.In_ok-insert) → map string_bytes c.insert.new.self.keys ≡ c.args.self.now ++ c.args.text.now ∷ []
texts_after c =
    texts-insert_key c.self.inside.texts.keys c.in_ok-owned.owned c.insert.new.self.keys c.args.self.now c.args.text.now c.self.view_is c.in_ok-owned.ensures.ok c.in_default.ensures c.in_ok-insert.ensures.keys

distinct_after : (c : goal.In_ok-insert) → NoneTwice (map string_bytes c.insert.new.self.keys)
distinct_after c =
    subst NoneTwice (sym (texts_after c)) (NoneTwice-push c.args.self.now c.args.text.now (subst NoneTwice c.self.view_is c.self.invariant.0) c.in_default.ensures)

begins_after : (c : goal.In_ok-insert) → Grows first_texts (map string_bytes c.insert.new.self.keys)
begins_after c = Grows-trans first_texts c.args.self.now _ (subst (Grows first_texts) c.self.view_is c.self.invariant.1) (c.args.text.now ∷ [], texts_after c)

length_after : (c : goal.In_ok-insert) → length (map string_bytes c.insert.new.self.keys) ≡ length c.args.self.now + 1
length_after c = ap length (texts_after c) ∙ length_push c.args.self.now c.args.text.now

pub invariant_of-self-2 : goal.invariant_of-self-2
invariant_of-self-2 c =
    let number : c.len-number.result ≡ length c.args.self.now =
    c.len-number.ensures.len ∙ sym (length-map c.self.inside.texts.keys string_bytes) ∙ ap length c.self.view_is
    in
    (distinct_after c, begins_after c, omega (arith, number, length_after c, length-map c.insert.new.self.keys string_bytes, c.if-number-ge-TEXT_LIMIT.false))

pub returns : goal.returns
returns c =
    let number : c.len-number.result ≡ length c.args.self.now =
    c.len-number.ensures.len ∙ sym (length-map c.self.inside.texts.keys string_bytes) ∙ ap length c.self.view_is
    in
    record {
      named = rw (texts_after c, number) (slice_get_push c.args.self.now c.args.text.now);
      known = λ i. absurd (c.in_default.ensures i);
      fresh = λ _. texts_after c;
      table = texts_after c ∙ sym (with_text-fresh c.args.self.now c.args.text.now c.in_default.ensures);
      grows = (c.args.text.now ∷ [], texts_after c);
      one_more_at_most = omega (arith, length_after c);
      err = tt;
      absent = tt;
      distinct = distinct_after c;
    }
