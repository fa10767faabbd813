use Rattle.std.proofs.Common.{rules, ◌≡◌, ◌++◌, ◌∷◌, [], take, drop, length, arith, sym, ap, subst, inr, append-nil}
use Rattle.std.proofs.lemmas.List.{take-append-drop, length-drop, drop_all}
use Rattle.gr_text.proofs.CursorLemmas.{StandsAt-start}
use Rattle.gr_tokens.specs.Tokens.{IsCut, nothing}
use Rattle.gr_tokens.proofs.Steps.{here_place, cut_grows}
use Rattle.gr_tokens.proofs.cut.cut.Goals as goal

pub past_gaps-here-requires : goal.past_gaps-here-requires
past_gaps-here-requires c = StandsAt-start c.args.bytes.now c.requires.length

pub returns-in_default-clause-err : goal.returns-in_default-clause-err
returns-in_default-clause-err c =
    let bytes = c.args.bytes.now in
    let here = c.loop-here.here in
    let found = c.loop-here.found.items in
    inr (record {
      utf8 = c.requires.utf8;
      ts = found;
      before = take here.at bytes;
      left = drop here.at bytes;
      split = sym (take-append-drop here.at bytes);
      cut = subst (λ z. IsCut [] bytes z (drop here.at bytes)) (append-nil found) (c.loop-here.invariant.forth [] (drop here.at bytes) nothing);
      stuck = record {
        some = λ e. omega (arith, ap length e, length-drop here.at bytes, c.loop-here-test.true);
        no_gap = c.loop-here.invariant.past;
        no_token = c.in_default.ensures;
      };
      here = here_place bytes here c.loop-here.invariant.stands;
    })

pub loop-here-smaller : goal.loop-here-smaller
loop-here-smaller c =
    let on = c.in-Some.ensures.on in
    let skipped = c.past_gaps-here-in-loop-here.ensures.skips.on in
    omega (arith, on, skipped, c.loop-here-test.true)

pub loop-here-preserved : goal.loop-here-preserved
loop-here-preserved c =
    let bytes = c.args.bytes.now in
    let skips = c.past_gaps-here-in-loop-here.ensures.skips in
    let token = c.in-Some.token in
    let found = c.loop-here.found.items in
    let grown : c.push.new.self.items ≡ found ++ token ∷ [] = search rules in
    record {
      stands = skips.stands;
      past = c.past_gaps-here-in-loop-here.ensures.past;
      forth = λ ts left s. cut_grows bytes left found c.push.new.self.items token ts grown
          (c.loop-here.invariant.forth (token ∷ ts) left (c.in-Some.ensures.cut ts left (skips.cut ts left s)));
    }

pub returns-clause-ok : goal.returns-clause-ok
returns-clause-ok c =
    let bytes = c.args.bytes.now in
    let here = c.loop-here.here in
    let found = c.loop-here.found.items in
    record {
      utf8 = c.requires.utf8;
      cut = subst (λ z. IsCut [] bytes z []) (append-nil found)
          (c.loop-here.invariant.forth [] [] (subst (λ z. IsCut (take here.at bytes) z [] []) (sym (drop_all here.at bytes c.loop-here-test.false)) nothing));
    }
