use Rattle.std.specs.Prelude.{refl}
use Rattle.tg_text.proofs.Leading.{read_classes}
use Rattle.tg_text.proofs.OneAnswer.{written_is_read}
use Rattle.tg_text.proofs.OneText.{utf8_text}
use Rattle.tg_text.proofs.WrittenTexts.{written_text_obeys}
use Rattle.mg_lists.proofs.Classes.{all_read, compiled_once}
use Rattle.tg_text.specs.GrammarText.{class_text_of}
use Rattle.std.specs.Prelude.{map}
use Rattle.mg_lists.proofs.laws.compiled_lists_are_read_back.Goals as goal

pub returns : goal.returns
returns c = record {
  file = λ bytes texts later m classes table grows g compiled few. written_text_obeys later table classes (all_read bytes texts later m classes table grows g compiled.each) few;
  right = λ bytes texts later m classes table grows g compiled few.
      let each = all_read bytes texts later m classes.items table grows g compiled.each in (
        utf8_text (map (class_text_of later) classes.items) (read_classes later table classes.items each),
        written_text_obeys later table classes.items each few,
        record { each = each; once = compiled_once later m classes.items compiled; written = refl },
      );
  answer = λ bytes texts later m classes table grows g compiled few others other y some is.
      written_is_read later classes table (all_read bytes texts later m classes table grows g compiled.each) (compiled_once later m classes compiled) few others other y some is;
}
