use Rattle.std.proofs.Common.{◌∙◌, ap, arith, length, length-drop}
use Rattle.gr_io.proofs.Appending.{appended-further}
use Rattle.gr_io.proofs.sink.write_all_of.Goals as goal

pub loop-written-preserved : goal.loop-written-preserved
loop-written-preserved g c =
    let bytes = c.args.bytes.now in
    record {
      within = omega (arith, c.in-Ok.ensures.count, length-drop c.loop-written.written bytes);
      taken = c.in-Ok.ensures.taken ∙ appended-further _ _ c.loop-written.written c.in-Ok.taken bytes c.loop-written.invariant.taken;
      kept = c.in-Ok.ensures.kept ∙ c.loop-written.invariant.kept;
      empty = λ e. absurd (omega (arith, ap length e));
    }
