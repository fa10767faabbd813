-- No pair before the index has the name.
use Rattle.std.proofs.Common.{◌≡◌, drop}
use Rattle.gr_io.specs.MemoryShelf.{file_named}
use Rattle.gr_io.proofs.memory_shelf.find.Given as goal

abbrev pub invariant-loop-file : goal.invariant-loop-file
invariant-loop-file l = file_named l.files l.name ≡ file_named (drop l.file-index l.files) l.name
