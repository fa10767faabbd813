use Rattle.std.proofs.Common.{◌++◌, ◌∷◌, codes, length}
use Rattle.gr_base.proofs.ListLemmas.{Each-left, Each-right}
use Rattle.mg_printer.specs.Pieces.{IsKnown, a_word}
use Rattle.mg_printer.specs.Bodies.{call_pieces}
use Rattle.mg_printer.specs.Items.{listed, variable_pieces}
use Rattle.mg_printer.proofs.items.class_head.Goals as goal

pub imports-requires : goal.imports-requires
imports-requires c =
    let P = IsKnown (length c.args.symbols.now) in
    let imports = a_word c.args.class.now.name.0 ∷ listed (codes "import") call_pieces c.args.class.now.imports in
    let exports = listed (codes "export") variable_pieces c.args.class.now.exports in
    let declares = listed (codes "declare") variable_pieces c.args.class.now.declares in
    (Each-left P imports exports (Each-left P (imports ++ exports) declares c.requires)).1

pub variables-requires : goal.variables-requires
variables-requires c =
    let P = IsKnown (length c.args.symbols.now) in
    let imports = a_word c.args.class.now.name.0 ∷ listed (codes "import") call_pieces c.args.class.now.imports in
    let exports = listed (codes "export") variable_pieces c.args.class.now.exports in
    let declares = listed (codes "declare") variable_pieces c.args.class.now.declares in
    Each-right P imports exports (Each-left P (imports ++ exports) declares c.requires)

pub variables-requires-2 : goal.variables-requires-2
variables-requires-2 c =
    let P = IsKnown (length c.args.symbols.now) in
    let imports = a_word c.args.class.now.name.0 ∷ listed (codes "import") call_pieces c.args.class.now.imports in
    let exports = listed (codes "export") variable_pieces c.args.class.now.exports in
    let declares = listed (codes "declare") variable_pieces c.args.class.now.declares in
    Each-right P (imports ++ exports) declares c.requires
