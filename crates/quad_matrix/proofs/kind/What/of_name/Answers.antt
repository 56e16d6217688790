use Rattle.std.proofs.Common.{sym, ◌∙◌, rules, tests}
use Rattle.std.specs.Str.{bytes_eq}
use Rattle.std.proofs.lemmas.Iterator.{YieldsList-from_slice}
use Rattle.std.proofs.lemmas.Iterator.Consumers.{YieldsList-from_copied}
use Rattle.std.proofs.lemmas.Iterator.Search.{find_from_yields_List}
use Rattle.quad_matrix.specs.Names.{what_name, all_whats}
use Rattle.quad_matrix.proofs.Names.{option_map-same}
use Rattle.quad_matrix.proofs.kind.What.of_name.Goals as goal

pub returns : goal.returns
returns c =
    sym (option_map-same c.find.result)
    ∙ find_from_yields_List (λ what. bytes_eq (what_name what) c.args.name.now) _ _ c.find.result c.find.ensures.ran
    (YieldsList-from_copied (YieldsList-from_slice all_whats cc)) (λ x b q k. search (rules, tests))
