use Rattle.std.proofs.Common.{rules, tests, ◌∙◌}
use Rattle.std.proofs.lemmas.Iterator.{YieldsList-from_slice}
use Rattle.std.proofs.lemmas.Iterator.Search.{any_from_yields_List}
use Rattle.script.specs.Roles.{role_of, block_name, is_named}
use Rattle.script.specs.Held.{list_of}
use Rattle.script.proofs.Searches.{list_any-block}
use Rattle.script.proofs.names.has_block.Goals as goal

pub returns : goal.returns
returns c =
    let s = list_of c.args.script.now in
    any_from_yields_List (λ i. is_named c.args.name (block_name (role_of i))) _ _ _ c.any.ensures.ran (YieldsList-from_slice s cc) (λ x b q k. search (rules, tests))
    ∙ list_any-block s c.args.name
