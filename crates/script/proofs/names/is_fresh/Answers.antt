use Rattle.std.proofs.Common.{rules, tests, ◌∙◌, ap, not, ◌-◌}
use Rattle.std.proofs.lemmas.Iterator.{YieldsList-from_slice, YieldsList-from_take}
use Rattle.std.proofs.lemmas.Iterator.Search.{any_from_yields_List}
use Rattle.script.specs.Roles.{role_of, given_name, is_named}
use Rattle.script.specs.Held.{list_of}
use Rattle.script.proofs.Searches.{not-list_any-earlier}
use Rattle.script.proofs.names.is_fresh.Goals as goal

pub returns-in-Some : goal.returns-in-Some
returns-in-Some c =
    let s = list_of c.args.script.now in
    ap not (any_from_yields_List (λ i. is_named c.in-Some.name (given_name (role_of i))) _ _ _ c.any.ensures.ran (YieldsList-from_take (c.args.address - 1) (YieldsList-from_slice s cc) cc) (λ x b q k. search (rules, tests)))
    ∙ not-list_any-earlier s c.args.address c.in-Some.name cc
