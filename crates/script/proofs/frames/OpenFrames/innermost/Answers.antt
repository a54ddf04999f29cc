use Rattle.std.proofs.Common.{rules, tests, not, ap, ◌∙◌, ◌≡◌}
use Rattle.std.proofs.lemmas.Iterator.Adapters.{YieldsList-from_rev_slice}
use Rattle.std.proofs.lemmas.Iterator.Search.{find_from_yields_List}
use Rattle.std.specs.Option.{option_map, option_map_or}
use Rattle.std.specs.List.{find}
use Rattle.script.specs.Roles.{is_forked}
use Rattle.script.proofs.Innermost.{innermost-find}
use Rattle.script.proofs.frames.OpenFrames.innermost.Goals as goal

pub returns : goal.returns
returns c =
    let found = find_from_yields_List (λ f. not (is_forked f.kind)) _ _ _ c.find.ensures.ran (YieldsList-from_rev_slice c.self.inside.frames.items cc) (λ x b q k. search (rules, tests)) in
    let answer : c.map_or.result ≡ option_map_or (λ f. f.address) (option_map (λ y. y.now) c.find.result) 0 = search rules in
    answer ∙ ap (λ o. option_map_or (λ f. f.address) o 0) (found ∙ ap (find (λ f. not (is_forked f.kind))) c.self.view_is) ∙ innermost-find c.args.self.now
