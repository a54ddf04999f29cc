-- What the instructions give from the last one on, each mirrored.
use Rattle.std.proofs.Common.{Ok, rules, tests}
use Rattle.std.proofs.lemmas.Iterator.{YieldsList-from_map}
use Rattle.std.proofs.lemmas.Iterator.Adapters.{YieldsList-from_rev_slice}
use Rattle.script.specs.Calls.{instructions_of}
use Rattle.script_words.proofs.Numbering.{all_in_lines}
use Rattle.script_words.proofs.mirror_line.mirror_lines.Goals as goal

pub returns : goal.returns
returns c = all_in_lines {E = Unit {0}} (Ok c.in_ok-lines.lines) c.in_ok-lines.ensures (YieldsList-from_map _ _ (YieldsList-from_rev_slice (instructions_of c.args.script.now) cc) c.map-mirrors.ensures.closure (λ x r q k. search (rules, tests)))
