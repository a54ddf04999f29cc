-- What the instructions give in order, all of them.
use Rattle.std.proofs.Common.{Ok}
use Rattle.std.proofs.lemmas.Iterator.{YieldsList-from_slice}
use Rattle.std.proofs.lemmas.Iterator.Consumers.{YieldsList-from_copied}
use Rattle.script.specs.Calls.{instructions_of}
use Rattle.script_words.proofs.Numbering.{all_in_lines}
use Rattle.script_words.proofs.line.lines.Goals as goal

pub returns : goal.returns
returns c = all_in_lines {E = Unit {0}} (Ok c.in_ok-forward.forward) c.in_ok-forward.ensures (YieldsList-from_copied (YieldsList-from_slice (instructions_of c.args.script.now) cc))
