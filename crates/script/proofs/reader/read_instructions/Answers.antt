use Rattle.std.proofs.Common.{rules, ◌≡◌}
use Rattle.script.specs.Images.{instructions_read}
use Rattle.script.specs.Calls.{held}
use Rattle.script.proofs.ImageLaws.{held_has_image}
use Rattle.script.proofs.reader.read_instructions.Goals as goal

pub returns-clause-image : goal.returns-clause-image
returns-clause-image c =
    let answer : held c.decode.result ≡ instructions_read c.args.bytes.now = search rules in
    held_has_image c.args.bytes.now c.decode.result answer
