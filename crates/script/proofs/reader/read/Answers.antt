-- The laws hold whatever was read.
use Rattle.std.proofs.Common.{rules}
use Rattle.script.proofs.ImageLaws.{images_and_scripts, one_image}
use Rattle.script.proofs.Flows.{accepted_scripts_flow}
use Rattle.script.proofs.reader.read.Goals as goal

pub returns-in_err-instructions : goal.returns-in_err-instructions
returns-in_err-instructions c = record { answer = search rules; back = images_and_scripts; unique = one_image; flow = accepted_scripts_flow }

pub returns : goal.returns
returns c = record { answer = search rules; back = images_and_scripts; unique = one_image; flow = accepted_scripts_flow }
