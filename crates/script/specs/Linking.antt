-- The tables that are filled while the frames are judged.
use Rattle.std.specs.Prelude.{◌≡◌, ℕ, ◌-◌, ◌<◌, ◌≤◌, List, [], ◌∷◌, Some, None, Ok, Err, Option, Result, slice_set}
use Rattle.instruction.specs.declared.instruction.Instruction.{Instruction}
use Rattle.script.specs.declared.role.Role.{Role}
use Rattle.script.specs.declared.frames.Frame.{Frame}
use Rattle.script.specs.declared.frames.Misfit.{Misfit}
use Rattle.script.specs.declared.links.Links.{Links}
use Rattle.script.specs.declared.refusal.ImageRefusal.{ImageRefusal}
use Rattle.script.specs.declared.refusal.ImageRefusal.TheVariants.{BrokenFrame}
use Rattle.script.specs.Frames.{role_at, open_after, frames_after, frames_judged}
use Rattle.script.specs.Regions.{around, innermost, closed_by}
use Rattle.script.specs.Held.{HasPartners, HasRegions}

-- frames that were opened in the script before an address, and of which no branch count can run over
abbrev pub OpenedBefore : ℕ → List Frame → Type 0
OpenedBefore b [] = Unit {0}
OpenedBefore b (f ∷ fs) = (1 ≤ f.address) × (f.address < b) × (f.branches < b) × OpenedBefore b fs

-- the table of partners with a closer and the opener that it closes
abbrev pub paired_in : ℕ → Option ℕ → List ℕ → List ℕ
paired_in closer None table = table
paired_in closer (Some opener) table = slice_set (slice_set table (closer - 1) opener) (opener - 1) closer

-- the tables behind an instruction of a role at an address
abbrev pub Noted : Role → ℕ → Links → Links → Type 0
Noted role a from to =
    (to.regions ≡ slice_set from.regions (a - 1) (innermost (around role a from.frames)))
    × (to.partners ≡ paired_in a (closed_by role from.frames) from.partners)

-- an instruction of a role at an address was taken in, or the frames that stand open do not let it stand there
abbrev pub TakenIn : Role → ℕ → Links → Result (Unit {0}) Misfit → Links → Type 0
TakenIn role a from (Ok done) to = (open_after role a from.frames ≡ Some to.frames) × Noted role a from to
TakenIn role a from (Err misfit) to = open_after role a from.frames ≡ None

-- the instruction at an address was judged
abbrev pub JudgedAt : List Instruction → ℕ → Links → Result (Unit {0}) ImageRefusal → Links → Type 0
JudgedAt s a from (Ok done) to = (frames_after s a from.frames ≡ Some to.frames) × Noted (role_at s a) a from to
JudgedAt s a from (Err refusal) to = (frames_after s a from.frames ≡ None) × (refusal ≡ BrokenFrame a)

-- what judging the frames of a script answers
abbrev pub Linked : List Instruction → Result Links ImageRefusal → Type 0
Linked s (Ok links) = (frames_judged s ≡ Ok tt) × HasPartners s links.partners × HasRegions s links.regions
Linked s (Err refusal) = frames_judged s ≡ Err refusal
