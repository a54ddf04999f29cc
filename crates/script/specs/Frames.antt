-- The rules of frames: procedures, forks and their branches stand within each other.
use Rattle.std.specs.Prelude.{ℕ, zero, suc, ◌+◌, ◌-◌, Bool, true, cond, not, ◌&&◌, List, [], ◌∷◌, length, Some, None, Ok, Err, Option, Result, nat_le, nat_lt}
use Rattle.instruction.specs.declared.instruction.Instruction.{Instruction}
use Rattle.script.specs.declared.role.FrameKind.{FrameKind}
use Rattle.script.specs.declared.role.FrameKind.TheVariants.{Procedure, Branch, Forked}
use Rattle.script.specs.declared.role.Role.{Role}
use Rattle.script.specs.declared.frames.Frame.{Frame}
use Rattle.script.specs.declared.refusal.ImageRefusal.{ImageRefusal}
use Rattle.script.specs.declared.refusal.ImageRefusal.TheVariants.{BrokenFrame}
use Rattle.script.specs.Scripts.{instruction_at, some_before}
use Rattle.script.specs.Roles.{role_of, by_framing, same_kind, given_name, is_named, leaves, before_branch, begins_branch, after_branch}

-- the role of the instruction at an address
abbrev pub role_at : List Instruction → ℕ → Role
role_at s a = role_of (instruction_at s a)

-- Beside: what has to stand directly before or behind an instruction

-- a proc stands behind a jmp or p_return, a par begin behind a fork or par end; a fork stands before a par begin
abbrev pub opener_beside : FrameKind → Role → Role → Bool
opener_beside (Procedure p) before after = leaves before
opener_beside Branch before after = before_branch before
opener_beside (Forked a) before after = begins_branch after

-- a par end stands before a par begin or a merge
abbrev pub closer_beside : FrameKind → Role → Bool
closer_beside Branch after = after_branch after
closer_beside kind after = true

abbrev pub beside_by : Role → Role → Role → Bool
beside_by role before after = by_framing true (λ kind. opener_beside kind before after) (λ kind. closer_beside kind after) role

abbrev pub beside : List Instruction → ℕ → Bool
beside s a = beside_by (role_at s a) (role_at s (a - 1)) (role_at s (a + 1))

-- Names: block, proc and fork share one set of names, each used once

abbrev pub given_before : List Instruction → ℕ → ℕ → Bool
given_before s a b = some_before (λ i. is_named b (given_name (role_of i))) s a

abbrev pub fresh_name : List Instruction → ℕ → Option ℕ → Bool
fresh_name s a None = true
fresh_name s a (Some b) = not (given_before s a b)

abbrev pub fresh : List Instruction → ℕ → Bool
fresh s a = fresh_name s a (given_name (role_at s a))

-- Nesting: the frames that stand open, the innermost first

-- a frame that was opened at an address, with so many branches ended so far
abbrev pub opened : FrameKind → ℕ → ℕ → Frame
opened kind a branches = record { kind = kind; address = a; branches = branches }

-- at most 16 frames are open
abbrev pub opening : FrameKind → ℕ → List Frame → Option (List Frame)
opening kind a fs = cond (nat_lt (length fs) 16) (Some (opened kind a 0 ∷ fs)) None

-- a fork has 2 to 7 branches
abbrev pub right_count : FrameKind → ℕ → Bool
right_count (Forked a) branches = nat_le 2 branches && nat_le branches 7
right_count kind branches = true

-- an ended branch is counted by the frame around it, its fork
abbrev pub counted : List Frame → List Frame
counted [] = []
counted (f ∷ fs) = opened f.kind f.address (suc f.branches) ∷ fs

abbrev pub without : FrameKind → List Frame → List Frame
without Branch fs = counted fs
without kind fs = fs

-- a closer closes the innermost frame, name for name
abbrev pub closing : FrameKind → List Frame → Option (List Frame)
closing kind [] = None
closing kind (f ∷ fs) = cond (same_kind kind f.kind && right_count kind f.branches) (Some (without kind fs)) None

abbrev pub open_after : Role → ℕ → List Frame → Option (List Frame)
open_after role a fs = by_framing (Some fs) (λ kind. opening kind a fs) (λ kind. closing kind fs) role

-- what stands open behind the instruction at an address, or none where a rule breaks there
abbrev pub frames_after : List Instruction → ℕ → List Frame → Option (List Frame)
frames_after s a fs = cond (beside s a && fresh s a) (open_after (role_at s a) a fs) None

-- Judging in reading order: the first address where a rule breaks, and one behind the last where a frame is left open

abbrev pub all_closed : ℕ → List Frame → Result (Unit {0}) ImageRefusal
all_closed a [] = Ok tt
all_closed a (f ∷ fs) = Err (BrokenFrame a)

abbrev pub go_on : ℕ → Option (List Frame) → (List Frame → Result (Unit {0}) ImageRefusal) → Result (Unit {0}) ImageRefusal
go_on a None next = Err (BrokenFrame a)
go_on a (Some fs) next = next fs

-- the frames of the last `left` instructions, from an address on
unfoldable pub frames_from : List Instruction → ℕ → ℕ → List Frame → Result (Unit {0}) ImageRefusal
frames_from s zero a fs = all_closed a fs
frames_from s (suc left) a fs = go_on a (frames_after s a fs) (λ gs. frames_from s left (suc a) gs)

abbrev pub frames_judged : List Instruction → Result (Unit {0}) ImageRefusal
frames_judged s = frames_from s (length s) 1 []
