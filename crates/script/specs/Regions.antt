-- Regions and partners, read off the frames that stand open.
use Rattle.std.specs.Prelude.{ℕ, zero, suc, cond, List, [], ◌∷◌, length, Some, None, Option, ◌==◌}
use Rattle.instruction.specs.declared.instruction.Instruction.{Instruction}
use Rattle.script.specs.declared.role.FrameKind.{FrameKind}
use Rattle.script.specs.declared.role.FrameKind.TheVariants.{Forked}
use Rattle.script.specs.declared.role.Role.{Role}
use Rattle.script.specs.declared.frames.Frame.{Frame}
use Rattle.script.specs.Roles.{by_framing}
use Rattle.script.specs.Frames.{role_at, opened, frames_after}

-- the frames that stand open before an address, as far as no rule breaks
abbrev pub or_none : Option (List Frame) → List Frame
or_none None = []
or_none (Some fs) = fs

unfoldable pub open_before : List Instruction → ℕ → List Frame
open_before s zero = []
open_before s (suc a) = or_none (frames_after s a (open_before s a))

-- the frames around an instruction: with the one that it opens
abbrev pub around : Role → ℕ → List Frame → List Frame
around role a fs = by_framing fs (λ kind. opened kind a 0 ∷ fs) (λ kind. fs) role

-- the region inside a frame that was opened at an address: a procedure and a branch are regions of their own, a fork is in the one around it
abbrev pub region_from : FrameKind → ℕ → ℕ → ℕ
region_from (Forked b) a outer = outer
region_from kind a outer = a

-- the address of the innermost procedure or branch; 0 is the whole script
abbrev pub innermost : List Frame → ℕ
innermost [] = 0
innermost (f ∷ fs) = region_from f.kind f.address (innermost fs)

-- the region of an instruction: the innermost stretch from proc to p_return, or from par begin to par end, that holds it, ends included
unfoldable pub region : List Instruction → ℕ → ℕ
region s a = innermost (around (role_at s a) a (open_before s a))

-- the opener that the instruction at an address closes
abbrev pub innermost_address : List Frame → Option ℕ
innermost_address [] = None
innermost_address (f ∷ fs) = Some f.address

abbrev pub closed_by : Role → List Frame → Option ℕ
closed_by role fs = by_framing None (λ kind. None) (λ kind. innermost_address fs) role

-- a closer at an address and its opener are each other's partners
abbrev pub paired : ℕ → Option ℕ → ℕ → ℕ → ℕ
paired closer None a partner = partner
paired closer (Some opener) a partner = cond (a == opener) closer (cond (a == closer) opener partner)

-- the partner of an address, by the closers before another one; 0 if there is none
unfoldable pub partner_before : List Instruction → ℕ → ℕ → ℕ
partner_before s zero a = 0
partner_before s (suc b) a = paired b (closed_by (role_at s b) (open_before s b)) a (partner_before s b a)

-- the merge of a fork and the fork of a merge, the par end of a par begin, the p_return of a proc, and back
abbrev pub partner : List Instruction → ℕ → ℕ
partner s a = partner_before s (suc (length s)) a
