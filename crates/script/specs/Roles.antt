-- What an instruction does to the form of a script. All rules of form go by these roles.
use Rattle.std.specs.Prelude.{ℕ, Bool, true, false, Some, None, Option, ◌==◌}
use Rattle.instruction.specs.declared.instruction.Instruction.{Instruction}
use Rattle.instruction.specs.declared.instruction.Instruction.TheVariants.{Ipush, Load, Store, Jpc, Jmp, Op, Label, ParBegin, ParEnd, Alloc, Free, Proc, PReturn, Block, End, Fork, Merge, Nop}
use Rattle.script.specs.declared.role.FrameKind.{FrameKind}
use Rattle.script.specs.declared.role.FrameKind.TheVariants.{Procedure, Branch, Forked}
use Rattle.script.specs.declared.role.Role.{Role}
use Rattle.script.specs.declared.role.Role.TheVariants.{Plain, JumpsIf, Jumps, Arrives, BeginsBlock, EndsBlock, Opens, Closes}

abbrev pub role_of : Instruction → Role
role_of (Ipush z) = Plain
role_of (Load x) = Plain
role_of (Store x) = Plain
role_of (Jpc a) = JumpsIf a
role_of (Jmp a) = Jumps a
role_of (Op operator) = Plain
role_of Label = Arrives
role_of ParBegin = Opens Branch
role_of ParEnd = Closes Branch
role_of (Alloc x) = Plain
role_of (Free x) = Plain
role_of (Proc p) = Opens (Procedure p)
role_of (PReturn p) = Closes (Procedure p)
role_of (Block b) = BeginsBlock b
role_of (End b) = EndsBlock b
role_of (Fork a) = Opens (Forked a)
role_of (Merge a) = Closes (Forked a)
role_of Nop = Plain

-- what is said of an opener, of a closer, and of every other instruction
abbrev pub by_framing : {X : Type 0} → X → (FrameKind → X) → (FrameKind → X) → Role → X
by_framing other opener closer (Opens kind) = opener kind
by_framing other opener closer (Closes kind) = closer kind
by_framing other opener closer role = other

-- the same kind of frame, name for name
abbrev pub same_kind : FrameKind → FrameKind → Bool
same_kind (Procedure p) (Procedure q) = p == q
same_kind Branch Branch = true
same_kind (Forked a) (Forked b) = a == b
same_kind k l = false

-- the name that an opener gives
abbrev pub frame_name : FrameKind → Option ℕ
frame_name (Procedure p) = Some p
frame_name Branch = None
frame_name (Forked a) = Some a

-- the name that a block, proc or fork gives
abbrev pub given_name : Role → Option ℕ
given_name (BeginsBlock b) = Some b
given_name (Opens kind) = frame_name kind
given_name role = None

-- the name of a block
abbrev pub block_name : Role → Option ℕ
block_name (BeginsBlock b) = Some b
block_name role = None

-- whether a name is the one that is looked for
abbrev pub is_named : ℕ → Option ℕ → Bool
is_named b None = false
is_named b (Some c) = c == b

abbrev pub is_procedure : FrameKind → Bool
is_procedure (Procedure p) = true
is_procedure kind = false

abbrev pub is_branch : FrameKind → Bool
is_branch Branch = true
is_branch kind = false

abbrev pub is_forked : FrameKind → Bool
is_forked (Forked a) = true
is_forked kind = false

-- jmp or p_return: what follows is not come to from here
abbrev pub leaves : Role → Bool
leaves (Jumps a) = true
leaves (Closes kind) = is_procedure kind
leaves role = false

-- fork or par end
abbrev pub before_branch : Role → Bool
before_branch role = by_framing false is_forked is_branch role

-- par begin
abbrev pub begins_branch : Role → Bool
begins_branch role = by_framing false is_branch (λ kind. false) role

-- par begin or merge
abbrev pub after_branch : Role → Bool
after_branch role = by_framing false is_branch is_forked role

-- label
abbrev pub arrives : Role → Bool
arrives Arrives = true
arrives role = false

-- proc
abbrev pub opens_procedure : Role → Bool
opens_procedure role = by_framing false is_procedure (λ kind. false) role
