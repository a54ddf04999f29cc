-- How each instruction is taken back: what its mirror does to a process that goes back.
use Rattle.std.specs.Prelude.{ℕ, zero, suc, cond, ◌&&◌, List, [], map, length, ℤ, pos, negsuc, Some, None, Ok, Err, Option, Result, ◌==◌, nat_le}
use Rattle.std.specs.Option.{option_map}
use Rattle.std.specs.Result.{result_ok}
use Rattle.journal.specs.declared.kind.Kind.{Kind}
use Rattle.journal.specs.declared.kind.Kind.TheVariants as kind
use Rattle.instruction.specs.declared.instruction.Instruction.{Instruction}
use Rattle.instruction.specs.declared.instruction.Instruction.TheVariants.{Ipush, Load, Store, Jpc, Jmp, Op, Label, ParBegin, ParEnd, Alloc, Free, Proc, PReturn, Block, End, Fork, Merge, Nop}
use Rattle.script.specs.Scripts.{instruction_at}
use Rattle.script.specs.Regions.{partner}
use Rattle.script.specs.Flow.{branches_of}
use Rattle.rules.specs.declared.refusal.Cause.{Cause}
use Rattle.rules.specs.Tables.{guard}
use Rattle.rules.specs.Variables.{Seen, Change, leaves, sets, declares, removes, is_empty, visible, may_declare, may_remove}
use Rattle.rules.specs.State.{Path, names, Place, behind, gone_back, Retreating}
use Rattle.rules.specs.Branches.{Branching, keeps, starts, joins}
use Rattle.rules.specs.Paths.{with_name, without_name}

-- what undoes by the number of the entry: a change of the variables, and what becomes of the process; none where the run ends at its start
abbrev pub Undoing : Type 0
Undoing = ℤ → Seen → Option (Change × Option Retreating)

-- how a process can go back
pub data Move : Type 0 where
  cannot : Move
  -- nothing but its own record changes
  alone : Retreating → Move
  -- it takes the newest entry, which has to be of this kind and its own
  takes : Kind → Branching Retreating → Undoing → Move

abbrev pub to : ℕ → Path → Retreating
to a path = record { path = path; place = behind a }

-- only the own record changes, if its path can
abbrev pub alone_to : ℕ → Result Path Cause → Move
alone_to a (Ok path) = alone (to a path)
alone_to a (Err cause) = cannot

-- to the address in the entry, which is 0 to N
abbrev pub to_recorded : List Instruction → Path → Undoing
to_recorded s path (pos a) v = guard (nat_le a (length s)) (Some (leaves, Some (to a path)))
to_recorded s path (negsuc a) v = None

abbrev pub jumps_back : List Instruction → Result Path Cause → Move
jumps_back s (Ok path) = takes kind.Jump keeps (to_recorded s path)
jumps_back s (Err cause) = cannot

-- a branch of a merge that is taken back stands behind its par end
abbrev pub ended_branch : List ℕ → ℕ × ℕ → Retreating
ended_branch inherited b = to b.1 (record { own = []; inherited = inherited })

-- a branch without names of its own has gone back; process 0 is none
abbrev pub went_back : ℕ → Path → Move
went_back zero path = cannot
went_back (suc p) path = cond (is_empty path.own) (alone (record { path = path; place = gone_back })) cannot

-- The rules, by the instruction that was taken last: at the address a + 1 of a script, by process p with this path.
abbrev pub taking_back : List Instruction → ℕ → Instruction → ℕ → Path → Move
taking_back s p (Ipush n) a path = alone (to a path)
taking_back s p (Load x) a path = alone (to a path)
taking_back s p (Store x) a path =
    takes kind.Store keeps (λ old v. option_map (λ at. (sets at.0 old, Some (to a path))) (visible v x (names path)))
taking_back s p (Jpc t) a path = alone (to a path)
taking_back s p (Jmp t) a path = alone (to a path)
taking_back s p (Op operator) a path = alone (to a path)
taking_back s p Label a path = jumps_back s (Ok path)
taking_back s p ParBegin a path = went_back p path
taking_back s p ParEnd a path = alone (to a path)
taking_back s p (Alloc x) a path =
    takes kind.Alloc keeps (λ _ v. option_map (λ _. (removes (x, names path), Some (to a path))) (result_ok (may_remove v (x, names path))))
taking_back s p (Free x) a path =
    takes kind.Free keeps (λ value v. option_map (λ _. (declares (x, names path) value, Some (to a path))) (result_ok (may_declare v (x, names path))))
taking_back s p (Proc b) a path = jumps_back s (without_name b path)
taking_back s p (PReturn b) a path = alone_to a (with_name b path)
taking_back s p (Block b) a path = alone_to a (without_name b path)
taking_back s p (End b) a path = alone_to a (with_name b path)
taking_back s p (Fork b) a path =
    takes kind.Fork (joins (length (branches_of s (suc a)))) (λ _ v. Some (leaves, Some (to a path)))
taking_back s p (Merge b) a path =
    takes kind.Merge (starts (map (ended_branch (names path)) (branches_of s (partner s (suc a))))) (λ _ v. Some (leaves, Some (to (partner s (suc a)) path)))
taking_back s p Nop a path = alone (to a path)

-- behind its start process 0 ends the run, with an empty path and nothing declared
abbrev pub ending_run : ℕ → Path → Move
ending_run zero path = takes kind.Run keeps (λ _ v. guard (is_empty (names path) && v.declared == 0) (Some (leaves, None)))
ending_run (suc p) path = cannot

abbrev pub move_from : List Instruction → ℕ → Path → Place → Move
move_from s p path gone_back = cannot
move_from s p path (behind zero) = ending_run p path
move_from s p path (behind (suc a)) = taking_back s p (instruction_at s (suc a)) a path

abbrev pub move_of : List Instruction → ℕ → Retreating → Move
move_of s p r = move_from s p r.path r.place
