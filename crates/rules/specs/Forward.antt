-- What each instruction does to a process of a forward run, and the smallest cause for which it cannot be taken.
use Rattle.std.specs.Prelude.{ℕ, suc, Bool, true, false, cond, List, [], ◌∷◌, map, length, ℤ, pos, negsuc, ◌+ℤ◌, ◌-ℤ◌, ◌*ℤ◌, Some, None, Ok, Err, Option, Result, ◌==◌, int_lt, nat_lt}
use Rattle.std.specs.Int.Signed.{mag}
use Rattle.std.specs.Option.{ok_or}
use Rattle.journal.specs.declared.kind.Kind.{Kind}
use Rattle.journal.specs.declared.kind.Kind.TheVariants as kind
use Rattle.instruction.specs.declared.instruction.Operator.{Operator}
use Rattle.instruction.specs.declared.instruction.Operator.TheVariants.{Add, Multiply, Subtract, Greater, Equal}
use Rattle.instruction.specs.declared.instruction.Instruction.{Instruction}
use Rattle.instruction.specs.declared.instruction.Instruction.TheVariants.{Ipush, Load, Store, Jpc, Jmp, Op, Label, ParBegin, ParEnd, Alloc, Free, Proc, PReturn, Block, End, Fork, Merge, Nop}
use Rattle.script.specs.Regions.{partner}
use Rattle.script.specs.Flow.{branches_of}
use Rattle.rules.specs.declared.refusal.Cause.{Cause}
use Rattle.rules.specs.declared.refusal.Cause.TheVariants.{StackShort, StackFull, OutOfRange, NoVariable, WrongNames}
use Rattle.rules.specs.Variables.{Seen, Change, leaves, sets, declares, removes, is_empty, visible, may_declare, may_remove}
use Rattle.rules.specs.State.{Path, names, Running}
use Rattle.rules.specs.Branches.{Branching, keeps, starts, joins}
use Rattle.rules.specs.Paths.{with_name, without_name}

-- what a step does: to the branches of its process, into the journal, to the variables, and what becomes of the process
pub record Act : Type 0 where
  pub branching : Branching Running
  pub entry : Option (Kind × ℤ)
  pub change : Change
  pub process : Running

-- go on with what there is, or with the cause
abbrev pub and_then : {X Y E : Type 0} → Result X E → (X → Result Y E) → Result Y E
and_then (Ok x) next = next x
and_then (Err e) next = Err e

abbrev pub unless : {E : Type 0} → Bool → E → Result (Unit {0}) E
unless test e = cond test (Ok tt) (Err e)

-- Numbers

abbrev pub within32 : ℤ → Result ℤ Cause
within32 z = cond (nat_lt (mag z) 2147483648) (Ok z) (Err OutOfRange)

abbrev pub equal_z : ℤ → ℤ → Bool
equal_z (pos a) (pos b) = a == b
equal_z (pos a) (negsuc b) = false
equal_z (negsuc a) (pos b) = false
equal_z (negsuc a) (negsuc b) = a == b

abbrev pub one_if : Bool → ℤ
one_if true = pos 1
one_if false = pos 0

abbrev pub computed : Operator → ℤ → ℤ → Result ℤ Cause
computed Add l r = within32 (l +ℤ r)
computed Multiply l r = within32 (l *ℤ r)
computed Subtract l r = within32 (l -ℤ r)
computed Greater l r = Ok (one_if (int_lt r l))
computed Equal l r = Ok (one_if (equal_z l r))

abbrev pub popped : List ℤ → Result (ℤ × List ℤ) Cause
popped [] = Err StackShort
popped (z ∷ zs) = Ok (z, zs)

-- room for one more operand, of at most 32
abbrev pub has_room : Running → Result (Unit {0}) Cause
has_room r = unless (nat_lt (length r.operands) 32) StackFull

-- Processes

-- the process behind the instruction that it takes, at its next address
abbrev pub sent : ℕ → Running → Running
sent next r = record { path = r.path; operands = r.operands; returns = r.returns; next = next; last = r.next; finished = false }

abbrev pub moved : Running → Running
moved r = sent (suc r.next) r

abbrev pub ended : Running → Running
ended r = record { path = r.path; operands = r.operands; returns = r.returns; next = r.next; last = r.next; finished = true }

abbrev pub with_operands : List ℤ → Running → Running
with_operands zs r = record { path = r.path; operands = zs; returns = r.returns; next = r.next; last = r.last; finished = r.finished }

abbrev pub with_path : Path → List ℕ → Running → Running
with_path path returns r = record { path = path; operands = r.operands; returns = returns; next = r.next; last = r.last; finished = r.finished }

-- a branch that starts at its par begin
abbrev pub new_branch : List ℕ → ℕ × ℕ → Running
new_branch inherited b =
    record { path = record { own = []; inherited = inherited }; operands = []; returns = []; next = b.0; last = 0; finished = false }

-- Acts

-- only the process changes
abbrev pub alone : Running → Result Act Cause
alone r = Ok (record { branching = keeps; entry = None; change = leaves; process = r })

abbrev pub writes : Kind → ℤ → Change → Running → Result Act Cause
writes kind number change r = Ok (record { branching = keeps; entry = Some (kind, number); change = change; process = r })

abbrev pub branches : Kind → Branching Running → Running → Result Act Cause
branches kind branching r = Ok (record { branching = branching; entry = Some (kind, pos 0); change = leaves; process = r })

-- the newest return address, and the older ones; there is one wherever the innermost name is that of a procedure
abbrev pub newest_return : List ℕ → Result (ℕ × List ℕ) Cause
newest_return [] = Err WrongNames
newest_return (a ∷ older) = Ok (a, older)

-- The rules, by instruction: in a script, for what is seen of the variables, of the process that is about to take it.
abbrev pub taking : List Instruction → Instruction → Seen → Running → Result Act Cause
taking s (Ipush n) v r =
    and_then (has_room r) (λ _. alone (moved (with_operands (n ∷ r.operands) r)))
taking s (Load x) v r =
    and_then (has_room r) (λ _.
    and_then (ok_or (visible v x (names r.path)) NoVariable) (λ at.
    alone (moved (with_operands (at.1 ∷ r.operands) r))))
taking s (Store x) v r =
    and_then (popped r.operands) (λ top.
    and_then (ok_or (visible v x (names r.path)) NoVariable) (λ at.
    writes kind.Store at.1 (sets at.0 top.0) (moved (with_operands top.1 r))))
taking s (Jpc a) v r =
    and_then (popped r.operands) (λ top.
    alone (sent (cond (equal_z top.0 (pos 1)) a (suc r.next)) (with_operands top.1 r)))
taking s (Jmp a) v r = alone (sent a r)
taking s (Op operator) v r =
    and_then (popped r.operands) (λ right.
    and_then (popped right.1) (λ left.
    and_then (computed operator left.0 right.0) (λ result.
    alone (moved (with_operands (result ∷ left.1) r)))))
taking s Label v r = writes kind.Jump (pos r.last) leaves (moved r)
taking s ParBegin v r = alone (moved r)
taking s ParEnd v r =
    and_then (unless (is_empty r.path.own) WrongNames) (λ _. alone (ended r))
taking s (Alloc x) v r =
    and_then (may_declare v (x, names r.path)) (λ _. writes kind.Alloc (pos 0) (declares (x, names r.path) (pos 0)) (moved r))
taking s (Free x) v r =
    and_then (may_remove v (x, names r.path)) (λ value. writes kind.Free value (removes (x, names r.path)) (moved r))
taking s (Proc p) v r =
    and_then (with_name p r.path) (λ path. writes kind.Jump (pos r.last) leaves (moved (with_path path (r.last ∷ r.returns) r)))
taking s (PReturn p) v r =
    and_then (without_name p r.path) (λ path.
    and_then (newest_return r.returns) (λ back.
    alone (sent (suc back.0) (with_path path back.1 r))))
taking s (Block b) v r =
    and_then (with_name b r.path) (λ path. alone (moved (with_path path r.returns r)))
taking s (End b) v r =
    and_then (without_name b r.path) (λ path. alone (moved (with_path path r.returns r)))
taking s (Fork a) v r =
    branches kind.Fork (starts (map (new_branch (names r.path)) (branches_of s r.next))) (sent (partner s r.next) r)
taking s (Merge a) v r =
    branches kind.Merge (joins (length (branches_of s (partner s r.next)))) (moved r)
taking s Nop v r = alone (moved r)
