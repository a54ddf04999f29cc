-- The calls: each answers with the state that it leads to, or with a refusal, and then nothing has changed.
use Rattle.std.specs.Prelude.{◌≡◌, ℕ, Bool, true, false, cond, not, ◌&&◌, ◌||◌, T, List, [], ◌∷◌, ◌++◌, length, drop, ℤ, pos, is_some, Some, None, Ok, Err, Option, Result, ◌==◌, nat_eq, nat_le, nat_lt, slice_index_or, refl}
use Rattle.std.proofs.Common.{subst, sym, leb→le, ltb→lt}
use Rattle.std.specs.Int.Signed.{mag}
use Rattle.std.specs.Option.{ok_or}
use Rattle.journal.specs.declared.entry.Entry.{Entry}
use Rattle.journal.specs.declared.kind.Kind.{Kind}
use Rattle.journal.specs.declared.kind.Kind.TheVariants as kind
use Rattle.journal.specs.Kinds.{kind_number}
use Rattle.instruction.specs.declared.instruction.Instruction.{Instruction}
use Rattle.script.specs.declared.refusal.ImageRefusal.{ImageRefusal}
use Rattle.script.specs.Scripts.{instruction_at}
use Rattle.script.specs.Images.{read_image}
use Rattle.mirror.specs.Mirrored.{mirror_image}
use Rattle.rules.specs.declared.call.Call.{Call}
use Rattle.rules.specs.declared.call.Call.TheVariants.{Enter, Start, Step, Back}
use Rattle.rules.specs.declared.refusal.Cause.{Cause}
use Rattle.rules.specs.declared.refusal.Cause.TheVariants.{WrongNames, TooManyProcesses}
use Rattle.rules.specs.declared.refusal.Refusal.{Refusal}
use Rattle.rules.specs.declared.refusal.Refusal.TheVariants.{Image, TooManyFigures, ScriptLoaded, RunStands, NoRow, NoScript, NoForwardRun, CannotGo, NothingToTakeBack, NobodyCanGo, JournalFull, Halted, BufferTooShort}
use Rattle.rules.specs.Tables.{found, changed, bind, guard}
use Rattle.rules.specs.Variables.{Variables, sets, changed_by, seen, is_empty}
use Rattle.rules.specs.State.{names, Running, Place, behind, gone_back, Retreating, Processes, Phase, at_rest, forward, going_back, State, turned_round}
use Rattle.rules.specs.Branches.{Branching, keeps, starts, joins, branched}
use Rattle.rules.specs.Forward.{Act, and_then, unless, taking}
use Rattle.rules.specs.Backward.{Undoing, Move, cannot, alone, takes, to, move_of}

-- Writing into the journal

-- the entry of an owner, a kind and a number, if there is one: owners go to 32,767, and numbers have 32 bits
abbrev pub entry_where : (owner : ℕ) → Kind → (number : ℤ) → (a : Bool) → nat_le owner 32767 ≡ a → (b : Bool) → nat_lt (mag number) 2147483648 ≡ b → Option Entry
entry_where owner kind number true small true sized =
    Some (record { owner = owner; kind = kind; number = number; owned = leb→le owner 32767 (subst T (sym small) tt); sized = ltb→lt (mag number) 2147483648 (subst T (sym sized) tt) })
entry_where owner kind number true small false sized = None
entry_where owner kind number false small b sized = None

abbrev pub entry_of : ℕ → Kind → ℤ → Option Entry
entry_of owner kind number = entry_where owner kind number (nat_le owner 32767) refl (nat_lt (mag number) 2147483648) refl

-- the longer list, if it fits
abbrev pub longer : (List Entry → Bool) → Option Entry → List Entry → Result (List Entry) Refusal
longer fits None es = Err JournalFull
longer fits (Some e) es = cond (fits (e ∷ es)) (Ok (e ∷ es)) (Err JournalFull)

-- the journal's list with one entry more
abbrev pub written : ℕ → Kind → ℤ → State → Result (List Entry) Refusal
written owner kind number s = longer s.fits (entry_of owner kind number) s.entries

-- the state with other variables, another phase and another list of entries
abbrev pub moving : Variables → Phase → List Entry → State → State
moving variables phase entries s = record { script = s.script; variables = variables; phase = phase; entries = entries; fits = s.fits }

abbrev pub rows : State → ℕ
rows s = length s.variables.figures

abbrev pub no_script : State → Bool
no_script s = is_empty s.script

-- load

abbrev pub or_image : {X : Type 0} → Result X ImageRefusal → Result X Refusal
or_image (Ok x) = Ok x
or_image (Err refusal) = Err (Image refusal)

-- the figures of a workbook and a script; the journal stays
abbrev pub loaded : List Instruction → List ℤ → State → State
loaded script figures s =
    record { script = script; variables = record { figures = figures; declared = [] }; phase = at_rest; entries = s.entries; fits = s.fits }

abbrev pub load : List ℕ → List ℤ → State → Result State Refusal
load image figures s =
    and_then (unless (no_script s) ScriptLoaded) (λ _.
    and_then (unless (nat_le (length figures) 32) TooManyFigures) (λ _.
    and_then (or_image (read_image image)) (λ script.
    Ok (loaded script figures s))))

-- enter

abbrev pub row_entered : ℕ → ℤ → State → Result State Refusal
row_entered row z s =
    and_then (unless (nat_lt row (rows s)) NoRow) (λ _.
    and_then (written row kind.Enter (slice_index_or s.variables.figures row (pos 0)) s) (λ entries.
    Ok (moving (changed_by (sets (row, []) z) s.variables) at_rest entries s)))

abbrev pub enter_in : Phase → ℕ → ℤ → State → Result State Refusal
enter_in at_rest row z s = row_entered row z s
enter_in (forward ps) row z s = Err RunStands
enter_in (going_back ps) row z s = Err RunStands

abbrev pub enter : ℕ → ℤ → State → Result State Refusal
enter row z s = enter_in s.phase row z s

-- start

abbrev pub first_process : Running
first_process = record { path = record { own = []; inherited = [] }; operands = []; returns = []; next = 1; last = 0; finished = false }

abbrev pub started : State → Result State Refusal
started s =
    and_then (unless (not (no_script s)) NoScript) (λ _.
    and_then (written 0 kind.Run (pos 0) s) (λ entries.
    Ok (moving s.variables (forward ((0, first_process) ∷ [])) entries s)))

abbrev pub start_in : Phase → State → Result State Refusal
start_in at_rest s = started s
start_in (forward ps) s = Err RunStands
start_in (going_back ps) s = Err RunStands

abbrev pub start : State → Result State Refusal
start s = start_in s.phase s

-- step

abbrev pub halted : {X : Type 0} → ℕ → Running → Result X Cause → Result X Refusal
halted p r (Ok x) = Ok x
halted p r (Err cause) = Err (Halted (record { cause = cause; process = p; address = r.next }))

-- why branches are not started, or not removed: there is no room, or one has not finished yet
abbrev pub not_branched : ℕ → Running → Branching Running → Refusal
not_branched p r keeps = CannotGo
not_branched p r (starts bs) = Halted (record { cause = TooManyProcesses; process = p; address = r.next })
not_branched p r (joins n) = CannotGo

abbrev pub written_if : ℕ → Option (Kind × ℤ) → State → Result (List Entry) Refusal
written_if p None s = Ok s.entries
written_if p (Some e) s = written p e.0 e.1 s

abbrev pub carried_out : ℕ → Running → Processes Running → Act → State → Result State Refusal
carried_out p r ps act s =
    and_then (ok_or (branched (λ b. b.finished) p act.branching ps) (not_branched p r act.branching)) (λ qs.
    and_then (written_if p act.entry s) (λ entries.
    Ok (moving (changed_by act.change s.variables) (forward (changed nat_eq p act.process qs)) entries s)))

-- behind the last instruction process 0 finishes the run, with an empty path and nothing declared; a branch never comes there
abbrev pub finished : ℕ → Running → State → Result State Refusal
finished p r s =
    and_then (unless (p == 0) CannotGo) (λ _.
    and_then (halted p r (unless (is_empty (names r.path) && is_empty s.variables.declared) WrongNames)) (λ _.
    and_then (written 0 kind.Done (pos 0) s) (λ entries.
    Ok (moving s.variables at_rest entries s))))

abbrev pub step_by : ℕ → Running → Processes Running → State → Result State Refusal
step_by p r ps s =
    cond (nat_le r.next (length s.script))
    (and_then (halted p r (taking s.script (instruction_at s.script r.next) (seen s.variables) r)) (λ act. carried_out p r ps act s))
    (finished p r s)

-- a process that stands and has not finished
abbrev pub under_way : Option Running → Result Running Refusal
under_way None = Err CannotGo
under_way (Some r) = cond r.finished (Err CannotGo) (Ok r)

abbrev pub step_in : Phase → ℕ → State → Result State Refusal
step_in at_rest p s = Err NoForwardRun
step_in (forward ps) p s = and_then (under_way (found nat_eq ps p)) (λ r. step_by p r ps s)
step_in (going_back ps) p s = Err NoForwardRun

abbrev pub step : ℕ → State → Result State Refusal
step p s = step_in s.phase p s

-- back

abbrev pub is_gone_back : Place → Bool
is_gone_back (behind a) = false
is_gone_back gone_back = true

abbrev pub has_gone_back : Retreating → Bool
has_gone_back r = is_gone_back r.place

-- the run goes on, or it has ended at its start
abbrev pub going_on : ℕ → Option Retreating → Processes Retreating → Phase
going_on p None ps = at_rest
going_on p (Some r) ps = going_back (changed nat_eq p r ps)

-- an entry of the kind and the owner
abbrev pub is_of : ℕ → Kind → Entry → Bool
is_of p kind e = e.owner == p && kind_number e.kind == kind_number kind

abbrev pub taken_with : ℕ → Kind → Branching Retreating → Undoing → Processes Retreating → List Entry → State → Option State
taken_with p kind branching undoing ps [] s = None
taken_with p kind branching undoing ps (e ∷ older) s =
    guard (is_of p kind e) (
    bind (branched has_gone_back p branching ps) (λ qs.
    bind (undoing e.number (seen s.variables)) (λ undone.
    Some (moving (changed_by undone.0 s.variables) (going_on p undone.1 qs) older s))))

abbrev pub went_by : ℕ → Move → Processes Retreating → State → Option State
went_by p cannot ps s = None
went_by p (alone r) ps s = Some (moving s.variables (going_back (changed nat_eq p r ps)) s.entries s)
went_by p (takes kind branching undoing) ps s = taken_with p kind branching undoing ps s.entries s

abbrev pub went_back_in : Processes Retreating → ℕ → State → Option State
went_back_in ps p s = bind (found nat_eq ps p) (λ r. went_by p (move_of s.script p r) ps s)

-- at rest a Done leads back into the run that it ended, and an Enter restores its row
abbrev pub last_process : State → ℕ × Retreating
last_process s = (0, to (length s.script) (record { own = []; inherited = [] }))

abbrev pub rest_taken : Kind → Entry → List Entry → State → Option State
rest_taken kind.Run e older s = None
rest_taken kind.Done e older s = guard (e.owner == 0) (Some (moving s.variables (going_back (last_process s ∷ [])) older s))
rest_taken kind.Enter e older s =
    guard (nat_lt e.owner (rows s)) (Some (moving (changed_by (sets (e.owner, []) e.number) s.variables) at_rest older s))
rest_taken kind.Store e older s = None
rest_taken kind.Jump e older s = None
rest_taken kind.Alloc e older s = None
rest_taken kind.Free e older s = None
rest_taken kind.Fork e older s = None
rest_taken kind.Merge e older s = None

abbrev pub went_back_at_rest : List Entry → ℕ → State → Option State
went_back_at_rest [] p s = None
went_back_at_rest (e ∷ older) p s = guard (p == 0) (rest_taken e.kind e older s)

-- where process p can go back, what that leads to; a forward run is then turned round
abbrev pub went_back_from : Phase → ℕ → State → Option State
went_back_from at_rest p s = went_back_at_rest s.entries p s
went_back_from (forward ps) p s = went_back_in (turned_round ps) p s
went_back_from (going_back ps) p s = went_back_in ps p s

abbrev pub went_back : ℕ → State → Option State
went_back p s = went_back_from s.phase p s

-- whether some process can go back; at rest that is process 0
abbrev pub some_of : {P : Type 0} → Processes P → State → Bool
some_of [] s = false
some_of (p ∷ ps) s = is_some (went_back p.0 s) || some_of ps s

abbrev pub some_can_go : Phase → State → Bool
some_can_go at_rest s = is_some (went_back 0 s)
some_can_go (forward ps) s = some_of ps s
some_can_go (going_back ps) s = some_of ps s

abbrev pub nothing_to_take_back : Phase → State → Bool
nothing_to_take_back at_rest s = is_empty s.entries
nothing_to_take_back (forward ps) s = false
nothing_to_take_back (going_back ps) s = false

abbrev pub back : ℕ → State → Result State Refusal
back p s =
    and_then (unless (not (no_script s)) NoScript) (λ _.
    and_then (unless (not (nothing_to_take_back s.phase s)) NothingToTakeBack) (λ _.
    and_then (unless (some_can_go s.phase s) NobodyCanGo) (λ _.
    ok_or (went_back p s) CannotGo)))

-- any of these calls

abbrev pub perform : Call → State → Result State Refusal
perform (Enter row z) s = enter row z s
perform Start s = start s
perform (Step p) s = step p s
perform (Back p) s = back p s

-- figure and mirror, which only look

abbrev pub figure : ℕ → State → Result ℤ Refusal
figure row s = cond (nat_lt row (rows s)) (Ok (slice_index_or s.variables.figures row (pos 0))) (Err NoRow)

-- the length of the mirrored script, and the buffer with it at its front
abbrev pub mirror : List ℕ → State → Result (ℕ × List ℕ) Refusal
mirror buffer s =
    and_then (unless (not (no_script s)) NoScript) (λ _.
    and_then (unless (nat_le (length (mirror_image s.script)) (length buffer)) BufferTooShort) (λ _.
    Ok (length (mirror_image s.script), mirror_image s.script ++ drop (length (mirror_image s.script)) buffer)))
