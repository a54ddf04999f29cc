-- The law of taking back, as a statement that is not proved yet: whatever was done since loading can be taken back, exactly.
use Rattle.std.specs.Prelude.{◌≡◌, ℕ, ◌<◌, ◌≤◌, Bool, ◌≢◌, List, [], ℤ, Ok, Err}
use Rattle.journal.specs.declared.entry.Entry.{Entry}
use Rattle.rules.specs.declared.call.Call.{Call}
use Rattle.rules.specs.declared.call.Call.TheVariants.{Back}
use Rattle.rules.specs.declared.refusal.Refusal.TheVariants.{NothingToTakeBack, NobodyCanGo}
use Rattle.rules.specs.State.{State, at_rest}
use Rattle.rules.specs.Calls.{load, back}
use Rattle.rules.specs.Sessions.{view, answer, after, history, backs, advances, size, seen_at_growth}

-- a machine without a script, on a journal that holds these entries and goes by this rule
abbrev pub unloaded : List Entry → (List Entry → Bool) → State
unloaded entries fits =
    record { script = []; variables = record { figures = []; declared = [] }; phase = at_rest; entries = entries; fits = fits }

-- What follows is said of the state after calls, newest first, on a state s.

-- What is seen is what was seen when the journal last grew to its present number of entries; with no entry, what was seen at first.
pub record SeenAgain (s : State) (calls : List Call) : Type 0 where
  pub at_growth : view (after s calls) ≡ seen_at_growth s calls (size (after s calls))
  pub at_first : size (after s calls) ≡ 0 → view (after s calls) ≡ view s

-- Each accepted enter, start or step can be taken back by one back, and some process can always go back until all are.
pub record OneBackForEach (s : State) (calls : List Call) : Type 0 where
  pub at_most : backs s calls ≤ advances s calls
  pub some_can_go : backs s calls < advances s calls → (p : ℕ) × (t : State) × (back p (after s calls) ≡ Ok t)
  pub nothing_left : (p : ℕ) → backs s calls ≡ advances s calls → answer (Back p) (after s calls) ≡ Err NothingToTakeBack
  pub only_then : (p : ℕ) → answer (Back p) (after s calls) ≡ Err NothingToTakeBack → backs s calls ≡ advances s calls
  pub never_stuck : (p : ℕ) → answer (Back p) (after s calls) ≢ Err NobodyCanGo

-- When as much was taken back as was done, all further calls are answered, and leave what is seen, as at first.
abbrev pub AsNew : State → List Call → Type 0
AsNew s calls = backs s calls ≡ advances s calls → (more : List Call) → history (after s calls) more ≡ history s more

pub record CanBeTakenBack (s : State) (calls : List Call) : Type 0 where
  pub seen_again : SeenAgain s calls
  pub one_back_for_each : OneBackForEach s calls
  pub as_new : AsNew s calls

-- For every capacity rule, every image and figures that load accepts on an empty journal, and every list of calls.
abbrev pub EveryRunCanBeTakenBack : Type 0
EveryRunCanBeTakenBack =
    (fits : List Entry → Bool) (image : List ℕ) (figures : List ℤ) (s : State) → load image figures (unloaded [] fits) ≡ Ok s
    → (calls : List Call) → CanBeTakenBack s calls
