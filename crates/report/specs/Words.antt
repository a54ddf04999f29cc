-- The words for an entry.
use Rattle.std.specs.Prelude.{ℕ, zero, suc, Bool, true, false, List, [], ◌++◌, ℤ, pos, negsuc, codes, decimal}
use Rattle.std.specs.Fmt.{signed_decimal}
use Rattle.journal.specs.declared.entry.Entry.{Entry}
use Rattle.journal.specs.declared.kind.Kind.{Kind}
use Rattle.journal.specs.declared.kind.Kind.TheVariants.{Run, Done, Enter, Store, Jump, Alloc, Free, Fork, Merge}
use Rattle.journal.specs.KindNames.{kind_name}
use Rattle.report.specs.declared.owner.Owner.{Owner}
use Rattle.report.specs.declared.owner.Owner.TheVariants.{Process, Row}

-- the owner of an entry of a kind
abbrev pub owner_by : Kind → ℕ → Owner
owner_by Run n = Process n
owner_by Done n = Process n
owner_by Enter n = Row n
owner_by Store n = Process n
owner_by Jump n = Process n
owner_by Alloc n = Process n
owner_by Free n = Process n
owner_by Fork n = Process n
owner_by Merge n = Process n

abbrev pub owner_of : Entry → Owner
owner_of e = owner_by e.kind e.owner

abbrev pub owner_text : Owner → List ℕ
owner_text (Process n) = codes "process " ++ decimal n
owner_text (Row n) = codes "row " ++ decimal n

-- what an entry of the kind says
abbrev pub kind_words : Kind → List ℕ
kind_words Run = codes "run started"
kind_words Done = codes "run finished"
kind_words Enter = codes "old figure"
kind_words Store = codes "old value"
kind_words Jump = codes "came from address"
kind_words Alloc = codes "variable declared"
kind_words Free = codes "freed value"
kind_words Fork = codes "branches started"
kind_words Merge = codes "branches merged"

-- whether its number means something
abbrev pub has_number : Kind → Bool
has_number Run = false
has_number Done = false
has_number Enter = true
has_number Store = true
has_number Jump = true
has_number Alloc = false
has_number Free = true
has_number Fork = false
has_number Merge = false

-- a number that means nothing is told only where it is not 0
abbrev pub number_text : Bool → ℤ → List ℕ
number_text true n = codes " " ++ signed_decimal n
number_text false (pos zero) = []
number_text false (pos (suc n)) = codes " (number " ++ (decimal (suc n) ++ codes ")")
number_text false (negsuc n) = codes " (number " ++ (signed_decimal (negsuc n) ++ codes ")")

-- position, owner, kind and words, with two spaces between
abbrev pub line_text : ℕ → Entry → List ℕ
line_text position e =
    decimal position ++ (codes "  " ++ (owner_text (owner_of e) ++ (codes "  " ++ (kind_name e.kind ++ (codes "  " ++ (kind_words e.kind ++ number_text (has_number e.kind) e.number))))))
