-- A table is a list of keys with what stands at each. What is added last stands first.
use Rattle.std.specs.Prelude.{Bool, cond, List, [], ◌∷◌, Some, None, Option}

abbrev pub found : {K V : Type 0} → (K → K → Bool) → List (K × V) → K → Option V
found same [] k = None
found same (e ∷ es) k = cond (same e.0 k) (Some e.1) (found same es k)

abbrev pub changed : {K V : Type 0} → (K → K → Bool) → K → V → List (K × V) → List (K × V)
changed same k v [] = []
changed same k v (e ∷ es) = cond (same e.0 k) ((e.0, v) ∷ es) (e ∷ changed same k v es)

abbrev pub removed : {K V : Type 0} → (K → K → Bool) → K → List (K × V) → List (K × V)
removed same k [] = []
removed same k (e ∷ es) = cond (same e.0 k) es (e ∷ removed same k es)

-- go on with what there is
abbrev pub bind : {X Y : Type 0} → Option X → (X → Option Y) → Option Y
bind None next = None
bind (Some x) next = next x

-- only where a test holds
abbrev pub guard : {X : Type 0} → Bool → Option X → Option X
guard test o = cond test o None
