-- One entry more in the counts.
use Rattle.std.proofs.Common.{◌≡◌, ℕ, zero, suc, ◌+◌, ◌<◌, ◌≤◌, Bool, true, false, cond, List, [], ◌∷◌, ◌++◌, length, get_or, take, Some, unwrap_or, sym, refl, ap, ◌∙◌, subst, add-zero, add-one, arith}
use Rattle.std.specs.BTreeMap.{BTreeMap, IsOrdered, Updates, get}
use Rattle.std.specs.Map.{count_at}
use Rattle.std.specs.Ordering.{is_eq}
use Rattle.std.proofs.lemmas.Bool.{eqb-true}
use Rattle.std.proofs.lemmas.Grind.{common_steps}
use Rattle.std.proofs.lemmas.List.{take_more, length-take-le}
use Rattle.std.proofs.lemmas.List.Sums.{sum_by_push, count_by-le-length}
use Rattle.journal.specs.declared.entry.Entry.{Entry}
use Rattle.report.specs.declared.owner.Owner.{Owner}
use Rattle.report.specs.declared.owner.Owner.TheVariants.{Process, Row}
use Rattle.report.specs.contracts.owner.OwnerOrd.TheImpl.{ghosts}
use Rattle.report.specs.Owners.{owner_cmp}
use Rattle.report.specs.Words.{owner_of}
use Rattle.report.proofs.Owners.{derived_is_owner_cmp}
use Rattle.tally.specs.declared.Tally.{Tally}
use Rattle.tally.specs.Counts.{same_owner, entries_of, some_if_any, Counts, Tallied}

same_where_equal : (a b : Owner) → is_eq (owner_cmp b a) ≡ same_owner a b
same_where_equal (Process m) (Process n) = grind (arith, common_steps)
same_where_equal (Process m) (Row n) = refl
same_where_equal (Row m) (Process n) = refl
same_where_equal (Row m) (Row n) = grind (arith, common_steps)

same_is_one : (a b : Owner) → same_owner a b ≡ true → a ≡ b
same_is_one (Process m) (Process n) e = ap (λ n. Process n) (eqb-true m n e)
same_is_one (Row m) (Row n) e = ap (λ n. Row n) (eqb-true m n e)
same_is_one (Process m) (Row n) e = cc
same_is_one (Row m) (Process n) e = cc

told_where_some : (n : ℕ) → Some (n + 1) ≡ some_if_any (n + 1)
told_where_some n = rw (add-one n) refl

told_back : (k : ℕ) → unwrap_or (some_if_any k) 0 ≡ k
told_back zero = refl
told_back (suc k) = refl

count_of_owner : (es : List Entry) (m : BTreeMap Owner ℕ) (owner : Owner) → Counts owner_cmp es m → count_at (get owner_cmp m) owner ≡ entries_of owner es
count_of_owner es m owner before = ap (λ o. unwrap_or o 0) (before.told owner) ∙ told_back (entries_of owner es)

no_count_past_all : (es : List Entry) (m : BTreeMap Owner ℕ) (owner : Owner) → Counts owner_cmp es m → count_at (get ghosts.cmp m) owner ≤ length es
no_count_past_all es m owner before =
    let all : count_at (get owner_cmp m) owner ≤ length es = omega (arith, count_of_owner es m owner before, count_by-le-length (λ e. same_owner owner (owner_of e)) es) in
    subst (λ c. count_at (get c m) owner ≤ length es) (sym derived_is_owner_cmp) all

one_entry_more : (es : List Entry) (e : Entry) (m m' : BTreeMap Owner ℕ) → Counts owner_cmp es m → IsOrdered ghosts.cmp m' → Updates ghosts.cmp m m' (owner_of e) (Some (count_at (get ghosts.cmp m) (owner_of e) + 1)) → Counts owner_cmp (es ++ e ∷ []) m'
one_entry_more es e m m' before ordered up = record {
  ordered = subst (λ c. IsOrdered c m') derived_is_owner_cmp ordered;
  told = λ owner. told owner (same_owner owner (owner_of e)) refl;
}
  where
    updates : Updates owner_cmp m m' (owner_of e) (Some (count_at (get owner_cmp m) (owner_of e) + 1))
    updates = subst (λ c. Updates c m m' (owner_of e) (Some (count_at (get c m) (owner_of e) + 1))) derived_is_owner_cmp up

    one_more : (owner : Owner) → entries_of owner (es ++ e ∷ []) ≡ entries_of owner es + cond (same_owner owner (owner_of e)) 1 0
    one_more owner = sum_by_push _ es e

    told : (owner : Owner) (same : Bool) → same_owner owner (owner_of e) ≡ same → get owner_cmp m' owner ≡ some_if_any (entries_of owner (es ++ e ∷ []))
    told owner true same = rw (updates.0 owner, same_where_equal owner (owner_of e), same, count_of_owner es m (owner_of e) before, sym (same_is_one owner (owner_of e) same), one_more owner, same) (told_where_some (entries_of owner es))
    told owner false same = rw (updates.2 owner (same_where_equal owner (owner_of e) ∙ same), before.told owner, one_more owner, same, add-zero (entries_of owner es)) refl

module _ (es : List Entry) (i : ℕ) (m : BTreeMap Owner ℕ) (within : i < length es) (before : Counts owner_cmp (take i es) m) where
  pub count_below_all : (owner : Owner) → count_at (get ghosts.cmp m) owner + 1 ≤ length es
  count_below_all owner = omega (arith, no_count_past_all (take i es) m owner before, length-take-le i es (omega arith))

  pub next_is_counted : (e : Entry) (owner : Owner) (m' : BTreeMap Owner ℕ) → e ≡ get_or es i e → owner ≡ owner_of e → IsOrdered ghosts.cmp m' → Updates ghosts.cmp m m' owner (Some (count_at (get ghosts.cmp m) owner + 1)) → Counts owner_cmp (take (i + 1) es) m'
  next_is_counted e owner m' here own ordered up =
      let more : take i es ++ e ∷ [] ≡ take (i + 1) es = ap (λ x. take i es ++ x ∷ []) here ∙ sym (take_more es i e within) in
      subst (λ l. Counts owner_cmp l m') more (one_entry_more (take i es) e m m' before ordered (subst (λ o. Updates ghosts.cmp m m' o (Some (count_at (get ghosts.cmp m) o + 1))) own up))

-- the order of owners is that of the keys
pub tallied : (es : List Entry) (t : Tally) → Counts owner_cmp es t.counts → Tallied es t
tallied es t counted = record { by_owner = counted; by_key = subst (λ c. Counts c es t.counts) (sym derived_is_owner_cmp) counted }
