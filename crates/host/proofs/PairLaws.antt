-- Two lists of numbers as one of records, and what they say of faults.
-- Assumes nothing.
use Prim.Native.Nat.{ℕ, zero, suc, ◌+◌, ◌≤◌, ◌<◌, min}
use mathlib.Core.Path.{◌≡◌, refl, sym, ap, ◌∙◌}
use mathlib.Core.List.{List, [], ◌∷◌, ◌++◌, map}
use native.Mathlib.Omega.{arith}
use lib.ListN.{length, take, get_or, length-map}
use lib.Seq.{length-take-le, take_at, take-take}
use Rattle.fault_log.specs.declared.Fault.{Fault}
use Rattle.filled.specs.Filled.{filled}
use Rattle.filled.specs.Numbers.{fault_id, kind_number, FaultsIn}
use Rattle.filled.proofs.FillLaws.{filled_room}
use Rattle.host.specs.declared.FaultRecord.{FaultRecord}
use Rattle.host.specs.Records.{record_of, pairs}

-- ids and kinds of faults are their records
pairs_of : (fs : List Fault) → pairs (map fault_id fs) (map kind_number fs) ≡ map record_of fs
unfolding pairs
pairs_of [] = refl
pairs_of (f ∷ fs) = ap (λ (rs : List FaultRecord). record_of f ∷ rs) (pairs_of fs)

-- one pair more, whatever is read past the ends
pub pairs_more : (is ks : List ℕ) (j a b : ℕ) → j < length is → j < length ks
    → pairs (take (suc j) is) (take (suc j) ks) ≡ pairs (take j is) (take j ks) ++ (record { node_id = get_or is j a; kind = get_or ks j b } ∷ [])
unfolding pairs
pairs_more [] ks j a b h l = absurd (let y : ⊥ = omega arith in y)
pairs_more (i ∷ is) [] j a b h l = absurd (let y : ⊥ = omega arith in y)
pairs_more (i ∷ is) (k ∷ ks) zero a b h l = refl
pairs_more (i ∷ is) (k ∷ ks) (suc j) a b h l = ap (λ (rs : List FaultRecord). record { node_id = i; kind = k } ∷ rs) (pairs_more is ks j a b (omega arith) (omega arith))

-- all pairs, by as many places as the shorter list has
pub pairs_all : (is ks : List ℕ) (n : ℕ) → n ≡ min (length is) (length ks) → pairs (take n is) (take n ks) ≡ pairs is ks
unfolding pairs
pairs_all is ks n e = go is ks n e
  where
    go : (is ks : List ℕ) (n : ℕ) → n ≡ min (length is) (length ks) → pairs (take n is) (take n ks) ≡ pairs is ks
    go [] ks n e = ap (λ (m : ℕ). pairs (take m []) (take m ks)) (let z : n ≡ 0 = omega (arith, e) in z)
    go (i ∷ is) [] n e = ap (λ (m : ℕ). pairs (take m (i ∷ is)) (take m [])) (let z : n ≡ 0 = omega (arith, e) in z)
    go (i ∷ is) (k ∷ ks) zero e = absurd (let y : ⊥ = omega (arith, e) in y)
    go (i ∷ is) (k ∷ ks) (suc m) e = ap (λ (rs : List FaultRecord). record { node_id = i; kind = k } ∷ rs) (go is ks m (omega (arith, e)))

-- as many as both first parts have
pub pairs_length : (is ks : List ℕ) (j : ℕ) → j < length is → j < length ks → length (pairs (take j is) (take j ks)) ≡ j
unfolding pairs
pairs_length [] ks j h l = absurd (let y : ⊥ = omega arith in y)
pairs_length (i ∷ is) [] j h l = absurd (let y : ⊥ = omega arith in y)
pairs_length (i ∷ is) (k ∷ ks) zero h l = refl
pairs_length (i ∷ is) (k ∷ ks) (suc j) h l = ap suc (pairs_length is ks j (omega arith) (omega arith))

-- lists that were filled with what faults say, in their first places, give the faults' records
filled_front : (xs old new : List ℕ) (n places : ℕ) → n ≡ length xs → n ≤ places → length xs ≤ length (take places old) → take places new ≡ filled xs (take places old) → take n new ≡ xs
filled_front xs old new n places e h l f =
    sym (take-take n places new h) ∙ ap (take n) (f ∙ filled_room xs (take places old) l) ∙ take_at xs _ n (sym e)

pub lists_paired : (fs : List Fault) (n places : ℕ) (ids ids' kinds kinds' : List ℕ) → n ≡ length fs → n ≤ places → places ≤ length ids → places ≤ length kinds
    → FaultsIn fs (take places ids) (take places ids') (take places kinds) (take places kinds') → pairs (take n ids') (take n kinds') ≡ map record_of fs
lists_paired fs n places ids ids' kinds kinds' e h li lk p =
    let a : take n ids' ≡ map fault_id fs = filled_front (map fault_id fs) ids ids' n places (e ∙ sym (length-map fs fault_id)) h (omega (arith, length-map fs fault_id, length-take-le places ids li)) p.0 in
    let b : take n kinds' ≡ map kind_number fs = filled_front (map kind_number fs) kinds kinds' n places (e ∙ sym (length-map fs kind_number)) h (omega (arith, length-map fs kind_number, length-take-le places kinds lk)) p.1 in
    rw (a, b) (pairs_of fs)
