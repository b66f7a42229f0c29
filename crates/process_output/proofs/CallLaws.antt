-- A batch call by its cases, said once for every law of a batch call: it is refused, by 1, by the number that reading answers, by 4, 15, 5 or 7, with the state as
-- given, or it is taken and finished. Each case has what is known in it.
-- Assumes nothing.
use Prim.Native.Nat.{ℕ, ◌+◌}
use mathlib.Core.Path.{◌≡◌, refl}
use mathlib.Core.List.{List}
use mathlib.Core.Bool.{Bool, true, false, cond}
use lib.Dec.{eqb}
use borrow.Author.Tests.{eqb-true, eqb-false, not-true, not-false}
use Rattle.bincode.specs.Read.{Read, value, refuse}
use Rattle.bincode.specs.Sizes.{Sizes}
use Rattle.internal_contrib.specs.InternalContrib.{ContribOf, read_batch}
use Rattle.dynamic_honey_badger.specs.Asked.{row5}
use Rattle.dynamic_honey_badger.specs.State.{StateOf, era_of}
use Rattle.steps.specs.Steps.{committed}
use Rattle.process_output.specs.Refusals.{batch_row1, batch_row4, batch_row15, batch_row7}
use Rattle.process_output.specs.Process.{BatchCall, ProcessedOf, denied, finished, processed_contribs, processed_read, processed, last_after}

-- row 15 by its cause
pub row15_other : (now era : ℕ) → batch_row15 now era ≡ true → era ≡ now → ⊥
unfolding batch_row15
row15_other now era e = eqb-false era now (not-true (eqb era now) e)

pub row15_same : (now era : ℕ) → batch_row15 now era ≡ false → era ≡ now
unfolding batch_row15
row15_same now era e = eqb-true era now (not-false (eqb era now) e)

module _ (z : Sizes) (s : StateOf) (b : BatchCall) where
  -- the lent lists are long enough, and the bytes are read as contributions
  pub record IsRead (cs : List ContribOf) (c : ℕ) : Type 0 where
    pub lent : batch_row1 z b.fault_places b.due_places ≡ false
    pub bytes_read : read_batch z b.bytes ≡ value cs c

  -- the verdicts are well formed too, and the batch is of the engine's era
  pub record IsOwn (cs : List ContribOf) (c : ℕ) : Type 0 where
    pub is_read : IsRead cs c
    pub judged : batch_row4 cs b.verdicts ≡ false
    pub own_era : b.era ≡ era_of s

  -- no row refuses it
  pub record IsTaken (cs : List ContribOf) (c : ℕ) : Type 0 where
    pub is_own : IsOwn cs c
    pub early : row5 (era_of s + b.inner) ≡ false
    pub not_empty : batch_row7 z s b.verdicts cs ≡ false

  -- one row refuses it, and none before it
  pub data Refusal : Type 0 where
    by_1 : batch_row1 z b.fault_places b.due_places ≡ true → Refusal
    by_reading : (n : ℕ) → batch_row1 z b.fault_places b.due_places ≡ false → read_batch z b.bytes ≡ refuse n → Refusal
    by_4 : (cs : List ContribOf) (c : ℕ) → IsRead cs c → batch_row4 cs b.verdicts ≡ true → Refusal
    by_15 : (cs : List ContribOf) (c : ℕ) → IsRead cs c → batch_row4 cs b.verdicts ≡ false → (b.era ≡ era_of s → ⊥) → Refusal
    by_5 : (cs : List ContribOf) (c : ℕ) → IsOwn cs c → row5 (era_of s + b.inner) ≡ true → Refusal
    by_7 : (cs : List ContribOf) (c : ℕ) → IsOwn cs c → row5 (era_of s + b.inner) ≡ false → batch_row7 z s b.verdicts cs ≡ true → Refusal

  abbrev pub number : Refusal → ℕ
  number (by_1 e) = 1
  number (by_reading n e p) = n
  number (by_4 cs c r e) = 4
  number (by_15 cs c r e o) = 15
  number (by_5 cs c o e) = 5
  number (by_7 cs c o h e) = 7

  -- the cases
  pub batch_cases : (P : ProcessedOf → Type 0) → ((w : Refusal) → P (denied s (number w)))
      → ((cs : List ContribOf) (c : ℕ) → IsTaken cs c → P (finished z s (era_of s + b.inner) (committed z s b.verdicts cs))) → P (processed z s b)
  unfolding processed processed_contribs
  batch_cases P on-refusal on-taken = go (batch_row1 z b.fault_places b.due_places) refl (read_batch z b.bytes) refl
    where
      -- the rows of a batch that was read
      rows : (cs : List ContribOf) (c : ℕ) → IsRead cs c
          → (r4 : Bool) → batch_row4 cs b.verdicts ≡ r4 → (r15 : Bool) → batch_row15 (era_of s) b.era ≡ r15 → (r5 : Bool) → row5 (era_of s + b.inner) ≡ r5
          → (r7 : Bool) → batch_row7 z s b.verdicts cs ≡ r7
          → P
          (cond r4 (denied s 4)
          (cond r15 (denied s 15)
          (cond r5 (denied s 5) (cond r7 (denied s 7) (finished z s (era_of s + b.inner) (committed z s b.verdicts cs))))))
      rows cs c x true e4 r15 e15 r5 e5 r7 e7 = on-refusal (by_4 cs c x e4)
      rows cs c x false e4 true e15 r5 e5 r7 e7 = on-refusal (by_15 cs c x e4 (row15_other (era_of s) b.era e15))
      rows cs c x false e4 false e15 r5 e5 r7 e7 = owned (record { is_read = x; judged = e4; own_era = row15_same (era_of s) b.era e15 }) r5 e5 r7 e7
        where
          owned : IsOwn cs c → (r5 : Bool) → row5 (era_of s + b.inner) ≡ r5 → (r7 : Bool) → batch_row7 z s b.verdicts cs ≡ r7
              → P (cond r5 (denied s 5) (cond r7 (denied s 7) (finished z s (era_of s + b.inner) (committed z s b.verdicts cs))))
          owned o true e5 r7 e7 = on-refusal (by_5 cs c o e5)
          owned o false e5 true e7 = on-refusal (by_7 cs c o e5 e7)
          owned o false e5 false e7 = on-taken cs c (record { is_own = o; early = e5; not_empty = e7 })

      go : (r1 : Bool) → batch_row1 z b.fault_places b.due_places ≡ r1 → (x : Read (List ContribOf)) → read_batch z b.bytes ≡ x
          → P (cond r1 (denied s 1) (processed_read z s b x))
      go true e x p = on-refusal (by_1 e)
      go false e (refuse n) p = on-refusal (by_reading n e p)
      go false e (value cs c) p =
          rows cs c (record { lent = e; bytes_read = p }) (batch_row4 cs b.verdicts) refl (batch_row15 (era_of s) b.era) refl (row5 (era_of s + b.inner)) refl
          (batch_row7 z s b.verdicts cs) refl

  -- 02, CR 1: the last report is the one that this call returned; a refusal leaves it as it was
  pub processed_last : (processed z s b).state.last ≡ last_after s.last (processed z s b).answer
  processed_last = batch_cases (λ p. p.state.last ≡ last_after s.last p.answer) (λ w. refl) (λ cs c t. refl)
