-- Laws of rows 1 to 4, 15 and 5: test by test in their order, and what the batch call is after them.
-- Assumes nothing.
use borrow.Author.Tests.{lt-ltb, le-ltb, ltb-false}
use Prim.Native.Nat.{ℕ, ◌+◌, ◌^◌, ◌≤◌, ◌<◌}
use mathlib.Core.Path.{◌≡◌, refl, sym, ap, ◌∙◌, subst}
use mathlib.Core.List.{List}
use mathlib.Core.Bool.{Bool, true, false, not, cond, ◌||◌}
use native.Mathlib.Omega.{arith}
use lib.Dec.{ltb, eqb, lit<}
use lib.ListN.{length}
use Rattle.lists.proofs.ListLaws.{cond_yes, cond_no, false_true}
use Rattle.bincode.specs.Read.{Read, value, refuse}
use Rattle.std.specs.declared.result.Result.{Result}
use Rattle.std.specs.declared.result.Result.TheVariants.{Ok, Err}
use Rattle.bincode.specs.Outcome.{Outcome, done, refused}
use Rattle.bincode.specs.Answer.{outcome_as_said}
use Rattle.bincode.specs.Rows.{row_number}
use Rattle.bincode.specs.declared.Refusal.{Refusal}
use Rattle.bincode.specs.declared.Refusal.TheVariants.{ShortBuffer}
use Rattle.bincode.proofs.ReadLaws.{cross}
use Rattle.bincode.specs.Sizes.{Sizes, base}
use Rattle.bincode.specs.Stands.{Bytes}
use Rattle.internal_contrib.specs.declared.BatchIndex.{BatchIndex}
use Rattle.internal_contrib.specs.declared.Contrib.{Contrib}
use Rattle.internal_contrib.specs.InternalContrib.{ContribOf, read_batch}
use Rattle.internal_contrib.specs.Index.{placed_from, placed_in, contribs_in, EachKept, Indexed}
use Rattle.internal_contrib.proofs.KeptLaws.{batch_kept}
use Rattle.internal_contrib.proofs.BatchLaws.{check_refuse}
use Rattle.dynamic_honey_badger.specs.Asked.{row5, epoch_in}
use Rattle.dynamic_honey_badger.specs.State.{StateOf, era_of}
use Rattle.steps.specs.Steps.{committed}
use Rattle.process_output.specs.Refusals.{some, no_verdict, batch_row1, batch_row4, batch_row15, batch_row7}
use Rattle.process_output.specs.Process.{BatchCall, ProcessedOf, denied, finished, processed_contribs, processed_read, processed}
use Rattle.process_output.specs.Opening.{ReadAs, opened_contribs, opened_read, opened, OpenedAs, EpochBy}

-- rows 4, 15 and 5 of a batch that was read, by what the tests of 4 and 15 answered
module _ (era batch-era inner : ℕ) (verdicts : List ℕ) (messages : ℕ) (r4 r15 : Bool)
    (ill-formed : r4 ≡ not (eqb (length verdicts) messages) || some no_verdict verdicts) (other : r15 ≡ not (eqb batch-era era)) where
  pub by_rows : (o : Result ℕ Refusal) → outcome_as_said (λ (epoch : ℕ). epoch) o ≡ cond r4 (refused 4) (cond r15 (refused 15) (epoch_in era inner)) → EpochBy o era batch-era inner verdicts messages
  unfolding opened_contribs batch_row4 batch_row15
  by_rows o q bytes cs places dues e =
      let row4 = ill-formed ∙ ap (λ (n : ℕ). not (eqb (length verdicts) n) || some no_verdict verdicts) e in
      q ∙ (λ j. cond (row4 j) (refused 4) (cond (other j) (refused 15) (epoch_in era inner)))

-- row 1: few places for faults, or for due items, or enough for both
module _ (faults dues : ℕ) where
  pub short_faults : faults < base.faults → batch_row1 base faults dues ≡ true
  unfolding batch_row1
  short_faults h = ap (λ (x : Bool). x || ltb dues base.due) (lt-ltb _ _ h)

  pub short_dues : base.faults ≤ faults → dues < base.due → batch_row1 base faults dues ≡ true
  unfolding batch_row1
  short_dues enough h = λ j. le-ltb faults base.faults enough j || lt-ltb dues base.due h j

  pub no_short : base.faults ≤ faults → base.due ≤ dues → batch_row1 base faults dues ≡ false
  unfolding batch_row1
  no_short enough room = λ j. le-ltb faults base.faults enough j || le-ltb dues base.due room j

-- so such a call is refused by 1, whatever the sizes are
module _ (z : Sizes) (era : ℕ) (b : BatchCall) where
  pub open_faults : b.fault_places < z.faults → opened z era b ≡ refused 1
  unfolding opened batch_row1
  open_faults h = cond_yes _ _ (ap (λ (x : Bool). x || ltb b.due_places z.due) (lt-ltb _ _ h))

  pub open_due : z.faults ≤ b.fault_places → b.due_places < z.due → opened z era b ≡ refused 1
  unfolding opened batch_row1
  open_due enough h = cond_yes _ _ (λ j. le-ltb b.fault_places z.faults enough j || lt-ltb b.due_places z.due h j)

pub read_short : (r : Result (BatchIndex × ℕ) Refusal) (short : Bool) (x : Read (List ContribOf)) → short ≡ true → r ≡ Err ShortBuffer → ReadAs r short x
read_short r short x e q = (λ y. q, λ n. absurd (false_true (sym n ∙ e)))

pub read_long : (r : Result (BatchIndex × ℕ) Refusal) (short : Bool) (x : Read (List ContribOf)) → short ≡ false → Indexed r x → ReadAs r short x
read_long r short x e q = (λ y. absurd (false_true (sym e ∙ y)), λ n. q)

-- rows 1 to 3, and the others by the reading
module _ (era : ℕ) (b : BatchCall) (r : Result (BatchIndex × ℕ) Refusal) (h : ReadAs r (batch_row1 base b.fault_places b.due_places) (read_batch base b.bytes)) where
  pub lent_refused : (n : Refusal) → r ≡ Err n → opened base era b ≡ refused (row_number n)
  unfolding opened
  lent_refused n q = go (batch_row1 base b.fault_places b.due_places) refl
    where
      one : {k : Refusal} → r ≡ Err k → k ≡ n
      one e = let x = sym e ∙ q in cc

      go : (short : Bool) → batch_row1 base b.fault_places b.due_places ≡ short → opened base era b ≡ refused (row_number n)
      go true e = cond_yes _ _ e ∙ ap (λ (k : Refusal). refused (row_number k)) (one (h.0 e))
      go false e = cond_no _ _ e ∙ ap (opened_read era b) (check_refuse (read_batch base b.bytes) r (h.1 e) n q)

  pub lent_long : (x : BatchIndex × ℕ) → r ≡ Ok x → batch_row1 base b.fault_places b.due_places ≡ false
  lent_long x q = go (batch_row1 base b.fault_places b.due_places) refl
    where
      go : (short : Bool) → batch_row1 base b.fault_places b.due_places ≡ short → batch_row1 base b.fault_places b.due_places ≡ false
      go true e = absurd (cross (sym q ∙ h.0 e))
      go false e = e

  pub lent_done : (x : BatchIndex × ℕ) → r ≡ Ok x → (y : Read (List ContribOf)) → read_batch base b.bytes ≡ y → opened base era b ≡ opened_read era b y
  unfolding opened
  lent_done x q y e = cond_no _ _ (lent_long x q) ∙ ap (opened_read era b) e

-- contributions that were read stand where the noted places say
pub placed_kept : (s : List ℕ) → Bytes s → (ks : List Contrib) (cs : List ContribOf) (c : ℕ) → read_batch base s ≡ value cs c → ks ≡ placed_from 8 cs → EachKept base s ks cs
placed_kept s bytes ks cs c r e = subst (λ (xs : List Contrib). EachKept base s xs cs) (sym e) (batch_kept base (lit< tt) (lit< tt) (lit< tt) s bytes cs c r)

-- a batch that is opened was read, and its epoch is the sum
module _ (z : Sizes) (era : ℕ) (b : BatchCall) (epoch : ℕ) where
  pub opened_read_lem : opened z era b ≡ done epoch
      → (cs : List ContribOf) × (c : ℕ) × (read_batch z b.bytes ≡ value cs c) × (row5 (era + b.inner) ≡ false) × (epoch ≡ era + b.inner)
  unfolding opened opened_contribs
  opened_read_lem = by_row (batch_row1 z b.fault_places b.due_places) (read_batch z b.bytes) refl
    where
      never : {y : ℕ} → ◌≡◌ {A = Outcome ℕ} (refused y) (done epoch) → ⊥
      never q = let o : ◌≡◌ {A = ℕ} 0 1 = cc in omega arith

      same : {y : ℕ} → ◌≡◌ {A = Outcome ℕ} (done y) (done epoch) → epoch ≡ y
      same q = cc

      rows : (r4 r15 r5 : Bool) → cond r4 (refused 4) (cond r15 (refused 15) (cond r5 (refused 5) (done (era + b.inner)))) ≡ done epoch
          → (r5 ≡ false) × (epoch ≡ era + b.inner)
      rows true r15 r5 q = absurd (never q)
      rows false true r5 q = absurd (never q)
      rows false false true q = absurd (never q)
      rows false false false q = (refl, same q)

      by_row : (r1 : Bool) (x : Read (List ContribOf)) → read_batch z b.bytes ≡ x → cond r1 (refused 1) (opened_read era b x) ≡ done epoch
          → (cs : List ContribOf) × (c : ℕ) × (read_batch z b.bytes ≡ value cs c) × (row5 (era + b.inner) ≡ false) × (epoch ≡ era + b.inner)
      by_row true x e q = absurd (never q)
      by_row false (refuse n) e q = absurd (never q)
      by_row false (value cs c) e q =
          let p = rows (batch_row4 cs b.verdicts) (batch_row15 era b.era) (row5 (era + b.inner)) q in
          (cs, c, e, p.0, p.1)

-- row 5 leaves room for the era behind the epoch
pub epoch_fits : (epoch : ℕ) → row5 epoch ≡ false → epoch + 1 < 2 ^ 64
unfolding row5
epoch_fits epoch e = omega (arith, ltb-false 18446744073709551614 epoch e)

-- the batch call behind rows 1 to 4, 15 and 5
module _ (z : Sizes) (s : StateOf) (b : BatchCall) where
  -- row 7, and the steps
  abbrev pub after_opening : Read (List ContribOf) → Outcome ℕ → ProcessedOf
  after_opening (value cs c) (done epoch) = cond (batch_row7 z s b.verdicts cs) (denied s 7) (finished z s epoch (committed z s b.verdicts cs))
  after_opening (refuse n) (done epoch) = denied s n
  after_opening x (refused n) = denied s n

  pub processed_opened : processed z s b ≡ after_opening (read_batch z b.bytes) (opened z (era_of s) b)
  unfolding processed opened processed_contribs opened_contribs
  processed_opened = by_row (batch_row1 z b.fault_places b.due_places) (read_batch z b.bytes)
    where
      rows : (cs : List ContribOf) (c : ℕ) (r4 r15 r5 : Bool)
          → cond r4 (denied s 4) (cond r15 (denied s 15) (cond r5 (denied s 5)
          (cond (batch_row7 z s b.verdicts cs) (denied s 7) (finished z s (era_of s + b.inner) (committed z s b.verdicts cs)))))
          ≡ after_opening (value cs c) (cond r4 (refused 4) (cond r15 (refused 15) (cond r5 (refused 5) (done (era_of s + b.inner)))))
      rows cs c true r15 r5 = refl
      rows cs c false true r5 = refl
      rows cs c false false true = refl
      rows cs c false false false = refl

      by_row : (r1 : Bool) (x : Read (List ContribOf))
          → cond r1 (denied s 1) (processed_read z s b x) ≡ after_opening x (cond r1 (refused 1) (opened_read (era_of s) b x))
      by_row true (value cs c) = refl
      by_row true (refuse n) = refl
      by_row false (value cs c) = rows cs c (batch_row4 cs b.verdicts) (batch_row15 (era_of s) b.era) (row5 (era_of s + b.inner))
      by_row false (refuse n) = refl

-- for the caller, by what was opened: `processed` is a refusal's, or row 7 and the steps
module _ (s : StateOf) (b : BatchCall) where
  pub opened_refused : (n : ℕ) → opened base (era_of s) b ≡ refused n → processed base s b ≡ denied s n
  opened_refused n o = processed_opened base s b ∙ ap (after_opening base s b (read_batch base b.bytes)) o ∙ after (read_batch base b.bytes)
    where
      after : (x : Read (List ContribOf)) → after_opening base s b x (refused n) ≡ denied s n
      after (value cs c) = refl
      after (refuse m) = refl

  -- contributions were read and stand at the noted places
  pub record Begun (epoch : ℕ) (index : BatchIndex) : Type 0 where
    pub cs : List ContribOf
    pub next : ℕ
    pub read : read_batch base b.bytes ≡ value cs next
    pub placed : contribs_in index ≡ placed_from 8 cs
    pub kept : EachKept base b.bytes (contribs_in index) cs
    pub sum : epoch ≡ era_of s + b.inner
    pub fits : epoch + 1 < 2 ^ 64
    pub comes : processed base s b ≡ cond (batch_row7 base s b.verdicts cs) (denied s 7) (finished base s epoch (committed base s b.verdicts cs))

  pub opened_epoch : (epoch : ℕ) (index : BatchIndex) → opened base (era_of s) b ≡ done epoch → contribs_in index ≡ placed_in (read_batch base b.bytes) → Bytes b.bytes → Begun epoch index
  opened_epoch epoch index o stand bytes =
      let v = opened_read_lem base (era_of s) b epoch o in
      let placed = stand ∙ ap placed_in v.2 in
      record {
        cs = v.0;
        next = v.1;
        read = v.2;
        placed = placed;
        kept = placed_kept b.bytes bytes (contribs_in index) v.0 v.1 v.2 placed;
        sum = v.4;
        fits = epoch_fits epoch (ap row5 v.4 ∙ v.3);
        comes = processed_opened base s b ∙ (λ j. after_opening base s b (v.2 j) (o j));
      }

-- an epoch that is opened leaves room for the era behind it
pub opened_fits : (era : ℕ) (b : BatchCall) (epoch : ℕ) → opened base era b ≡ done epoch → epoch + 1 < 2 ^ 64
opened_fits era b epoch o = let v = opened_read_lem base era b epoch o in epoch_fits epoch (ap row5 v.4 ∙ v.3)

-- a refusal as code gives it
pub refused_as : (r : Result (ℕ × BatchIndex) Refusal) (o : Outcome ℕ) (x : Read (List ContribOf)) (n : Refusal) → r ≡ Err n → o ≡ refused (row_number n) → OpenedAs r o x
refused_as r o x n q e = subst (λ (y : Result (ℕ × BatchIndex) Refusal). OpenedAs y o x) (sym q) e

-- and what it tells
module _ (r : Result (ℕ × BatchIndex) Refusal) (o : Outcome ℕ) (x : Read (List ContribOf)) (h : OpenedAs r o x) where
  pub opened_ok : (epoch : ℕ) (index : BatchIndex) → r ≡ Ok (epoch, index) → (o ≡ done epoch) × (contribs_in index ≡ placed_in x)
  opened_ok epoch index q = subst (λ (y : Result (ℕ × BatchIndex) Refusal). OpenedAs y o x) q h
