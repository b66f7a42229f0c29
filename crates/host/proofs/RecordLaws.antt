-- The batch call by its number of places for faults, and the list of records that is filled from its answer.
-- Assumes nothing.
use Prim.Native.Nat.{ℕ, ◌+◌, ◌≤◌, ◌<◌, min}
use mathlib.Core.Path.{◌≡◌, refl, sym, ap, subst, ◌∙◌}
use mathlib.Core.Bool.{Bool, true, false, cond, ◌||◌}
use mathlib.Core.List.{List, ◌++◌, map}
use native.Mathlib.Omega.{arith}
use native.Mathlib.Numerals.{add-one}
use lib.Dec.{ltb}
use lib.ListN.{length, take, drop, get_or, set, length-append, length-drop}
use lib.Seq.{take_at, length-take-le}
use borrow.Author.Tests.{ltb-true, ltb-false, le-ltb, lt-ltb}
use Rattle.std.specs.List.{zip, enumerate_from}
use Rattle.std.specs.declared.result.Result.{Result}
use Rattle.std.specs.declared.result.Result.TheVariants.{Ok, Err}
use Rattle.bincode.specs.Read.{Read, value, refuse}
use Rattle.bincode.specs.declared.Refusal.{Refusal}
use Rattle.bincode.specs.Outcome.{Outcome, done, refused}
use Rattle.bincode.specs.Sizes.{Sizes, base}
use Rattle.internal_contrib.specs.InternalContrib.{ContribOf, read_batch}
use Rattle.filled.specs.Filled.{filled, shorter}
use Rattle.filled.proofs.FillLaws.{length_filled, filled_none, filled_next}
use Rattle.dynamic_honey_badger.specs.declared.DynamicHoneyBadger.{DynamicHoneyBadger}
use Rattle.dynamic_honey_badger.specs.State.{StateOf, state_of}
use Rattle.process_output.specs.Refusals.{batch_row1}
use Rattle.process_output.specs.Process.{BatchCall, ReportOf, ProcessedOf, denied, processed_contribs, processed_read, processed}
use Rattle.process_batch.specs.declared.Report.{Report}
use Rattle.process_batch.specs.declared.Processed.{Processed}
use Rattle.process_batch.specs.Answer.{Summary, summed, report_of, faults_told, ProcessedAs}
use Rattle.process_batch.specs.Lent.{Lists, lent_call, faults_in, Filled, BatchDone}
use Rattle.host.specs.declared.FaultRecord.{FaultRecord}
use Rattle.host.specs.Records.{DueLists, record_of, places_call, pairs, answer_of, BatchAnswered, DueDone}
use Rattle.std.proofs.lemmas.List.FromFn.{length-enumerate_from, get_or-enumerate_from}
use Rattle.std.proofs.lemmas.Slice.Zip.{length-zip, get_or-zip}
use Rattle.host.proofs.PairLaws.{lists_paired, pairs_more, pairs_length, pairs_all}

-- the shorter of two lengths, as the library says it
pub min_shorter : (a b : ℕ) → min a b ≡ shorter a b
min_shorter a b = grind arith

-- it is no longer than the second
pub shorter_le : (a b : ℕ) → shorter a b ≤ b
shorter_le a b = go (ltb a b) refl
  where
    go : (t : Bool) → ltb a b ≡ t → cond t a b ≤ b
    go true e = omega (arith, ltb-true a b e)
    go false e = omega arith

-- three lists as those of due items
abbrev pub dues : List ℕ → List ℕ → List ℕ → DueLists
dues kinds indices eras = record { kinds = kinds; indices = indices; eras = eras }

-- two lists of faults and the three of due items
abbrev pub lists : List ℕ → List ℕ → DueLists → Lists
lists ids kinds d = record { fault_ids = ids; fault_kinds = kinds; due_kinds = d.kinds; due_indices = d.indices; due_eras = d.eras }

-- an answer counts its report's faults; a refusal has none
abbrev fault_count : Outcome Summary → ℕ
fault_count (done x) = x.faults
fault_count (refused n) = 0

summed_faults : (a : Outcome ReportOf) → fault_count (summed a) ≡ length (faults_in a)
summed_faults (done x) = refl
summed_faults (refused n) = refl

held_faults : (o : Result Report Refusal) → faults_told o ≡ fault_count (report_of o)
held_faults (Ok r) = refl
held_faults (Err n) = refl

faults_counted : (r : Processed) (x : ProcessedOf) → ProcessedAs r x → faults_told r.outcome ≡ length (faults_in x.answer)
faults_counted r x told = held_faults r.outcome ∙ ap fault_count told.1 ∙ summed_faults x.answer

module _ (z : Sizes) (s : StateOf) (era inner : ℕ) (bytes verdicts : List ℕ) (d : DueLists) where
  abbrev call : ℕ → BatchCall
  call n = places_call era inner bytes verdicts n d

  -- past row 1 the number of places does not count
  past : (m n : ℕ) (x : Read (List ContribOf)) → processed_read z s (call m) x ≡ processed_read z s (call n) x
  unfolding processed_contribs
  past m n (value cs c) = refl
  past m n (refuse k) = refl

  few_same : (n : ℕ) → ltb (shorter n z.faults) z.faults ≡ ltb n z.faults
  few_same n = go (ltb n z.faults) refl
    where
      go : (b : Bool) → ltb n z.faults ≡ b → ltb (cond b n z.faults) z.faults ≡ b
      go true e = e
      go false e = le-ltb z.faults z.faults (omega arith)

  -- more places than the size are as good as the size
  capped : (k n : ℕ) → k ≡ shorter n z.faults → processed z s (call k) ≡ processed z s (call n)
  unfolding processed batch_row1
  capped k n e =
      let row : ltb k z.faults ≡ ltb n z.faults = ap (λ (m : ℕ). ltb m z.faults) e ∙ few_same n in
      (λ j. cond (row j || ltb (call n).due_places z.due) (denied s 1) (past k n (read_batch z bytes) j))

  -- fewer places than the size are refused
  row_faults : (k : ℕ) → k < z.faults → processed z s (call k) ≡ denied s 1
  unfolding processed batch_row1
  row_faults k h = rw (lt-ltb k z.faults h)

  -- a report has no more faults than there are places
  faults_placed : (k n : ℕ) → n ≡ length (faults_in (processed z s (call k)).answer) → n ≤ z.faults → n ≤ k
  faults_placed k n l h = go (ltb k z.faults) refl
    where
      go : (b : Bool) → ltb k z.faults ≡ b → n ≤ k
      go true t =
          let none : n ≡ 0 = l ∙ ap (λ (x : ProcessedOf). length (faults_in x.answer)) (row_faults k (ltb-true k z.faults t)) in
          omega (arith, none)
      go false t = omega (arith, h, ltb-false k z.faults t)

  -- lent the first places of two lists, the call has as many
  first_call : (ids kinds : List ℕ) (k : ℕ) → k ≤ length ids → k ≤ length kinds
      → processed z s (lent_call era inner bytes verdicts (lists (take k ids) (take k kinds) d)) ≡ processed z s (call k)
  first_call ids kinds k h l =
      let i : length (take k ids) ≡ k = length-take-le k ids h in
      let j : length (take k kinds) ≡ k = length-take-le k kinds l in
      let same : shorter k k ≡ k = rw (le-ltb k k (omega arith)) in
      ap (λ (m : ℕ). processed z s (call m)) ((λ q. shorter (i q) (j q)) ∙ same)

-- and what was filled there is what the first places of the whole list hold
pub first_filled : (xs old part rest : List ℕ) (k : ℕ) → k ≤ length old → part ≡ filled xs (take k old) → take k (part ++ rest) ≡ filled xs (take k old)
first_filled xs old part rest k h e = take_at part rest k (ap length e ∙ length_filled xs (take k old) ∙ length-take-le k old h) ∙ e

-- the whole list is as long as it was
pub first_length : (xs old part : List ℕ) (k : ℕ) → k ≤ length old → part ≡ filled xs (take k old) → length (part ++ drop k old) ≡ length old
first_length xs old part k h e =
    let front : length part ≡ k = ap length e ∙ length_filled xs (take k old) ∙ length-take-le k old h in
    omega (arith, length-append part (drop k old), front, length-drop k old, h)

-- the batch call on the first places of two lists does what it says of as many places as the host lent: answer, faults as records, due items
pub records_done : (s : DynamicHoneyBadger) (era inner : ℕ) (bytes verdicts : List ℕ) (k n : ℕ) (ids kinds : List ℕ) (d : DueLists) (r : Processed) (ids' kinds' rest rest' : List ℕ) (d' : DueLists)
    → k ≡ shorter n base.faults → k ≤ length ids → k ≤ length kinds → BatchDone s era inner bytes verdicts (lists (take k ids) (take k kinds) d) r (lists ids' kinds' d')
    → (m : ℕ) → m ≡ faults_told r.outcome
    → BatchAnswered r s (places_call era inner bytes verdicts n d)
    × (pairs (take m (ids' ++ rest)) (take m (kinds' ++ rest')) ≡ map record_of (faults_in (answer_of s (places_call era inner bytes verdicts n d))))
    × DueDone (answer_of s (places_call era inner bytes verdicts n d)) d d'
records_done s era inner bytes verdicts k n ids kinds d r ids' kinds' rest rest' d' c h l e m f =
    let x = processed base (state_of s) (lent_call era inner bytes verdicts (lists (take k ids) (take k kinds) d)) in
    let y = processed base (state_of s) (places_call era inner bytes verdicts k d) in
    let same : x ≡ y = first_call base (state_of s) era inner bytes verdicts d ids kinds k h l in
    let first : ProcessedAs r y × Filled y.answer (lists (take k ids) (take k kinds) d) (lists ids' kinds' d')
    = subst (λ (z : ProcessedOf). ProcessedAs r z × Filled z.answer (lists (take k ids) (take k kinds) d) (lists ids' kinds' d')) same (e.0, e.2) in
    let all : m ≡ length (faults_in y.answer) = f ∙ faults_counted r y first.0 in
    let placed : m ≤ k = faults_placed base (state_of s) era inner bytes verdicts d k m all (omega (arith, f, e.3)) in
    let paired = lists_paired (faults_in y.answer) m k ids (ids' ++ rest) kinds (kinds' ++ rest') all placed h l
    (first_filled _ ids ids' rest k h first.1.0.0, first_filled _ kinds kinds' rest' k l first.1.0.1) in
    let w : ProcessedAs r (processed base (state_of s) (places_call era inner bytes verdicts n d))
    × (pairs (take m (ids' ++ rest)) (take m (kinds' ++ rest')) ≡ map record_of (faults_in (answer_of s (places_call era inner bytes verdicts n d))))
    × DueDone (answer_of s (places_call era inner bytes verdicts n d)) d d'
    = subst (λ (z : ProcessedOf). ProcessedAs r z × (pairs (take m (ids' ++ rest)) (take m (kinds' ++ rest')) ≡ map record_of (faults_in z.answer)) × DueDone z.answer d d')
    (capped base (state_of s) era inner bytes verdicts d k n c) (first.0, paired, first.1.1) in
    ((w.0, e.1), w.1, w.2)

-- the loop over two lists: a list that is filled with the first n pairs
module _ (ids kinds : List ℕ) (old : List FaultRecord) where
  abbrev pub filled_to : ℕ → List FaultRecord
  filled_to n = filled (pairs (take n ids) (take n kinds)) old

  -- at the start it is as it was
  pub filled_start : old ≡ filled_to 0
  unfolding pairs
  filled_start = sym (filled_none old)

  -- a turn: an append at the next place, whether there is one or not
  pub filled_turn : (n : ℕ) (x : ℕ × (ℕ × ℕ)) → (n < length (enumerate_from 0 (zip ids kinds))) × (x ≡ get_or (enumerate_from 0 (zip ids kinds)) n x)
      → set (filled_to n) x.0 (record { node_id = x.1.0; kind = x.1.1 }) ≡ filled_to (n + 1)
  filled_turn n x h =
      let l : n < length (zip ids kinds) = omega (arith, h.0, length-enumerate_from 0 (zip ids kinds)) in
      let i : n < length ids = omega (arith, l, length-zip ids kinds) in
      let k : n < length kinds = omega (arith, l, length-zip ids kinds) in
      let e : x ≡ (0 + n, get_or (zip ids kinds) n x.1) = h.1 ∙ get_or-enumerate_from 0 (zip ids kinds) n x l in
      let at : x.0 ≡ n = ap (λ (y : ℕ × (ℕ × ℕ)). y.0) e ∙ omega arith in
      let pair : x.1 ≡ (get_or ids n x.1.0, get_or kinds n x.1.1) = ap (λ (y : ℕ × (ℕ × ℕ)). y.1) e ∙ get_or-zip ids kinds n x.1 i k in
      (λ j. set (filled_to n) (at j) (record { node_id = (pair j).0; kind = (pair j).1 }))
      ∙ next n x.1.0 x.1.1 i k
    where
      next : (n a b : ℕ) → n < length ids → n < length kinds → set (filled_to n) n (record { node_id = get_or ids n a; kind = get_or kinds n b }) ≡ filled_to (n + 1)
      next n a b i k =
          rw (add-one n, pairs_more ids kinds n a b i k)
          (filled_next (pairs (take n ids) (take n kinds)) old n (record { node_id = get_or ids n a; kind = get_or kinds n b }) (pairs_length ids kinds n i k))

  -- at the end all are filled in
  pub filled_all : (n : ℕ) → n ≡ length (enumerate_from 0 (zip ids kinds)) → filled_to n ≡ filled (pairs ids kinds) old
  filled_all n e =
      ap (λ (rs : List FaultRecord). filled rs old) (pairs_all ids kinds n (omega (arith, e, length-enumerate_from 0 (zip ids kinds), length-zip ids kinds)))
