-- The entries that hand back no state refuse exactly under their rows too: `join_plan`, reading and writing a plan, `next_epoch`, the schedule call, and the
-- companion of the look-up.
-- Assumes nothing.
use Prim.Native.Nat.{ℕ, ◌+◌, ◌^◌, ◌<◌, ◌≤◌}
use mathlib.Core.Path.{◌≡◌, refl, sym, ap, ◌∙◌, subst}
use mathlib.Core.Logic.{◌↔◌}
use mathlib.Core.List.{List, [], ◌∷◌}
use mathlib.Core.Bool.{Bool, true, false, cond, ◌&&◌}
use native.Mathlib.Omega.{arith}
use lib.Dec.{eqb}
use lib.ListN.{length, length-append}
use Rattle.lists.specs.Lists.{Found, found, nothing}
use Rattle.bincode.specs.Read.{Read, value, refuse, whole}
use Rattle.bincode.specs.Outcome.{Outcome, done, refused}
use Rattle.bincode.specs.Sizes.{Sizes}
use Rattle.bincode.specs.Stands.{Bytes, concat_map}
use Rattle.bincode.specs.Numbers.{fixed}
use Rattle.bincode.proofs.NumberLaws.{length_bytes_of}
use Rattle.honey_badger.specs.declared.EncryptionSchedule.{EncryptionSchedule}
use Rattle.honey_badger.specs.EncryptionSchedule.{row14, use_on_epoch}
use Rattle.join_plan.specs.JoinPlan.{PlanOf, row1, read_plan, plan_bytes, plan_said, plan_written}
use Rattle.batch.specs.Batch.{BatchOf, changed, no_next, plan_of_batch, found_bytes, plan_left, plan_answered}
use Rattle.internal_contrib.specs.InternalContrib.{ContribOf, user_bytes, messages_bytes, votes_bytes, contrib_bytes, batch_bytes, read_batch}
use Rattle.internal_contrib.specs.Places.{Place, at_place, no_place, place_from, user_in, user_of, start_at, start_in, has_id, contributed}
use Rattle.internal_contrib.proofs.ContribCodes.{batch_one_encoding}
use Rattle.internal_contrib.proofs.BatchLaws.{place_clash, place_shows, place_none}
use Rattle.dynamic_honey_badger.specs.Asked.{row5, next_epoch}
use Rattle.dynamic_honey_badger.specs.State.{StateOf, era_of}
use Rattle.refusals.specs.Table.{first_row, refusal_of, refusal_of_read, plan_rows, plan_read_rows, plan_written_rows, next_rows, schedule_rows, lookup_rows, SaysNo}
use Rattle.refusals.proofs.Reading.{whole_plan, whole_batch}
use Rattle.refusals.proofs.FirstRow.{never}
use Rattle.refusals.proofs.Rows.{by_row, no_row, by_read}

-- `join_plan`
module _ (z : Sizes) (buffer : List ℕ) (b : BatchOf) (set : ℕ) where
  -- the answer by its tests, with the length n that a plan has
  abbrev said : Bool → Bool → Bool → ℕ → Outcome (Found ℕ)
  said r1 c r5 n = cond r1 (refused 1) (cond c (cond r5 (refused 5) (found_bytes (cond r1 (refused 1) (done n)))) (done nothing))

  pub plan_rows_lem : refusal_of (plan_answered z buffer b set) ≡ first_row (plan_rows z buffer b)
  unfolding plan_answered plan_rows plan_said first_row
  plan_rows_lem = go (row1 z.plan buffer) (changed b.change) (no_next b)
    where
      go : (r1 c r5 : Bool) → refusal_of (said r1 c r5 (length (plan_bytes fixed (plan_of_batch b set)))) ≡ cond r1 (found 1) (cond (c && r5) (found 5) nothing)
      go true c r5 = refl
      go false true true = refl
      go false true false = refl
      go false false r5 = refl

  -- a refusal leaves the buffer as it was
  pub plan_refused : (n : ℕ) → plan_answered z buffer b set ≡ refused n → plan_left z buffer b set ≡ buffer
  unfolding plan_answered plan_left plan_said
  plan_refused n = go (row1 z.plan buffer) (changed b.change) (no_next b)
    where
      go : (r1 c r5 : Bool) → said r1 c r5 (length (plan_bytes fixed (plan_of_batch b set))) ≡ refused n
          → cond r1 buffer (cond c (cond r5 buffer (plan_written fixed z.plan buffer (plan_of_batch b set))) buffer) ≡ buffer
      go true c r5 e = refl
      go false true true e = refl
      go false true false e = absurd (never (ap refusal_of e))
      go false false r5 e = refl

-- a plan read from its bytes, and one written into a buffer
module _ (z : Sizes) where
  pub plan_read_rows_lem : (bytes : List ℕ) → refusal_of_read (whole (read_plan fixed z bytes) bytes) ≡ first_row (plan_read_rows z bytes)
  unfolding plan_read_rows
  plan_read_rows_lem bytes = by_read refusal_of_read (λ x. []) (whole (read_plan fixed z bytes) bytes) (whole_plan bytes z) (λ n. refl) (λ p c u. no_row)

  pub plan_written_rows_lem : (buffer : List ℕ) (p : PlanOf) → refusal_of (plan_said fixed z.plan buffer p) ≡ first_row (plan_written_rows z buffer)
  unfolding plan_said plan_written_rows
  plan_written_rows_lem buffer p = by_row refusal_of 1 (row1 z.plan buffer) _ _ _ refl no_row

-- `next_epoch`
pub next_rows_lem : (s : StateOf) (inner : ℕ) → refusal_of (next_epoch s inner) ≡ first_row (next_rows s inner)
unfolding next_epoch next_rows
next_rows_lem s inner = by_row refusal_of 5 (row5 (era_of s + inner)) _ _ _ refl no_row

-- the schedule call
pub schedule_rows_lem : (x : EncryptionSchedule) (epoch : ℕ) → refusal_of (use_on_epoch x epoch) ≡ first_row (schedule_rows x)
unfolding use_on_epoch schedule_rows
schedule_rows_lem x epoch = by_row refusal_of 14 (row14 x) _ _ _ refl no_row

-- the companion of the look-up, over the whole batch
module _ (z : Sizes) (s : List ℕ) (id : ℕ) where
  pub lookup_rows_lem : refusal_of (contributed (read_batch z s) id) ≡ first_row (lookup_rows z s)
  unfolding lookup_rows
  lookup_rows_lem = by_read (λ x. refusal_of (contributed x id)) (λ x. []) (read_batch z s) (whole_batch s z) (λ n. refl) (λ cs c u. no_row)

-- the place of user bytes is before the end: the counts of messages and of votes stand behind them
user_before : (x : ContribOf) → 28 + length x.user ≤ length (contrib_bytes x)
unfolding contrib_bytes user_bytes messages_bytes votes_bytes
user_before x = simp (length-append, length_bytes_of) (omega arith)

place_before : (at : ℕ) (cs : List ContribOf) (id start n : ℕ) → place_from at cs id ≡ at_place start n → start + n < at + length (concat_map contrib_bytes cs)
unfolding place_from
place_before at [] id start n p = absurd (place_clash (sym p))
place_before at (c ∷ cs) id start n p = rw (length-append (contrib_bytes c) (concat_map contrib_bytes cs)) (go (eqb c.id id) (place_before (at + length (contrib_bytes c)) cs id start n) p)
  where
    go : (b : Bool)
        → (place_from (at + length (contrib_bytes c)) cs id ≡ at_place start n → start + n < at + length (contrib_bytes c) + length (concat_map contrib_bytes cs))
        → cond b (at_place (at + 12) (length c.user)) (place_from (at + length (contrib_bytes c)) cs id) ≡ at_place start n
        → start + n < at + (length (contrib_bytes c) + length (concat_map contrib_bytes cs))
    go true h q =
        let e : at + 12 ≡ start = cc in
        let f : length c.user ≡ n = cc in
        omega (arith, user_before c)
    go false h q = omega (arith, h q)

-- the look-up shows the empty part at the end exactly where its companion says no or refuses
module _ (z : Sizes) (nodes-fit : z.nodes < 256 ^ 8) (rows_fit : z.rows < 256 ^ 8) (user-fits : z.user < 256 ^ 8) (s : List ℕ) (bytes : Bytes s) (id : ℕ) where
  -- of a batch that is read, by the place that was found
  placed_end : (cs : List ContribOf) (c : ℕ) → read_batch z s ≡ value cs c → (p : Place) → place_from 8 cs id ≡ p
      → ((start_at s p ≡ length s) ↔ SaysNo (done (has_id cs id))) × (SaysNo (done (has_id cs id)) → user_in cs id ≡ [])
  unfolding batch_bytes
  placed_end cs c r (at_place start n) p =
      let e = (batch_one_encoding z nodes-fit rows_fit user-fits s cs c bytes r).0 in
      let l : length s ≡ 8 + length (concat_map contrib_bytes cs) = ap length e ∙ simp (length-append, length_bytes_of) in
      let b = place_before 8 cs id start n p in
      let h = (place_shows s id start n 8 cs p).has in
      ((λ q. absurd (let y : ⊥ = omega arith in y), λ no. absurd (subst (λ (x : Bool). SaysNo (done x)) h no)), λ no. absurd (subst (λ (x : Bool). SaysNo (done x)) h no))
  placed_end cs c r no_place p =
      let h = place_none 8 cs id p in
      ((λ q. subst (λ (x : Bool). SaysNo (done x)) (sym h.0) tt, λ no. refl), λ no. h.1)

  pub shows_end : (start_in s (read_batch z s) id ≡ length s) ↔ SaysNo (contributed (read_batch z s) id)
  shows_end = go (read_batch z s) refl
    where
      go : (x : Read (List ContribOf)) → read_batch z s ≡ x → (start_in s x id ≡ length s) ↔ SaysNo (contributed x id)
      go (value cs c) r = (placed_end cs c r (place_from 8 cs id) refl).0
      go (refuse n) r = (λ q. tt, λ no. refl)

  pub shows_empty : SaysNo (contributed (read_batch z s) id) → user_of (read_batch z s) id ≡ []
  shows_empty = go (read_batch z s) refl
    where
      go : (x : Read (List ContribOf)) → read_batch z s ≡ x → SaysNo (contributed x id) → user_of x id ≡ []
      go (value cs c) r = (placed_end cs c r (place_from 8 cs id) refl).1
      go (refuse n) r = λ no. refl
