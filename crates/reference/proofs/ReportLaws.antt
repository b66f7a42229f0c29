-- "What two boxes share": the start, reading, refusals; and the report of every batch that is reported.
-- Assumes nothing.
use Prim.Native.Nat.{ℕ, ◌+◌}
use mathlib.Core.Path.{◌≡◌, refl, ap, subst}
use mathlib.Core.List.{List}
use mathlib.Core.Bool.{Bool, true, false, cond}
use mathlib.Core.Logic.{◌⊎◌, inl, inr}
use native.Mathlib.Omega.{arith}
use Rattle.lists.specs.Lists.{nothing, lookup}
use Rattle.bincode.specs.Read.{Read, value, refuse}
use Rattle.bincode.specs.Outcome.{Outcome, done, refused}
use Rattle.bincode.specs.Sizes.{Sizes}
use Rattle.pub_key_map.specs.declared.Node.{Node}
use Rattle.params.specs.declared.Params.{Params}
use Rattle.votes.specs.Votes.{SignedVoteOf}
use Rattle.internal_contrib.specs.InternalContrib.{ContribOf, read_batch}
use Rattle.reference.specs.Reference.{RefState, open_ref}
use Rattle.reference.specs.Step.{ref_contribs, RefReport, RefAnswer, denied_ref, ref_row5, ref_row7, ref_steps, ref_batch, ref_read, SharedBatch, ref_step}

-- "It opens with no votes and no candidate map", at the start's era, map and parameters
module _ (era : ℕ) (ns : List Node) (p : Params) where
  pub opens_without_votes : (voter : ℕ) → lookup (λ (v : SignedVoteOf). v.voter) (open_ref era ns p).votes voter ≡ nothing
  unfolding lookup
  opens_without_votes voter = refl

  pub opens_without_candidate : (open_ref era ns p).candidate ≡ nothing
  opens_without_candidate = refl

  pub opens_at_start : ((open_ref era ns p).era ≡ era) × ((open_ref era ns p).nodes ≡ ns) × ((open_ref era ns p).params ≡ p)
  opens_at_start = (refl, refl, refl)

-- a batch that reading refuses is refused with that number; one that is read is taken with its inner epoch
module _ (z : Sizes) (s : RefState) (b : SharedBatch) where
  pub reading_refuses : (n : ℕ) → read_batch z b.bytes ≡ refuse n → ref_step z s b ≡ record { state = s; answer = refused n }
  unfolding ref_step
  reading_refuses n e = rw e

  pub reading_hands_on : (cs : List ContribOf) (at : ℕ) → read_batch z b.bytes ≡ value cs at → ref_step z s b ≡ ref_batch z s b.inner cs
  unfolding ref_step
  reading_hands_on cs at e = rw e

module _ (z : Sizes) (s : RefState) (inner : ℕ) (cs : List ContribOf) where
  -- refused by 5 or 7 and unchanged, or the steps, where row 5 does not hold: said once for every law of a batch that was read
  pub tests : (P : RefAnswer → Type 0) → ((n : ℕ) → (n ≡ 5) ⊎ (n ≡ 7) → P (record { state = s; answer = refused n }))
      → (ref_row5 (s.era + inner) ≡ false → P (ref_steps z s (s.era + inner) cs)) → P (ref_batch z s inner cs)
  unfolding ref_batch
  tests P denied taken = go (ref_row5 (s.era + inner)) refl (ref_row7 z s cs)
    where
      go : (a : Bool) → ref_row5 (s.era + inner) ≡ a → (b : Bool) → P (cond a (denied_ref s 5) (cond b (denied_ref s 7) (ref_steps z s (s.era + inner) cs)))
      go true e b = denied 5 (inl refl)
      go false e true = denied 7 (inr refl)
      go false e false = taken e

  pub batch_refused : (n : ℕ) → (ref_batch z s inner cs).answer ≡ refused n → (ref_batch z s inner cs).state ≡ s
  unfolding ref_steps
  batch_refused n = tests (λ a. a.answer ≡ refused n → a.state ≡ s) (λ k i e. refl) (λ h e. absurd (let q : ◌≡◌ {A = ℕ} 0 1 = cc in let w : ⊥ = omega arith in w))

  -- 02, CR 2: "one such message refuses the whole batch", no more: whatever its messages are, a batch that was read is refused by 5 or by 7
  pub refused_by_5_or_7 : (n : ℕ) → (ref_batch z s inner cs).answer ≡ refused n → (n ≡ 5) ⊎ (n ≡ 7)
  unfolding ref_steps
  refused_by_5_or_7 n =
      tests (λ a. a.answer ≡ refused n → (n ≡ 5) ⊎ (n ≡ 7))
      (λ k i e. subst (λ (x : ℕ). (x ≡ 5) ⊎ (x ≡ 7)) (let q : k ≡ n = cc in q) i)
      (λ h e. absurd (let q : ◌≡◌ {A = ℕ} 0 1 = cc in let w : ⊥ = omega arith in w))

  -- "The report is epoch, era of the batch, change, map and parameters": epoch = era + inner epoch (step 1), the era that it met, the map and the parameters that it left;
  -- beside it the faults in order of arising
  pub report_says : (r : RefReport) → (ref_batch z s inner cs).answer ≡ done r
      → (r.batch.epoch ≡ s.era + inner) × (r.batch.era ≡ s.era) × (r.batch.keys ≡ (ref_batch z s inner cs).state.nodes)
      × (r.batch.params ≡ (ref_batch z s inner cs).state.params) × (r.faults ≡ (ref_contribs z s cs).faults)
  unfolding ref_steps
  report_says r =
      tests
      (λ a. a.answer ≡ done r
      → (r.batch.epoch ≡ s.era + inner) × (r.batch.era ≡ s.era) × (r.batch.keys ≡ a.state.nodes) × (r.batch.params ≡ a.state.params) × (r.faults ≡ (ref_contribs z s cs).faults))
      (λ k i e. absurd (let q : ◌≡◌ {A = ℕ} 0 1 = cc in let w : ⊥ = omega arith in w))
      (λ h. says _)
    where
      says : (x : RefReport) → ◌≡◌ {A = Outcome RefReport} (done x) (done r)
          → (r.batch.epoch ≡ x.batch.epoch) × (r.batch.era ≡ x.batch.era) × (r.batch.keys ≡ x.batch.keys) × (r.batch.params ≡ x.batch.params) × (r.faults ≡ x.faults)
      says x e =
          let q : r ≡ x = cc in (
            ap (λ (y : RefReport). y.batch.epoch) q,
            ap (λ (y : RefReport). y.batch.era) q,
            ap (λ (y : RefReport). y.batch.keys) q,
            ap (λ (y : RefReport). y.batch.params) q,
            ap (λ (y : RefReport). y.faults) q,
          )

-- "a refusal leaves it as it was"
pub refusal_leaves : (z : Sizes) (s : RefState) (b : SharedBatch) (n : ℕ) → (ref_step z s b).answer ≡ refused n → (ref_step z s b).state ≡ s
unfolding ref_step
refusal_leaves z s b n = go (read_batch z b.bytes)
  where
    go : (r : Read (List ContribOf)) → (ref_read z s b.inner r).answer ≡ refused n → (ref_read z s b.inner r).state ≡ s
    go (value cs at) = batch_refused z s b.inner cs n
    go (refuse k) = λ e. refl

-- a shared batch is refused by the number that reading it gives, by 5 or by 7
pub refused_by_reading_5_or_7 : (z : Sizes) (s : RefState) (b : SharedBatch) (n : ℕ) → (ref_step z s b).answer ≡ refused n
    → (read_batch z b.bytes ≡ refuse n) ⊎ ((n ≡ 5) ⊎ (n ≡ 7))
unfolding ref_step
refused_by_reading_5_or_7 z s b n = go (read_batch z b.bytes)
  where
    go : (r : Read (List ContribOf)) → (ref_read z s b.inner r).answer ≡ refused n → (r ≡ refuse n) ⊎ ((n ≡ 5) ⊎ (n ≡ 7))
    go (value cs at) e = inr (refused_by_5_or_7 z s b.inner cs n e)
    go (refuse k) e = inl (ap refuse (let q : k ≡ n = cc in q))
