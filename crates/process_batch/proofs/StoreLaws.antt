-- The store behind a batch: what the code keeps of it is what the steps leave.
-- Assumes nothing.
use Prim.Native.Nat.{ℕ}
use mathlib.Core.Path.{◌≡◌, refl, sym, ap, ◌∙◌}
use mathlib.Core.List.{List, [], ◌∷◌}
use native.Mathlib.Omega.{arith}
use lib.ListN.{length}
use mathlib.Core.Bool.{Bool, true, false, cond}
use Rattle.std.specs.declared.option.Option.{Option}
use Rattle.std.specs.declared.option.Option.TheVariants.{Some, None}
use Rattle.lists.specs.Lists.{filter}
use Rattle.bincode.specs.Sizes.{base}
use Rattle.bincode.specs.Stands.{Bytes}
use Rattle.key_gen_message.specs.KeyGenMessage.{SignedKeyGenMsgOf}
use Rattle.message_store.specs.MessageStore.{from_era}
use Rattle.internal_contrib.specs.declared.BatchIndex.{BatchIndex}
use Rattle.internal_contrib.specs.declared.Contrib.{Contrib}
use Rattle.internal_contrib.specs.Index.{contribs_in}
use Rattle.dynamic_honey_badger.specs.State.{StateOf}
use Rattle.steps.specs.Steps.{begun, committed}
use Rattle.steps.proofs.KeepLaws.{batch_store}
use Rattle.store_filter.specs.Filter.{Entry, entries_in, without_entries}
use Rattle.store_filter.proofs.BatchLaws.{batch_filtered}
use Rattle.process_output.specs.Process.{BatchCall}
use Rattle.process_output.proofs.OpeningLaws.{Begun}
use Rattle.process_batch.specs.Answer.{kept_by}

-- none is held where none is counted
none_held : {A : Type 0} (xs : List A) → length xs ≡ 0 → xs ≡ []
none_held [] e = refl
none_held (x ∷ xs) e = absurd (let z : ⊥ = omega arith in z)

-- of an empty store nothing is left
empty_without : (es : List Entry) (st : List SignedKeyGenMsgOf) → st ≡ [] → without_entries es st ≡ []
unfolding without_entries filter
empty_without es st e = ap (without_entries es) e

empty_from : (era : ℕ) (st : List SignedKeyGenMsgOf) → st ≡ [] → from_era era st ≡ []
unfolding from_era filter
empty_from era st e = ap (from_era era) e

-- nor where an era begins
empty_kept : (s : List ℕ) (ks : List Contrib) (begun : Option ℕ) (st : List SignedKeyGenMsgOf) → st ≡ [] → kept_by s ks begun st ≡ []
empty_kept s ks (Some era) st e = empty_from era (without_entries (entries_in s ks) st) (empty_without (entries_in s ks) st e)
empty_kept s ks None st e = empty_without (entries_in s ks) st e

-- a batch that all rows but 7 let pass
module _ (st : StateOf) (b : BatchCall) (epoch : ℕ) (index : BatchIndex) (h : Begun st b epoch index) (bytes : Bytes b.bytes) where
  store_left : without_entries (entries_in b.bytes (contribs_in index)) st.store ≡ (committed base st b.verdicts h.cs).state.store
  unfolding committed
  store_left = batch_filtered b.bytes bytes index h.cs h.next h.read h.placed st.store ∙ sym (batch_store base h.cs (begun st b.verdicts))

  -- the store that code keeps is the one that the steps leave, without lower eras where an era began
  pub store_kept : (restarted : Bool) (era : ℕ)
      → kept_by b.bytes (contribs_in index) (cond restarted (Some era) None) st.store
      ≡ cond restarted (from_era era (committed base st b.verdicts h.cs).state.store) (committed base st b.verdicts h.cs).state.store
  store_kept true era = ap (from_era era) store_left
  store_kept false era = store_left

  -- an empty store stays
  pub store_none : length st.store ≡ 0 → (restarted : Bool) (era : ℕ)
      → st.store ≡ cond restarted (from_era era (committed base st b.verdicts h.cs).state.store) (committed base st b.verdicts h.cs).state.store
  store_none n restarted era =
      let e = none_held st.store n in
      e ∙ sym (empty_kept b.bytes (contribs_in index) (cond restarted (Some era) None) st.store e) ∙ store_kept restarted era
