-- Laws of a node's state: the candidate map, a fresh key generation, and what a plan's change asks of a node that joins.
-- Assumes nothing.
use mathlib.Core.Bool.{Bool, true, false}
use mathlib.Core.List.{List, []}
use mathlib.Core.Path.{◌≡◌, refl, sym, ap, ◌∙◌}
use Prim.Native.Nat.{ℕ}
use native.Mathlib.Omega.{arith}
use lib.ListN.{length}
use mir.Val.{bool_byte}
use Rattle.std.specs.Bool.{then_some}
use Rattle.std.specs.Option.{MatchOption, IsSomeAnd, is_some}
use Rattle.std.specs.declared.option.Option.{Option}
use Rattle.std.specs.declared.option.Option.TheVariants.{None, Some}
use Rattle.lists.specs.Lists.{found, option_as_found}
use Rattle.lists.proofs.ListLaws.{false_true}
use Rattle.bincode.specs.Sizes.{Sizes, base}
use Rattle.pub_key_map.specs.declared.PubKeyMap.{PubKeyMap}
use Rattle.pub_key_map.specs.PubKeyMap.{nodes_of}
use Rattle.pub_key_map.specs.declared.Node.{Node}
use Rattle.network_info.specs.NetworkInfo.{is_member, key_of}
use Rattle.filled.specs.Numbers.{part_in}
use Rattle.vote_counter.specs.VoteCounter.{is_key}
use Rattle.change.specs.declared.Change.TheVariants.{NodeChange, EncryptionSchedule as ScheduleChange}
use Rattle.change.specs.declared.ChangeState.{ChangeState}
use Rattle.change.specs.declared.ChangeState.TheVariants as progress
use Rattle.change.specs.declared.ChangeState.TheVariants.{InProgress, Complete}
use Rattle.change.specs.Change.{state_of as progress_of}
use Rattle.key_gen.specs.declared.KeyGen.{KeyGen}
use Rattle.key_gen.specs.KeyGen.{KeyGenOf, key_gen_of, fresh_held}
use Rattle.key_gen.proofs.KeyGenLaws.{fresh}
use Rattle.key_gen_state.specs.declared.KeyGenState.{KeyGenState}
use Rattle.key_gen_state.specs.KeyGenState as running
use Rattle.dynamic_honey_badger.specs.State.{StateOf, state_of, with_key_gen, key_gen_for, part_due, in_progress_map, map_in_progress, candidate_nodes, is_candidate_key, Joined, joined_by}
use Rattle.dynamic_honey_badger.specs.declared.DynamicHoneyBadger.{DynamicHoneyBadger}

-- the candidate map is that of a running key generation
module _ (Q : KeyGenState → PubKeyMap → Type 0) where
  pub candidate_by : (g : Option KeyGenState) (m : Option PubKeyMap) → MatchOption g (m ≡ None) (λ x. IsSomeAnd m (Q x))
      → ((x : KeyGenState) (y : PubKeyMap) → Q x y → y ≡ x.key_gen.pub_keys) → option_as_found nodes_of m ≡ candidate_nodes (running.state_of g)
  candidate_by None m e told = ap (option_as_found nodes_of) e
  candidate_by (Some x) (Some y) q told = ap (λ (k : PubKeyMap). found (nodes_of k)) (told x y q)
  candidate_by (Some x) None q told = absurd q

-- a signature is under a candidate key where the candidate map has that key
module _ (id sig : ℕ) (b : Bool) (Q : PubKeyMap → Type 0) where
  pub candidate_signs : (m : Option PubKeyMap) → MatchOption m (b ≡ false) Q → ((x : PubKeyMap) → Q x → b ≡ is_key sig (key_of (nodes_of x) id))
      → b ≡ is_candidate_key (option_as_found nodes_of m) id sig
  candidate_signs None e told = e
  candidate_signs (Some x) q told = told x q

same_some : {A : Type 0} {a b : A} → ◌≡◌ {A = Option A} (Some a) (Some b) → a ≡ b
same_some e = cc

none_some : {A : Type 0} {a : A} → ◌≡◌ {A = Option A} None (Some a) → ⊥
none_some e = let z : ◌≡◌ {A = ℕ} 0 1 = cc in omega arith

-- a fresh key generation in the place of what was there
pub key_gen_begun : (s : DynamicHoneyBadger) (m : PubKeyMap) (k : KeyGen) (g : KeyGenState)
    → k ≡ fresh_held s.vote_counter.our_id m → running.running_of g ≡ running.fresh_state base (key_gen_of k)
    → with_key_gen (state_of s) (found (running.running_of g)) ≡ key_gen_for base (nodes_of m) (state_of s)
unfolding key_gen_for
key_gen_begun s m k g e f =
    ap {B = StateOf} (λ (x : running.KeyGenStateOf). with_key_gen (state_of s) (found x)) (f ∙ ap {B = running.KeyGenStateOf} (λ (y : KeyGenOf). running.fresh_state base y) (ap key_gen_of e ∙ fresh s.vote_counter.our_id m))

-- what a plan's change asks: a fresh key generation where a map is in progress, else nothing
module _ (z : Sizes) (id era : ℕ) (s : StateOf) where
  pub join_map : (x : ChangeState) (m : PubKeyMap) → map_in_progress x ≡ Some m
      → joined_by z id era (progress_of x) s ≡ record { state = key_gen_for z (nodes_of m) s; due = part_due (nodes_of m) id era }
  join_map (InProgress (NodeChange n)) m e = ap {B = Joined} (λ (y : PubKeyMap). record { state = key_gen_for z (nodes_of y) s; due = part_due (nodes_of y) id era }) (same_some e)
  join_map (InProgress (ScheduleChange y)) m e = absurd (none_some e)
  join_map progress.None m e = absurd (none_some e)
  join_map (Complete c) m e = absurd (none_some e)

  pub join_other : (x : ChangeState) → in_progress_map (progress_of x) ≡ false → joined_by z id era (progress_of x) s ≡ record { state = s; due = [] }
  join_other progress.None e = refl
  join_other (Complete c) e = refl
  join_other (InProgress (ScheduleChange y)) e = refl
  join_other (InProgress (NodeChange m)) e = absurd (false_true (sym e))

-- no map is in progress where none is told
pub no_map : (x : ChangeState) → map_in_progress x ≡ None → in_progress_map (progress_of x) ≡ false
no_map progress.None e = refl
no_map (Complete c) e = refl
no_map (InProgress (ScheduleChange y)) e = refl
no_map (InProgress (NodeChange m)) e = absurd (none_some (sym e))

-- the part that is told is the part that is due
pub part_told : (ns : List Node) (id era : ℕ) (b : Bool) → b ≡ is_member ns id → part_in (then_some b era) ≡ part_due ns id era
part_told ns id era true e = rw (sym e)
part_told ns id era false e = rw (sym e)

-- and how many there are
pub part_counted : (p : Option ℕ) (b : Bool) (n : ℕ) → b ≡ is_some p → n ≡ bool_byte b → n ≡ length (part_in p)
part_counted (Some era) b n e f = f ∙ ap bool_byte e
part_counted None b n e f = f ∙ ap bool_byte e
