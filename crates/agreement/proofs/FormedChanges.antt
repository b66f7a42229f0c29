-- A formed state stays formed where one part of it is put in place of another, and where an era begins.
-- Assumes nothing.
use Prim.Native.Nat.{ℕ, ◌^◌, ◌≤◌, ◌<◌}
use mathlib.Core.Path.{◌≡◌, sym, subst}
use mathlib.Core.List.{List, []}
use mathlib.Core.Bool.{false}
use native.Mathlib.Omega.{arith}
use lib.ListN.{length}
use borrow.Author.Tests.{lt-leb}
use Rattle.lists.specs.Lists.{Found}
use Rattle.bincode.specs.Sizes.{Sizes}
use Rattle.bincode.specs.Stands.{All}
use Rattle.pub_key_map.specs.declared.Node.{Node}
use Rattle.params.specs.declared.Params.{Params}
use Rattle.params.specs.Params.{ParamsOk}
use Rattle.votes.specs.Votes.{SignedVoteOf}
use Rattle.vote_counter.specs.VoteCounter.{with_pending, with_committed}
use Rattle.vote_counter.proofs.BoardKept.{worked_none}
use Rattle.board.specs.declared.BoardRow.{BoardRow}
use Rattle.board.specs.Board.{worked_out}
use Rattle.key_gen_state.specs.KeyGenState.{KeyGenStateOf}
use Rattle.key_gen_message.specs.KeyGenMessage.{SignedKeyGenMsgOf, SignedOk}
use Rattle.message_store.specs.MessageStore.{is_recent, from_era}
use Rattle.dynamic_honey_badger.specs.State.{StateOf, Stamp, era_of, nodes_in, with_counter, with_key_gen, with_store, with_params, with_last, new_era}
use Rattle.agreement.specs.Formed.{MapFormed, VotesFormed, RunningFormed, StampFits, Formed}
use Rattle.agreement.proofs.AllLaws.{all_then, filter_none}
use Rattle.agreement.proofs.FormedParts.{no_votes}

-- one part of a state put in place of another
module _ (z : Sizes) (s : StateOf) (f : Formed z s) where
  pub with_pending_lem : (vs : List SignedVoteOf) → VotesFormed z (nodes_in s) vs → Formed z (with_counter s (with_pending s.counter vs))
  with_pending_lem vs v =
      record {
        our_id_fits = f.our_id_fits;
        our_key_fits = f.our_key_fits;
        era_fits = f.era_fits;
        nodes_formed = f.nodes_formed;
        params_ok = f.params_ok;
        pending_formed = v;
        committed_formed = f.committed_formed;
        board_worked = f.board_worked;
        key_gen_formed = f.key_gen_formed;
        store_era = f.store_era;
        store_ok = f.store_ok;
        store_within = f.store_within;
        last_fits = f.last_fits;
      }

  pub with_committed_lem : (vs : List SignedVoteOf) (rs : List BoardRow) → VotesFormed z (nodes_in s) vs → rs ≡ worked_out vs → Formed z (with_counter s (with_committed s.counter vs rs))
  with_committed_lem vs rs v b =
      record {
        our_id_fits = f.our_id_fits;
        our_key_fits = f.our_key_fits;
        era_fits = f.era_fits;
        nodes_formed = f.nodes_formed;
        params_ok = f.params_ok;
        pending_formed = f.pending_formed;
        committed_formed = v;
        board_worked = b;
        key_gen_formed = f.key_gen_formed;
        store_era = f.store_era;
        store_ok = f.store_ok;
        store_within = f.store_within;
        last_fits = f.last_fits;
      }

  pub with_key_gen_lem : (g : Found KeyGenStateOf) → RunningFormed z s.counter.our_id g → Formed z (with_key_gen s g)
  with_key_gen_lem g k =
      record {
        our_id_fits = f.our_id_fits;
        our_key_fits = f.our_key_fits;
        era_fits = f.era_fits;
        nodes_formed = f.nodes_formed;
        params_ok = f.params_ok;
        pending_formed = f.pending_formed;
        committed_formed = f.committed_formed;
        board_worked = f.board_worked;
        key_gen_formed = k;
        store_era = f.store_era;
        store_ok = f.store_ok;
        store_within = f.store_within;
        last_fits = f.last_fits;
      }

  pub with_params_lem : (p : Params) → ParamsOk p → Formed z (with_params s p)
  with_params_lem p o =
      record {
        our_id_fits = f.our_id_fits;
        our_key_fits = f.our_key_fits;
        era_fits = f.era_fits;
        nodes_formed = f.nodes_formed;
        params_ok = o;
        pending_formed = f.pending_formed;
        committed_formed = f.committed_formed;
        board_worked = f.board_worked;
        key_gen_formed = f.key_gen_formed;
        store_era = f.store_era;
        store_ok = f.store_ok;
        store_within = f.store_within;
        last_fits = f.last_fits;
      }

  pub with_store_lem : (ms : List SignedKeyGenMsgOf) → All (λ (m : SignedKeyGenMsgOf). m.era ≡ era_of s) ms → All (SignedOk z) ms → length ms ≤ z.store → Formed z (with_store s ms)
  with_store_lem ms a o h =
      record {
        our_id_fits = f.our_id_fits;
        our_key_fits = f.our_key_fits;
        era_fits = f.era_fits;
        nodes_formed = f.nodes_formed;
        params_ok = f.params_ok;
        pending_formed = f.pending_formed;
        committed_formed = f.committed_formed;
        board_worked = f.board_worked;
        key_gen_formed = f.key_gen_formed;
        store_era = a;
        store_ok = o;
        store_within = h;
        last_fits = f.last_fits;
      }

  -- 02, CR 1: the report that is kept
  pub with_last_lem : (l : Found Stamp) → StampFits l → Formed z (with_last s l)
  with_last_lem l h =
      record {
        our_id_fits = f.our_id_fits;
        our_key_fits = f.our_key_fits;
        era_fits = f.era_fits;
        nodes_formed = f.nodes_formed;
        params_ok = f.params_ok;
        pending_formed = f.pending_formed;
        committed_formed = f.committed_formed;
        board_worked = f.board_worked;
        key_gen_formed = f.key_gen_formed;
        store_era = f.store_era;
        store_ok = f.store_ok;
        store_within = f.store_within;
        last_fits = h;
      }

  -- nothing stored is of a later era
  none_later : (era : ℕ) → era_of s < era → from_era era s.store ≡ []
  unfolding from_era
  none_later era later =
      filter_none (is_recent era) s.store
      (all_then (λ (m : SignedKeyGenMsgOf). m.era ≡ era_of s) (λ (m : SignedKeyGenMsgOf). is_recent era m ≡ false) (λ m q. lt-leb era m.era (omega arith)) s.store f.store_era)

  -- a later era: no votes, nothing stored
  pub new_era_formed : (era : ℕ) (ns : List Node) → era < 256 ^ 8 → era_of s < era → MapFormed z ns → Formed z (new_era era ns s)
  unfolding new_era
  new_era_formed era ns fits later m =
      let e : from_era era s.store ≡ [] = none_later era later in
      record {
        our_id_fits = f.our_id_fits;
        our_key_fits = f.our_key_fits;
        era_fits = fits;
        nodes_formed = m;
        params_ok = f.params_ok;
        pending_formed = no_votes z ns;
        committed_formed = no_votes z ns;
        board_worked = sym worked_none;
        key_gen_formed = f.key_gen_formed;
        store_era = subst (All (λ (x : SignedKeyGenMsgOf). x.era ≡ era)) (sym e) tt;
        store_ok = subst (All (SignedOk z)) (sym e) tt;
        store_within = subst (λ (ms : List SignedKeyGenMsgOf). length ms ≤ z.store) (sym e) (omega arith);
        last_fits = f.last_fits;
      }
