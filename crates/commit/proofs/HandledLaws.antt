-- A message handled: what its end adds to faults and acks is what is held of the work behind it.
-- Assumes nothing.
use Prim.Native.Nat.{ℕ}
use mathlib.Core.Path.{◌≡◌, refl, sym, ap, ◌∙◌, subst}
use mathlib.Core.List.{List, [], ◌∷◌, ◌++◌, map, map-append}
use lib.ListN.{take, drop}
use Rattle.std.specs.List.{take-map}
use Rattle.std.specs.declared.option.Option.{Option}
use Rattle.bincode.specs.Sizes.{base}
use Rattle.due.specs.declared.DueItem.{DueItem}
use Rattle.due.specs.Due.{ack_item}
use Rattle.fault_log.specs.FaultLog.{faults_of}
use Rattle.key_gen_state.specs.declared.KeyGenState.{KeyGenState}
use Rattle.key_gen_state.specs.KeyGenState.{state_of}
use Rattle.key_gen_message.specs.KeyGenMessage.{SignedKeyGenMsgOf}
use Rattle.message_store.specs.MessageStore.{without}
use Rattle.dynamic_honey_badger.specs.State.{era_of, nodes_in, with_key_gen, with_store}
use Rattle.steps.specs.Steps.{WorkOf, Told, quiet, owed, blamed_proposer, blamed_signer, owe_to, MessageDoneOf, message_done, applied, settled, judged, with_state, committed_message, first_verdict, other_verdicts}
use Rattle.commit.specs.declared.Arisen.{Arisen}
use Rattle.commit.specs.declared.Terms.{Terms}
use Rattle.commit.specs.Arisen.{acks_of, faults_told, acks_told}
use Rattle.commit.specs.Terms.{nodes_by}
use Rattle.commit.specs.Handled.{HeldAt}

-- one ack more that is due
one_owed : (era i : ℕ) (acks : List ℕ) → map (ack_item era) (take base.due (acks ++ (i ∷ []))) ≡ owe_to base (map (ack_item era) acks) (ack_item era i)
one_owed era i acks =
    sym (take-map (ack_item era) base.due (acks ++ (i ∷ []))) ∙ ap (λ (ds : List DueItem). take base.due ds) (map-append (ack_item era) acks (i ∷ []))

-- one message, by what became of it, with the signer and the verdict as code has them
module _ (t : Terms) (w : WorkOf) (state state' : Option KeyGenState) (used used' : ℕ) (r r' : Arisen) (h : HeldAt t w state used r)
    (m : SignedKeyGenMsgOf) (signer proposer : ℕ) (same : signer ≡ m.id) (told : Told) where
  abbrev done : MessageDoneOf
  done = record { key_gen = state_of state'; told = told }

  settles : faults_of r'.faults ≡ faults_told base proposer m.id told (faults_of r.faults) → acks_of r' ≡ acks_told base told (acks_of r)
      → drop used' t.verdicts.now ≡ other_verdicts (drop used t.verdicts.now)
      → HeldAt t (settled base proposer (judged w) m done) state' used' r'
  settles a b v = go told a b
    where
      x : WorkOf
      x = with_state (judged w) (with_store (with_key_gen w.state (state_of state')) (without m w.state.store))

      vs : other_verdicts w.verdicts ≡ drop used' t.verdicts.now
      vs = ap other_verdicts h.messages.by_verdicts ∙ sym v

      go : (k : Told) → faults_of r'.faults ≡ faults_told base proposer m.id k (faults_of r.faults) → acks_of r' ≡ acks_told base k (acks_of r)
          → HeldAt t (applied base proposer m.id k x) state' used' r'
      go quiet a b = record {
        faults = a ∙ h.faults;
        due = ap (map (ack_item t.era)) b ∙ h.due;
        messages = record { by_era = h.messages.by_era; by_map = h.messages.by_map; by_key_gen = refl; by_verdicts = vs };
      }
      go (owed i) a b = record {
        faults = a ∙ h.faults;
        due = ap (map (ack_item t.era)) b ∙ one_owed t.era i (acks_of r) ∙ (λ j. owe_to base (h.due j) (ack_item (sym h.messages.by_era j) i));
        messages = record { by_era = h.messages.by_era; by_map = h.messages.by_map; by_key_gen = refl; by_verdicts = vs };
      }
      go (blamed_proposer k) a b = record {
        faults = a ∙ ap (faults_told base proposer m.id (blamed_proposer k)) h.faults;
        due = ap (map (ack_item t.era)) b ∙ h.due;
        messages = record { by_era = h.messages.by_era; by_map = h.messages.by_map; by_key_gen = refl; by_verdicts = vs };
      }
      go (blamed_signer k) a b = record {
        faults = a ∙ ap (faults_told base proposer m.id (blamed_signer k)) h.faults;
        due = ap (map (ack_item t.era)) b ∙ h.due;
        messages = record { by_era = h.messages.by_era; by_map = h.messages.by_map; by_key_gen = refl; by_verdicts = vs };
      }

  -- where what became of the message is what the definition says
  pub held_on : faults_of r'.faults ≡ faults_told base proposer signer told (faults_of r.faults) → acks_of r' ≡ acks_told base told (acks_of r)
      → done ≡ message_done t.era (nodes_by t) (state_of state) m (first_verdict (drop used t.verdicts.now))
      → drop used' t.verdicts.now ≡ other_verdicts (drop used t.verdicts.now)
      → HeldAt t (committed_message base proposer w m) state' used' r'
  unfolding committed_message
  held_on a b e v =
      let f : done ≡ message_done (era_of w.state) (nodes_in w.state) w.state.key_gen m (first_verdict w.verdicts) =
      e ∙ (λ j. message_done (sym h.messages.by_era j) (sym h.messages.by_map j) (sym h.messages.by_key_gen j) m (first_verdict (sym h.messages.by_verdicts j))) in
      subst (λ (d : MessageDoneOf). HeldAt t (settled base proposer (judged w) m d) state' used' r') f
      (settles (a ∙ ap (λ (s : ℕ). faults_told base proposer s told (faults_of r.faults)) same) b v)
