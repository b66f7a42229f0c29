-- Terms in which the laws of the step are said, as propositions over plain lists. The step itself uses none of them.
use Rattle.std.specs.Prelude.{ℕ, suc, ◌*◌, ◌≤◌, ◌<◌, ◌≡◌, List, [], ◌∷◌, false, ◌⊎◌, length}
use Rattle.lists.specs.Lists.{found}
use Rattle.util.specs.MaxFaulty.{max_faulty}
use Rattle.network_info.specs.NetworkInfo.{is_member, key_of}
use Rattle.key_gen_message.specs.KeyGenMessage.{SignedKeyGenMsgOf}
use Rattle.reference.specs.Reference.{PartRef, CandidateRef, RefState}

-- so many elements of a list are as a property says
pub data Counted {A : Type 0} (P : A → Type 0) : List A → ℕ → Type 0 where
  none : Counted P [] 0
  one : {xs : List A} {n : ℕ} (x : A) → P x → Counted P xs n → Counted P (x ∷ xs) (suc n)
  other : {xs : List A} {n : ℕ} (x : A) → (P x → ⊥) → Counted P xs n → Counted P (x ∷ xs) n

-- step 6: with n nodes in the new map and t = max_faulty(n), a part is complete when acks > 2t
abbrev pub Complete : CandidateRef → PartRef → Type 0
Complete g q = 2 * max_faulty (length g.nodes) < length q.acks

-- ready means complete > t and 3 x complete > 2n
pub record Ready (g : CandidateRef) : Type 0 where
  pub complete : ℕ
  pub counted : Counted (Complete g) g.parts complete
  pub over_t : max_faulty (length g.nodes) < complete
  pub over_n : 2 * length g.nodes < 3 * complete

pub record Unready (g : CandidateRef) : Type 0 where
  pub complete : ℕ
  pub counted : Counted (Complete g) g.parts complete
  pub short : (complete ≤ max_faulty (length g.nodes)) ⊎ (3 * complete ≤ 2 * length g.nodes)

-- a leaving station's key message (02, CR 2; the old row 6): of right era and signature (current or candidate key), key generation running, its signer not in the
-- candidate map
pub record Leaving (s : RefState) (m : SignedKeyGenMsgOf) : Type 0 where
  pub candidate : CandidateRef
  pub running : s.candidate ≡ found candidate
  pub right_era : m.era ≡ s.era
  pub signed : (key_of s.nodes m.id ≡ found m.sig) ⊎ (key_of candidate.nodes m.id ≡ found m.sig)
  pub outside : is_member candidate.nodes m.id ≡ false
