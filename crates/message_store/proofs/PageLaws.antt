-- Single sentences of the scope document, said of the message store.
-- Assumes nothing.
use Prim.Native.Nat.{ℕ, ◌≤◌, ◌<◌}
use mathlib.Core.Path.{◌≡◌, refl, ap}
use mathlib.Core.List.{List, [], ◌∷◌, ◌++◌}
use mathlib.Core.Bool.{Bool, true, false, not}
use native.Mathlib.Omega.{arith}
use lib.ListN.{length, length-append}
use borrow.Author.Tests.{le-leb, lt-leb}
use Rattle.lists.specs.Lists.{found, at_place, filter}
use Rattle.lists.proofs.FilterLaws.{filter_append, filter_length}
use Rattle.lists.proofs.PlaceLaws.{at_between}
use Rattle.bincode.specs.Sizes.{Sizes}
use Rattle.bincode.specs.Outcome.{done}
use Rattle.key_gen_message.specs.KeyGenMessage.{SignedKeyGenMsgOf, same_signed}
use Rattle.key_gen_message.proofs.MessageLaws.{signed_true, signed_refl}
use Rattle.message_store.specs.MessageStore.{is_other, is_recent, pushed, without, from_era}
use Rattle.message_store.proofs.StoreLaws.{push_room}

-- 01, step 4: "Stored own-side messages equal to a committed one go": each that equals it in era, id, message and signature goes, and no other does
module _ (m : SignedKeyGenMsgOf) where
  pub none_without : without m [] ≡ []
  unfolding without filter
  none_without = refl

  module _ (x : SignedKeyGenMsgOf) (ms : List SignedKeyGenMsgOf) where
    pub equal_goes : x ≡ m → without m (x ∷ ms) ≡ without m ms
    unfolding without filter
    equal_goes e = rw (e, signed_refl m)

    differs : (x ≡ m → ⊥) → (b : Bool) → same_signed x m ≡ b → same_signed x m ≡ false
    differs h true e = absurd (h (signed_true x m e))
    differs h false e = e

    pub other_stays : (x ≡ m → ⊥) → without m (x ∷ ms) ≡ x ∷ without m ms
    unfolding without filter
    other_stays h = rw (differs h (same_signed x m) refl)

-- 01: a new era "drops stored messages of lower eras", and keeps those of its own and of later ones
module _ (era : ℕ) where
  pub none_from : from_era era [] ≡ []
  unfolding from_era filter
  none_from = refl

  module _ (x : SignedKeyGenMsgOf) (ms : List SignedKeyGenMsgOf) where
    pub lower_goes : x.era < era → from_era era (x ∷ ms) ≡ from_era era ms
    unfolding from_era filter
    lower_goes h = rw (lt-leb era x.era h)

    pub later_stays : era ≤ x.era → from_era era (x ∷ ms) ≡ x ∷ from_era era ms
    unfolding from_era filter
    later_stays h = rw (le-leb era x.era h)

-- 01: stored messages are handed out "by place, 0 first, in order of arrival": with as many before it as its place says
pub by_place : (before behind : List SignedKeyGenMsgOf) (m : SignedKeyGenMsgOf) → at_place (length before) (before ++ (m ∷ behind)) ≡ found m
by_place = at_between

-- 01: "room freed by commitment or a new era used again": where the store was full of messages one of which goes, the next that comes has a place
module _ (z : Sizes) (before behind : List SignedKeyGenMsgOf) (m new : SignedKeyGenMsgOf) (held : length (before ++ (m ∷ behind)) ≤ z.store) where
  -- one that a test does not keep leaves fewer
  fewer : (p : SignedKeyGenMsgOf → Bool) → p m ≡ false → length (filter p (before ++ (m ∷ behind))) < z.store
  unfolding filter
  fewer p e =
      let a = filter_append p before (m ∷ behind) in
      let l = filter_length p before in
      let r = filter_length p behind in
      rw (a, e) (simp length-append (omega (arith, length-append before (m ∷ behind))))

  pub committed_frees : pushed z (without m (before ++ (m ∷ behind))) new ≡ done (without m (before ++ (m ∷ behind)) ++ (new ∷ []))
  unfolding without
  committed_frees = push_room z (without m (before ++ (m ∷ behind))) new (fewer (is_other m) (ap not (signed_refl m)))

  pub era_frees : (era : ℕ) → m.era < era → pushed z (from_era era (before ++ (m ∷ behind))) new ≡ done (from_era era (before ++ (m ∷ behind)) ++ (new ∷ []))
  unfolding from_era
  era_frees era h = push_room z (from_era era (before ++ (m ∷ behind))) new (fewer (is_recent era) (lt-leb era m.era h))
