-- Laws of key-generation messages: what a struct holds, a tag in front of a part or an ack, and equality.
-- Assumes nothing.
use Prim.Native.Nat.{ℕ}
use mathlib.Core.Path.{◌≡◌, refl, ap, ◌∙◌}
use mathlib.Core.List.{List, [], ◌∷◌, append-nil}
use mathlib.Core.Bool.{Bool, true, false, ◌&&◌}
use lib.Dec.{eqb}
use borrow.Author.Tests.{eq-eqb, eqb-true}
use Rattle.bincode.specs.Sizes.{base}
use Rattle.bincode.specs.Numbers.{bytes_of}
use Rattle.bincode.specs.Stands.{concat}
use Rattle.lists.proofs.ListLaws.{false_true, and_both, take_padded}
use Rattle.sync_key_gen.specs.SyncKeyGen.{PartOf, AckOf, part_bytes, ack_bytes, same_handles}
use Rattle.sync_key_gen.proofs.KeyGenLaws.{handles_true, handles_refl, handles_eq}
use Rattle.key_gen_message.specs.declared.KeyGenMessage.{KeyGenMessage}
use Rattle.key_gen_message.specs.declared.KeyGenMessage.TheVariants.{Part, Ack}
use Rattle.key_gen_message.specs.declared.SignedKeyGenMsg.{SignedKeyGenMsg}
use Rattle.key_gen_message.specs.contracts.KeyGenMessagePartialEq.TheImpl as message
use Rattle.key_gen_message.specs.contracts.SignedKeyGenMsgPartialEq.TheImpl as signed
use Rattle.key_gen_message.specs.KeyGenMessage.{KeyGenMessageOf, part, ack, message_of, message_held, SignedKeyGenMsgOf, signed_of, signed_held, same_headed, same_message, same_signed, tagged_bytes}

-- a struct that holds what was read stands for it
pub held_message : (m : KeyGenMessageOf) → message_of (message_held m) ≡ m
held_message (part p) = ap {B = KeyGenMessageOf} (λ (xs : List ℕ). part (record { commit = p.commit; rows = xs })) (take_padded base.rows 0 p.rows)
held_message (ack a) = ap {B = KeyGenMessageOf} (λ (xs : List ℕ). ack (record { proposer = a.proposer; values = xs })) (take_padded base.rows 0 a.values)

pub held_signed : (m : SignedKeyGenMsgOf) → signed_of (signed_held m) ≡ m
held_signed m = ap (λ (y : KeyGenMessageOf). record { era = m.era; id = m.id; message = y; sig = m.sig }) (held_message m.message)

-- a part, or an ack, behind its tag
pub tagged_part : (tag : ℕ) (p : PartOf) → concat (bytes_of 4 tag ∷ part_bytes p ∷ []) ≡ tagged_bytes tag p.commit p.rows
unfolding tagged_bytes part_bytes
tagged_part tag p = simp append-nil

pub tagged_ack : (tag : ℕ) (a : AckOf) → concat (bytes_of 4 tag ∷ ack_bytes a ∷ []) ≡ tagged_bytes tag a.proposer a.values
unfolding tagged_bytes ack_bytes
tagged_ack tag a = simp append-nil

-- equality is equality
headed_true : (x : ℕ) (xs : List ℕ) (y : ℕ) (ys : List ℕ) → same_headed x xs y ys ≡ true → (x ≡ y) × (xs ≡ ys)
unfolding same_headed
headed_true x xs y ys e = let u = and_both (eqb x y) (same_handles xs ys) e in (eqb-true x y u.0, handles_true xs ys u.1)

headed_refl : (x : ℕ) (xs : List ℕ) → same_headed x xs x xs ≡ true
unfolding same_headed
headed_refl x xs = rw (eq-eqb x x refl) (handles_refl xs)

pub message_true : (a b : KeyGenMessageOf) → same_message a b ≡ true → a ≡ b
unfolding same_message
message_true (part p) (part q) e =
    let u = headed_true p.commit p.rows q.commit q.rows e in
    λ i. part (record { commit = u.0 i; rows = u.1 i })
message_true (part p) (ack b) e = absurd (false_true e)
message_true (ack a) (part q) e = absurd (false_true e)
message_true (ack a) (ack b) e =
    let u = headed_true a.proposer a.values b.proposer b.values e in
    λ i. ack (record { proposer = u.0 i; values = u.1 i })

pub message_refl : (a : KeyGenMessageOf) → same_message a a ≡ true
unfolding same_message
message_refl (part p) = headed_refl p.commit p.rows
message_refl (ack a) = headed_refl a.proposer a.values

pub signed_true : (a b : SignedKeyGenMsgOf) → same_signed a b ≡ true → a ≡ b
unfolding same_signed
signed_true a b e =
    let u = and_both (eqb a.era b.era) _ e in
    let v = and_both (eqb a.id b.id) _ u.1 in
    let w = and_both (eqb a.sig b.sig) _ v.1 in
    let era = eqb-true a.era b.era u.0 in
    let id = eqb-true a.id b.id v.0 in
    let sig = eqb-true a.sig b.sig w.0 in
    let message = message_true a.message b.message w.1 in
    λ i. record { era = era i; id = id i; message = message i; sig = sig i }

pub signed_refl : (a : SignedKeyGenMsgOf) → same_signed a a ≡ true
unfolding same_signed
signed_refl a = rw (eq-eqb a.era a.era refl, eq-eqb a.id a.id refl, eq-eqb a.sig a.sig refl) (message_refl a.message)

-- and `==` is what the definitions call the same
pub message_eq : (a b : KeyGenMessage) → (message.eq-value).it a b ≡ same_message (message_of a) (message_of b)
unfolding same_message same_headed
message_eq (Part p) (Part q) = ap (λ (e : Bool). eqb p.commit q.commit && e) (handles_eq p.rows q.rows)
message_eq (Part p) (Ack b) = refl
message_eq (Ack a) (Part q) = refl
message_eq (Ack a) (Ack b) = ap (λ (e : Bool). eqb a.proposer b.proposer && e) (handles_eq a.values b.values)

and_turned : (a b : Bool) → a && b ≡ b && a
and_turned true true = refl
and_turned true false = refl
and_turned false true = refl
and_turned false false = refl

pub signed_eq : (a b : SignedKeyGenMsg) → (signed.eq-value).it a b ≡ same_signed (signed_of a) (signed_of b)
unfolding same_signed
signed_eq a b =
    ap (λ (e : Bool). eqb a.era b.era && (eqb a.id b.id && e))
    (ap (λ (e : Bool). e && eqb a.sig b.sig) (message_eq a.message b.message)
    ∙ and_turned (same_message (message_of a.message) (message_of b.message)) (eqb a.sig b.sig))
