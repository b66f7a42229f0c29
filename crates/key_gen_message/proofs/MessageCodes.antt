-- Reading and writing key-generation messages, and signed ones, are inverse, for every size.
-- Assumes nothing.
use Prim.Native.Nat.{ℕ, ◌^◌, ◌<◌}
use mathlib.Core.Path.{◌≡◌, refl, sym, ap, ◌∙◌, subst}
use mathlib.Core.List.{List, [], ◌∷◌, ◌++◌, append-nil}
use native.Mathlib.Omega.{arith}
use lib.Dec.{lit<}
use Rattle.bincode.specs.Read.{value, bind}
use Rattle.bincode.specs.Numbers.{bytes_of}
use Rattle.bincode.specs.Sizes.{Sizes}
use Rattle.bincode.specs.Stands.{concat}
use Rattle.bincode.specs.Codes.{Codes}
use Rattle.bincode.proofs.CodeLaws.{four, eight, fixed_codes, field, ended, choose, none, restate, recode}
use Rattle.sync_key_gen.specs.SyncKeyGen.{PartOf, AckOf, no_part, no_ack, read_part, read_ack, part_bytes, ack_bytes}
use Rattle.sync_key_gen.proofs.KeyGenCodes.{part_codes, ack_codes}
use Rattle.key_gen_message.specs.KeyGenMessage.{KeyGenMessageOf, part, ack, read_key_gen_message, tagged_bytes, message_bytes, MessageOk, read_signed_key_gen_msg, signed_bytes, SignedOk}

abbrev tag_of : KeyGenMessageOf → ℕ
tag_of (part p) = 0
tag_of (ack a) = 1

-- the part or the ack of a message, the empty one where it has the other
abbrev part_in : KeyGenMessageOf → PartOf
part_in (part p) = p
part_in (ack a) = no_part

abbrev ack_in : KeyGenMessageOf → AckOf
ack_in (part p) = no_ack
ack_in (ack a) = a

-- a tag leaves one case for what stands behind it
is_part : (m : KeyGenMessageOf) → tag_of m ≡ 0 → m ≡ part (part_in m)
is_part (part p) t = refl
is_part (ack a) t = absurd (let y : ⊥ = omega arith in y)

is_ack : (m : KeyGenMessageOf) → tag_of m ≡ 1 → m ≡ ack (ack_in m)
is_ack (part p) t = absurd (let y : ⊥ = omega arith in y)
is_ack (ack a) t = refl

tag_below : (m : KeyGenMessageOf) → tag_of m < 2
tag_below (part p) = lit< tt
tag_below (ack a) = lit< tt

-- the bytes behind the tag
abbrev behind : KeyGenMessageOf → List ℕ
behind (part p) = concat (part_bytes p ∷ [])
behind (ack a) = concat (ack_bytes a ∷ [])

tag_behind : (m : KeyGenMessageOf) → bytes_of 4 (tag_of m) ++ behind m ≡ message_bytes m
unfolding message_bytes tagged_bytes part_bytes ack_bytes
tag_behind (part p) = ap (λ (l : List ℕ). bytes_of 4 0 ++ l) (append-nil (part_bytes p))
tag_behind (ack a) = ap (λ (l : List ℕ). bytes_of 4 1 ++ l) (append-nil (ack_bytes a))

-- a message that may follow a tag
abbrev Follows : Sizes → ℕ → KeyGenMessageOf → Type 0
Follows z t m = (Unit {0} × (tag_of m ≡ t)) × MessageOk z m

module _ (s : List ℕ) (z : Sizes) (fits : z.rows < 256 ^ 8) where
  part_case : (t : ℕ) → t ≡ 0 → Codes s (λ c. bind (read_part z s c) λ p d. value (part p) d) behind (Follows z t)
  part_case t q =
      recode (λ m o. sym (ap behind (is_part m (o.0.1 ∙ q))))
      (restate
      (λ m o. (o.0, subst (MessageOk z) (sym (is_part m (o.0.1 ∙ q))) o.1.0))
      (λ m o. (o.0, (subst (MessageOk z) (is_part m (o.0.1 ∙ q)) o.1, tt)))
      (field {H = λ m. Unit {0} × (tag_of m ≡ t)} part_in (part_codes s z fits) λ p.
      ended (part p) ((tt, sym q), refl) (λ m h. is_part m (h.0.1 ∙ q) ∙ ap part h.1)))

  ack_case : (t : ℕ) → t ≡ 1 → Codes s (λ c. bind (read_ack z s c) λ a d. value (ack a) d) behind (Follows z t)
  ack_case t q =
      recode (λ m o. sym (ap behind (is_ack m (o.0.1 ∙ q))))
      (restate
      (λ m o. (o.0, subst (MessageOk z) (sym (is_ack m (o.0.1 ∙ q))) o.1.0))
      (λ m o. (o.0, (subst (MessageOk z) (is_ack m (o.0.1 ∙ q)) o.1, tt)))
      (field {H = λ m. Unit {0} × (tag_of m ≡ t)} ack_in (ack_codes s z fits) λ a.
      ended (ack a) ((tt, sym q), refl) (λ m h. is_ack m (h.0.1 ∙ q) ∙ ap ack h.1)))

  pub message_codes : Codes s (read_key_gen_message z s) message_bytes (MessageOk z)
  unfolding read_key_gen_message
  message_codes =
      recode (λ m o. tag_behind m)
      (restate (λ m o. o.1.1) (λ m o. let t = tag_below m in (tt, (omega arith, o)))
      (field {H = λ m. Unit {0}} tag_of (fixed_codes s 4 four) λ t.
      choose t 0 (part_case t) λ n0.
      choose t 1 (ack_case t) λ n1.
      none 2 (λ m o. let b = tag_below m in let i = o.0.1 in omega arith)))

  pub signed_codes : Codes s (read_signed_key_gen_msg z s) signed_bytes (SignedOk z)
  unfolding read_signed_key_gen_msg signed_bytes
  signed_codes =
      restate
      (λ x o. record { era_fits = o.1.0; id_fits = o.1.1.0; message_ok = o.1.1.1.0; sig_fits = o.1.1.1.1.0 })
      (λ x o. (tt, (o.era_fits, (o.id_fits, (o.message_ok, (o.sig_fits, tt))))))
      (field {H = λ x. Unit {0}} (λ x. x.era) (fixed_codes s 8 eight) λ era.
      field (λ x. x.id) (fixed_codes s 4 four) λ id.
      field (λ x. x.message) message_codes λ message.
      field (λ x. x.sig) (fixed_codes s 8 eight) λ sig.
      ended (record { era = era; id = id; message = message; sig = sig }) ((((tt, refl), refl), refl), refl)
      (λ x h. λ i. record { era = h.0.0.0.1 i; id = h.0.0.1 i; message = h.0.1 i; sig = h.1 i }))
