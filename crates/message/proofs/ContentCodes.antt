-- Reading and writing a message are inverse, for every size.
-- Assumes nothing.
use Prim.Native.Nat.{ℕ, ◌^◌, ◌<◌}
use mathlib.Core.Path.{◌≡◌, refl, sym, ap, ◌∙◌, subst}
use mathlib.Core.List.{List, [], ◌∷◌, ◌++◌}
use native.Mathlib.Omega.{arith}
use lib.Dec.{lit<}
use Rattle.bincode.specs.Numbers.{bytes_of}
use Rattle.bincode.specs.Sizes.{Sizes}
use Rattle.bincode.specs.Stands.{concat}
use Rattle.bincode.specs.Codes.{Codes}
use Rattle.bincode.proofs.CodeLaws.{four, eight, fixed_codes, field, ended, choose, none, restate, recode, one_field}
use Rattle.votes.specs.Votes.{SignedVoteOf, no_signed, signed_bytes}
use Rattle.votes.proofs.VoteCodes.{signed_codes}
use Rattle.key_gen_message.specs.KeyGenMessage.{KeyGenMessageOf, no_message, message_bytes}
use Rattle.key_gen_message.proofs.MessageCodes.{message_codes}
use Rattle.message.specs.Message.{MessageContent, key_gen, signed_vote, read_key_gen, read_vote, read_message, content_bytes, ContentOk}

-- a message's tag, and what stands behind it
abbrev pub tag_of : MessageContent → ℕ
tag_of (key_gen era m sig) = 1
tag_of (signed_vote v) = 2

-- the fields of either case, empty where the message has the other
abbrev era_in : MessageContent → ℕ
era_in (key_gen era m sig) = era
era_in (signed_vote v) = 0

abbrev message_in : MessageContent → KeyGenMessageOf
message_in (key_gen era m sig) = m
message_in (signed_vote v) = no_message

abbrev sig_in : MessageContent → ℕ
sig_in (key_gen era m sig) = sig
sig_in (signed_vote v) = 0

abbrev vote_in : MessageContent → SignedVoteOf
vote_in (key_gen era m sig) = no_signed
vote_in (signed_vote v) = v

abbrev pub behind : MessageContent → List ℕ
behind (key_gen era m sig) = concat (bytes_of 8 era ∷ message_bytes m ∷ bytes_of 8 sig ∷ [])
behind (signed_vote v) = concat (signed_bytes v ∷ [])

pub tag_below : (x : MessageContent) → tag_of x < 3
tag_below (key_gen era m sig) = lit< tt
tag_below (signed_vote v) = lit< tt

tag_above : (x : MessageContent) → 0 < tag_of x
tag_above (key_gen era m sig) = lit< tt
tag_above (signed_vote v) = lit< tt

pub tag_behind : (x : MessageContent) → bytes_of 4 (tag_of x) ++ behind x ≡ content_bytes x
unfolding content_bytes
tag_behind (key_gen era m sig) = refl
tag_behind (signed_vote v) = refl

-- a tag leaves one case
is_key_gen : (x : MessageContent) → tag_of x ≡ 1 → x ≡ key_gen (era_in x) (message_in x) (sig_in x)
is_key_gen (key_gen era m sig) t = refl
is_key_gen (signed_vote v) t = absurd (let y : ⊥ = omega arith in y)

is_signed_vote : (x : MessageContent) → tag_of x ≡ 2 → x ≡ signed_vote (vote_in x)
is_signed_vote (key_gen era m sig) t = absurd (let y : ⊥ = omega arith in y)
is_signed_vote (signed_vote v) t = refl

module _ (s : List ℕ) (z : Sizes) (nodes-fit : z.nodes < 256 ^ 8) (rows_fit : z.rows < 256 ^ 8) where
  pub key_gen_codes : (t : ℕ) → t ≡ 1 → Codes s (read_key_gen z s) behind (λ x. (Unit {0} × (tag_of x ≡ t)) × ContentOk z x)
  unfolding read_key_gen
  key_gen_codes t q =
      recode (λ x o. sym (ap behind (is_key_gen x (o.0.1 ∙ q))))
      (restate
      (λ x o. (o.0, subst (ContentOk z) (sym (is_key_gen x (o.0.1 ∙ q))) (o.1.0, o.1.1.0, o.1.1.1.0)))
      (λ x o. let k = subst (ContentOk z) (is_key_gen x (o.0.1 ∙ q)) o.1 in (o.0, (k.0, (k.1, (k.2, tt)))))
      (field {H = λ x. Unit {0} × (tag_of x ≡ t)} era_in (fixed_codes s 8 eight) λ era.
      field message_in (message_codes s z rows_fit) λ m.
      field sig_in (fixed_codes s 8 eight) λ sig.
      ended (key_gen era m sig) ((((tt, sym q), refl), refl), refl)
      (λ x h. is_key_gen x (h.0.0.0.1 ∙ q) ∙ λ i. key_gen (h.0.0.1 i) (h.0.1 i) (h.1 i))))

  vote_codes : (t : ℕ) → t ≡ 2 → Codes s (read_vote z s) behind (λ x. (Unit {0} × (tag_of x ≡ t)) × ContentOk z x)
  unfolding read_vote
  vote_codes t = one_field tag_of behind (ContentOk z) 2 signed_vote vote_in is_signed_vote (λ v. (refl, refl, refl)) (signed_codes s z nodes-fit) t

  pub content_codes : Codes s (read_message z s) content_bytes (ContentOk z)
  unfolding read_message
  content_codes =
      recode (λ x o. tag_behind x)
      (restate (λ x o. o.1.1) (λ x o. let t = tag_below x in (tt, (omega arith, o)))
      (field {H = λ x. Unit {0}} tag_of (fixed_codes s 4 four) λ t.
      choose t 1 (key_gen_codes t) λ n1.
      choose t 2 (vote_codes t) λ n2.
      none 2 (λ x o. let a = tag_above x in let b = tag_below x in let i = o.0.1 in omega arith)))
