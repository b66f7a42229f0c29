-- A due item handed back: reading is inverse to its bytes, and it is refused by the causes that `due_item_wrong` names, for every size.
-- Assumes nothing.
use Prim.Native.Nat.{ℕ, ◌^◌, ◌<◌}
use mathlib.Core.Path.{◌≡◌, refl, sym, ◌∙◌}
use mathlib.Core.List.{List}
use native.Mathlib.Omega.{arith}
use Rattle.bincode.specs.Sizes.{Sizes}
use Rattle.bincode.specs.Codes.{Codes}
use Rattle.bincode.specs.Causes.{Causes}
use Rattle.bincode.proofs.CodeLaws as codes
use Rattle.bincode.proofs.CodeLaws.{four, fixed_codes, choose, none, restate, recode}
use Rattle.bincode.proofs.CauseLaws.{field, cases, unknown, fixed_causes}
use Rattle.message.specs.Message.{MessageContent, key_gen, signed_vote, content_bytes, ContentOk}
use Rattle.message.proofs.ContentCodes.{tag_of, tag_below, tag_behind, key_gen_codes}
use Rattle.message.proofs.ContentCauses.{key_gen_causes}
use Rattle.dynamic_honey_badger.specs.Received.{read_due_item}
use Rattle.refusals.specs.Causes.{DueItemOk, due_item_wrong}

module _ (s : List ℕ) (z : Sizes) where
  -- a message is a due item where its tag is 1
  tag_due : (x : MessageContent) → tag_of x ≡ 1 → ContentOk z x → DueItemOk s z x
  tag_due (key_gen era m sig) t o = o
  tag_due (signed_vote v) t o = omega arith

  due_tag : (x : MessageContent) → DueItemOk s z x → (tag_of x ≡ 1) × ContentOk z x
  due_tag (key_gen era m sig) o = (refl, o)
  due_tag (signed_vote v) o = absurd o

  module _ (nodes-fit : z.nodes < 256 ^ 8) (rows_fit : z.rows < 256 ^ 8) where
    pub due_item_codes : Codes s (read_due_item z s) content_bytes (DueItemOk s z)
    unfolding read_due_item
    due_item_codes =
        recode (λ x o. tag_behind x)
        (restate (λ x o. o.1.1) (λ x o. let t = tag_below x in (tt, (omega arith, o)))
        (codes.field {H = λ x. Unit {0}} {Q = DueItemOk s z} tag_of (fixed_codes s 4 four) λ t.
        choose t 1
        (λ q.
        restate (λ x o. (o.0, tag_due x (o.0.1 ∙ q) o.1)) (λ x o. (o.0, (due_tag x o.1).1))
        (key_gen_codes s z nodes-fit rows_fit t q)) λ n1.
        none 2 (λ x o. n1 (sym o.0.1 ∙ (due_tag x o.1).0))))

  pub due_item_causes : z.rows < 256 ^ 8 → Causes s (read_due_item z s) (due_item_wrong s z)
  unfolding read_due_item
  due_item_causes rows_fit =
      field (fixed_codes s 4 four) (fixed_causes s 4 four) λ tag.
      cases tag 1 (key_gen_causes s z rows_fit)
      (unknown 2 refl)
