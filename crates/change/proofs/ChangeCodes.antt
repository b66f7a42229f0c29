-- Reading and writing a change and its state are inverse, in every edition and for every size.
-- Assumes nothing.
use Prim.Native.Nat.{ℕ, ◌^◌, ◌<◌}
use mathlib.Core.Path.{◌≡◌, refl, sym, ap, ◌∙◌, subst}
use mathlib.Core.List.{List, [], ◌∷◌, ◌++◌}
use native.Mathlib.Omega.{arith}
use lib.Dec.{lit<}
use Rattle.bincode.specs.Read.{value}
use Rattle.bincode.specs.Numbers.{Edition}
use Rattle.bincode.specs.Sizes.{Sizes}
use Rattle.bincode.specs.Stands.{concat}
use Rattle.bincode.specs.Codes.{Codes, NumberCodes}
use Rattle.bincode.proofs.CodeLaws.{four, field, ended, choose, none as unknown, restate, recode, one_field}
use Rattle.pub_key_map.specs.declared.Node.{Node}
use Rattle.pub_key_map.specs.PubKeyMap.{map_bytes}
use Rattle.pub_key_map.proofs.MapCodes.{map_codes}
use Rattle.honey_badger.specs.declared.EncryptionSchedule.{EncryptionSchedule}
use Rattle.honey_badger.specs.declared.EncryptionSchedule.TheVariants.{Always}
use Rattle.honey_badger.specs.EncryptionSchedule.{schedule_bytes}
use Rattle.honey_badger.proofs.ScheduleCodes.{schedule_codes}
use Rattle.change.specs.Change.{ChangeOf, node_change, encryption_schedule, ChangeStateOf, none, in_progress, complete, read_change, change_bytes, read_state, state_bytes, ChangeOk, StateOk}

-- a change's tag, and what stands behind it
abbrev tag_of : ChangeOf → ℕ
tag_of (node_change ns) = 0
tag_of (encryption_schedule x) = 1

abbrev nodes_in : ChangeOf → List Node
nodes_in (node_change ns) = ns
nodes_in (encryption_schedule x) = []

abbrev schedule_in : ChangeOf → EncryptionSchedule
schedule_in (node_change ns) = Always
schedule_in (encryption_schedule x) = x

abbrev behind_tag : Edition → ChangeOf → List ℕ
behind_tag e (node_change ns) = concat (map_bytes e ns ∷ [])
behind_tag e (encryption_schedule x) = concat (schedule_bytes e x ∷ [])

tag_below : (c : ChangeOf) → tag_of c < 2
tag_below (node_change ns) = lit< tt
tag_below (encryption_schedule x) = lit< tt

tag_behind : (e : Edition) (c : ChangeOf) → e.bytes 4 (tag_of c) ++ behind_tag e c ≡ change_bytes e c
unfolding change_bytes
tag_behind e (node_change ns) = refl
tag_behind e (encryption_schedule x) = refl

-- a tag leaves one case
is_node_change : (c : ChangeOf) → tag_of c ≡ 0 → c ≡ node_change (nodes_in c)
is_node_change (node_change ns) t = refl
is_node_change (encryption_schedule x) t = absurd (let z : ⊥ = omega arith in z)

is_schedule : (c : ChangeOf) → tag_of c ≡ 1 → c ≡ encryption_schedule (schedule_in c)
is_schedule (node_change ns) t = absurd (let z : ⊥ = omega arith in z)
is_schedule (encryption_schedule x) t = refl

-- the same of a state
abbrev progress_of : ChangeStateOf → ℕ
progress_of none = 0
progress_of (in_progress c) = 1
progress_of (complete c) = 2

abbrev change_in : ChangeStateOf → ChangeOf
change_in none = node_change []
change_in (in_progress c) = c
change_in (complete c) = c

abbrev behind_progress : Edition → ChangeStateOf → List ℕ
behind_progress e none = []
behind_progress e (in_progress c) = concat (change_bytes e c ∷ [])
behind_progress e (complete c) = concat (change_bytes e c ∷ [])

progress_below : (x : ChangeStateOf) → progress_of x < 3
progress_below none = lit< tt
progress_below (in_progress c) = lit< tt
progress_below (complete c) = lit< tt

progress_behind : (e : Edition) (x : ChangeStateOf) → e.bytes 4 (progress_of x) ++ behind_progress e x ≡ state_bytes e x
unfolding state_bytes
progress_behind e none = refl
progress_behind e (in_progress c) = refl
progress_behind e (complete c) = refl

is_none : (x : ChangeStateOf) → progress_of x ≡ 0 → x ≡ none
is_none none t = refl
is_none (in_progress c) t = absurd (let z : ⊥ = omega arith in z)
is_none (complete c) t = absurd (let z : ⊥ = omega arith in z)

is_in_progress : (x : ChangeStateOf) → progress_of x ≡ 1 → x ≡ in_progress (change_in x)
is_in_progress none t = absurd (let z : ⊥ = omega arith in z)
is_in_progress (in_progress c) t = refl
is_in_progress (complete c) t = absurd (let z : ⊥ = omega arith in z)

is_complete : (x : ChangeStateOf) → progress_of x ≡ 2 → x ≡ complete (change_in x)
is_complete none t = absurd (let z : ⊥ = omega arith in z)
is_complete (in_progress c) t = absurd (let z : ⊥ = omega arith in z)
is_complete (complete c) t = refl

module _ (e : Edition) (s : List ℕ) (num : NumberCodes e s) (z : Sizes) (fits : z.nodes < 256 ^ 8) where
  pub change_codes : Codes s (read_change e z s) (change_bytes e) (ChangeOk z)
  unfolding read_change
  change_codes =
      recode (λ c o. tag_behind e c)
      (restate (λ c o. o.1.1) (λ c o. let t = tag_below c in (tt, (omega arith, o)))
      (field {H = λ c. Unit {0}} tag_of (num 4 four) λ t.
      choose t 0 (one_field tag_of (behind_tag e) (ChangeOk z) 0 node_change nodes_in is_node_change (λ ns. (refl, refl, refl)) (map_codes e s num z fits) t) λ n0.
      choose t 1 (one_field tag_of (behind_tag e) (ChangeOk z) 1 encryption_schedule schedule_in is_schedule (λ x. (refl, refl, refl)) (schedule_codes e s num) t) λ n1.
      unknown 2 (λ c o. let b = tag_below c in let i = o.0.1 in omega arith)))

  none_codes : (t : ℕ) → t ≡ 0 → Codes s (λ c. value none c) (behind_progress e) (λ x. (Unit {0} × (progress_of x ≡ t)) × StateOk z x)
  none_codes t q =
      recode (λ x o. sym (ap (behind_progress e) (is_none x (o.0.1 ∙ q))))
      (restate (λ x o. (o.0, subst (StateOk z) (sym (is_none x (o.0.1 ∙ q))) tt)) (λ x o. (o.0, tt))
      (ended {H = λ x. Unit {0} × (progress_of x ≡ t)} none (tt, sym q) (λ x h. is_none x (h.1 ∙ q))))

  pub state_codes : Codes s (read_state e z s) (state_bytes e) (StateOk z)
  unfolding read_state
  state_codes =
      recode (λ x o. progress_behind e x)
      (restate (λ x o. o.1.1) (λ x o. let t = progress_below x in (tt, (omega arith, o)))
      (field {H = λ x. Unit {0}} progress_of (num 4 four) λ t.
      choose t 0 (none_codes t) λ n0.
      choose t 1 (one_field progress_of (behind_progress e) (StateOk z) 1 in_progress change_in is_in_progress (λ c. (refl, refl, refl)) change_codes t) λ n1.
      choose t 2 (one_field progress_of (behind_progress e) (StateOk z) 2 complete change_in is_complete (λ c. (refl, refl, refl)) change_codes t) λ n2.
      unknown 2 (λ x o. let b = progress_below x in let i = o.0.1 in omega arith)))
