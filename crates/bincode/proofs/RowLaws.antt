-- What is refused by a cause has a number of 01's table, so the refusal of that number has it.
-- Assumes nothing.
use Prim.Native.Nat.{ℕ}
use mathlib.Core.Path.{◌≡◌, refl, sym, ap, ◌∙◌}
use mathlib.Core.List.{List}
use Rattle.bincode.specs.Read.{Read, refuse}
use Rattle.bincode.specs.Rows.{row_number, row}
use Rattle.bincode.specs.Stands.{Bytes}
use Rattle.bincode.specs.declared.Refusal.{Refusal}
use Rattle.bincode.specs.declared.Refusal.TheVariants as refusal
use Rattle.bincode.specs.Causes.{Cause, cut, left_over, unknown_tag, not_ascending, key_zero, count_over, total_over, too_long, no_marker, longer, too_large, cause_number, Caused}

cause_row : (c : Cause) → row_number (row (cause_number c)) ≡ cause_number c
cause_row cut = refl
cause_row left_over = refl
cause_row unknown_tag = refl
cause_row not_ascending = refl
cause_row key_zero = refl
cause_row count_over = refl
cause_row total_over = refl
cause_row too_long = refl
cause_row no_marker = refl
cause_row longer = refl
cause_row too_large = refl

pub caused_row : {A : Type 0} (s : List ℕ) (x : Read A) (W : Cause → Type 0) → Caused s x W → Bytes s → (n : ℕ) → x ≡ refuse n → row_number (row n) ≡ n
caused_row s x W caused bytes n e =
    let r = caused.cause bytes n e in
    ap (λ (k : ℕ). row_number (row k)) (sym r.2) ∙ cause_row r.0 ∙ r.2

-- the refusal of a refusal's number is that refusal
pub row_named : (r : Refusal) → row (row_number r) ≡ r
row_named refusal.ShortBuffer = refl
row_named refusal.Malformed = refl
row_named refusal.TooLarge = refl
row_named refusal.IllFormedVerdicts = refl
row_named refusal.LastEpoch = refl
row_named refusal.EmptyMapWins = refl
row_named refusal.EmptyMap = refl
row_named refusal.AlreadyMember = refl
row_named refusal.OtherChange = refl
row_named refusal.LastVoteNumber = refl
row_named refusal.StoreFull = refl
row_named refusal.MapFull = refl
row_named refusal.BadPeriod = refl
row_named refusal.OtherEra = refl
row_named refusal.InvalidInteger = refl
