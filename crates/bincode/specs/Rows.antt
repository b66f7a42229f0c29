-- 01, "When the engine says no": the number of each refusal, and the refusal of each number.
use Rattle.std.specs.Prelude.{ℕ, cond, eqb}
use Rattle.bincode.specs.declared.Refusal.{Refusal}
use Rattle.bincode.specs.declared.Refusal.TheVariants as refusal

abbrev pub row_number : Refusal → ℕ
row_number refusal.ShortBuffer = 1
row_number refusal.Malformed = 2
row_number refusal.TooLarge = 3
row_number refusal.IllFormedVerdicts = 4
row_number refusal.LastEpoch = 5
row_number refusal.EmptyMapWins = 7
row_number refusal.EmptyMap = 8
row_number refusal.AlreadyMember = 9
row_number refusal.OtherChange = 10
row_number refusal.LastVoteNumber = 11
row_number refusal.StoreFull = 12
row_number refusal.MapFull = 13
row_number refusal.BadPeriod = 14
row_number refusal.OtherEra = 15
row_number refusal.InvalidInteger = 16

-- The refusal of a number. A number that is no row's has none, and no call and no reader refuses with one (refusals/proofs/RowsOnly).
abbrev pub row : ℕ → Refusal
row n =
    cond (eqb n 1) refusal.ShortBuffer
    (cond (eqb n 3) refusal.TooLarge
    (cond (eqb n 4) refusal.IllFormedVerdicts
    (cond (eqb n 5) refusal.LastEpoch
    (cond (eqb n 7) refusal.EmptyMapWins
    (cond (eqb n 8) refusal.EmptyMap
    (cond (eqb n 9) refusal.AlreadyMember
    (cond (eqb n 10) refusal.OtherChange
    (cond (eqb n 11) refusal.LastVoteNumber
    (cond (eqb n 12) refusal.StoreFull
    (cond (eqb n 13) refusal.MapFull
    (cond (eqb n 14) refusal.BadPeriod
    (cond (eqb n 15) refusal.OtherEra
    (cond (eqb n 16) refusal.InvalidInteger refusal.Malformed)))))))))))))
