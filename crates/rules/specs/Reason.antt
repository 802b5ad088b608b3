-- Document 01, "Refusal numbers": the number of each reason to refuse. Definitions only.
use Rattle.std.specs.Prelude.{ℕ}
use Rattle.rules.specs.declared.Reason.{Reason}
use Rattle.rules.specs.declared.Reason.TheVariants.{TooMany, LengthsDisagree, NoSuchParticle, BadCoordinate, OutOfRange, TooDeep, NoSlotLeft, NoDrawLeft, BadResult, BadRecord, NotThere, Unclosed}

abbrev pub number_of : Reason → ℕ
number_of TooMany = 1
number_of LengthsDisagree = 2
number_of NoSuchParticle = 3
number_of BadCoordinate = 4
number_of OutOfRange = 5
number_of TooDeep = 6
number_of NoSlotLeft = 7
number_of NoDrawLeft = 8
number_of BadResult = 9
number_of BadRecord = 10
number_of NotThere = 15
number_of Unclosed = 16
