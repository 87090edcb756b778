-- Faults: their numbers, where they arise, and how a layer passes them up.
use Rattle.std.specs.Prelude.{ℕ, ◌+◌, min}
use Rattle.personality.specs.declared.fault.Cause.{Cause}
use Rattle.personality.specs.declared.fault.Cause.TheVariants.{CutShort, TooLarge, BadFormat, PastCallSites, BadLink, BadTypeEntry, BadAddress, NoUnit}
use Rattle.personality.specs.declared.fault.Fault.{Fault}

-- the number of each cause
abbrev pub cause_number : Cause → ℕ
cause_number CutShort = 1
cause_number TooLarge = 2
cause_number BadFormat = 3
cause_number PastCallSites = 4
cause_number BadLink = 5
cause_number BadTypeEntry = 6
cause_number BadAddress = 7
cause_number NoUnit = 8

-- a fault where it arises: no layer has passed it up
abbrev pub arisen : Cause → ℕ → Fault
arisen cause offset = record { cause = cause; offset = offset; layer = 0 }

-- the same fault one layer up; the count stops at 255
abbrev pub lifted : Fault → Fault
lifted f = record { cause = f.cause; offset = f.offset; layer = min (f.layer + 1) 255 }
