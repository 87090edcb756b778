-- The sixteen formats of a number.
use Rattle.std.specs.Prelude.{ℕ, true, false, ◌||◌, List, Some, None, Option, Result, ◌==◌}
use Rattle.personality.specs.declared.fault.Fault.{Fault}
use Rattle.numbers.specs.Numbers.{leb128_at, fixed_at}
use Rattle.numbers.specs.declared.format.Format.{Format}
use Rattle.numbers.specs.declared.format.Size.{Size}
use Rattle.numbers.specs.declared.format.Size.TheVariants.{Leb128, Fixed}
use Rattle.numbers.specs.declared.number.Width.TheVariants.{Two, Four}
use Rattle.numbers.specs.Reading.{Number}

abbrev unsigned : Size → Option Format
unsigned size = Some (record { size = size; signed = false })

abbrev signed : Size → Option Format
signed size = Some (record { size = size; signed = true })

-- 0 and 3 are four bytes, 2 two bytes, 1 unsigned LEB128, 9 signed LEB128, a two and b four signed bytes; any other code
-- is refused
unfoldable pub format_of_code : ℕ → Option Format
format_of_code code =
    elim (code == 0 || code == 3) [
      | true ↦ unsigned (Fixed Four)
      | false ↦
          elim (code == 2) [
            | true ↦ unsigned (Fixed Two)
            | false ↦
                elim (code == 1) [
                  | true ↦ unsigned Leb128
                  | false ↦
                      elim (code == 9) [
                        | true ↦ signed Leb128
                        | false ↦
                            elim (code == 10) [
                              | true ↦ signed (Fixed Two)
                              | false ↦
                                  elim (code == 11) [ true ↦ signed (Fixed Four) | false ↦ None ]
                            ]
                      ]
                ]
          ]
    ]

abbrev pub number_at : List ℕ → Format → ℕ → Result Number Fault
number_at bs f at = elim f.size [ Leb128 ↦ leb128_at bs f.signed at | Fixed width ↦ fixed_at bs width f.signed at ]
