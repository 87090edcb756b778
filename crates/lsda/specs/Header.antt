-- The header of a table, over the bytes bs from the image's start to the table's end.
use Rattle.std.specs.Prelude.{ℕ, ◌+◌, ◌^◌, ◌<◌, ◌≤◌, Bool, true, false, not, ◌&&◌, ◌||◌, List, length, pos, negsuc, IfSome, Some, None, Ok, Option, Result, ◌==◌, nat_le, nat_lt, slice_index}
use Rattle.personality.specs.declared.fault.Cause.TheVariants.{CutShort, BadFormat, PastCallSites, BadAddress}
use Rattle.personality.specs.declared.fault.Fault.{Fault}
use Rattle.numbers.specs.Formats.{format_of_code, number_at}
use Rattle.numbers.specs.Numbers.{unsigned_at}
use Rattle.numbers.specs.Reading.{Number, Unsigned, broken, then}
use Rattle.numbers.specs.declared.format.Format.{Format}
use Rattle.numbers.specs.declared.number.Read.{Read}
use Rattle.numbers.specs.declared.number.Width.{Width}
use Rattle.numbers.specs.declared.number.Width.TheVariants.{Two, Four}
use Rattle.lsda.specs.declared.header.CallSites.{CallSites}
use Rattle.lsda.specs.declared.header.Header.{Header}
use Rattle.lsda.specs.declared.header.Layout.{Layout}
use Rattle.lsda.specs.declared.header.Layout.TheVariants.{Lsda, Sjlj}
use Rattle.lsda.specs.declared.header.TypeTable.{TypeTable}

abbrev pub byte_at : List ℕ → ℕ → Result ℕ Fault
byte_at bs at = elim (nat_lt at (length bs)) [ true ↦ Ok (slice_index bs at) | false ↦ broken CutShort at ]

-- the format that the byte at an offset names
abbrev pub format_at : ℕ → ℕ → Result Format Fault
format_at code at = elim (format_of_code code) [ Some format ↦ Ok format | None ↦ broken BadFormat at ]

-- a field that must not be negative
abbrev pub natural : Number → ℕ → Result Unsigned Fault
natural n at = elim n.value [ pos value ↦ Ok (record { value = value; next = n.next }) | negsuc _ ↦ broken BadAddress at ]

-- the landing start: ff stands for the function start
abbrev pub landing_at : List ℕ → ℕ → ℕ → Result Unsigned Fault
landing_at bs function at =
    then (byte_at bs at) (λ code.
    elim (code == 255) [
      | true ↦ Ok (record { value = function; next = at + 1 })
      | false ↦ then (format_at code at) (λ format. then (number_at bs format (at + 1)) (λ n. natural n (at + 1)))
    ])

-- a type entry has four or two bytes
abbrev pub type_width : ℕ → ℕ → Result Width Fault
type_width code at = elim (code == 0 || code == 3) [ true ↦ Ok Four | false ↦ elim (code == 2) [ true ↦ Ok Two | false ↦ broken BadFormat at ] ]

-- the type table: ff stands for none; its base is counted from the byte after the field
abbrev pub types_at : List ℕ → ℕ → Result (Read (Option TypeTable)) Fault
types_at bs at =
    then (byte_at bs at) (λ code.
    elim (code == 255) [
      | true ↦ Ok (record { value = None; next = at + 1 })
      | false ↦ then (type_width code at) (λ width. then (unsigned_at bs (at + 1)) (λ n. Ok (record { value = Some (record { width = width; base = n.next + n.value }); next = n.next })))
    ])

abbrev pub numbered : Layout → Bool
numbered Lsda = false
numbered Sjlj = true

-- numbered call sites are in format 1
abbrev pub site_format : Layout → ℕ → ℕ → Result Format Fault
site_format layout code at = elim (numbered layout && not (code == 1)) [ true ↦ broken BadFormat at | false ↦ format_at code at ]

-- the call-site table, which lies in the table
abbrev pub sites_at : List ℕ → Layout → ℕ → Result CallSites Fault
sites_at bs layout at =
    then (byte_at bs at) (λ code.
    then (site_format layout code at) (λ format.
    then (unsigned_at bs (at + 1)) (λ n.
    elim (nat_le (n.next + n.value) (length bs)) [
      | true ↦ Ok (record { format = format; at = n.next; end = n.next + n.value })
      | false ↦ broken PastCallSites (at + 1)
    ])))

abbrev pub header_at : List ℕ → Layout → ℕ → ℕ → Result Header Fault
header_at bs layout start function =
    then (landing_at bs function start) (λ landing.
    then (types_at bs landing.next) (λ types.
    then (sites_at bs layout types.next) (λ sites.
    Ok (record { landing = landing.value; types = types.value; sites = sites }))))

-- a type base that was read is small enough to count from
abbrev pub Near : Option TypeTable → Type 0
Near types = IfSome types (λ t. t.base < 2 ^ 63 + 2 ^ 32)

-- what a header that was read gives to the readers of what follows it
pub record Sound (bs : List ℕ) (h : Header) : Type 0 where
  pub first : h.sites.at ≤ h.sites.end
  pub sites : h.sites.end ≤ length bs
  pub types : Near h.types
