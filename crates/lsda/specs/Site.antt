-- Call sites, over the bytes bs from the image's start to the end of the call-site table.
use Rattle.std.specs.Prelude.{ℕ, ◌+◌, ◌-◌, Bool, true, false, List, length, ℤ, pos, negsuc, ◌≤ℤ◌, ◌<ℤ◌, Some, None, Ok, Err, Option, Result, ◌==◌, nat_le, nat_lt}
use Rattle.std.specs.declared.ops.ControlFlow.{ControlFlow}
use Rattle.std.specs.declared.ops.ControlFlow.TheVariants.{Continue, Break}
use Rattle.personality.specs.Faults.{arisen}
use Rattle.personality.specs.declared.fault.Cause.TheVariants.{CutShort, TooLarge, BadFormat, PastCallSites, BadLink, BadTypeEntry, BadAddress, NoUnit}
use Rattle.personality.specs.declared.fault.Fault.{Fault}
use Rattle.numbers.specs.Formats.{number_at}
use Rattle.numbers.specs.Numbers.{unsigned_at}
use Rattle.numbers.specs.Reading.{broken, then}
use Rattle.numbers.specs.declared.format.Format.{Format}
use Rattle.numbers.specs.declared.number.Read.{Read}
use Rattle.lsda.specs.declared.header.Header.{Header}
use Rattle.lsda.specs.declared.header.Layout.{Layout}
use Rattle.lsda.specs.declared.header.Layout.TheVariants.{Lsda, Sjlj}
use Rattle.lsda.specs.declared.site.Fields.{Fields}
use Rattle.lsda.specs.declared.site.Ranged.{Ranged}
use Rattle.lsda.specs.declared.site.Search.{Search}
use Rattle.lsda.specs.declared.site.Site.{Site}
use Rattle.lsda.specs.declared.site.Wanted.{Wanted}
use Rattle.lsda.specs.declared.site.Wanted.TheVariants.{Place, Nth}
use Rattle.lsda.specs.Turns.{iterate}

-- a number that is cut short makes its record pass the call-site table: the fault is then the record's
abbrev pub recut : Fault → ℕ → Fault
recut f first =
    elim f.cause [
      | CutShort ↦ arisen PastCallSites first
      | TooLarge ↦ f
      | BadFormat ↦ f
      | PastCallSites ↦ f
      | BadLink ↦ f
      | BadTypeEntry ↦ f
      | BadAddress ↦ f
      | NoUnit ↦ f
    ]

-- a number of the record at an offset
abbrev pub in_record_at : {A : Type 0} → Result A Fault → ℕ → Result A Fault
in_record_at (Ok n) first = Ok n
in_record_at (Err f) first = Err (recut f first)

-- base + value, for a field at an offset: neither negative nor above 32 bits
abbrev pub address : ℕ → ℤ → ℕ → Result ℕ Fault
address base (pos value) at = elim (nat_le (base + value) 4294967295) [ true ↦ Ok (base + value) | false ↦ broken BadAddress at ]
address base (negsuc value) at = broken BadAddress at

-- all fields are read before any is judged
abbrev pub fields_at : List ℕ → Format → ℕ → Result Fields Fault
fields_at bs format at =
    then (in_record_at (number_at bs format at) at) (λ start.
    then (in_record_at (number_at bs format start.next) at) (λ length.
    then (in_record_at (number_at bs format length.next) at) (λ pad.
    then (in_record_at (unsigned_at bs pad.next) at) (λ action.
    Ok (record { start = start; length = length; pad = pad; action = action })))))

abbrev pub is_0 : ℤ → Bool
is_0 (pos n) = n == 0
is_0 (negsuc n) = false

-- a pad field of 0 is no pad; another is counted from the landing start
abbrev pub pad_of : ℤ → ℕ → Option ℕ
pad_of field address = elim (is_0 field) [ true ↦ None | false ↦ Some address ]

abbrev pub judged_fields : ℕ → ℕ → ℕ → Fields → Result (Read Ranged) Fault
judged_fields landing function at f =
    then (address function f.start.value at) (λ from.
    then (address from f.length.value f.start.next) (λ to.
    then (address landing f.pad.value f.length.next) (λ pad.
    Ok (record { value = record { from = from; to = to; site = record { pad = pad_of f.pad.value pad; action = record { value = f.action.value; at = f.pad.next } } }; next = f.action.next }))))

-- the record of a range of places at an offset
abbrev pub ranged_at : List ℕ → Header → ℕ → ℕ → Result (Read Ranged) Fault
ranged_at bs h function at = then (fields_at bs h.sites.format at) (judged_fields h.landing function at)

-- the numbered record at an offset: its first field is the pad less one
abbrev pub numbered_at : List ℕ → ℕ → Result (Read Site) Fault
numbered_at bs at =
    then (in_record_at (unsigned_at bs at) at) (λ pad.
    then (in_record_at (unsigned_at bs pad.next) at) (λ action.
    elim (pad.value == 4294967295) [
      | true ↦ broken BadAddress at
      | false ↦ Ok (record { value = record { pad = Some (pad.value + 1); action = record { value = action.value; at = pad.next } }; next = action.next })
    ]))

-- a place below the record is unlisted; one below its end is the record's
abbrev pub ranged_turn : ℕ → Read Ranged → ControlFlow (Option Site) Search
ranged_turn place r =
    elim (nat_lt place r.value.from) [
      | true ↦ Break None
      | false ↦ elim (nat_lt place r.value.to) [ true ↦ Break (Some r.value.site) | false ↦ Continue (record { at = r.next; wanted = Place place }) ]
    ]

-- the n-th record is the first after n - 1 others, and there is none before the first
abbrev pub numbered_turn : ℕ → Read Site → ControlFlow (Option Site) Search
numbered_turn n r = elim (n == 1) [ true ↦ Break (Some r.value) | false ↦ Continue (record { at = r.next; wanted = Nth (n - 1) }) ]

-- one record: None where no record is left, or none is looked for
abbrev pub look : List ℕ → Header → ℕ → Search → Result (ControlFlow (Option Site) Search) Fault
look bs h function s =
    elim (nat_lt s.at (length bs)) [
      | false ↦ Ok (Break None)
      | true ↦ elim s.wanted [
        | Place place ↦ then (ranged_at bs h function s.at) (λ r. Ok (ranged_turn place r))
        | Nth n ↦ elim (n == 0) [ true ↦ Ok (Break None) | false ↦ then (numbered_at bs s.at) (λ r. Ok (numbered_turn n r)) ]
      ]
    ]

-- the call site that is wanted, None where it is unlisted; a record has a byte or more, so that there are no more records
-- than bytes
abbrev pub find_site : List ℕ → Header → ℕ → Wanted → Result (Option Site) Fault
find_site bs h function wanted =
    iterate (look bs h function) (λ _. Ok None) (h.sites.end - h.sites.at) (record { at = h.sites.at; wanted = wanted })

-- what a place asks for: in a numbered table a place of 32 bits is a signed number, and a negative one asks for nothing
abbrev pub wanted_of : Layout → ℕ → Option Wanted
wanted_of Lsda place = Some (Place place)
wanted_of Sjlj place = elim (nat_lt place 2147483648) [ true ↦ Some (Nth place) | false ↦ None ]

-- the fields of a record that was read have 32 bits
pub record Readable (f : Fields) : Type 0 where
  pub start_low : negsuc 2147483647 ≤ℤ f.start.value
  pub start_high : f.start.value <ℤ pos 4294967296
  pub length_low : negsuc 2147483647 ≤ℤ f.length.value
  pub length_high : f.length.value <ℤ pos 4294967296
  pub pad_low : negsuc 2147483647 ≤ℤ f.pad.value
  pub pad_high : f.pad.value <ℤ pos 4294967296
