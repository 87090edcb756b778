-- Action chains, over the bytes bs from the image's start to the table's end.
use Rattle.std.specs.Prelude.{ℕ, ◌+◌, ◌-◌, ◌*◌, Bool, true, false, ◌&&◌, ◌||◌, List, length, ℤ, pos, negsuc, ◌+ℤ◌, Some, None, Ok, Option, Result, ◌==◌, nat_le, nat_lt}
use Rattle.std.specs.declared.ops.ControlFlow.{ControlFlow}
use Rattle.std.specs.declared.ops.ControlFlow.TheVariants.{Continue, Break}
use Rattle.personality.specs.declared.fault.Cause.TheVariants.{BadLink, BadTypeEntry}
use Rattle.personality.specs.declared.fault.Fault.{Fault}
use Rattle.personality.specs.declared.verdict.Question.{Question}
use Rattle.personality.specs.declared.verdict.Verdict.{Verdict}
use Rattle.personality.specs.declared.verdict.Verdict.TheVariants.{Nothing, Cleanup, Handler}
use Rattle.numbers.specs.Digits.{width_bytes}
use Rattle.numbers.specs.Numbers.{leb128_at, fixed_at}
use Rattle.numbers.specs.Reading.{Number, broken, then}
use Rattle.lsda.specs.Site.{is_0}
use Rattle.lsda.specs.Turns.{iterate}
use Rattle.lsda.specs.declared.chain.Walk.{Walk}
use Rattle.lsda.specs.declared.header.Header.{Header}
use Rattle.lsda.specs.declared.header.TypeTable.{TypeTable}
use Rattle.lsda.specs.declared.site.Action.{Action}

-- a type has 16 bits; the faults of a type entry are at the filter that names it
abbrev pub type_of : Number → ℕ → Result ℕ Fault
type_of entry at =
    elim entry.value [
      | pos type ↦ elim (nat_lt type 65536) [ true ↦ Ok type | false ↦ broken BadTypeEntry at ]
      | negsuc _ ↦ broken BadTypeEntry at
    ]

-- the type of entry n, counted back from the type base, in a table that starts at `start`: the whole entry lies in the table
abbrev pub entry_at : List ℕ → ℕ → Option TypeTable → ℕ → ℕ → Result ℕ Fault
entry_at bs start None n at = broken BadTypeEntry at
entry_at bs start (Some types) n at =
    let size = width_bytes types.width in
    let entry = types.base - n * size in
    elim (nat_le (start + n * size) types.base && nat_le (entry + size) (length bs)) [
      | true ↦ then (fixed_at bs types.width false entry) (λ number. type_of number at)
      | false ↦ broken BadTypeEntry at
    ]

-- type 0 matches everything; another matches an exception of the language's own class that the language says it catches
abbrev pub matching : ℕ → (ℕ → ℕ → Bool) → Question → ℕ → Bool
matching native caught q type = type == 0 || (q.class == native && caught type q.thrown)

-- whether the filter at an offset matches: 0 does not, and a forced question passes over every other
abbrev pub hit_at : List ℕ → ℕ → Option TypeTable → (ℕ → Bool) → Bool → ℤ → ℕ → Result Bool Fault
hit_at bs start types matches forced filter at =
    elim (is_0 filter || forced) [
      | true ↦ Ok false
      | false ↦ elim filter [
        | pos n ↦ then (entry_at bs start types n at) (λ type. Ok (matches type))
        | negsuc _ ↦ broken BadTypeEntry at
      ]
    ]

-- the end of a chain of which no link matched
abbrev pub ending : Bool → ℕ → Verdict
ending noted pad = elim noted [ true ↦ Cleanup pad | false ↦ Nothing ]

-- what follows a link that does not match: displacement 0 ends the chain, another is counted from its own first byte
abbrev pub onward : ℕ → Bool → Number → Number → ControlFlow Verdict Walk
onward pad noted filter displacement =
    elim (is_0 displacement.value) [
      | true ↦ Break (ending noted pad)
      | false ↦ Continue (record { at = pos filter.next +ℤ displacement.value; from = filter.next; noted = noted })
    ]

-- the link at an offset: both numbers are read, then the filter is judged, then the displacement
abbrev pub link_at : List ℕ → ℕ → Option TypeTable → (ℕ → Bool) → Bool → ℕ → Bool → ℕ → Result (ControlFlow Verdict Walk) Fault
link_at bs start types matches forced pad noted at =
    then (leb128_at bs true at) (λ filter.
    then (leb128_at bs true filter.next) (λ displacement.
    then (hit_at bs start types matches forced filter.value at) (λ hit.
    elim hit [
      | true ↦ Ok (Break (Handler pad filter.value))
      | false ↦ Ok (onward pad (noted || is_0 filter.value) filter displacement)
    ])))

-- a link starts in the action table, which goes from the end of the call-site table to the table's end
abbrev pub step_at : List ℕ → ℕ → Header → (ℕ → Bool) → Bool → ℕ → Walk → Result (ControlFlow Verdict Walk) Fault
step_at bs start h matches forced pad w =
    elim w.at [
      | pos at ↦ elim (nat_le h.sites.end at && nat_lt at (length bs)) [
        | true ↦ link_at bs start h.types matches forced pad w.noted at
        | false ↦ broken BadLink w.from
      ]
      | negsuc _ ↦ broken BadLink w.from
    ]

-- action 1 is the first byte of the action table
abbrev pub first_link_of : ℕ → Action → Walk
first_link_of actions action = record { at = pos (actions + action.value) +ℤ negsuc 0; from = action.at; noted = false }

-- the verdict of a chain of at most 64 links; one more is a fault of the displacement that leads to it
abbrev pub chain_at : List ℕ → ℕ → Header → (ℕ → Bool) → Bool → ℕ → Walk → Result Verdict Fault
chain_at bs start h matches forced pad first = iterate (step_at bs start h matches forced pad) (λ w. broken BadLink w.from) 64 first
