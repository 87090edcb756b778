use Rattle.std.proofs.Common.{◌≡◌, ◌-◌, ◌*◌, ◌^◌}
use Rattle.numbers.specs.Digits.{digits_at}
use Rattle.numbers.specs.Numbers.{limit}
use Rattle.numbers.proofs.Digit.{under}
use Rattle.numbers.proofs.number.read_digits.Given as goal

-- the digits so far below those that are left give the whole
abbrev pub invariant-loop : goal.invariant-loop
invariant-loop l =
    record {
      weight : l.digits.weight ≡ 2 ^ (7 * l.counter);
      whole : under l.digits (digits_at l.bytes l.at (limit - l.counter) l.digits.next) ≡ digits_at l.bytes l.at limit l.at;
    }
