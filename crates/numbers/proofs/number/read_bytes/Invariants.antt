use Rattle.std.proofs.Common.{◌≡◌, ◌+◌, ◌-◌, ◌*◌, ◌^◌}
use Rattle.numbers.specs.Digits.{little_endian}
use Rattle.numbers.proofs.number.read_bytes.Given as goal

-- the bytes so far below those that are left give the whole
abbrev pub invariant-loop-byte : goal.invariant-loop-byte
invariant-loop-byte l =
    record {
      weight : l.digits.weight ≡ 2 ^ (8 * l.byte-index);
      next : l.digits.next ≡ l.at + l.byte-index;
      sum : l.digits.sum + l.digits.weight * little_endian l.bytes (l.size - l.byte-index) (l.at + l.byte-index) ≡ little_endian l.bytes l.size l.at;
    }
