use Rattle.std.proofs.Common.{◌+◌, ◌-◌, Ok, Err, sym, ap, ◌∙◌, arith}
use Rattle.numbers.specs.Digits.{Digits}
use Rattle.numbers.specs.Numbers.{limit}
use Rattle.numbers.proofs.Digit.{digits_cut, digits_none, under, under_last, under_more, weight_more, with_sign}
use Rattle.numbers.proofs.number.read_digits.Goals as goal

pub returns-in_default-clause-is : goal.returns-in_default-clause-is
returns-in_default-clause-is c =
    ap Err c.at.ensures
    ∙ ap (under c.loop.digits) (sym (digits_cut c.args.bytes.now c.args.at (limit - c.loop.counter) c.loop.digits.next (omega arith) (omega (arith, c.in_default.ensures.lookup, ap (λ (d : Digits). d.next) c.digits.view_is))))
    ∙ c.loop.invariant.whole

pub returns-then-byte-lt128-clause-is : goal.returns-then-byte-lt128-clause-is
returns-then-byte-lt128-clause-is c =
    ap (λ d. Ok (with_sign c.sign_bit.result d)) (c.digits-then-byte-lt128.view_is ∙ c.push.ensures)
    ∙ under_last c.args.bytes.now c.args.at (limit - c.loop.counter) (limit - (c.loop.counter + 1)) c.in-Some.field-0.now c.payload.result c.loop.digits (omega arith) (omega (arith, c.in-Some.ensures.lookup, ap (λ (d : Digits). d.next) c.digits.view_is)) (grind (arith, c.in-Some.ensures.lookup, c.digits.view_is)) c.payload.ensures c.sign_bit.result c.sign_bit.ensures (omega arith)
    ∙ c.loop.invariant.whole

pub loop-preserved : goal.loop-preserved
loop-preserved c =
    rw c.push.ensures (record {
      weight = weight_more 7 _ c.loop.counter c.loop.invariant.weight;
      whole =
          under_more c.args.bytes.now c.args.at (limit - c.loop.counter) (limit - (c.loop.counter + 1)) c.in-Some.field-0.now c.payload.result c.loop.digits (omega arith) (omega (arith, c.in-Some.ensures.lookup, ap (λ (d : Digits). d.next) c.digits.view_is)) (grind (arith, c.in-Some.ensures.lookup, c.digits.view_is)) c.payload.ensures (omega arith)
          ∙ c.loop.invariant.whole;
    })

pub returns-clause-is : goal.returns-clause-is
returns-clause-is c =
    ap Err c.at-2.ensures
    ∙ ap (under c.loop.digits) (sym (digits_none c.args.bytes.now c.args.at (limit - c.loop.counter) c.loop.digits.next (omega arith)))
    ∙ c.loop.invariant.whole
