use Rattle.std.proofs.Common.{◌≡◌, ◌+◌, ◌<◌, ◌≤◌, length, get_or, Ok, ap, ◌∙◌, arith}
use Rattle.std.proofs.lemmas.Grind.{common_steps}
use Rattle.numbers.specs.Digits.{bytes_at}
use Rattle.numbers.proofs.Digit.{little_more, bytes_done, weight_more, with_sign}
use Rattle.numbers.proofs.number.read_bytes.Goals as goal

pub loop-byte-preserved : goal.loop-byte-preserved
loop-byte-preserved c =
    let i = c.loop-byte.byte-index in
    let size = c.bytes-size.result in
    let same : c.from.result ≡ get_or c.args.bytes.now (c.args.at + i) 0 = grind (arith, common_steps, c.and_then.ensures, c.get.ensures.lookup) in
    let more : i < size = grind (arith, common_steps, c.and_then.ensures, c.get.ensures.lookup) in
    rw c.push.ensures (record {
      weight = weight_more 8 _ c.loop-byte.byte-index c.loop-byte.invariant.weight;
      next = omega arith;
      sum = little_more c.args.bytes.now size i c.args.at c.from.result _ c.loop-byte.digits more same c.loop-byte.invariant.sum;
    })

pub returns-clause-is : goal.returns-clause-is
returns-clause-is c =
    let i = c.loop-byte.byte-index in
    let size = c.bytes-size.result in
    let all : i ≡ size = grind (arith, common_steps, c.and_then.ensures, c.get.ensures.lookup) in
    let inside : c.args.at + size ≤ length c.args.bytes.now = grind (arith, common_steps, c.and_then.ensures, c.get.ensures.lookup) in
    ap (λ d. Ok (with_sign c.top_bit.result d)) c.digits.view_is
    ∙ bytes_done c.args.bytes.now c.args.at size i c.loop-byte.digits c.top_bit.result all inside c.loop-byte.invariant.weight c.loop-byte.invariant.next c.loop-byte.invariant.sum c.top_bit.ensures
    ∙ ap (λ k. bytes_at c.args.bytes.now k c.args.at) c.bytes-size.ensures
