use Rattle.std.proofs.Common.{◌+◌, ◌*◌, ◌^◌, ◌<◌, get_or, add-one, arith, lit<}
use Rattle.chunk_codec.proofs.BigEndian.{big_endian_none, big_endian_step, room_for_byte, more_bytes}
use Rattle.chunk_codec.proofs.numbers.number.Goals as goal

pub loop-byte-init : goal.loop-byte-init
loop-byte-init c = record { spelled = big_endian_none 0; bound = lit< tt }

pub overflow_mul-number : goal.overflow_mul-number
overflow_mul-number c =
    let room : c.loop-byte.number * 256 + 0 < 2 ^ 128 =
    room_for_byte c.loop-byte.byte-index c.loop-byte.number 0 (omega arith) c.loop-byte.invariant.bound (lit< tt) in
    omega arith

pub overflow_add-number : goal.overflow_add-number
overflow_add-number c =
    let byte : c.from.result < 256 = rw c.from.ensures (omega (arith, c.type_inv.bytes c.loop-byte.byte-index)) in
    let room : c.loop-byte.number * 256 + c.from.result < 2 ^ 128 =
    room_for_byte c.loop-byte.byte-index c.loop-byte.number c.from.result (omega arith) c.loop-byte.invariant.bound byte in
    omega arith

pub loop-byte-preserved : goal.loop-byte-preserved
loop-byte-preserved c =
    let byte : get_or c.args.bytes.now c.loop-byte.byte-index 0 < 256 = omega (arith, c.type_inv.bytes c.loop-byte.byte-index) in
    let bytes = c.args.bytes.now in
    let i = c.loop-byte.byte-index in
    let n = c.loop-byte.number in
    rw (add-one, c.from.ensures)
    (record {
      spelled = big_endian_step bytes i n c.loop-byte-test.true byte c.loop-byte.invariant.spelled;
      bound = more_bytes i n (get_or bytes i 0) c.loop-byte.invariant.bound byte;
    })
