-- `bench::stream::product` is safe and ends. Assumes nothing.
use Rattle.std.proofs.Common.{◌%◌, ◌≤◌, mul-le-mul_right, arith}
use Rattle.bench.proofs.stream.product.Goals as goal

pub overflow_mul-result : goal.overflow_mul-result
overflow_mul-result c =
    let h : c.args.a % 4294967296 ≤ 4294967295 = omega arith in
    omega (arith, mul-le-mul_right (c.args.b % 4294967296) h)
