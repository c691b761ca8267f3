-- `text::put_number` meets its contract: the digits still to put stand in front of those that are there.
use native.Mathlib.Omega.{arith}
use mathlib.Core.Path.{◌≡◌, sym, ◌∙◌}
use Prim.Native.Nat.{◌-◌}
use lib.ListN.{length-set}
use Rattle.model.specs.Text.{last_digits}
use Rattle.text.proofs.Putting.{put_ends, digit_last, digit_more, digits_none}
use Rattle.text.proofs.put_number.Goals as goal

pub returns-then-rest-lt10 : goal.returns-then-rest-lt10
returns-then-rest-lt10 c =
    let q = c.loop-i.auto.out in
    let e = sym (digit_last c.loop-i.out c.loop-i.i (c.args.end - c.args.most) c.loop-i.rest (omega arith) (omega arith) c.if-rest-lt10.true)
    ∙ c.loop-i.invariant.1 in
    record {
      n_value = put_ends _ c.args.out.now (last_digits c.args.most c.args.n) _ c.args.end (omega arith) (omega arith) (simp length-set q) e;
      out_after = e;
    }

pub loop-i-preserved : goal.loop-i-preserved
loop-i-preserved c =
    let q = c.loop-i.auto.out in
    (omega arith, digit_more c.loop-i.out c.loop-i.i (c.args.end - c.args.most) c.loop-i.rest (omega arith) (omega arith) c.if-rest-lt10.false ∙ c.loop-i.invariant.1)

pub returns : goal.returns
returns c =
    let e : c.loop-i.i ≡ c.args.end - c.args.most = omega arith in
    let f = rw e at (sym (digits_none c.loop-i.out c.loop-i.i (c.args.end - c.args.most) c.loop-i.rest (omega arith)) ∙ c.loop-i.invariant.1) in
    record {
      n_value = put_ends c.loop-i.out c.args.out.now (last_digits c.args.most c.args.n) _ c.args.end (omega arith) (omega arith) c.loop-i.auto.out f;
      out_after = f;
    }
