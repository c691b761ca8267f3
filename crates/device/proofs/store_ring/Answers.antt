-- `device::store_ring` meets its contract: in one run, or in two around the ring's end. Assumes nothing.
use mathlib.Core.Path.{refl}
use native.Mathlib.Omega.{arith}
use native.Mathlib.Nat.{mod-lt}
use borrow.Author.Rules.{rules}
use Rattle.device.proofs.Ring.{one_run, first_run_cut, two_runs}
use Rattle.device.proofs.store_ring.Goals as goal

pub overflow_sub-run : goal.overflow_sub-run
overflow_sub-run c = omega (arith, mod-lt c.args.tail c.requires.ring_nonzero.0)

pub overflow_add-first : goal.overflow_add-first
overflow_add-first c = omega (arith, mod-lt c.args.tail c.requires.ring_nonzero.0)

pub store_copy-requires : goal.store_copy-requires
store_copy-requires c =
    record {
      n_in_bounds = omega (arith, mod-lt c.args.tail c.requires.ring_nonzero.0);
      n_in_bounds_2 = search rules;
    }

pub returns-then-n-run : goal.returns-then-n-run
returns-then-n-run c =
    one_run c.args.first c.args.ring c.args.tail c.args.from c.args.n c.args.source.now (search rules)
    (omega (arith, mod-lt c.args.tail c.requires.ring_nonzero.0)) c.store_copy.ensures

pub overflow_add-first-2 : goal.overflow_add-first-2
overflow_add-first-2 c = omega (arith, mod-lt c.args.tail c.requires.ring_nonzero.0)

pub store_copy-requires-2 : goal.store_copy-requires-2
store_copy-requires-2 c =
    record {
      n_in_bounds = omega (arith, mod-lt c.args.tail c.requires.ring_nonzero.0);
      n_in_bounds_2 = omega arith;
    }

pub returns-then-not-store_copy : goal.returns-then-not-store_copy
returns-then-not-store_copy c =
    first_run_cut c.args.first c.args.ring c.args.tail c.args.from c.args.n c.args.source.now (search rules)
    c.requires.ring_nonzero.0 refl (omega (arith, c.if-n-run.false)) c.store_copy-2.ensures (c.if-not-store_copy.true)

pub returns : goal.returns
returns c =
    two_runs c.args.first c.args.ring c.args.tail c.args.from c.args.n c.args.source.now (search rules)
    c.requires.ring_nonzero.0 refl (omega (arith, c.if-n-run.false)) c.store_copy-2.ensures (c.if-not-store_copy.false) c.requires.ring_nonzero.1
    c.store_copy-3.ensures
