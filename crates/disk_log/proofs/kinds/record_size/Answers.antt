-- `disk_log::kinds::record_size` meets its contract: each arm is a line of the record table.
use mathlib.Core.Path.{sym}
use native.Mathlib.Omega.{arith}
use Rattle.model.proofs.RecordSizes.{record_sizes}
use Rattle.disk_log.proofs.kinds.record_size.Goals as goal

pub returns-in-0 : goal.returns-in-0
returns-in-0 c = rw c.in-0.is (sym (record_sizes.update _))

pub returns-in-1 : goal.returns-in-1
returns-in-1 c = rw c.in-1.is (sym (record_sizes.compensation _))

pub returns-in-2 : goal.returns-in-2
returns-in-2 c = rw c.in-2.is (sym (record_sizes.commit _))

pub returns-in-3 : goal.returns-in-3
returns-in-3 c = rw c.in-3.is (sym (record_sizes.abort _))

pub returns-in_default : goal.returns-in_default
returns-in_default c =
    let r = c.in_default.in_default-own.rest in
    sym (record_sizes.above _ _ (omega (arith, r.0.0.0.1, r.0.0.1, r.0.1, r.1)))
