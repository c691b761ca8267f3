-- `run::fault::record_fault` meets its contract: by the record, and by its transaction's fate.
use mathlib.Core.Path.{refl, sym}
use mathlib.Core.Logic.{inl, inr}
use native.Mathlib.Omega.{arith}
use Rattle.disk_log.specs.Ring.{read_ring}
use Rattle.disk_log.proofs.Rings.{entries_long}
use Rattle.disk_log.proofs.Scanning.{fate_change}
use Rattle.replay.proofs.Stepping.{fate_sound}
use Rattle.run.proofs.Faults.{fault_ahead, fault_close, fault_malformed}
use Rattle.run.proofs.Memory.{remembers_begun, remembers_later}
use Rattle.run.proofs.fault.record_fault.Goals as goal

pub nonzero_rem-at : goal.nonzero_rem-at
nonzero_rem-at c = omega (arith, c.requires.2.ring_min)

pub decode_ring-requires : goal.decode_ring-requires
decode_ring-requires c =
    let pre = c.requires in
    let long = entries_long pre.1 in
    (long.0, long.1, pre.2, record { before_tail = pre.3; at_is = refl })

pub first_fate-fate-requires : goal.first_fate-fate-requires
first_fate-fate-requires c = let pre = c.requires in (pre.0, pre.1, pre.2)

pub returns-in-Closed : goal.returns-in-Closed
returns-in-Closed c =
    let a = c.args in
    λ s e.
    let dec = c.decode_ring.ensures s e in
    let told = c.first_fate-fate.ensures s e in (
      fault_ahead s (read_ring a.ring.now) a.tail a.disk a.p dec c.in-Change.is told.0
          (fate_sound a.disk c.first_fate-fate.result (λ q x. elim c.in-Closed.is [ inl a ↦ cc | inr a ↦ cc ])),
      remembers_later (λ n. sym (fate_change _ _ _ dec c.requires.3 n c.in-Change.is)) told.1,
    )

pub returns-in-Unreadable : goal.returns-in-Unreadable
returns-in-Unreadable c =
    let a = c.args in
    λ s e.
    let dec = c.decode_ring.ensures s e in
    let told = c.first_fate-fate.ensures s e in (
      fault_ahead s (read_ring a.ring.now) a.tail a.disk a.p dec c.in-Change.is told.0 (rw c.in-Unreadable.is),
      remembers_later (λ n. sym (fate_change _ _ _ dec c.requires.3 n c.in-Change.is)) told.1,
    )

pub returns-in-Close : goal.returns-in-Close
returns-in-Close c =
    let a = c.args in
    λ s e. (fault_close s (read_ring a.ring.now) a.tail a.disk a.p (c.decode_ring.ensures s e) c.in-Close.is, remembers_begun c.requires.0 _)

pub returns-in-Malformed : goal.returns-in-Malformed
returns-in-Malformed c =
    let a = c.args in
    λ s e. (fault_malformed s (read_ring a.ring.now) a.tail a.disk a.p (c.decode_ring.ensures s e) c.in-Malformed.is, remembers_begun c.requires.0 _)
