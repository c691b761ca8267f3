-- `run::record::take_record` meets its contract: what stands at p, and its transaction's fate.
use Prim.Native.Nat.{◌+◌}
use mathlib.Core.Path.{refl, sym}
use native.Mathlib.Omega.{arith}
use Rattle.disk_log.proofs.Scanning.{got_change, got_close, fate_change, fate_other}
use Rattle.disk_log.proofs.Rings.{entries_long, within, change_short, close_short}
use Rattle.run.proofs.Facts.{slot_sum}
use Rattle.run.proofs.Memory.{remembers_later}
use Rattle.run.proofs.Taking.{takes_malformed, takes_close, takes_unreadable, takes_change}
use Rattle.run.proofs.record.take_record.Goals as goal

pub decode_ring-requires : goal.decode_ring-requires
decode_ring-requires c =
    let pre = c.requires in
    let long = entries_long (record { sizes = pre.3.sizes; are = pre.3.are.entries }) in
    (long.0, long.1, pre.0, pre.1)

pub recall-fate-requires : goal.recall-fate-requires
recall-fate-requires c =
    let pre = c.requires in
    (record { sizes = pre.3.sizes; are = pre.3.are.entries }, pre.0)

pub returns-in-Unreadable : goal.returns-in-Unreadable
returns-in-Unreadable c =
    let pre = c.requires in
    record {
      onward = tt;
      takes = λ s laid m.
          let dec = c.decode_ring.ensures s laid.entries in
          let e = c.in-Change.is in
          let told = c.recall-fate.ensures s laid.entries (remembers_later (λ n. fate_change _ _ _ dec pre.1.before_tail n e) m) in
          takes_unreadable s _ _ _ _ dec _ e told.0 c.in-Unreadable.is;
    }

pub offset_bounds-bases-page : goal.offset_bounds-bases-page
offset_bounds-bases-page c =
    let pre = c.requires in
    let laid = pre.3 in
    let got = got_change _ _ _ (c.decode_ring.ensures laid.sizes laid.are.entries) c.in-Change.is in
    omega (arith, got.page_lt)

pub bounds-bases-page : goal.bounds-bases-page
bounds-bases-page c =
    let pre = c.requires in
    let laid = pre.3 in
    let got = got_change _ _ _ (c.decode_ring.ensures laid.sizes laid.are.entries) c.in-Change.is in
    omega (arith, got.page_lt, pre.2)

pub overflow_mul-to : goal.overflow_mul-to
overflow_mul-to c =
    let pre = c.requires in
    let laid = pre.3 in
    let got = got_change _ _ _ (c.decode_ring.ensures laid.sizes laid.are.entries) c.in-Change.is in
    omega (arith, (slot_sum laid.sizes laid.are.entries.bounds got refl).0)

pub overflow_add-to : goal.overflow_add-to
overflow_add-to c =
    let pre = c.requires in
    let laid = pre.3 in
    let got = got_change _ _ _ (c.decode_ring.ensures laid.sizes laid.are.entries) c.in-Change.is in
    let sum = slot_sum laid.sizes laid.are.entries.bounds got (laid.are.base _ got.page_lt) in
    omega (arith, sum.1, sum.2, sum.3)

pub advance-from-requires : goal.advance-from-requires
advance-from-requires c =
    let ring = c.requires.0 in
    (within ring c.args.p c.requires.1.at_is, omega (arith, ring.ring_min), ring.ring_max)

pub replay_ring-requires : goal.replay_ring-requires
replay_ring-requires c =
    let pre = c.requires in
    let laid = pre.3 in
    let got = got_change _ _ _ (c.decode_ring.ensures laid.sizes laid.are.entries) c.in-Change.is in
    let sum = slot_sum laid.sizes laid.are.entries.bounds got (laid.are.base _ got.page_lt) in
    let short = change_short _ laid.are.entries.bounds got in
    (c.advance-from.ensures.0, omega (arith, pre.0.ring_min, short.1, got.next_eq), omega (arith, sum.1, sum.2, laid.are.words))

pub returns-in_default : goal.returns-in_default
returns-in_default c =
    let pre = c.requires in
    let laid = pre.3 in
    let got = got_change _ _ _ (c.decode_ring.ensures laid.sizes laid.are.entries) c.in-Change.is in
    let short = change_short _ laid.are.entries.bounds got in
    record {
      onward = short;
      takes = λ s laid m.
          let dec = c.decode_ring.ensures s laid.entries in
          let e = c.in-Change.is in
          let told = c.recall-fate.ensures s laid.entries (remembers_later (λ n. fate_change _ _ _ dec pre.1.before_tail n e) m) in
          let change = got_change _ _ _ dec e in
          let sum = slot_sum s laid.entries.bounds change (laid.base _ change.page_lt) in
          let after = rw sum.1 at (c.replay_ring.ensures (c.args.p + 3) (c.advance-from.ensures.1 _ pre.1.at_is)) in
          (takes_change s _ _ _ _ dec _ e told.0 (λ q x. c.in_default.not-Unreadable q x) c.is_replayed-replays.ensures after, told.1);
    }

pub returns-in-Close : goal.returns-in-Close
returns-in-Close c =
    let pre = c.requires in
    let laid = pre.3 in
    let short = close_short (got_close _ _ _ (c.decode_ring.ensures laid.sizes laid.are.entries) c.in-Close.is) in
    record {
      onward = short;
      takes = λ s laid m.
          let dec = c.decode_ring.ensures s laid.entries in
          let e = c.in-Close.is in
          (takes_close s _ _ _ _ dec _ e, c.forget.ensures _ _ (λ n ne. fate_other _ _ _ dec pre.1.before_tail n e (λ x. ne (sym x))) m);
    }

pub returns-in-Malformed : goal.returns-in-Malformed
returns-in-Malformed c =
    record { onward = tt; takes = λ s laid m. takes_malformed s _ _ _ _ (c.decode_ring.ensures s laid.entries) _ c.in-Malformed.is }
