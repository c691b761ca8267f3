-- `restart::step::take_record` meets its contract: by the record at the position, and by its transaction's fate. Assumes nothing.
use mathlib.Core.Path.{refl}
use mathlib.Core.List.{[]}
use native.Mathlib.Omega.{arith}
use Rattle.model.specs.Word.{part}
use Rattle.model.specs.State.{tail_of}
use Rattle.model.specs.View.{core_of}
use Rattle.model.proofs.Parts.{length_part}
use Rattle.model.proofs.View.Head.{own_long}
use Rattle.replay.proofs.Facts.{eight, tail_low, extent_asked}
use Rattle.restart.proofs.Extents.{log_readable, slot_place_lem, slot_fits_lem, difference_ends}
use Rattle.restart.proofs.Records.{of_log, extent_is, taken_malformed, taken_close, taken_unreadable, taken_change, changed, slot_at, slot_small}
use Rattle.restart.proofs.step.take_record.Goals as goal

pub offset_bounds-carried-disk : goal.offset_bounds-carried-disk
offset_bounds-carried-disk c = let few = eight c.requires.0.on in omega arith

pub bounds-carried-disk : goal.bounds-carried-disk
bounds-carried-disk c = eight c.requires.0.on

pub slice_bounds-slots-end : goal.slice_bounds-slots-end
slice_bounds-slots-end c = omega (arith, own_long _ _ c.requires.0.own)

pub slice_bounds-widths-end : goal.slice_bounds-widths-end
slice_bounds-widths-end c = omega (arith, own_long _ _ c.requires.0.own)

pub disk_at-requires : goal.disk_at-requires
unfolding core_of
disk_at-requires c = extent_asked c.requires.0.on

pub decode_at-here-requires : goal.decode_at-here-requires
unfolding tail_of core_of part
decode_at-here-requires c =
    let x = c.args in
    let is = extent_is x.carried x.work.now x.disk (c.disk_at.ensures.0 (core_of x.carried x.work.now).sizes refl) in
    let long = own_long _ _ c.requires.0.own in
    (length_part 0 64 x.work.now (omega (arith, long)), length_part 64 64 x.work.now (omega (arith, long)), log_readable c.requires.0.on is, c.requires.2)

pub fate_from-fate-requires : goal.fate_from-fate-requires
unfolding tail_of core_of part
fate_from-fate-requires c =
    let x = c.args in
    let is = extent_is x.carried x.work.now x.disk (c.disk_at.ensures.0 (core_of x.carried x.work.now).sizes refl) in
    let long = own_long _ _ c.requires.0.own in
    (length_part 0 64 x.work.now (omega (arith, long)), length_part 64 64 x.work.now (omega (arith, long)), log_readable c.requires.0.on is, of_log c.requires.0 is)

pub returns-in-Unreadable : goal.returns-in-Unreadable
unfolding tail_of core_of part
returns-in-Unreadable c =
    let x = c.args in
    let is = extent_is x.carried x.work.now x.disk (c.disk_at.ensures.0 (core_of x.carried x.work.now).sizes refl) in
    λ anchor backups body.
    taken_unreadable c.requires.0 is c.requires.1 c.requires.2 anchor backups body c.decode_at-here.ensures c.in-Change.is c.fate_from-fate.ensures c.in-Unreadable.is

pub overflow_add-at : goal.overflow_add-at
unfolding tail_of core_of part
overflow_add-at c =
    let x = c.args in
    let is = extent_is x.carried x.work.now x.disk (c.disk_at.ensures.0 (core_of x.carried x.work.now).sizes refl) in
    let e = changed c.requires.0 is c.requires.1 c.requires.2 [] [] [] c.decode_at-here.ensures c.in-Change.is in
    omega (arith, (slot_place_lem c.requires.0.on _ e).0)

pub offset_bounds-work-page : goal.offset_bounds-work-page
unfolding tail_of core_of part
offset_bounds-work-page c =
    let x = c.args in
    let is = extent_is x.carried x.work.now x.disk (c.disk_at.ensures.0 (core_of x.carried x.work.now).sizes refl) in
    let e = changed c.requires.0 is c.requires.1 c.requires.2 [] [] [] c.decode_at-here.ensures c.in-Change.is in
    omega (arith, (slot_place_lem c.requires.0.on _ e).0)

pub bounds-work-page : goal.bounds-work-page
unfolding tail_of core_of part
bounds-work-page c =
    let x = c.args in
    let is = extent_is x.carried x.work.now x.disk (c.disk_at.ensures.0 (core_of x.carried x.work.now).sizes refl) in
    let e = changed c.requires.0 is c.requires.1 c.requires.2 [] [] [] c.decode_at-here.ensures c.in-Change.is in
    omega (arith, (slot_place_lem c.requires.0.on _ e).0, own_long _ _ c.requires.0.own)

pub overflow_mul-at : goal.overflow_mul-at
unfolding tail_of core_of part
overflow_mul-at c =
    let x = c.args in
    let is = extent_is x.carried x.work.now x.disk (c.disk_at.ensures.0 (core_of x.carried x.work.now).sizes refl) in
    omega (arith, slot_small c.requires.0 is c.requires.1 c.requires.2 [] [] [] c.decode_at-here.ensures c.in-Change.is)

pub overflow_add-at-in-Change : goal.overflow_add-at-in-Change
unfolding tail_of core_of part
overflow_add-at-in-Change c =
    let x = c.args in
    let is = extent_is x.carried x.work.now x.disk (c.disk_at.ensures.0 (core_of x.carried x.work.now).sizes refl) in
    let e = changed c.requires.0 is c.requires.1 c.requires.2 [] [] [] c.decode_at-here.ensures c.in-Change.is in
    let at = slot_at c.requires.0 is c.requires.1 c.requires.2 [] [] [] c.decode_at-here.ensures c.in-Change.is in
    omega (arith, slot_fits_lem c.requires.0.on _ e at)

pub overflow_add-from : goal.overflow_add-from
unfolding tail_of core_of part
overflow_add-from c =
    let x = c.args in
    let is = extent_is x.carried x.work.now x.disk (c.disk_at.ensures.0 (core_of x.carried x.work.now).sizes refl) in
    let e = changed c.requires.0 is c.requires.1 c.requires.2 [] [] [] c.decode_at-here.ensures c.in-Change.is in
    omega (arith, difference_ends c.requires.0.on _ e, tail_low c.requires.0.on, c.requires.1)

pub replay_span-requires : goal.replay_span-requires
unfolding tail_of core_of part
replay_span-requires c =
    let x = c.args in
    let is = extent_is x.carried x.work.now x.disk (c.disk_at.ensures.0 (core_of x.carried x.work.now).sizes refl) in
    let e = changed c.requires.0 is c.requires.1 c.requires.2 [] [] [] c.decode_at-here.ensures c.in-Change.is in
    let at = slot_at c.requires.0 is c.requires.1 c.requires.2 [] [] [] c.decode_at-here.ensures c.in-Change.is in
    (log_readable c.requires.0.on is, slot_fits_lem c.requires.0.on _ e at, omega (arith, difference_ends c.requires.0.on _ e, c.requires.1))

pub returns-in-Malformed : goal.returns-in-Malformed
unfolding tail_of core_of part
returns-in-Malformed c =
    let x = c.args in
    let is = extent_is x.carried x.work.now x.disk (c.disk_at.ensures.0 (core_of x.carried x.work.now).sizes refl) in
    λ anchor backups body. taken_malformed c.requires.0 is c.requires.1 c.requires.2 anchor backups body c.decode_at-here.ensures c.in-Malformed.is

pub returns-in-Close : goal.returns-in-Close
unfolding tail_of core_of part
returns-in-Close c =
    let x = c.args in
    let is = extent_is x.carried x.work.now x.disk (c.disk_at.ensures.0 (core_of x.carried x.work.now).sizes refl) in
    λ anchor backups body. taken_close c.requires.0 is c.requires.1 c.requires.2 anchor backups body c.decode_at-here.ensures c.in-Close.is

pub returns-in_default : goal.returns-in_default
unfolding tail_of core_of part
returns-in_default c =
    let x = c.args in
    let is = extent_is x.carried x.work.now x.disk (c.disk_at.ensures.0 (core_of x.carried x.work.now).sizes refl) in
    λ anchor backups body.
    taken_change c.requires.0 is c.requires.1 c.requires.2 anchor backups body c.decode_at-here.ensures c.in-Change.is c.fate_from-fate.ensures
    (λ p told. c.in_default.not-Unreadable p told) c.is_replayed-replays.ensures _
    (slot_at c.requires.0 is c.requires.1 c.requires.2 [] [] [] c.decode_at-here.ensures c.in-Change.is) c.replay_span.ensures
