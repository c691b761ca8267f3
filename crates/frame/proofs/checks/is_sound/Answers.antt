-- `frame::checks::is_sound` meets its contract: by cases on the stage. Assumes nothing.
use mathlib.Core.Path.{refl, sym, ◌∙◌}
use Rattle.model.proofs.Bounds.{bounded}
use Rattle.model.proofs.Store.Rows.{sizes_sound}
use Rattle.frame.proofs.Passing.{sound_by_stage}
use Rattle.frame.proofs.checks.is_sound.Goals as goal

pub returns-then-is_shut : goal.returns-then-is_shut
returns-then-is_shut c =
    rw (sound_by_stage c.args.core, ← c.is_shut.ensures, c.if-is_shut.true) refl

pub returns-then-is_replaying : goal.returns-then-is_replaying
returns-then-is_replaying c =
    rw (
      sound_by_stage c.args.core,
      ← c.is_shut.ensures,
      c.if-is_shut.false,
      ← c.is_replaying.ensures,
      c.if-is_replaying.true,
    )
    c.replay_sound.ensures

pub returns-then-not-serving_sound : goal.returns-then-not-serving_sound
returns-then-not-serving_sound c =
    rw (
      sound_by_stage c.args.core,
      ← c.is_shut.ensures,
      c.if-is_shut.false,
      ← c.is_replaying.ensures,
      c.if-is_replaying.false,
      ← c.serving_sound.ensures,
      c.if-not-serving_sound.true,
    )
    refl

pub returns-then-is_open : goal.returns-then-is_open
returns-then-is_open c =
    rw (
      sound_by_stage c.args.core,
      ← c.is_shut.ensures,
      c.if-is_shut.false,
      ← c.is_replaying.ensures,
      c.if-is_replaying.false,
      ← c.serving_sound.ensures,
      c.if-not-serving_sound.false,
      ← c.is_open.ensures,
      c.if-is_open.true,
    )
    refl

pub checkpoint_bounds-requires : goal.checkpoint_bounds-requires
checkpoint_bounds-requires c =
    (bounded _ (sizes_sound _ (sym c.serving_sound.ensures ∙ c.if-not-serving_sound.false))).disks_max

pub returns : goal.returns
returns c =
    rw (
      sound_by_stage c.args.core,
      ← c.is_shut.ensures,
      c.if-is_shut.false,
      ← c.is_replaying.ensures,
      c.if-is_replaying.false,
      ← c.serving_sound.ensures,
      c.if-not-serving_sound.false,
      ← c.is_open.ensures,
      c.if-is_open.false,
    )
    c.checkpoint_bounds.ensures
