-- The whole test of a state, as it is made.
use mathlib.Core.Path.{◌≡◌, refl, sym}
use mathlib.Core.Bool.{true, cond, ◌&&◌, and-true}
use Rattle.model.specs.declared.Stage.{Stage}
use Rattle.model.specs.declared.Stage.TheVariants.{Shut, Replaying, Open, Copying}
use Rattle.model.specs.declared.Core.{Core}
use Rattle.model.specs.State.{serving_sound, checkpoint_sound, replay_sound, sound_in, sound}
use Rattle.model.specs.Causes.{when_shut, when_replaying, when_open}

-- stage by stage
pub sound_by_stage : (c : Core)
    → sound c
    ≡ cond (when_shut c.stage) true
    (cond (when_replaying c.stage) (replay_sound c) (serving_sound c && cond (when_open c.stage) true (checkpoint_sound c)))
unfolding sound
sound_by_stage c = go c.stage
  where
    go : (g : Stage)
        → sound_in g c
        ≡ cond (when_shut g) true
        (cond (when_replaying g) (replay_sound c) (serving_sound c && cond (when_open g) true (checkpoint_sound c)))
    go Shut = refl
    go Replaying = refl
    go Open = sym (and-true (serving_sound c))
    go Copying = refl
