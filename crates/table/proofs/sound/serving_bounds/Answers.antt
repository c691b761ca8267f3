-- `table::sound::serving_bounds` meets its contract: by cases on the first test. Assumes nothing.
use mathlib.Core.Bool.{and-false, and-true}
use mathlib.Core.Path.{refl, sym, ◌∙◌}
use Rattle.model.specs.Below.{all_below}
use Rattle.model.specs.State.{disk_sound}
use Rattle.table.proofs.Tests.{disks_computed, places_parts}
use Rattle.table.proofs.sound.serving_bounds.Goals as goal

pub places_sound-requires : goal.places_sound-requires
places_sound-requires c = (c.requires, refl)

pub returns-then-not-places_sound : goal.returns-then-not-places_sound
returns-then-not-places_sound c =
    let core = c.args.core in
    let places = places_parts core c.places_sound.ensures.value in
    rw (sym places ∙ c.if-not-places_sound.true) (sym (and-false (all_below (disk_sound core) core.sizes.disks)))

pub returns : goal.returns
returns c =
    let core = c.args.core in
    let passed = c.if-not-places_sound.false in
    let places = places_parts core c.places_sound.ensures.value in
    let disks = disks_computed core _ (c.places_sound.ensures.d_after passed) core.sizes.disks c.requires in
    rw (sym places ∙ passed, disks ∙ sym c.disks_sound.ensures) (sym (and-true c.disks_sound.result))
