-- Another table of classes: nothing that holds of a state speaks of it, so all of it goes on to hold.
use mathlib.Core.Path.{◌≡◌, refl}
use mathlib.Core.List.{List}
use Prim.Native.Nat.{ℕ}
use Rattle.model.specs.declared.Stage.{Stage}
use Rattle.model.specs.declared.Stage.TheVariants.{Shut, Replaying, Open, Copying}
use Rattle.model.specs.declared.Classes.{Classes}
use Rattle.model.specs.declared.Core.{Core}
use Rattle.model.specs.World.{World}
use Rattle.model.specs.State.{with_classes, base_of, bases_right, disk_sound, place_sound, serving_sound, checkpoint_sound, replay_sound, sound_in, sound}
use Rattle.model.specs.Reference.{Reference}
use Rattle.model.specs.History.{Told}
use Rattle.model.proofs.Ledger.Entry.{Entry}
use Rattle.model.proofs.Store.View.{view, before, Serving, Served}
use Rattle.model.proofs.Store.Same.{devices_same, accounts_same, sets_same, owners_same}

-- the test of a state
pub classes_sound : (c : Core) (t : Classes) → sound (with_classes c t) ≡ sound c
unfolding sound serving_sound bases_right base_of disk_sound place_sound checkpoint_sound replay_sound
classes_sound c t = go c.stage
  where
    go : (s : Stage) → sound_in s (with_classes c t) ≡ sound_in s c
    go Shut = refl
    go Replaying = refl
    go Open = refl
    go Copying = refl

-- what holds of an open store
classes_serving : {home : ℕ → ℕ} {puts : Told} {c : Core} {w : World} {r : Reference} {F B : List Entry} (t : Classes)
    → Serving 0 home puts c w r F B → Serving 0 home puts (with_classes c t) w r F B
unfolding view before
classes_serving t v =
    record {
      stage = v.stage;
      safe = record {
        devices = devices_same refl refl refl refl refl v.safe.devices.lengths v.safe.devices;
        good = v.safe.good;
        link = v.safe.link;
        ordered = v.safe.ordered;
        fit = v.safe.fit;
        ends = v.safe.ends;
        sizes = v.safe.sizes;
        shaped = v.safe.shaped;
      };
      accounts = accounts_same refl refl refl refl v.accounts;
      copies = record { copied = v.copies.copied; pages = v.copies.pages; capped = v.copies.capped; early = v.copies.early; ends = v.copies.ends };
      sets = sets_same refl refl v.sets;
      owners = owners_same v.safe.devices.bounds refl refl refl (λ i h. refl) v.owners;
      told = v.told;
      marks = v.marks;
    }

pub classes_serve : {puts : Told} {c : Core} {w : World} {r : Reference} → Served puts c w r → (t : Classes) → Served puts (with_classes c t) w r
classes_serve s t = record { home = s.home; flushed = s.flushed; buffered = s.buffered; serving = classes_serving t s.serving }
