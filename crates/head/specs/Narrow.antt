-- A state by value has bytes for slots and widths, and 16 bits for bases; the head has whole words. A word that is too large becomes the
-- largest number that fits, which is as far out of bounds: see proofs/Alike.antt.
use Rattle.std.specs.Prelude.{ℕ, min, List, map}
use Rattle.model.specs.declared.Core.{Core}

unfoldable pub capped : (most : ℕ) → List ℕ → List ℕ
capped most words = map (min most) words

abbrev pub byte_most : ℕ
byte_most = 255

abbrev pub base_most : ℕ
base_most = 65535

unfoldable pub narrowed : Core → Core
narrowed c =
    record {
      stage = c.stage;
      sizes =
          record {
            pages = c.sizes.pages;
            disks = c.sizes.disks;
            ring = c.sizes.ring;
            slots = capped byte_most c.sizes.slots;
            widths = capped byte_most c.sizes.widths;
          };
      bases = record { pages = capped base_most c.bases.pages; total = c.bases.total };
      epoch = c.epoch;
      logs = c.logs;
      table = c.table;
      next = c.next;
      checkpoint = c.checkpoint;
      replay = c.replay;
      classes = c.classes;
    }
