-- Format: its rows by the tests of the code.
use mathlib.Core.Path.{◌≡◌, refl, sym}
use mathlib.Core.Bool.{Bool, true, false}
use lib.ListN.{length}
use borrow.Author.Tests.{eq-eqb, ne_eqb}
use Rattle.model.specs.declared.Sizes.{Sizes}
use Rattle.model.specs.declared.Bases.{Bases}
use Rattle.model.specs.declared.Core.{Core}
use Rattle.model.specs.Sizes.{total, sizes_in_bounds}
use Rattle.model.specs.World.{World}
use Rattle.model.specs.Memory.{lengths_right}
use Rattle.model.specs.State.{bases_of}
use Rattle.model.specs.Refusal.{verdict, accepted, rejected}
use Rattle.model.specs.Causes.{when_shut, stage_forbids, anchor_wrong, sizes_wrong, lengths_wrong}
use Rattle.model.specs.Format.{format_rows}
use Rattle.model.proofs.Lengths.{lengths_right_lem}
use Rattle.layout.specs.Raw.{lengths_are}
use Rattle.layout.proofs.Laws.{lengths_made}
use Rattle.format.specs.Parts.{Devices, Memories}

module _ (c : Core) (w : World) (s : Sizes) where
  pub format_forbidden : when_shut c.stage ≡ false → verdict (format_rows c w s) ≡ rejected 1 0 0
  unfolding format_rows verdict stage_forbids
  format_forbidden e = rw e refl

  module _ (shut : when_shut c.stage ≡ true) where
    pub format_anchor : (length w.anchor ≡ 148 → ⊥) → verdict (format_rows c w s) ≡ rejected 2 0 0
    unfolding format_rows verdict stage_forbids anchor_wrong
    format_anchor ne = rw (shut, ne_eqb (length w.anchor) 148 ne) refl

    module _ (long : length w.anchor ≡ 148) where
      pub format_sizes : sizes_in_bounds s ≡ false → verdict (format_rows c w s) ≡ rejected 4 0 0
      unfolding format_rows verdict stage_forbids anchor_wrong sizes_wrong
      format_sizes e = rw (shut, eq-eqb (length w.anchor) 148 long, e) refl

      module _ (inside : sizes_in_bounds s ≡ true) where
        pub format_lengths : lengths_right s (total s) w ≡ false → verdict (format_rows c w s) ≡ rejected 5 0 0
        unfolding format_rows verdict stage_forbids anchor_wrong sizes_wrong lengths_wrong
        format_lengths e = rw (shut, eq-eqb (length w.anchor) 148 long, inside, e) refl

        pub format_accepted : lengths_right s (total s) w ≡ true → verdict (format_rows c w s) ≡ accepted
        unfolding format_rows verdict stage_forbids anchor_wrong sizes_wrong lengths_wrong
        format_accepted e = rw (shut, eq-eqb (length w.anchor) 148 long, inside, e) refl

-- What the stores and the memory rely on, of sizes that are those handed to the call.
module _ (s sizes : Sizes) (w : World) (same : sizes ≡ s) where
  pub lengths_tested : {r : Bool} {bases : Bases} → bases ≡ bases_of sizes
      → r ≡ lengths_are sizes.disks sizes.ring bases.total (length w.pages) (length w.backups) (length w.logs) (length w.work)
      → lengths_right s (total s) w ≡ r
  lengths_tested made e = rw (← same) (sym (lengths_made sizes made w e))

  module _ (inside : sizes_in_bounds s ≡ true) (right : lengths_right s (total s) w ≡ true) where
    pub devices_right : length w.anchor ≡ 148 → Devices sizes w.anchor w.backups w.logs
    devices_right long =
        let all = lengths_right_lem s (total s) w right in
        rw same (record { sizes = inside; anchor_words_lem = long; backup_words = all.backups; log_words_lem = all.logs })

    pub memories_right : Memories sizes w.pages w.work
    memories_right =
        let all = lengths_right_lem s (total s) w right in
        rw same (record { sizes = inside; page_words_lem = all.pages; work_words_lem = all.work })
