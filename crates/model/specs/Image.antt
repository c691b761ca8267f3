-- What a restart can see of the devices, and the pages that it makes of that.
use Rattle.std.specs.Prelude.{ℕ, zero, suc, ◌+◌, ◌-◌, List, [], cond, length, get_or}
use Rattle.std.proofs.lemmas.List.Edits.{sets}
use Rattle.model.specs.declared.Sizes.{Sizes}
use Rattle.model.specs.Below.{list_below}
use Rattle.model.specs.Word.{part, xored}
use Rattle.model.specs.Sizes.{total, slot_base}
use Rattle.model.specs.Anchor.{epoch_on, sizes_on, start_on, backup_at}
use Rattle.model.specs.Record.{change, close}
use Rattle.model.specs.Decode.{read_log, span}
use Rattle.model.specs.Scan.{Scan, end, bad, item, scan, fate_in}
use Rattle.model.specs.World.{World}
use Rattle.model.specs.Causes.{tail_in}
use Rattle.model.specs.Restart.{replays}

-- The sizes, c, the current backup, and for each disk the current start and the words of the retained log.
pub record Image : Type 0 where
  pub sizes : Sizes
  pub epoch : ℕ
  pub backup : List ℕ
  pub starts : List ℕ
  pub logs : List (List ℕ)

unfoldable pub words_from : Sizes → (start : ℕ → ℕ) → (logs : List ℕ) → ℕ → List ℕ
words_from s start logs disk =
    let tail : ℕ = tail_in s logs disk in
    span (read_log s logs disk tail []) (start disk) (tail - start disk)

abbrev pub retained_words : Sizes → World → ℕ → List ℕ
retained_words s w = words_from s (start_on w.anchor) w.logs

-- by a checkpoint's number and its row of starts: the current one's in a restart
unfoldable pub image_from : Sizes → (epoch : ℕ) → (start : ℕ → ℕ) → (backups logs : List ℕ) → Image
image_from s c start backups logs =
    record {
      sizes = s;
      epoch = c;
      backup = part (backup_at s c) (total s) backups;
      starts = list_below start s.disks;
      logs = list_below (words_from s start logs) s.disks;
    }

unfoldable pub image_of : World → Image
image_of w = image_from (sizes_on w.anchor) (epoch_on w.anchor) (start_on w.anchor) w.backups w.logs

-- a difference XORed in at a place
unfoldable pub xor_at : ℕ → List ℕ → List ℕ → List ℕ
xor_at at diff words = sets words at (xored at diff words)

-- the records of a log replayed by 01's rule, first to last (replayed_word in proofs/Restart/Gain.antt: what becomes of each word)
unfoldable pub replayed : Sizes → ℕ → Scan → List ℕ → List ℕ
replayed s c end words = words
replayed s c (bad p) words = words
replayed s c (item p (close kind number) rest) words = replayed s c rest words
replayed s c (item p (change kind page slot number copy diff) rest) words =
    replayed s c rest (cond (replays c (fate_in number rest) copy) (xor_at (slot_base s page slot) diff words) words)

-- a log of the image, read from its start to its tail
unfoldable pub log_of : Image → ℕ → Scan
log_of i disk =
    let start : ℕ = get_or i.starts disk 0 in
    let log : List ℕ = get_or i.logs disk [] in
    scan i.sizes (λ p. get_or log (p - start) 0) (start + length log) start

-- the logs of the disks below n
unfoldable pub replayed_below : Image → ℕ → List ℕ → List ℕ
replayed_below i zero words = words
replayed_below i (suc n) words = replayed i.sizes i.epoch (log_of i n) (replayed_below i n words)

-- the pages that a restart makes: the backup, then each log (replay_order: whatever the order of its steps)
unfoldable pub restarted : Image → List ℕ
restarted i = replayed_below i i.sizes.disks i.backup
