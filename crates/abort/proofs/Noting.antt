-- The positions from which a transaction's updates are read, 128 at a time; and the groups that are read from them.
use Rattle.std.specs.Prelude.{None, Some}
use Rattle.std.specs.Int.{div_ceil}
use mathlib.Core.Path.{◌≡◌, refl, sym, ap, subst, ◌∙◌}
use mathlib.Core.List.{List, [], ◌∷◌, ◌++◌, Memᴰ}
use Prim.Native.Nat.{ℕ, ◌+◌, ◌*◌, ◌-◌, ◌/◌, ◌≤◌, ◌<◌, min}
use native.Mathlib.Omega.{arith}
use native.Mathlib.Decide.{dec_lt}
use lib.ListN.{length, get_or, take, drop, length-drop}
use lib.Seq.{take_all, take-add}
use Rattle.model.specs.declared.Sizes.{Sizes}
use Rattle.model.specs.declared.Logs.{Logs}
use Rattle.model.specs.Sizes.{ring_of}
use Rattle.model.specs.Scan.{scan, Update, updates_in, update_words}
use Rattle.model.specs.World.{World, world_of}
use Rattle.model.specs.State.{end_of}
use Rattle.model.specs.Abort.{undo_all, ones_undone}
use Rattle.model.proofs.Scan.{scan_cong}
use Rattle.disk_log.specs.declared.updates.Group.{Group}
use Rattle.disk_log.specs.Reading.{positions_in}
use Rattle.disk_log.specs.Front.{Gathered}
use Rattle.abort.specs.declared.notes.Notes.{Notes}
use Rattle.disk_log.specs.declared.write.Tip.{Tip}
use Rattle.abort.specs.Undo.{only_log, Did, reader, log_from, update_read, Undoable}
use Rattle.abort.specs.Groups.{Noted, last_first, Takeable}
use Rattle.abort.proofs.Disks.{bounds}
use Rattle.abort.proofs.Standing.{four_each, listed}
use Rattle.abort.proofs.Pending.{Pending, Counted, pending_counted, pending_takeable, pending_cut, pending_step}

-- the first 128 of a list, by how many they are
take_min : (l : List ℕ) {n : ℕ} → n ≡ min (length l) 128 → take n l ≡ take 128 l
take_min l {n} is = go (dec_lt (length l) 128)
  where
    go : Dec (length l < 128) → take n l ≡ take 128 l
    go (yes h) = take_all n l (omega arith) ∙ sym (take_all 128 l (omega arith))
    go (no h) = let all : n ≡ 128 = omega arith in rw all refl

-- The updates that are found in a log from a position on.
module _ (s : Sizes) (disk number from : ℕ) (l₀ : Logs) (pages₀ logs₀ work₀ : List ℕ)
    (ok : Undoable s l₀ disk number from pages₀ logs₀ work₀) where
  abbrev read : ℕ → ℕ
  read = reader s l₀ disk logs₀ work₀

  abbrev stop : ℕ
  stop = end_of l₀ disk

  abbrev all : List ℕ
  all = positions_in number (scan s read stop from)

  pub all_updates : updates_in number (log_from s l₀ disk logs₀ work₀ from) ≡ last_first (update_read read) all
  unfolding log_from
  all_updates = (listed s read stop number from).updates

  room : stop + update_words (last_first (update_read read) all) ≤ from + ring_of s disk
  room = rw (← all_updates) ok.ring

  pub all_takeable : Takeable s l₀ disk all pages₀ logs₀ work₀
  all_takeable =
      let found = (listed s read stop number from).stand in
      record {
        serving = ok.serving;
        page_words_lem = ok.page_words_lem;
        stands = λ p m. (found p m).1;
        ring = λ p m. omega (arith, room, (found p m).0);
        in_limit = rw (← all_updates) ok.in_limit;
      }

  -- each has four words, and the ring 65,536
  pub all_few : length all ≤ 16384
  unfolding ring_of
  all_few = go all refl
    where
      go : (l : List ℕ) → all ≡ l → length all ≤ 16384
      go [] e = rw e (omega arith)
      go (p ∷ l) e =
          let m : Memᴰ p all = rw e (mathlib.Core.List.Memᴰ.head refl) in
          let words =
          four_each read all (λ q x. let there = (all_takeable.stands q x).slotted in omega (arith, there.width_is, ((bounds ok.serving).used _ there.page_in).width_min)) in
          omega (arith, words, all_takeable.ring p m, (all_takeable.stands p m).inside, (bounds ok.serving).ring_max)

  -- the groups hold all
  pub all_held : {notes : Notes} → Noted number (scan s read stop) from notes → {groups : ℕ} → groups ≡ div_ceil notes.count 128
      → take (128 * groups) all ≡ all
  all_held noted {groups} e = take_all (128 * groups) all (omega (arith, noted.all, e))

  -- of those that are left, the last 128 are those read from the last position noted
  module _ {l : Logs} {pages logs work : List ℕ} {budget₀ budget : ℕ} (k : ℕ) (some_left : 0 < k)
      (p : Pending s disk number l₀ pages₀ logs₀ work₀ budget₀ all l pages logs work budget (take (128 * k) all)) {notes : Notes}
      (noted : Noted number (scan s read stop) from notes) (few : k ≤ (notes.count + 127) / 128) where
    abbrev here : List ℕ
    here = positions_in number (scan s (reader s l disk logs work) stop (get_or notes.at (k - 1) 0))

    here_is : here ≡ drop (128 * (k - 1)) all
    here_is =
        let at : ℕ = get_or notes.at (k - 1) 0 in
        let behind : from ≤ at = noted.behind (k - 1) (omega arith) in
        let same : scan s read stop at ≡ scan s (reader s l disk logs work) stop at =
        scan_cong s read (reader s l disk logs work) stop at (λ q h below. p.kept q below (omega (arith, room))) in
        ap (positions_in number) (sym same) ∙ noted.each (k - 1) (omega arith)

    pub here_many : length here ≡ notes.count - 128 * (k - 1)
    here_many = ap length here_is ∙ length-drop (128 * (k - 1)) all ∙ rw noted.all refl

    module _ {n : ℕ} (size : n ≡ min (notes.count - 128 * (k - 1)) 128) {g : Group}
        (got : Gathered number n (scan s (reader s l disk logs work) stop (get_or notes.at (k - 1) 0)) g) where
      group_split : take (128 * k) all ≡ take (128 * (k - 1)) all ++ take g.count g.at
      group_split =
          let these : take g.count g.at ≡ take 128 (drop (128 * (k - 1)) all) =
          ap (λ (m : ℕ). take m g.at) got.many ∙ got.first ∙ take_min here (size ∙ rw here_many refl) ∙ ap (λ (l : List ℕ). take 128 l) here_is in
          let up : 128 * k ≡ 128 * (k - 1) + 128 = omega arith in
          ap (λ (m : ℕ). take m all) up ∙ take-add (128 * (k - 1)) 128 all ∙ rw these refl

      left : Pending s disk number l₀ pages₀ logs₀ work₀ budget₀ all l pages logs work budget (take (128 * (k - 1)) all ++ take g.count g.at)
      left = subst (Pending s disk number l₀ pages₀ logs₀ work₀ budget₀ all l pages logs work budget) group_split p

      pub group_takeable : Takeable s l disk (take g.count g.at) pages logs work
      group_takeable = pending_takeable s disk number l₀ pages₀ logs₀ work₀ budget₀ all all_takeable (take (128 * (k - 1)) all) _ left

      abbrev mine : List Update
      mine = last_first (update_read (reader s l disk logs work)) (take g.count g.at)

      pub group_counted : (ones : ℕ) {more : ℕ} → Counted read all ones (take (128 * k) all)
          → more ≡ ones_undone mine → Counted read all (ones + more) (take (128 * (k - 1)) all)
      group_counted ones counted more =
          pending_counted s disk number l₀ pages₀ logs₀ work₀ budget₀ all all_takeable (take (128 * (k - 1)) all) _ left ones
          (rw group_split at counted) more

      pub group_cut : (anchor backups : List ℕ) {rest : ℕ} {v : World}
          → Did disk budget rest (undo_all s l (world_of anchor pages backups logs work) number disk mine) (world_of anchor pages backups logs work) v None
          → Did disk budget₀ rest (undo_all s l₀ (world_of anchor pages₀ backups logs₀ work₀) number disk (updates_in number (log_from s l₀ disk logs₀ work₀ from)))
          (world_of anchor pages₀ backups logs₀ work₀) v None
      group_cut anchor backups did =
          rw all_updates
          (pending_cut s disk number l₀ pages₀ logs₀ work₀ budget₀ all all_takeable (take (128 * (k - 1)) all) _ left anchor backups did)

      pub group_step : {pages' logs' work' : List ℕ} {rest : ℕ} {tip : Tip}
          → ((anchor backups : List ℕ)
          → Did disk budget rest (undo_all s l (world_of anchor pages backups logs work) number disk mine)
          (world_of anchor pages backups logs work) (world_of anchor pages' backups logs' work') (Some tip))
          → Pending s disk number l₀ pages₀ logs₀ work₀ budget₀ all (only_log disk tip) pages' logs' work' rest (take (128 * (k - 1)) all)
      group_step did =
          pending_step s disk number l₀ pages₀ logs₀ work₀ budget₀ all all_takeable (take (128 * (k - 1)) all) _ left did
