-- Updates taken back, the last first: what is done follows from what is left, and what is left is still to be read as it was.
use Rattle.std.specs.Prelude.{Option, None, Some}
use mathlib.Core.Path.{◌≡◌, refl, sym, ap, ◌∙◌}
use mathlib.Core.List.Memᴰ
use mathlib.Core.List.{List, [], ◌++◌, Memᴰ}
use Prim.Native.Nat.{ℕ, ◌+◌, ◌≤◌, ◌<◌}
use native.Mathlib.Omega.{arith}
use lib.ListN.{length}
use Rattle.model.specs.declared.Sizes.{Sizes}
use Rattle.model.specs.declared.Logs.{Logs}
use Rattle.model.specs.Below.{sum_over}
use Rattle.model.specs.Word.{ones_over}
use Rattle.model.specs.Sizes.{ring_of, total}
use Rattle.model.specs.Scan.{Update, update_words}
use Rattle.model.specs.World.{World, world_of}
use Rattle.model.specs.Memory.{buffer_at}
use Rattle.model.specs.State.{end_of}
use Rattle.model.specs.Abort.{undo_all, ones_undone}
use Rattle.model.proofs.Below.{sum_append}
use Rattle.model.proofs.Members.{Every}
use Rattle.model.proofs.Ring.{disk_within}
use Rattle.model.proofs.Updates.{update_words_append}
use Rattle.model.proofs.Growth.{SizedLogs, Longer}
use Rattle.model.proofs.Sound.Abort.{undo_grown}
use Rattle.device.proofs.Ran.{ran_whole}
use Rattle.disk_log.specs.declared.write.Tip.{Tip}
use Rattle.abort.specs.Undo.{only_log, Serving, Did, reader, update_read}
use Rattle.abort.specs.Groups.{last_first, Standing, Takeable}
use Rattle.abort.proofs.Disks.{small, slim}
use Rattle.abort.proofs.Standing.{last_first_append, last_first_same, last_first_every, length_read, read_same}
use Rattle.abort.proofs.Unchanged.{undo_reads}
use Rattle.abort.proofs.Undone.{did_lengths, undone_none, undone_then, undone_cut}

-- the bits counted so far and those of the updates that are left are those of all
abbrev pub Counted : (read : ℕ → ℕ) (all : List ℕ) (ones : ℕ) (left : List ℕ) → Type 0
Counted read all ones left = ones + ones_undone (last_first (update_read read) left) ≡ ones_undone (last_first (update_read read) all)

pub all_counted : (read : ℕ → ℕ) (all : List ℕ) (ones : ℕ) → Counted read all ones [] → ones ≡ ones_undone (last_first (update_read read) all)
unfolding last_first ones_undone sum_over
all_counted read all ones counted = omega (arith, counted)

module _ (s : Sizes) (disk number : ℕ) (l₀ : Logs) (pages₀ logs₀ work₀ : List ℕ) (budget₀ : ℕ) (all : List ℕ) where
  abbrev read : ℕ → ℕ
  read = reader s l₀ disk logs₀ work₀

  -- the updates at positions, as they are read at the start
  abbrev taken : List ℕ → List Update
  taken ps = last_first (update_read read) ps

  -- where the log ends when all are taken back
  abbrev full : ℕ
  full = end_of l₀ disk + update_words (taken all)

  pub record Pending (l : Logs) (pages logs work : List ℕ) (budget : ℕ) (left : List ℕ) : Type 0 where
    pub among : Every (λ p. Memᴰ p all) left
    pub longer : end_of l₀ disk ≤ end_of l disk
    pub ends : end_of l disk + update_words (taken left) ≡ full
    pub kept : (q : ℕ) → q < end_of l₀ disk → full ≤ q + ring_of s disk → read q ≡ reader s l disk logs work q
    pub serving : Serving s l disk logs work
    pub sized : SizedLogs l
    pub page_words_lem : length pages ≡ total s
    -- what takes back those that are left takes back all
    pub follows : (anchor backups : List ℕ) (rest : ℕ) (v : World) (r : Option Tip)
        → Did disk budget rest (undo_all s l (world_of anchor pages backups logs work) number disk (taken left)) (world_of anchor pages backups logs work) v r
        → Did disk budget₀ rest (undo_all s l₀ (world_of anchor pages₀ backups logs₀ work₀) number disk (taken all)) (world_of anchor pages₀ backups logs₀ work₀) v r

  module _ (ok : Takeable s l₀ disk all pages₀ logs₀ work₀) where
    -- before the first of them
    pub pending_start : SizedLogs l₀ → Pending l₀ pages₀ logs₀ work₀ budget₀ all
    pending_start sized =
        record {
          among = λ p m. m;
          longer = omega arith;
          ends = refl;
          kept = λ q h k. refl;
          serving = ok.serving;
          sized = sized;
          page_words_lem = ok.page_words_lem;
          follows = λ anchor backups rest v r did. did;
        }

    -- none is left
    pub pending_last : {tip : Tip} {pages logs work : List ℕ} {budget : ℕ} → Pending (only_log disk tip) pages logs work budget [] → (anchor backups : List ℕ)
        → Did disk budget₀ budget (undo_all s l₀ (world_of anchor pages₀ backups logs₀ work₀) number disk (taken all)) (world_of anchor pages₀ backups logs₀ work₀)
        (world_of anchor pages backups logs work) (Some tip)
    unfolding last_first
    pending_last {tip} {pages} {logs} {work} {budget} p anchor backups =
        p.follows anchor backups budget _ _ (undone_none s number disk tip (world_of anchor pages backups logs work) budget)

    module _ {l : Logs} {pages logs work : List ℕ} {budget : ℕ} where
      -- the last of those that are left
      module _ (rest group : List ℕ) (p : Pending l pages logs work budget (rest ++ group)) where
        abbrev now_read : ℕ → ℕ
        now_read = reader s l disk logs work

        abbrev some : List Update
        some = last_first (update_read now_read) group

        mine : Every (λ q. Memᴰ q all) group
        mine q m = p.among q (Memᴰ.append_right rest m)

        -- its words from there on are as they were
        words_kept : (q : ℕ) → Memᴰ q all → (x : ℕ) → q ≤ x → x < end_of l₀ disk → read x ≡ now_read x
        words_kept q m x h k = p.kept x k (omega (arith, ok.ring q m))

        one_same : (q : ℕ) → Memᴰ q all → update_read now_read q ≡ update_read read q
        one_same q m = read_same read now_read q (end_of l₀ disk) (ok.stands q m).inside (words_kept q m)

        same : some ≡ taken group
        same = last_first_same (update_read now_read) (update_read read) group (λ q m. one_same q (mine q m))

        split : taken (rest ++ group) ≡ some ++ taken rest
        split = last_first_append (update_read read) rest group ∙ rw same refl

        words : update_words (taken (rest ++ group)) ≡ update_words some + update_words (taken rest)
        words = ap update_words split ∙ update_words_append some (taken rest)

        pub pending_counted : (ones : ℕ) {more : ℕ} → Counted read all ones (rest ++ group) → more ≡ ones_undone some → Counted read all (ones + more) rest
        unfolding ones_undone
        pending_counted ones counted is = omega (arith, counted, is, ap ones_undone split, sum_append (λ u. ones_over u.diff) some (taken rest))

        standing : (q : ℕ) → Memᴰ q group → Standing s now_read (end_of l disk) q
        standing q m =
            let there = ok.stands q (mine q m) in
            let word = words_kept q (mine q m) q (omega arith) (omega (arith, there.inside)) in
            record { slotted = rw (← word) there.slotted; inside = rw (← word) (omega (arith, there.inside, p.longer)) }

        pub pending_takeable : Takeable s l disk group pages logs work
        pending_takeable =
            record {
              serving = p.serving;
              page_words_lem = p.page_words_lem;
              stands = standing;
              ring = λ q m. omega (arith, p.ends, words, ok.ring q (mine q m));
              in_limit = omega (arith, p.ends, words, ok.in_limit);
            }

        short : Every (λ u. length u.diff ≤ 32) some
        short =
            last_first_every (update_read now_read) (λ (u : Update). length u.diff ≤ 32) group
            (λ q m. omega (arith, length_read now_read q, slim p.serving (standing q m).slotted))

        -- they are cut
        pub pending_cut : (anchor backups : List ℕ) {last : ℕ} {v : World}
            → Did disk budget last (undo_all s l (world_of anchor pages backups logs work) number disk some) (world_of anchor pages backups logs work) v None
            → Did disk budget₀ last (undo_all s l₀ (world_of anchor pages₀ backups logs₀ work₀) number disk (taken all)) (world_of anchor pages₀ backups logs₀ work₀) v None
        pending_cut anchor backups {last} {v} did =
            p.follows anchor backups last v None
            (rw split (undone_cut s number disk l (world_of anchor pages backups logs work) some (taken rest) did))

        -- they are taken back: the others are left
        module _ {pages' logs' work' : List ℕ} {last : ℕ} {tip : Tip}
            (did : (anchor backups : List ℕ)
            → Did disk budget last (undo_all s l (world_of anchor pages backups logs work) number disk some)
            (world_of anchor pages backups logs work) (world_of anchor pages' backups logs' work') (Some tip)) where
          abbrev w : World
          w = world_of [] pages [] logs work

          state : only_log disk tip ≡ (undo_all s l w number disk some).logs
          state = (did [] []).state

          grown : Longer s disk (update_words some) l (only_log disk tip)
          grown = rw state (undo_grown s l w number disk some p.sized p.serving.fills_small (small p.serving).below short)

          unread : (q : ℕ) → q < end_of l₀ disk → full ≤ q + ring_of s disk → now_read q ≡ reader s (only_log disk tip) disk logs' work' q
          unfolding buffer_at
          unread q h k =
              let b = small p.serving in
              let fits = disk_within s disk p.serving.disk_below in
              let e =
              undo_reads s l w number disk some p.sized p.serving.fills_small p.serving.disk_below b.below
              (omega (arith, fits, p.serving.log_words_lem)) (omega (arith, b.buffer)) short q (omega (arith, p.longer)) (omega (arith, p.ends, words)) in
              rw state (sym (rw (ran_whole (did [] []).ran refl) at e))

          pub pending_step : Pending (only_log disk tip) pages' logs' work' last rest
          pending_step =
              record {
                among = λ q m. p.among q (Memᴰ.append_left group m);
                longer = omega (arith, p.longer, grown.end_longer);
                ends = omega (arith, p.ends, words, grown.end_longer);
                kept = λ q h k. p.kept q h k ∙ unread q h k;
                serving =
                    record {
                      sizes = p.serving.sizes;
                      disk_below = p.serving.disk_below;
                      log_words_lem = (did_lengths (did [] [])).logs ∙ p.serving.log_words_lem;
                      work_words_lem = (did_lengths (did [] [])).work ∙ p.serving.work_words_lem;
                      fills_small = grown.small;
                      end_small = omega (arith, grown.end_longer, p.ends, words, ok.in_limit);
                    };
                sized = grown.sized;
                page_words_lem = (did_lengths (did [] [])).pages ∙ p.page_words_lem;
                follows = λ anchor backups later v r next.
                    p.follows anchor backups later v r
                    (rw split (undone_then s number disk l (world_of anchor pages backups logs work) some (taken rest) (did anchor backups) next));
              }
