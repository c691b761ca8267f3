-- The last of the positions that are left: its update is taken back by itself.
use Rattle.std.specs.Prelude.{Option, None, Some}
use mathlib.Core.Path.{◌≡◌, refl, ap, subst, ◌∙◌}
use mathlib.Core.List.Memᴰ
use mathlib.Core.List.{List, [], ◌∷◌, ◌++◌}
use Prim.Native.Nat.{ℕ, suc, ◌+◌, ◌-◌, ◌≤◌, ◌<◌}
use native.Mathlib.Omega.{arith}
use lib.ListN.{length, get_or, take}
use lib.Seq.{take-suc}
use Rattle.model.specs.declared.Sizes.{Sizes}
use Rattle.model.specs.declared.Logs.{Logs}
use Rattle.model.specs.World.{World, world_of}
use Rattle.model.specs.State.{end_of}
use Rattle.model.specs.Abort.{compensate, undo_all, ones_undone}
use Rattle.abort.specs.declared.difference.Site.{Site}
use Rattle.disk_log.specs.declared.write.Tip.{Tip}
use Rattle.abort.specs.Undo.{only_log, Serving, Did, reader, site_at, update_read, update_at, Compensable}
use Rattle.abort.specs.Groups.{last_first, Takeable}
use Rattle.abort.proofs.Undone.{undone_one}
use Rattle.abort.proofs.Pending.{Pending, Counted, pending_counted, pending_takeable, pending_cut, pending_step}

take_last : (l : List ℕ) (n : ℕ) → 0 < n → n ≤ length l → take n l ≡ take (n - 1) l ++ get_or l (n - 1) 0 ∷ []
take_last l n h k =
    let e : n ≡ suc (n - 1) = omega arith in
    ap (λ (m : ℕ). take m l) e ∙ take-suc l (n - 1) 0 (omega arith)

module _ (s : Sizes) (disk number : ℕ) (l₀ : Logs) (pages₀ logs₀ work₀ : List ℕ) (budget₀ : ℕ) (all : List ℕ)
    (ok : Takeable s l₀ disk all pages₀ logs₀ work₀) {l : Logs} {pages logs work : List ℕ} {budget : ℕ} (n : ℕ) (at : List ℕ)
    (some : 0 < n) (long : n ≤ length at) (p : Pending s disk number l₀ pages₀ logs₀ work₀ budget₀ all l pages logs work budget (take n at)) where
  abbrev read : ℕ → ℕ
  read = reader s l disk logs work

  abbrev q : ℕ
  q = get_or at (n - 1) 0

  left : Pending s disk number l₀ pages₀ logs₀ work₀ budget₀ all l pages logs work budget (take (n - 1) at ++ q ∷ [])
  left = subst (Pending s disk number l₀ pages₀ logs₀ work₀ budget₀ all l pages logs work budget) (take_last at n some long) p

  takeable : Takeable s l disk (q ∷ []) pages logs work
  takeable = pending_takeable s disk number l₀ pages₀ logs₀ work₀ budget₀ all ok (take (n - 1) at) (q ∷ []) left

  pub one_there : Serving s l disk logs work × (q < end_of l disk)
  one_there = (takeable.serving, omega (arith, (takeable.stands q (Memᴰ.head refl)).inside))

  module _ {site : Site} (is : site ≡ site_at read q) where
    pub one_compensable : Compensable s l disk site pages logs work
    unfolding site_at
    one_compensable =
        let there = takeable.stands q (Memᴰ.head refl) in
        rw is
        (record { serving = takeable.serving; page_words_lem = takeable.page_words_lem; slotted = there.slotted; inside = there.inside })

    -- what takes it back takes back a list of one
    alone : (w : World) {rest : ℕ} {v : World} {one : Option Tip} → Did disk budget rest (compensate s l w number disk (update_at s l disk logs work site)) w v one
        → Did disk budget rest (undo_all s l w number disk (last_first (update_read read) (q ∷ []))) w v one
    unfolding site_at update_at update_read last_first
    alone w did = undone_one s number disk l w (update_read read q) (rw is at did)

    pub one_counted : (ones : ℕ) {more : ℕ} → Counted (reader s l₀ disk logs₀ work₀) all ones (take n at)
        → more ≡ ones_undone (update_at s l disk logs work site ∷ []) → Counted (reader s l₀ disk logs₀ work₀) all (ones + more) (take (n - 1) at)
    unfolding site_at update_at update_read last_first
    one_counted ones counted more =
        pending_counted s disk number l₀ pages₀ logs₀ work₀ budget₀ all ok (take (n - 1) at) (q ∷ []) left ones
        (rw (take_last at n some long) at counted) (rw is at more)

    pub one_cut : (anchor backups : List ℕ) {rest : ℕ} {v : World}
        → Did disk budget rest (compensate s l (world_of anchor pages backups logs work) number disk (update_at s l disk logs work site))
        (world_of anchor pages backups logs work) v None
        → Did disk budget₀ rest (undo_all s l₀ (world_of anchor pages₀ backups logs₀ work₀) number disk (last_first (update_read (reader s l₀ disk logs₀ work₀)) all))
        (world_of anchor pages₀ backups logs₀ work₀) v None
    one_cut anchor backups did =
        pending_cut s disk number l₀ pages₀ logs₀ work₀ budget₀ all ok (take (n - 1) at) (q ∷ []) left anchor backups
        (alone (world_of anchor pages backups logs work) did)

    pub one_step : {pages' logs' work' : List ℕ} {rest : ℕ} {tip : Tip}
        → ((anchor backups : List ℕ)
        → Did disk budget rest (compensate s l (world_of anchor pages backups logs work) number disk (update_at s l disk logs work site))
        (world_of anchor pages backups logs work) (world_of anchor pages' backups logs' work') (Some tip))
        → Pending s disk number l₀ pages₀ logs₀ work₀ budget₀ all (only_log disk tip) pages' logs' work' rest (take (n - 1) at)
    one_step did =
        pending_step s disk number l₀ pages₀ logs₀ work₀ budget₀ all ok (take (n - 1) at) (q ∷ []) left
        (λ anchor backups. alone (world_of anchor pages backups logs work) (did anchor backups))
