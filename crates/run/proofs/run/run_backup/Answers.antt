-- `run::run::run_backup` meets its contract. The loop keeps: the run goes on from here as it would have from the start.
use mathlib.Core.Path.{◌≡◌, refl, ◌∙◌}
use native.Mathlib.Omega.{arith}
use Rattle.model.specs.State.{with_replay}
use Rattle.model.proofs.Restart.Words.{length_xor_at}
use Rattle.model.proofs.Restart.Steps.{remaining_backup}
use Rattle.replay.proofs.Facts.{replaying, sizes_bounded}
use Rattle.replay.proofs.Stepping.{backup_none, no_fault}
use Rattle.run.proofs.Onward.{run_refused, run_given, step_accepted}
use Rattle.run.proofs.Backups.{pages_start, pages_more, pages_done}
use Rattle.run.proofs.run.run_backup.Goals as goal

pub returns-then-sizes-first : goal.returns-then-sizes-first
returns-then-sizes-first c = λ anchor logs work pass. rw c.refuse.ensures (run_refused _ _ _ _ _ _ _ (backup_none _ _ c.if-sizes-first.true))

pub loop-made-init : goal.loop-made-init
loop-made-init c = let a = c.args in (refl, λ anchor logs work pass. pages_start a.core _ a.most)

pub overflow_add-first : goal.overflow_add-first
overflow_add-first c =
    let core = c.args.core in
    let inv = c.loop-made.invariant in
    let all = c.min-count.ensures in
    let some = c.if-sizes-first.false in
    omega (arith, all, some, c.loop-made-test.true, (sizes_bounded core c.requires.0).pages_max)

pub xor_page-requires : goal.xor_page-requires
xor_page-requires c =
    let core = c.args.core in
    let inv = c.loop-made.invariant in
    let all = c.min-count.ensures in
    let some = c.if-sizes-first.false in
    ((replaying core c.requires.0).bounds, omega (arith, all, some, c.loop-made-test.true), inv.0 ∙ c.requires.1, c.requires.2)

pub loop-made-preserved : goal.loop-made-preserved
loop-made-preserved c =
    let core = c.args.core in
    let inv = c.loop-made.invariant in
    let all = c.min-count.ensures in
    let some = c.if-sizes-first.false in (
      rw c.xor_page.ensures (length_xor_at _ _ _) ∙ inv.0,
      λ anchor logs work pass.
          pages_more core _ pass (omega (arith, all, some, c.loop-made-test.true)) inv.0 (inv.1 anchor logs work pass) (omega (arith, all, c.loop-made-test.true))
          (omega (arith, all, some, c.loop-made-test.true)) c.xor_page.ensures,
    )

pub overflow_add-moved : goal.overflow_add-moved
overflow_add-moved c =
    let core = c.args.core in
    let inv = c.loop-made.invariant in
    let all = c.min-count.ensures in
    let some = c.if-sizes-first.false in
    omega (arith, all, some, (sizes_bounded core c.requires.0).pages_max)

pub shape_of-pages : goal.shape_of-pages
shape_of-pages c = c.loop-made.invariant.0

pub returns : goal.returns
unfolding with_replay
returns c =
    let core = c.args.core in
    let inv = c.loop-made.invariant in
    let all = c.min-count.ensures in
    let some = c.if-sizes-first.false in
    let whole : c.loop-made.made ≡ c.min-count.result = omega (arith, c.loop-made-test.false, c.loop-made.auto.made-end) in
    λ anchor logs work pass.
    rw (c.finish.ensures, ← whole)
    (run_given _ _ _ _ (step_accepted core.sizes.disks core _ (no_fault core _) (omega arith) (omega (arith, remaining_backup core, some)))
    (pages_done core _ pass (omega (arith, all, some, whole)) inv.0 (inv.1 anchor logs work pass) (whole ∙ all)))
