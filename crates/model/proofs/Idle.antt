-- An open transaction that updates nothing does not hold a log's start back: beside one, thirty checkpoints, each after a commit.
use mathlib.Core.Path.{◌≡◌, refl, ◌∙◌}
use Prim.Native.Nat.{ℕ, zero, suc, ◌+◌}
use mathlib.Core.List.{List, [], ◌∷◌, map}
use lib.ListN.{replicate}
use Rattle.model.specs.declared.Sizes.{Sizes}
use Rattle.model.specs.Call.{Call, format, begin, update, commit, checkpoint_begin, checkpoint_step, checkpoint_end}
use Rattle.model.proofs.Everything.{everything}
use Rattle.model.proofs.Play.{does, numbers, unformatted}
use Rattle.model.proofs.Positions.{plenty}
use Rattle.model.proofs.Sound.Calls.{new_passes}
use Rattle.model.proofs.StageAlone.{rest, by_stage, numbers_by_stage}

-- the sizes of the program hall
unfoldable pub hall_sizes : Sizes
hall_sizes = record { pages = 2; disks = 2; ring = 128; slots = 4 ∷ 4 ∷ replicate 62 0; widths = 1 ∷ 1 ∷ replicate 62 0 }

-- n rounds from transaction t on: an update and its commit, then a whole checkpoint
unfoldable pub rounds : ℕ → ℕ → List Call
rounds zero t = []
rounds (suc n) t =
    begin 0 ∷ update t 0 0 (t ∷ []) plenty ∷ commit t plenty ∷ checkpoint_begin ∷ checkpoint_step plenty ∷ checkpoint_step plenty
    ∷ checkpoint_end plenty ∷ rounds n (t + 1)

unfoldable pub idle_beside : ℕ → List Call
idle_beside n = format hall_sizes plenty ∷ begin 0 ∷ rounds n 2

by_stage_lem : numbers (map by_stage (idle_beside 30)) (unformatted hall_sizes) ≡ replicate 212 0
unfolding everything rest by_stage numbers unformatted hall_sizes rounds idle_beside
by_stage_lem = refl

-- no call of them is refused or cut
pub idle_holds_nothing_back : numbers (map does (idle_beside 30)) (unformatted hall_sizes) ≡ replicate 212 0
unfolding unformatted
idle_holds_nothing_back = numbers_by_stage (idle_beside 30) (unformatted hall_sizes) new_passes ∙ by_stage_lem
